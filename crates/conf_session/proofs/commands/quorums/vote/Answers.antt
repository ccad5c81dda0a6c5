use Rattle.std.proofs.Common.{◌≡◌, true, cond, sym, ap, ◌∙◌}
use Rattle.std.specs.Prelude.{is_some}
use Rattle.quorum_sets.specs.Ids.{ids_of}
use Rattle.quorum_sets.specs.Voters.{pair}
use Rattle.quorum_sets.specs.Votes.{joint_vote_result}
use Rattle.conf_session.specs.Quorum.{ids_named, voters_named, values_by_id, map_of, is_one_each, vote_text, vote_reply, wrong_number_text}
use Rattle.conf_session.specs.Values.{Values}
use Rattle.conf_session.proofs.commands.quorums.vote.Goals as goal

pub returns : goal.returns
returns c =
    let v = c.args.values.now in
    let read = c.in_ok-votes.ensures in
    let votes : c.as_slice.result.now ≡ v.votes = c.as_slice.ensures.value ∙ ap (λ (w : Values). w.votes) c.values.view_is in
    let one : is_one_each (ids_named v) v.votes ≡ true = sym (ap (is_one_each (ids_named v)) votes) ∙ sym read.one_each ∙ ap is_some c.in-Some.is in
    let by_id : map_of c.in-Some.votes ≡ values_by_id (ids_named v) v.votes = (rw c.in-Some.is at read.values) ∙ ap (values_by_id (ids_named v)) votes in
    let incoming : c.in_ok-incoming.incoming ≡ ids_of v.incoming = c.in_ok-incoming.ensures.set ∙ ap ids_of (c.as_slice-2.ensures.value ∙ ap (λ (w : Values). w.incoming) c.values.view_is) in
    let outgoing : c.in_ok-outgoing.outgoing ≡ ids_of v.outgoing = c.in_ok-outgoing.ensures.set ∙ ap ids_of (c.as_slice-3.ensures.value ∙ ap (λ (w : Values). w.outgoing) c.values.view_is) in
    let text = vote_text (joint_vote_result (voters_named v) (values_by_id (ids_named v) v.votes)) in
    let same : c.vote_name-name.result.now ≡ vote_reply v =
    c.vote_name-name.ensures ∙ ap vote_text c.joint_vote.ensures ∙ (λ i. vote_text (joint_vote_result (pair (incoming i) (outgoing i)) (by_id i))) ∙ sym (ap (λ b. cond b text wrong_number_text) one) in
    rw same at c.append_line.ensures
