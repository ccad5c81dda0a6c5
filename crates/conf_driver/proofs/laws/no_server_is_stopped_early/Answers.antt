use Rattle.std.proofs.Common.{◌≡◌, Bool, true, false, ◌||◌, List, [], ◌∷◌, refl, sym, ap, ◌∙◌, arith}
use Rattle.std.proofs.lemmas.Bool.{both_ways}
use Rattle.quorum_sets.specs.Ids.{has}
use Rattle.quorum_sets.proofs.Offered.{has-union}
use Rattle.conf_change.specs.Configuration.{Configuration, is_member, member_ids}
use Rattle.conf_change.specs.declared.step.Step.{Step}
use Rattle.conf_change.proofs.Offered.{has-all_members}
use Rattle.conf_plan.specs.OneChangeEach.{one_change_each}
use Rattle.conf_plan.specs.OnTheWay.{EachOnTheWay, HasMembersOf}
use Rattle.conf_plan.specs.PathBy.{path_by}
use Rattle.conf_driver.specs.IdSets.{◌∪◌, ◌∩◌, ◌∖◌}
use Rattle.conf_driver.specs.Next.{situation}
use Rattle.conf_driver.specs.View.{voter_ids}
use Rattle.conf_driver.proofs.IdsByMember.{has-without-is, in-common, in-without, not-in_second}
use Rattle.conf_driver.proofs.RowsPassed.{reused-passed}
use Rattle.conf_driver.proofs.ServersAnswered.{IsStarted-from_answer, IsStopped-from_answer, to_run}
use Rattle.conf_driver.proofs.WhoIsUp.{having-all}
use Rattle.conf_driver.proofs.laws.no_server_is_stopped_early.Goals as goal

-- what follows from what is so of each configuration on the way is so of each
each-weaker : (P Q : Configuration → Type 0) → ((c : Configuration) → P c → Q c) → (now target : Configuration) (steps : List Step) → EachOnTheWay P now steps target → EachOnTheWay Q now steps target
each-weaker P Q weaker now target [] each = each
each-weaker P Q weaker now target (step ∷ steps) each = (each.0, (each.1.0, weaker each.0 each.1.1), each-weaker P Q weaker each.0 target steps each.2)

outside : (here one other : Bool) → (here ≡ true → (one || other) ≡ true) → one ≡ false → other ≡ false → here ≡ false
outside true one other within one_not other_not = absurd (both_ways _ (grind (arith, one_not, other_not)) (within refl))
outside false one other within one_not other_not = refl

pub returns-clause-stop : goal.returns-clause-stop
returns-clause-stop c strategy target down view ids id is here =
    let now = view.conf_state in
    let s = situation strategy target down view in
    let stopped = IsStopped-from_answer s (one_change_each (path_by strategy down now target)) ids is in
    let of_target = in-without (view.running ∖ member_ids now) (member_ids target) id (ap (λ s. has s id) stopped.named ∙ here) in
    let of_now = in-without view.running (member_ids now) id of_target.0 in
    let not_now = sym (has-all_members now id) ∙ of_now.1 in
    let not_target = sym (has-all_members target id) ∙ of_target.1 in
    record {
      runs = of_now.0;
      not_now = not_now;
      not_target = not_target;
      not_on_the_way = λ other other_down valid_now valid_target path.
          each-weaker (HasMembersOf now target) (λ d. is_member d id ≡ false) (λ d members. outside (is_member d id) (is_member now id) (is_member target id) (members id) not_now not_target) now target _
          (c.one_change_each_leads.ensures other other_down now target valid_now valid_target path).members;
      known = λ member is_one not_down.
          having-all view view.conf_index (member_ids now ∖ down) member stopped.known (has-without-is (member_ids now) down member (has-all_members now member ∙ is_one) not_down);
      heard = stopped.heard;
    }

pub returns-clause-start : goal.returns-clause-start
returns-clause-start c strategy target down view ids id is here =
    let now = view.conf_state in
    let s = situation strategy target down view in
    let started = IsStarted-from_answer s (one_change_each (path_by strategy down now target)) ids is in
    let members = member_ids s.after ∪ member_ids now in
    let staying = members ∩ member_ids target in
    let of_running = in-without (to_run s) view.running id (ap (λ t. has t id) started.named ∙ here) in
    let of_down = in-without (staying ∖ voter_ids now) down id of_running.0 in
    let of_voters = in-without staying (voter_ids now) id of_down.0 in
    let of_target = (in-common members (member_ids target) id of_voters.0).1 in
    record {
      of_target = sym (has-all_members target id) ∙ of_target;
      runs_not = of_running.1;
      votes_not = sym (has-union now.incoming now.outgoing id) ∙ of_voters.1;
      not_down = of_down.1;
      not_retired = not-in_second (member_ids target ∖ voter_ids now) view.retired id (reused-passed s started.reused) (has-without-is (member_ids target) (voter_ids now) id of_target of_voters.1);
    }
