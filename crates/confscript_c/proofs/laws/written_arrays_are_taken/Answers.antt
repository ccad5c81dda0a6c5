use Rattle.std.proofs.Common.{ap, ◌∙◌}
use Rattle.std.proofs.lemmas.Bool.{and_from, and_parts}
use Rattle.quorum_sets.specs.Ids.{ascending}
use Rattle.conf_change.specs.Configuration.{is_valid, has_voter_or_is_empty, member_ids}
use Rattle.conf_change.specs.ConfState.{lists_of, restored}
use Rattle.conf_change.specs.Transition.{step_of}
use Rattle.conf_plan.specs.OnTheWay.{catching_up}
use Rattle.confscript_c.specs.Numbers.{configuration_of, lists_in, numbers_of}
use Rattle.confscript_c.proofs.ArraysRead.{has_form-array_of, lists_in-array_of, configuration_of-valid, IsRead-from_configuration_of, IsRestored-from_result, IsStepped-from_result}
use Rattle.confscript_c.proofs.laws.written_arrays_are_taken.Goals as goal

pub returns-clause-restored : goal.returns-clause-restored
returns-clause-restored c numbers d = (
  λ e.
      let is = IsRead-from_configuration_of numbers d e in
      let described = (c.valid_is_described.ensures (lists_in numbers) d).0 is.valid in
      (is.form, (c.restored_is_described.ensures (lists_in numbers) d).1 (described.0, and_from (is_valid d) (has_voter_or_is_empty d) described.1 is.voter)),
  λ h.
      let described = (c.restored_is_described.ensures (lists_in numbers) d).0 h.1 in
      let parts = and_parts (is_valid d) (has_voter_or_is_empty d) described.1 in
      configuration_of-valid numbers d h.0 ((c.valid_is_described.ensures (lists_in numbers) d).1 (described.0, parts.0)) parts.1,
)

pub returns-clause-again : goal.returns-clause-again
returns-clause-again c d catching_up ok =
    let saved = lists_of d in
    let is = (c.restored_is_described.ensures saved d).1 (c.conf_state_describes.ensures.own d, ok) in
    (returns-clause-restored c (numbers_of d catching_up) d).1 (has_form-array_of saved (ascending catching_up), ap restored (lists_in-array_of saved (ascending catching_up)) ∙ is)

pub returns-clause-after_restore : goal.returns-clause-after_restore
returns-clause-after_restore c numbers out e =
    let is = IsRestored-from_result numbers out e in
    let d = is.c in
    let described = (c.restored_is_described.ensures (lists_in numbers) d).0 ((returns-clause-restored c numbers d).0 is.read).1 in
    (d, is.read, ap configuration_of is.written ∙ returns-clause-again c d (member_ids d) described.1)

pub returns-clause-after_step : goal.returns-clause-after_step
returns-clause-after_step c numbers out number changes e =
    let is = IsStepped-from_result numbers out number changes e in
    let step = step_of is.kind is.made in
    let described = (c.restored_is_described.ensures (lists_in numbers) is.before).0 ((returns-clause-restored c numbers is.before).0 is.begins).1 in
    let ok = c.trackers_stay_sound.ensures.restorable is.before is.after step described.1 is.taken in
    record {
      before = is.before;
      made = is.made;
      kind = is.kind;
      after = is.after;
      begins = is.begins;
      changes_read = is.changes_read;
      kind_read = is.kind_read;
      taken = is.taken;
      ends = ap configuration_of is.written ∙ returns-clause-again c is.after (catching_up is.before step is.after) ok;
    }
