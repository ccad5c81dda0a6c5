use Rattle.std.proofs.Common.{length, ap, arith}
use Rattle.std.proofs.lemmas.Bool.{and_parts}
use Rattle.conf_change.specs.Configuration.{is_valid, has_voter_or_is_empty}
use Rattle.conf_change.specs.Transition.{step_of}
use Rattle.conf_change.proofs.Offered.{ValidByMember-from_is_valid, outcome-is_valid}
use Rattle.confscript_c.specs.Numbers.{lists_in}
use Rattle.confscript_c.proofs.ArraysRead.{IsRestored-from_result, IsStepped-from_result}
use Rattle.confscript_c.proofs.RoomCounted.{changes_from-length, ids_count-read, restored-has_room, stepped-has_room}
use Rattle.confscript_c.proofs.laws.results_have_room.Goals as goal

pub returns-clause-restored : goal.returns-clause-restored
returns-clause-restored c numbers out e =
    let is = IsRestored-from_result numbers out e in
    let read = (c.written_arrays_are_taken.ensures.restored numbers is.c).0 is.read in
    let described = (c.restored_is_described.ensures (lists_in numbers) is.c).0 read.1 in
    let few = ids_count-read numbers is.c read.0 described.0 in
    omega (arith, ap length is.written, restored-has_room is.c (length numbers) few)

pub returns-clause-stepped : goal.returns-clause-stepped
returns-clause-stepped c numbers out number changes e =
    let is = IsStepped-from_result numbers out number changes e in
    let read = (c.written_arrays_are_taken.ensures.restored numbers is.before).0 is.begins in
    let described = (c.restored_is_described.ensures (lists_in numbers) is.before).0 read.1 in
    let restorable = and_parts (is_valid is.before) (has_voter_or_is_empty is.before) described.1 in
    let valid_before = ValidByMember-from_is_valid is.before restorable.0 in
    let valid = outcome-is_valid is.before is.after (step_of is.kind is.made) valid_before is.taken in
    let few = ids_count-read numbers is.before read.0 described.0 in
    let long = changes_from-length 1 changes is.made is.changes_read in
    let fits = stepped-has_room is.before is.after is.kind is.made (length numbers) few valid is.taken in
    omega (arith, ap length is.written, long, fits)
