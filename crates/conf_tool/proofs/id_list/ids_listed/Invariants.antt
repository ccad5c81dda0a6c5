use Rattle.std.proofs.Common.{◌≡◌, length}
use Rattle.std.specs.List.{slice_split}
use Rattle.dd_file.specs.DirectiveLine.{is_comma}
use Rattle.conf_tool.specs.IdList.{ids_in_parts}
use Rattle.conf_tool.proofs.Arguments.IdParts.{onto_ids}
use Rattle.conf_tool.proofs.id_list.ids_listed.Given as goal

abbrev pub invariant-loop-id : goal.invariant-loop-id
invariant-loop-id l = ids_in_parts (slice_split is_comma l.text) ≡ onto_ids l.ids.items (ids_in_parts (slice_split is_comma l.rest))

abbrev pub decreases-loop-id : goal.decreases-loop-id
decreases-loop-id l = length l.rest
