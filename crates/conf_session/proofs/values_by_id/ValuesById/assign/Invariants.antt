use Rattle.std.proofs.Common.{take}
use Rattle.conf_session.proofs.QuorumValues.{IsAssigned}
use Rattle.conf_session.proofs.values_by_id.ValuesById.assign.Given as goal

abbrev pub invariant-loop-id : goal.invariant-loop-id
invariant-loop-id g l = IsAssigned l.ids (take l.id-index l.named) l.values l.own l.rest
