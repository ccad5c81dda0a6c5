use Rattle.std.proofs.Common.{◌≡◌, ◌∷◌, ◌++◌, take, flat_map}
use Rattle.plan_output.specs.Names.{name_by, named_change}
use Rattle.plan_output.proofs.cells.append_changes.Given as goal

abbrev pub invariant-loop-change : goal.invariant-loop-change
invariant-loop-change l =
    l.text.items ≡ l.initial.text.items ++ flat_map (λ change. 32 ∷ named_change (name_by l.names) change) (take l.change-index l.changes)
