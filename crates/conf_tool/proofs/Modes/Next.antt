-- The mode `next` between two lines.
use Rattle.std.proofs.Common.{◌≡◌, ℕ, Bool, true, false, ◌||◌, List, [], ◌∷◌, ◌++◌, flat_map, refl, sym, ap, ◌∙◌}
use Rattle.std.specs.Prelude.{Option}
use Rattle.std.specs.List.{list_any}
use Rattle.dd_file.specs.Grammar.{Script}
use Rattle.dd_file.specs.declared.fault.FileFault.{FileFault}
use Rattle.conf_tool.specs.Answered.{script, prepended, with_prefix}
use Rattle.conf_tool.specs.NextReply.{is_refused, next_reply}
use Rattle.conf_tool.specs.Outputs.{ends, next_outcome, next_output_from}
use Rattle.std.proofs.Math.Bool.{or-false}

or_assoc : (a b c : Bool) → (a || (b || c)) ≡ ((a || b) || c)
or_assoc true b c = refl
or_assoc false b c = refl

-- what a line leaves
pub next-line : (before after : Bool) (line : List ℕ) → after ≡ (before || is_refused line) → (rest : Script (List ℕ)) →
    next_output_from before (prepended (line ∷ []) rest) ≡ with_prefix (next_reply line) (next_output_from after rest)
next-line before after line is rest =
    ap (λ refused. record { text = next_reply line ++ flat_map next_reply rest.items; outcome = next_outcome refused rest.fault })
    (or_assoc before (is_refused line) (list_any is_refused rest.items) ∙ ap (λ refused. refused || list_any is_refused rest.items) (sym is))

-- the end of the input
pub next-end : (refused : Bool) (fault : Option FileFault) → next_output_from refused (script [] fault) ≡ ends (next_outcome refused fault)
next-end refused fault = ap (λ r. ends (next_outcome r fault)) (or-false refused)
