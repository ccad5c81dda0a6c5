-- The parts of a list of ids, one by one.
use Rattle.std.proofs.Common.{◌≡◌, ◌≤◌, ◌<◌, ℕ, true, not, cond, List, [], ◌∷◌, ◌++◌, drop, length, is_some, refl, sym, ◌∙◌, ap, arith}
use Rattle.std.specs.Prelude.{Option, Some, None, find, option_and_then}
use Rattle.std.specs.List.{slice_split}
use Rattle.dd_file.specs.DirectiveLine.{is_comma}
use Rattle.conf_session.specs.Parameter.{id_in}
use Rattle.conf_tool.specs.IdList.{hexadecimal_in, hexadecimal_listed}

-- ids that were read, before those of the parts that are left
abbrev pub onto_ids : List ℕ → Option (List ℕ) → Option (List ℕ)
onto_ids done (Some more) = Some (done ++ more)
onto_ids done None = None

-- ---- the first part that is not an id
-- it is the first part
hexadecimal-first : (text part : List ℕ) (parts : List (List ℕ)) → slice_split is_comma text ≡ part ∷ parts → id_in part ≡ None → hexadecimal_listed text ≡ hexadecimal_in part
hexadecimal-first text part parts split none =
    ap (λ ps. option_and_then hexadecimal_in (find (λ p. not (is_some (id_in p))) ps)) split
    ∙ ap (λ id. option_and_then hexadecimal_in (cond (not (is_some id)) (Some part) (find (λ p. not (is_some (id_in p))) parts))) none

pub hexadecimal-here : (text part after : List ℕ) → (length after ≡ 0 → slice_split is_comma text ≡ part ∷ []) → (0 < length after → slice_split is_comma text ≡ part ∷ slice_split is_comma (drop 1 after)) →
    id_in part ≡ None → hexadecimal_listed text ≡ hexadecimal_in part
hexadecimal-here text part [] last more none = hexadecimal-first text part [] (last refl) none
hexadecimal-here text part (byte ∷ after) last more none = hexadecimal-first text part (slice_split is_comma after) (more (omega arith)) none

-- .. or it is behind that
pub hexadecimal-later : (text part after next : List ℕ) → (0 < length after → slice_split is_comma text ≡ part ∷ slice_split is_comma (drop 1 after)) → 1 ≤ length after → next ≡ drop 1 after →
    is_some (id_in part) ≡ true → hexadecimal_listed text ≡ hexadecimal_listed next
hexadecimal-later text part after next more some same there =
    ap (λ ps. option_and_then hexadecimal_in (find (λ p. not (is_some (id_in p))) ps)) (more (omega (arith, some)))
    ∙ ap (λ b. option_and_then hexadecimal_in (cond (not b) (Some part) (find (λ p. not (is_some (id_in p))) (slice_split is_comma (drop 1 after))))) there
    ∙ ap hexadecimal_listed (sym same)
