-- Lines after a sign, one by one.
use Rattle.std.proofs.Common.{◌≡◌, ℕ, List, [], ◌∷◌, ◌++◌, flat_map, true, false, cond, refl, sym, ap, ◌∙◌, append_assoc, rules}
use Rattle.ascii_text.specs.Lines.{ends_in_newline, newline, full_lines, without_last}
use Rattle.conf_session.specs.ReplyTexts.{line}
use Rattle.conf_tool.specs.Reports.{marked}

abbrev marked_parts : List ℕ → List (List ℕ) → List ℕ
marked_parts sign ps = flat_map (λ full_line. line (sign ++ without_last 10 full_line)) ps

-- the first line is appended after the sign, before the others
pub marked-first : (so_far sign bytes full_line rest : List ℕ) → full_lines bytes ≡ full_line ∷ full_lines rest →
    ((so_far ++ sign) ++ (without_last 10 full_line ++ newline)) ++ marked sign rest ≡ so_far ++ marked sign bytes
marked-first so_far sign bytes full_line rest first =
    let bare = without_last 10 full_line in
    let more = marked sign rest in
    ap (λ t. t ++ more) (append_assoc so_far sign (bare ++ newline)) ∙ append_assoc so_far (sign ++ (bare ++ newline)) more
    ∙ ap (λ t. so_far ++ (t ++ more)) (sym (append_assoc sign bare newline)) ∙ ap (λ t. so_far ++ t) (sym (ap (marked_parts sign) first))

-- a part has its newline, or none
pub whole-line : (full_line : List ℕ) → ends_in_newline full_line ≡ true → without_last 10 full_line ++ newline ≡ full_line
whole-line [] whole = cc
whole-line (b ∷ []) whole = let end : b ≡ 10 = search rules in ap (λ c. cond c [] (b ∷ []) ++ newline) whole ∙ ap (λ e. e ∷ []) (sym end)
whole-line (b ∷ c ∷ full_line) whole = ap (λ t. b ∷ t) (whole-line (c ∷ full_line) whole)

pub bare-line : (full_line : List ℕ) → ends_in_newline full_line ≡ false → without_last 10 full_line ≡ full_line
bare-line [] bare = refl
bare-line (b ∷ []) bare = ap (λ c. cond c [] (b ∷ [])) bare
bare-line (b ∷ c ∷ full_line) bare = ap (λ t. b ∷ t) (bare-line (c ∷ full_line) bare)
