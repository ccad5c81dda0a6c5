use Rattle.std.proofs.Common.{◌≡◌, ℕ, List, [], ◌∷◌, ◌++◌, refl, sym, ap, ◌∙◌, append_assoc}
use Rattle.dd_file.specs.Rewritten.{newlines_at_end}
use Rattle.dd_file.proofs.TextLines.LastNewlines.{newlines_at_end-last}
use Rattle.dd_file.proofs.rewriter.count_newlines.Goals as goal

-- the last two bytes tell
by-last : (text prefix xs bytes : List ℕ) (before last count : ℕ) → bytes ≡ prefix ++ last ∷ [] → prefix ≡ xs ++ before ∷ [] → count ≡ newlines_at_end (before ∷ last ∷ []) →
    count ≡ newlines_at_end (text ++ bytes)
by-last text prefix xs bytes before last count ends begins is =
    let whole : text ++ bytes ≡ ((text ++ xs) ++ before ∷ []) ++ last ∷ [] =
    ap (λ t. text ++ t) (ends ∙ ap (λ t. t ++ last ∷ []) begins) ∙ sym (append_assoc text (xs ++ before ∷ []) (last ∷ [])) ∙ ap (λ t. t ++ last ∷ []) (sym (append_assoc text xs (before ∷ []))) in
    is ∙ sym (ap newlines_at_end whole ∙ newlines_at_end-last (text ++ xs) before last)

pub returns-in-Some-split_last : goal.returns-in-Some-split_last
returns-in-Some-split_last c text e =
    by-last text c.in-Some.prefix.now _ c.args.bytes.now c.in-Some-split_last.before.now c.in-Some.last.now _ c.in-Some.ensures.cases.0 c.in-Some-split_last.ensures.cases.0
    (c.count_newline-in-Some-split_last-2.ensures (c.in-Some-split_last.before.now ∷ []) (c.count_newline-in-Some-split_last.ensures [] refl))
