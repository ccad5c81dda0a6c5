use Rattle.std.proofs.Common.{◌≡◌, ℕ, List, [], ◌∷◌, length, take, refl, ap, ◌∙◌, arith}
use Rattle.std.proofs.lemmas.Bool.Decides.{nat_tests}
use Rattle.ascii_text.specs.Lines.{without_last}
use Rattle.dd_file.proofs.rewriter.hold_newline.Goals as goal

-- as many bytes are kept as there are without the last newline
kept : (text : List ℕ) → take (length (without_last 10 text)) text ≡ without_last 10 text
kept [] = refl
kept (x ∷ []) = grind (arith, nat_tests)
kept (x ∷ y ∷ text) = ap (λ t. x ∷ t) (kept (y ∷ text))

pub returns : goal.returns
returns c = rw (c.strip_last-end.ensures, c.as_slice.ensures.value) at c.truncate.ensures.items ∙ kept c.args.text.now.items
