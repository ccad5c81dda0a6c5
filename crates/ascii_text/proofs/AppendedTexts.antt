-- Texts that are appended in parts.
use Rattle.std.proofs.Common.{◌≡◌, ℕ, zero, suc, ◌+◌, ◌<◌, List, [], ◌∷◌, ◌++◌, length, take, get_or, map, refl, sym, ap, ◌∙◌, arith}
use Rattle.std.specs.Prelude.{codes, cond}
use Rattle.std.specs.List.{join_with_byte}
use Rattle.std.proofs.lemmas.Bool.{lt-ltb}
use Rattle.std.proofs.lemmas.List.{append_assoc, map_more, take-take, take_at, length-append}
use Rattle.ascii_text.specs.Append.{Extends, gap}

pub Extends-append : (old more new : List ℕ) → Extends (old ++ more) new → Extends old new
Extends-append old more new h = record { begins = sym (take-take (length old) (length (old ++ more)) new (omega (arith, length-append old more))) ∙ ap (take (length old)) h.begins ∙ take_at old more _ refl }

-- ---- parts with one space between
join-push : (x : List ℕ) (xs : List (List ℕ)) (y : List ℕ) → join_with_byte 32 (x ∷ (xs ++ y ∷ [])) ≡ join_with_byte 32 (x ∷ xs) ++ 32 ∷ y
join-push x [] y = refl
join-push x (next ∷ xs) y = ap (λ rest. x ++ 32 ∷ rest) (join-push next xs y) ∙ sym (append_assoc x (32 ∷ join_with_byte 32 (next ∷ xs)) (32 ∷ y))

pub join-one_more : (f : ℕ → List ℕ) (ids : List ℕ) (i : ℕ) → i < length ids
    → join_with_byte 32 (map f (take (i + 1) ids)) ≡ join_with_byte 32 (map f (take i ids)) ++ (gap i ++ f (get_or ids i 0))
join-one_more f [] i within = absurd (omega arith)
join-one_more f (n ∷ ns) zero within = refl
join-one_more f (n ∷ ns) (suc i) within =
    ap (join_with_byte 32) (map_more f (n ∷ ns) (suc i) 0 within) ∙ join-push (f n) (map f (take i ns)) (f (get_or ns i 0))
    ∙ ap (λ t. join_with_byte 32 (map f (take (suc i) (n ∷ ns))) ++ (cond t (codes " ") [] ++ f (get_or ns i 0))) (sym (lt-ltb 0 (suc i) (omega arith)))
