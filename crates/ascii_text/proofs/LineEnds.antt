-- Text without a byte at its end.
use Rattle.std.proofs.Common.{◌≡◌, ℕ, true, cond, ◌&&◌, ◌⊎◌, inl, inr, List, [], ◌∷◌, ◌++◌, refl, ap, eqb-true, arith}
use Rattle.std.specs.Prelude.{◌==◌}
use Rattle.std.proofs.lemmas.Bool.Decides.{nat_tests}
use Rattle.ascii_text.specs.WhiteSpace.{is_space, is_blank, without_trailing_space}
use Rattle.ascii_text.specs.Lines.{without_last}

-- a list has no element, or a last one
pub list-by_last : {A : Type 0} (xs : List A) → (xs ≡ []) ⊎ ((prefix : List A) × (x : A) × (xs ≡ prefix ++ x ∷ []))
list-by_last [] = inl refl
list-by_last (x ∷ xs) = elim (list-by_last xs) [ inl e ↦ inr ([], x, ap (λ t. x ∷ t) e) | inr p ↦ inr (x ∷ p.0, p.1, ap (λ t. x ∷ t) p.2) ]

-- bytes with one more at their end
pub without_last-push : (b x : ℕ) (xs : List ℕ) → without_last b (xs ++ x ∷ []) ≡ cond (x == b) xs (xs ++ x ∷ [])
without_last-push b x [] = refl
without_last-push b x (y ∷ []) = grind arith
without_last-push b x (y ∷ z ∷ xs) = grind (arith, without_last-push b x (z ∷ xs))

-- bytes that end in that byte, that end in another, and none
pub without_last-same : (b x : ℕ) (prefix bytes : List ℕ) → bytes ≡ prefix ++ x ∷ [] → x ≡ b → prefix ≡ without_last b bytes
without_last-same b x prefix bytes e h = grind (arith, nat_tests, e, h, without_last-push b x prefix)

pub without_last-other : (b x : ℕ) (prefix bytes : List ℕ) → bytes ≡ prefix ++ x ∷ [] → (x ≡ b → ⊥) → bytes ≡ without_last b bytes
without_last-other b x prefix bytes e ne = grind (arith, nat_tests, e, ne, without_last-push b x prefix)

-- bytes with more after them
pub without_last-append : (b : ℕ) (xs : List ℕ) (y : ℕ) (ys : List ℕ) → without_last b (xs ++ y ∷ ys) ≡ xs ++ without_last b (y ∷ ys)
without_last-append b [] y ys = refl
without_last-append b (x ∷ []) y ys = refl
without_last-append b (x ∷ z ∷ xs) y ys = ap (λ t. x ∷ t) (without_last-append b (z ∷ xs) y ys)

-- white space at the end makes no text blank
pub is_blank-without_last : (c : ℕ) (xs : List ℕ) → is_space c ≡ true → is_blank (without_last c xs) ≡ is_blank xs
is_blank-without_last c [] h = refl
is_blank-without_last c (x ∷ []) h = grind (arith, h, eqb-true x c)
is_blank-without_last c (x ∷ y ∷ ys) h = ap (λ b. is_space x && b) (is_blank-without_last c (y ∷ ys) h)

pub without_trailing_space-without_last : (c : ℕ) (xs : List ℕ) → is_space c ≡ true → without_trailing_space (without_last c xs) ≡ without_trailing_space xs
without_trailing_space-without_last c [] h = refl
without_trailing_space-without_last c (x ∷ []) h = grind (arith, h, eqb-true x c)
without_trailing_space-without_last c (x ∷ y ∷ ys) h = grind (arith, cond, is_blank-without_last, without_trailing_space-without_last c (y ∷ ys) h)
