-- White space at the ends of a text.
use Rattle.std.proofs.Common.{◌≡◌, ℕ, ◌≤◌, true, false, cond, ◌&&◌, List, [], ◌∷◌, ◌++◌, length, take, refl, sym, ap, ◌∙◌, arith, inl, inr}
use Rattle.std.proofs.Math.Bool.{and-true, and-false}
use Rattle.std.proofs.lemmas.Bool.{cases_Bool}
use Rattle.std.proofs.lemmas.List.Folds.{list_all-append}
use Rattle.ascii_text.specs.WhiteSpace.{is_space, is_blank, without_leading_space, without_trailing_space, trimmed}

-- bytes with white space, or with other bytes, after them ..
pub blank-after : (prefix back : List ℕ) → is_blank back ≡ true → is_blank (prefix ++ back) ≡ is_blank prefix
blank-after prefix back h = list_all-append is_space prefix back ∙ ap (λ c. is_blank prefix && c) h ∙ and-true (is_blank prefix)

other-after : (prefix back : List ℕ) → is_blank back ≡ false → is_blank (prefix ++ back) ≡ false
other-after prefix back h = list_all-append is_space prefix back ∙ ap (λ c. is_blank prefix && c) h ∙ and-false (is_blank prefix)

pub ends-blank : (bytes : List ℕ) → is_blank bytes ≡ true → without_trailing_space bytes ≡ []
ends-blank [] h = refl
ends-blank (b ∷ bs) h = ap (λ c. cond c [] (b ∷ without_trailing_space bs)) h

pub ends-before_blank : (prefix back : List ℕ) → is_blank back ≡ true → without_trailing_space (prefix ++ back) ≡ without_trailing_space prefix
ends-before_blank [] back h = ends-blank back h
ends-before_blank (b ∷ prefix) back h = grind (arith, cond, blank-after, ends-before_blank prefix back h)

pub ends-before_other : (prefix back : List ℕ) → is_blank back ≡ false → without_trailing_space (prefix ++ back) ≡ prefix ++ without_trailing_space back
ends-before_other [] back h = refl
ends-before_other (b ∷ prefix) back h = grind (arith, cond, other-after, ends-before_other prefix back h)

-- bytes that end in white space, and bytes that end in another byte
pub without_trailing_space-space : (x : ℕ) (prefix bytes : List ℕ) → bytes ≡ prefix ++ x ∷ [] → is_space x ≡ true →
    without_trailing_space prefix ≡ without_trailing_space bytes
without_trailing_space-space x prefix bytes e h = sym (ap without_trailing_space e ∙ ends-before_blank prefix (x ∷ []) (ap (λ c. c && true) h))

pub without_trailing_space-other : (x : ℕ) (prefix bytes : List ℕ) → bytes ≡ prefix ++ x ∷ [] → is_space x ≡ false →
    bytes ≡ without_trailing_space bytes
without_trailing_space-other x prefix bytes e h = grind (arith, ends-before_other, true, cond)

-- what is trimmed is blank where the bytes are
pub is_blank-without_trailing_space : (bytes : List ℕ) → is_blank (without_trailing_space bytes) ≡ is_blank bytes
is_blank-without_trailing_space [] = refl
is_blank-without_trailing_space (b ∷ bytes) = grind (arith, is_blank-without_trailing_space bytes)

is_blank-without_leading_space : (bytes : List ℕ) → is_blank (without_leading_space bytes) ≡ is_blank bytes
is_blank-without_leading_space [] = refl
is_blank-without_leading_space (b ∷ bytes) = grind (arith, is_blank-without_leading_space bytes)

pub is_blank-trimmed : (bytes : List ℕ) → is_blank (trimmed bytes) ≡ is_blank bytes
is_blank-trimmed bytes = is_blank-without_leading_space (without_trailing_space bytes) ∙ is_blank-without_trailing_space bytes

-- the bytes up to the last one that is not white space are a prefix
pub take-without_trailing_space : (bytes : List ℕ) → take (length (without_trailing_space bytes)) bytes ≡ without_trailing_space bytes
take-without_trailing_space [] = refl
take-without_trailing_space (b ∷ bytes) = grind (arith, take-without_trailing_space bytes)

-- leading white space is left out
pub length-without_leading_space : (bytes : List ℕ) → length (without_leading_space bytes) ≤ length bytes
length-without_leading_space [] = omega arith
length-without_leading_space (b ∷ bytes) = grind (arith, length-without_leading_space bytes)

-- what is after the white space at the end
pub record Tail (bytes : List ℕ) : Type 0 where
  pub tail : List ℕ
  pub whole : bytes ≡ without_trailing_space bytes ++ tail
  pub blank : is_blank tail ≡ true

pub ends-tail : (bytes : List ℕ) → Tail bytes
ends-tail [] = record { tail = []; whole = refl; blank = refl }
ends-tail (b ∷ bs) = elim (cases_Bool (is_blank (b ∷ bs))) [
  | inl e ↦ record { tail = b ∷ bs; whole = ap (λ t. t ++ b ∷ bs) (sym (ends-blank (b ∷ bs) e)); blank = e }
  | inr e ↦
      let rest = ends-tail bs in
      record { tail = rest.tail; whole = ap (λ t. b ∷ t) rest.whole ∙ ap (λ c. cond c [] (b ∷ without_trailing_space bs) ++ rest.tail) (sym e); blank = rest.blank }
]

-- bytes with white space, or with other bytes, before them
pub leads-blank : (bytes : List ℕ) → is_blank bytes ≡ true → without_leading_space bytes ≡ []
leads-blank [] h = refl
leads-blank (b ∷ bs) h = grind (arith, leads-blank bs)

pub leads-after_blank : (prefix back : List ℕ) → is_blank prefix ≡ true → without_leading_space (prefix ++ back) ≡ without_leading_space back
leads-after_blank [] back h = refl
leads-after_blank (b ∷ bs) back h = grind (arith, leads-after_blank bs back)

pub leads-after_other : (prefix back : List ℕ) → is_blank prefix ≡ false → without_leading_space (prefix ++ back) ≡ without_leading_space prefix ++ back
leads-after_other [] back h = cc
leads-after_other (b ∷ bs) back h = grind (arith, leads-after_other bs back)

-- it does not matter which end comes first
pub leads-ends : (bytes : List ℕ) → without_leading_space (without_trailing_space bytes) ≡ without_trailing_space (without_leading_space bytes)
leads-ends [] = refl
leads-ends (b ∷ bs) = grind (arith, leads-ends bs, leads-blank bs, ends-blank bs)
