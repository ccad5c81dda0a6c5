-- Lines that are cut at the first line of a kind, or at the first pair of dashes.
use Rattle.std.proofs.Common.{◌≡◌, Bool, true, false, cond, ◌&&◌, ℕ, List, [], ◌∷◌, ◌++◌, refl, ◌∙◌, ap, arith}
use Rattle.std.proofs.Math.Bool.{and-false}
use Rattle.std.proofs.lemmas.Bool.{or_parts}
use Rattle.std.specs.List.{list_any}
use Rattle.std.proofs.lemmas.List.{append_assoc}
use Rattle.dd_file.specs.Cut.{Cut, Whole, Parted, prepend, cut}
use Rattle.dd_file.specs.Script.{is_dashes, cut_at_pair}
use Rattle.dd_file.specs.ItemDraft.{has_pair}

-- no element passes, and then one does
pub cut-parted : {X : Type 0} (test : X → Bool) (xs : List X) (x : X) (ys : List X) → list_any test xs ≡ false → test x ≡ true → cut test (xs ++ x ∷ ys) ≡ Parted xs x ys
cut-parted test [] x ys none here = rw here refl
cut-parted test (z ∷ xs) x ys none here = let parts = or_parts (test z) (list_any test xs) none in rw (parts.0) (ap (prepend z) (cut-parted test xs x ys parts.1 here))

-- no element passes
pub cut-whole : {X : Type 0} (test : X → Bool) (xs : List X) → list_any test xs ≡ false → cut test xs ≡ Whole xs
cut-whole test [] none = refl
cut-whole test (z ∷ xs) none = let parts = or_parts (test z) (list_any test xs) none in rw (parts.0) (ap (prepend z) (cut-whole test xs parts.1))

-- a pair of dashes after lines without one
pub pair-parted : (xs : List (List ℕ)) (x y : List ℕ) (more : List (List ℕ)) → has_pair (xs ++ x ∷ []) ≡ false → is_dashes x ≡ true → is_dashes y ≡ true → cut_at_pair (xs ++ x ∷ y ∷ more) ≡ Parted xs x more
pair-parted [] x y more none hx hy = rw (hx, hy) refl
pair-parted (w ∷ []) x y more none hx hy = grind (arith, or_parts, pair-parted [] x y more refl hx hy)
pair-parted (w ∷ v ∷ xs) x y more none hx hy =
    let parts = or_parts (is_dashes w && is_dashes v) (has_pair (v ∷ xs ++ x ∷ [])) none in rw (parts.0) (ap (prepend w) (pair-parted (v ∷ xs) x y more parts.1 hx hy))

pub pair-whole : (xs : List (List ℕ)) → has_pair xs ≡ false → cut_at_pair xs ≡ Whole xs
pair-whole [] none = refl
pair-whole (x ∷ []) none = refl
pair-whole (x ∷ y ∷ xs) none = let parts = or_parts (is_dashes x && is_dashes y) (has_pair (y ∷ xs)) none in rw (parts.0) (ap (prepend x) (pair-whole (y ∷ xs) parts.1))

-- no pair in a prefix, and none across a line that is not dashes
pub has_pair-prefix : (xs ys : List (List ℕ)) → has_pair (xs ++ ys) ≡ false → has_pair xs ≡ false
has_pair-prefix [] ys none = refl
has_pair-prefix (x ∷ []) ys none = refl
has_pair-prefix (x ∷ y ∷ xs) ys none = let parts = or_parts (is_dashes x && is_dashes y) (has_pair (y ∷ xs ++ ys)) none in rw (parts.0) (has_pair-prefix (y ∷ xs) ys parts.1)

pub has_pair-skip : (xs : List (List ℕ)) (y : List ℕ) (ys : List (List ℕ)) → has_pair xs ≡ false → is_dashes y ≡ false → has_pair (xs ++ y ∷ ys) ≡ has_pair ys
has_pair-skip [] y [] none other = refl
has_pair-skip [] y (z ∷ ys) none other = rw other refl
has_pair-skip (x ∷ []) y ys none other = rw (other, and-false (is_dashes x)) (has_pair-skip [] y ys refl other)
has_pair-skip (x ∷ w ∷ xs) y ys none other = let parts = or_parts (is_dashes x && is_dashes w) (has_pair (w ∷ xs)) none in rw (parts.0) (has_pair-skip (w ∷ xs) y ys parts.1 other)

-- what a cut states of its list
pub data IsCut {X : Type 0} (test : X → Bool) : List X → Cut X → Type 0 where
  IsWhole : (xs : List X) → list_any test xs ≡ false → IsCut test xs (Whole xs)
  IsParted : (list xs : List X) (x : X) (ys : List X) → list ≡ xs ++ x ∷ ys → list_any test xs ≡ false → test x ≡ true → IsCut test list (Parted xs x ys)

pub cut-is : {X : Type 0} (test : X → Bool) (xs : List X) → IsCut test xs (cut test xs)
cut-is test [] = IsWhole [] refl
cut-is test (x ∷ xs) = at (test x) refl (cut test xs) (cut-is test xs) where
  at : (c : Bool) → test x ≡ c → (rest : Cut _) → IsCut test xs rest → IsCut test (x ∷ xs) (cond c (Parted [] x xs) (prepend x rest))
  at true here rest is = IsParted (x ∷ xs) [] x xs refl refl here
  at false other rest (IsWhole zs none) = IsWhole (x ∷ zs) (rw other none)
  at false other rest (IsParted list zs y ys e none here) = IsParted (x ∷ list) (x ∷ zs) y ys (ap (λ t. x ∷ t) e) (rw other none) here

-- a cut stays where it is, whatever follows
pub cut-local : {X : Type 0} (test : X → Bool) (list xs : List X) (x : X) (ys more : List X) → list ≡ xs ++ x ∷ ys → list_any test xs ≡ false → test x ≡ true → cut test (list ++ more) ≡ Parted xs x (ys ++ more)
cut-local test list xs x ys more e none here = ap (λ t. cut test (t ++ more)) e ∙ ap (cut test) (append_assoc xs (x ∷ ys) more) ∙ cut-parted test xs x (ys ++ more) none here

pub data IsPair (lines : List (List ℕ)) : Cut (List ℕ) → Type 0 where
  NoPair : (xs : List (List ℕ)) → IsPair lines (Whole xs)
  HasPair : (xs : List (List ℕ)) (x y : List ℕ) (ys : List (List ℕ)) → lines ≡ (xs ++ x ∷ []) ++ y ∷ ys → ((more : List (List ℕ)) → cut_at_pair (lines ++ more) ≡ Parted xs x (ys ++ more)) → IsPair lines (Parted xs x ys)

pub pair-is : (lines : List (List ℕ)) → IsPair lines (cut_at_pair lines)
pair-is [] = NoPair []
pair-is (x ∷ []) = NoPair (x ∷ [])
pair-is (x ∷ y ∷ lines) = at (is_dashes x && is_dashes y) refl (cut_at_pair (y ∷ lines)) (pair-is (y ∷ lines)) where
  at : (c : Bool) → (is_dashes x && is_dashes y) ≡ c → (rest : Cut (List ℕ)) → IsPair (y ∷ lines) rest → IsPair (x ∷ y ∷ lines) (cond c (Parted [] x lines) (prepend x rest))
  at true is rest more = HasPair [] x y lines refl (λ ls. rw is refl)
  at false is rest (NoPair xs) = NoPair (x ∷ xs)
  at false is rest (HasPair xs z w ys e same) = HasPair (x ∷ xs) z w ys (ap (λ t. x ∷ t) e) (λ ls. rw is (ap (prepend x) (same ls)))
