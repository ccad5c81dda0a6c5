-- A list that is cut at its first element that passes a test.
use Rattle.std.specs.Prelude.{Bool, List, [], ◌∷◌, if◌then◌else◌}

-- a list that is cut at an element: the elements before it, the element, and those after it; or the whole list
pub data Cut (X : Type 0) : Type 0 where
  Whole : List X → Cut X
  Parted : List X → X → List X → Cut X

-- one more element before the others
abbrev pub prepend : {X : Type 0} → X → Cut X → Cut X
prepend x (Whole xs) = Whole (x ∷ xs)
prepend x (Parted xs y ys) = Parted (x ∷ xs) y ys

-- a list cut at the first element that passes the test; it stays whole if none does
abbrev pub cut : {X : Type 0} → (X → Bool) → List X → Cut X
cut test [] = Whole []
cut test (x ∷ xs) = if test x then Parted [] x xs else prepend x (cut test xs)
