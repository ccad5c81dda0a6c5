-- Reading that comes to an end.
use Rattle.std.specs.Prelude.{◌≡◌, ℕ, ◌<◌, List, length}
use Rattle.dd_file.specs.Position.{Position}
use Rattle.dd_file.specs.Grammar.{Next, Parsed}

-- each item or line has at least one byte, so that reading an input ends
abbrev pub TakesBytes : {A : Type 0} → (Position → List ℕ → Next A) → Type 0
TakesBytes {A} next = (position suffix : Position) (bytes left : List ℕ) (item : A) → next position bytes ≡ Parsed item suffix left → length left < length bytes
