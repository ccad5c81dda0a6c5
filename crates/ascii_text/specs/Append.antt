-- Appending to a text.
use Rattle.std.specs.Prelude.{◌≡◌, ℕ, List, [], length, take, codes, nat_lt, if◌then◌else◌}

-- the old text is a prefix of the new one, so cutting the new one back gives the old one
pub record Extends (old new : List ℕ) : Type 0 where
  pub begins : take (length old) new ≡ old

-- the space before the part at this index; none before the first
abbrev pub gap : ℕ → List ℕ
gap index = if nat_lt 0 index then codes " " else []
