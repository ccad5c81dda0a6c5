-- The version of the library, as one number that can be compared.
use Rattle.std.specs.Prelude.{ℕ}

-- 0.1.0: 10,000 for each major version, 100 for each minor one, and the patch
abbrev pub version : ℕ
version = 100
