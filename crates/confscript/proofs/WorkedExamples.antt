-- Small cases, worked out by hand: which input is named, and when `--down` is refused.
use Rattle.std.proofs.Common.{◌≡◌, ℕ, List, refl, codes}
use Rattle.std.specs.Prelude.{Option, Some, None}
use Rattle.conf_tool.specs.CommandLine.{ids_down}
use Rattle.confscript.specs.Asked.{bytes_named}

-- without FILE, standard input is read
no-file : (files : List ℕ → Option (List ℕ)) (standard : Option (List ℕ)) → bytes_named files standard None ≡ standard
no-file files standard = refl

-- so it is with the FILE `-`
dash : (files : List ℕ → Option (List ℕ)) (standard : Option (List ℕ)) → bytes_named files standard (Some (codes "-")) ≡ standard
dash files standard = refl

-- any other FILE is the name of a file
name : (files : List ℕ → Option (List ℕ)) (standard : Option (List ℕ)) → bytes_named files standard (Some (codes "--")) ≡ files (codes "--")
name files standard = refl

-- `--down 0` is refused, since 0 is not an id
down-0 : ids_down (Some (codes "0")) ≡ None
down-0 = refl

-- and so is an empty list
down-empty : ids_down (Some (codes "")) ≡ None
down-empty = refl

-- and a list with 0 in it
down-with-0 : ids_down (Some (codes "4,0")) ≡ None
down-with-0 = refl
