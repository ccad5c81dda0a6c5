-- How an input or arguments are read before a reply.
use Rattle.std.specs.Prelude.{◌≡◌, ℕ, Bool, true, false, List, [], Result, Ok, Err}

-- what is read is valid, and the reply is still empty; or it is not, and the reply is the line that reports its error
abbrev pub IsRead : {A : Type 0} → Result A (List ℕ) → Bool → A → List ℕ → Type 0
IsRead result true value reply = (result ≡ Ok value) × (reply ≡ [])
IsRead result false value reply = result ≡ Err reply
