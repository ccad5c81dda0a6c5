-- Known bytes that grow part by part.
use Rattle.std.proofs.Common.{◌≡◌, ℕ, zero, suc, List, [], ◌++◌, length, take, drop, refl, sym, ◌∙◌, ap, subst, ◌≤◌, ◌-◌, ◌+◌, arith}
use Rattle.std.proofs.Math.Bool.{or-false}
use Rattle.std.proofs.Math.Seq.{take-add}
use Rattle.std.specs.Prelude.{Option, Some, None, Bool, ◌||◌, Ok}
use Rattle.std.proofs.lemmas.List.{append-nil, append_assoc, take-append-drop, take_all, length-drop, drop-drop}
use Rattle.std.specs.Io.KnownBytes.{Appends, Keeps, append_known}
use Rattle.dd_file.specs.Device.{AppendsPart, is_failed_write}

-- one part after another
pub appends-append : (old mid new : Option (List ℕ)) (xs ys : List ℕ) → Appends old mid xs → Appends mid new ys → Appends old new (xs ++ ys)
appends-append None mid new xs ys a b = tt
appends-append (Some o) None new xs ys a b = absurd a
appends-append (Some o) (Some m) None xs ys a b = absurd b
appends-append (Some o) (Some m) (Some n) xs ys a b = b ∙ ap (λ t. t ++ ys) a ∙ append_assoc o xs ys

-- a whole first part, of more
pub part-append : (old new : Option (List ℕ)) (xs ys : List ℕ) → Appends old new xs → AppendsPart old new (xs ++ ys)
part-append None new xs ys a = tt
part-append (Some o) None xs ys a = absurd a
part-append (Some o) (Some n) xs ys a = (xs, ys, refl, a)

-- a part of the first part, of more
pub part-part : (old new : Option (List ℕ)) (xs ys : List ℕ) → AppendsPart old new xs → AppendsPart old new (xs ++ ys)
part-part None new xs ys a = tt
part-part (Some o) None xs ys a = absurd a
part-part (Some o) (Some n) xs ys a = (a.0, a.1 ++ ys, ap (λ t. t ++ ys) a.2 ∙ append_assoc a.0 a.1 ys, a.3)

-- a part of the second part
pub append-part : (old mid new : Option (List ℕ)) (xs ys : List ℕ) → Appends old mid xs → AppendsPart mid new ys → AppendsPart old new (xs ++ ys)
append-part None mid new xs ys a b = tt
append-part (Some o) None new xs ys a b = absurd a
append-part (Some o) (Some m) None xs ys a b = absurd b
append-part (Some o) (Some m) (Some n) xs ys a b = grind (arith, append_assoc)

-- a write that took some bytes did not fail
pub not-failed : (before : Bool) (count : ℕ) (bytes : List ℕ) → (count ≡ 0 → ⊥) → (before || is_failed_write (Ok count) bytes) ≡ before
not-failed before zero bytes h = absurd (h refl)
not-failed before (suc count) bytes h = or-false before

-- all bytes from a position on
pub rest-whole : (n : ℕ) (bytes : List ℕ) → take (length bytes - n) (drop n bytes) ≡ drop n bytes
rest-whole n bytes = take_all _ _ (subst (λ m. m ≤ length bytes - n) (sym (length-drop n bytes)) (omega arith))

-- a prefix of some bytes, and a prefix of the rest
pub prefix-more : (old mid new : Option (List ℕ)) (n k : ℕ) (bytes : List ℕ) → n ≤ length bytes →
    Appends old mid (take n bytes) → Appends mid new (take k (take (length bytes - n) (drop n bytes))) → Appends old new (take (n + k) bytes)
prefix-more old mid new n k bytes le a b = grind (arith, take-add, appends-append, rest-whole)

-- a prefix of some bytes is a part of them
pub prefix-part : (old new : Option (List ℕ)) (n : ℕ) (bytes : List ℕ) → Appends old new (take n bytes) → AppendsPart old new bytes
prefix-part old new n bytes a = subst (λ t. AppendsPart old new t) (take-append-drop n bytes) (part-append old new (take n bytes) (drop n bytes) a)

-- a prefix of the gathered bytes that is written is a part of them
pub gathered-part : (old new : Option (List ℕ)) (n k : ℕ) (bytes block : List ℕ) → bytes ≡ block →
    Appends old new (take k (take (length bytes - n) (drop n bytes))) → AppendsPart old new (drop n block)
gathered-part old new n k bytes block e a = grind (arith, prefix-part, rest-whole)

-- after a prefix of the gathered bytes was written, all bytes so far are the same
pub gathered-more : (old new : Option (List ℕ)) (n k : ℕ) (bytes block : List ℕ) → bytes ≡ block →
    Appends old new (take k (take (length bytes - n) (drop n bytes))) → Keeps (append_known old (drop n block)) (append_known new (drop (n + k) block))
gathered-more old new n k bytes block e a =
    subst (λ t. Keeps (append_known old (drop n t)) (append_known new (drop (n + k) t))) e (at old new (subst (λ t. Appends old new (take k t)) (rest-whole n bytes) a)) where
      at : (old new : Option (List ℕ)) → Appends old new (take k (drop n bytes)) → Keeps (append_known old (drop n bytes)) (append_known new (drop (n + k) bytes))
      at None new b = tt
      at (Some o) None b = absurd b
      at (Some o) (Some x) b = ap (λ t. t ++ drop (n + k) bytes) b ∙ append_assoc o (take k (drop n bytes)) (drop (n + k) bytes)
          ∙ ap (λ t. o ++ (take k (drop n bytes) ++ t)) (sym (drop-drop k n bytes)) ∙ ap (λ t. o ++ t) (take-append-drop k (drop n bytes))

-- nothing after known bytes
pub append_known-nothing : (known : Option (List ℕ)) → append_known known [] ≡ known
append_known-nothing None = refl
append_known-nothing (Some bytes) = ap Some (append-nil bytes)
