-- The newlines at the end of a text, and what is left without the last.
use Rattle.std.proofs.lemmas.Grind.{common_steps}
use Rattle.std.proofs.Common.{◌≡◌, ℕ, ◌≤◌, Bool, true, false, cond, ◌&&◌, List, [], ◌∷◌, ◌++◌, length, refl, sym, ◌∙◌, ap, length-append, arith}
use Rattle.std.specs.Prelude.{◌==◌, nat_eq, if◌then◌else◌}
use Rattle.std.specs.List.{ends_with}
use Rattle.std.proofs.Math.Seq.{drop-append_seam}
use Rattle.std.proofs.lemmas.List.{append_assoc, append-nil, append_cancel_left}
use Rattle.std.proofs.lemmas.Bool.Decides.{nat_tests}
use lib.Pointwise.{pointwise}
use Rattle.ascii_text.specs.Lines.{newline, without_last}
use Rattle.dd_file.specs.Rewritten.{newlines_at_end, pending_newline, rest_of_script, without_double_end}
use Rattle.ascii_text.proofs.Offered.{without_last-append}

-- what a text ends in is decided by its last bytes
pub ends_with-append : (xs ys needle : List ℕ) → length ys ≡ length needle → ends_with nat_eq (xs ++ ys) needle ≡ pointwise nat_eq needle ys
ends_with-append xs ys needle e = grind (arith, common_steps, length-append, drop-append_seam)

-- .. so bytes before that many do not matter
ends_with-longer : (x : ℕ) (text needle : List ℕ) → length needle ≤ length text → ends_with nat_eq (x ∷ text) needle ≡ ends_with nat_eq text needle
ends_with-longer x text needle le = grind arith

newlines_at_end-longer : (x : ℕ) (text : List ℕ) → 2 ≤ length text → newlines_at_end (x ∷ text) ≡ newlines_at_end text
newlines_at_end-longer x text long = rw (ends_with-longer x text (newline ++ newline) long, ends_with-longer x text newline (omega (arith, long))) refl

pub newlines_at_end-last : (xs : List ℕ) (a b : ℕ) → newlines_at_end ((xs ++ a ∷ []) ++ b ∷ []) ≡ newlines_at_end (a ∷ b ∷ [])
newlines_at_end-last [] a b = refl
newlines_at_end-last (x ∷ xs) a b = newlines_at_end-longer x ((xs ++ a ∷ []) ++ b ∷ []) (omega (arith, length-append (xs ++ a ∷ []) (b ∷ []), length-append xs (a ∷ []))) ∙ newlines_at_end-last xs a b

-- a second newline after a text that ends in one
second-newline : (text : List ℕ) → (newlines_at_end text ≡ 0 → ⊥) → newlines_at_end (text ++ newline) ≡ 2
second-newline [] some = absurd (some refl)
second-newline (x ∷ []) some = grind (arith, nat_tests)
second-newline (x ∷ y ∷ []) some = newlines_at_end-longer x (y ∷ newline) (omega arith) ∙ second-newline (y ∷ []) (λ none. some (grind (arith, nat_tests)))
second-newline (x ∷ y ∷ z ∷ text) some =
    newlines_at_end-longer x (y ∷ z ∷ text ++ newline) (omega arith) ∙ second-newline (y ∷ z ∷ text) (λ none. some (newlines_at_end-longer x (y ∷ z ∷ text) (omega arith) ∙ none))

pub newlines_at_end-second : (b n : ℕ) (text : List ℕ) → b ≡ 10 → (n ≡ 0 → ⊥) → n ≡ newlines_at_end text → 2 ≡ newlines_at_end (text ++ b ∷ [])
newlines_at_end-second b n text is some e = rw is (sym (second-newline text (λ none. some (e ∙ none))))

-- a text is what is left without a newline at its end, and that newline
pub text-buffered : (text : List ℕ) → without_last 10 text ++ (if newlines_at_end text == 0 then [] else newline) ≡ text
text-buffered [] = refl
text-buffered (x ∷ []) = grind (arith, nat_tests)
text-buffered (x ∷ y ∷ []) = grind (arith, nat_tests)
text-buffered (x ∷ y ∷ z ∷ text) = grind (arith, newlines_at_end-longer, text-buffered (y ∷ z ∷ text))

-- the script that ends here is what is left without a newline at its end, and that newline where it is the only one
pub text-ended : (text : List ℕ) → without_last 10 text ++ (if newlines_at_end text == 1 then newline else []) ≡ without_double_end text
text-ended text = at (ends_with nat_eq text (newline ++ newline)) (ends_with nat_eq text newline) (without_last 10 text) (text-buffered text) where
  at : (p q : Bool) (prefix : List ℕ) → prefix ++ (if (if p then 2 else (if q then 1 else 0)) == 0 then [] else newline) ≡ text →
      prefix ++ (if (if p then 2 else (if q then 1 else 0)) == 1 then newline else []) ≡ (if p then prefix else text)
  at true q prefix h = append-nil prefix
  at false true prefix h = h
  at false false prefix h = h

-- without its last newline the text is a prefix of itself with more after it
pub without_last-prefix : (xs ys : List ℕ) → (part : List ℕ) × (without_last 10 (xs ++ ys) ≡ without_last 10 xs ++ part)
without_last-prefix xs [] = ([], ap (without_last 10) (append-nil xs) ∙ sym (append-nil (without_last 10 xs)))
without_last-prefix xs (y ∷ ys) = let buffered = if newlines_at_end xs == 0 then [] else newline in (
  buffered ++ without_last 10 (y ∷ ys),
  without_last-append 10 xs y ys ∙ ap (λ t. t ++ without_last 10 (y ∷ ys)) (sym (text-buffered xs)) ∙ append_assoc (without_last 10 xs) buffered (without_last 10 (y ∷ ys)),
)

-- what comes before two bytes or more stays as it is
double_end-longer : (x : ℕ) (text : List ℕ) → 2 ≤ length text → without_double_end (x ∷ text) ≡ x ∷ without_double_end text
double_end-longer x [] long = absurd (omega (arith, long))
double_end-longer x (y ∷ text) long = ap (λ c. if c then x ∷ without_last 10 (y ∷ text) else x ∷ y ∷ text) (ends_with-longer x (y ∷ text) (newline ++ newline) long) ∙ at (ends_with nat_eq (y ∷ text) (newline ++ newline)) where
  at : (c : Bool) → (if c then x ∷ without_last 10 (y ∷ text) else x ∷ y ∷ text) ≡ x ∷ (if c then without_last 10 (y ∷ text) else y ∷ text)
  at c = grind arith

pub double_end-after : (front text : List ℕ) → 2 ≤ length text → without_double_end (front ++ text) ≡ front ++ without_double_end text
double_end-after [] text long = refl
double_end-after (x ∷ front) text long = double_end-longer x (front ++ text) (omega (arith, long, length-append front text)) ∙ ap (λ t. x ∷ t) (double_end-after front text long)

-- a text after whose last byte a newline is put
pub double_end-pushed : (xs : List ℕ) (a : ℕ) → without_double_end ((xs ++ a ∷ []) ++ newline) ≡ cond (nat_eq 10 a) (xs ++ a ∷ []) ((xs ++ a ∷ []) ++ newline)
double_end-pushed xs a = ap without_double_end (append_assoc xs (a ∷ []) newline) ∙ double_end-after xs (a ∷ newline) (omega arith) ∙ at (nat_eq 10 a) where
  at : (c : Bool) → xs ++ (if c && true then a ∷ [] else a ∷ newline) ≡ cond c (xs ++ a ∷ []) ((xs ++ a ∷ []) ++ newline)
  at true = refl
  at false = sym (append_assoc xs (a ∷ []) newline)

-- ---- a script that is written part by part
-- a text that does not end in a newline, and more
after-byte : (text : List ℕ) (byte : ℕ) → newlines_at_end text ≡ 0 → without_double_end (text ++ byte ∷ []) ≡ text ++ byte ∷ []
after-byte [] byte none = grind (arith, nat_tests)
after-byte (x ∷ []) byte none = grind (arith, nat_tests)
after-byte (x ∷ y ∷ []) byte none = double_end-longer x (y ∷ byte ∷ []) (omega arith) ∙ ap (λ t. x ∷ t) (after-byte (y ∷ []) byte (grind (arith, nat_tests)))
after-byte (x ∷ y ∷ z ∷ text) byte none =
    double_end-longer x (y ∷ z ∷ text ++ byte ∷ []) (omega arith) ∙ ap (λ t. x ∷ t) (after-byte (y ∷ z ∷ text) byte (sym (newlines_at_end-longer x (y ∷ z ∷ text) (omega arith)) ∙ none))

after-bytes : (text : List ℕ) (byte : ℕ) (rest : List ℕ) → newlines_at_end text ≡ 0 → without_double_end (text ++ byte ∷ rest) ≡ text ++ without_double_end (byte ∷ rest)
after-bytes text byte [] none = after-byte text byte none ∙ ap (λ t. text ++ t) (sym (after-byte [] byte refl))
after-bytes text byte (next ∷ rest) none = double_end-after text (byte ∷ next ∷ rest) (omega arith)

-- a script is its first part but for the pending newline, and what is left after it
script-parted : (text rest : List ℕ) → without_double_end (text ++ rest) ≡ without_last 10 text ++ rest_of_script (newlines_at_end text) rest
script-parted text [] = ap without_double_end (append-nil text) ∙ sym (text-ended text)
script-parted text (byte ∷ rest) = at (newlines_at_end text == 0) (none (newlines_at_end text)) (without_last 10 text) (text-buffered text) where
  none : (n : ℕ) → (n == 0) ≡ true → n ≡ 0
  none n is = grind (arith, nat_tests)

  at : (c : Bool) → (c ≡ true → newlines_at_end text ≡ 0) → (prefix : List ℕ) → prefix ++ (if c then [] else newline) ≡ text →
      without_double_end (text ++ byte ∷ rest) ≡ prefix ++ without_double_end ((if c then [] else newline) ++ byte ∷ rest)
  at true none prefix is = after-bytes text byte rest (none refl) ∙ ap (λ t. t ++ without_double_end (byte ∷ rest)) (sym is ∙ append-nil prefix)
  at false some prefix is = grind (arith, append_assoc, double_end-after)

nothing-pending : (c : Bool) → without_last 10 ((if c then [] else newline) ++ []) ≡ []
nothing-pending true = refl
nothing-pending false = refl

pending-more : (text more : List ℕ) → without_last 10 (text ++ more) ≡ without_last 10 text ++ without_last 10 (pending_newline (newlines_at_end text) ++ more)
pending-more text [] = ap (without_last 10) (append-nil text) ∙ sym (append-nil (without_last 10 text)) ∙ ap (λ t. without_last 10 text ++ t) (sym (nothing-pending (newlines_at_end text == 0)))
pending-more text (byte ∷ more) =
    let pending = pending_newline (newlines_at_end text) in
    without_last-append 10 text byte more ∙ ap (λ t. t ++ without_last 10 (byte ∷ more)) (sym (text-buffered text))
    ∙ append_assoc (without_last 10 text) pending (without_last 10 (byte ∷ more)) ∙ ap (λ t. without_last 10 text ++ t) (sym (without_last-append 10 pending byte more))

-- what is written of more text is what was left, but for what is left after it
pub rest-more : (newlines after : ℕ) (text more rest : List ℕ) → newlines ≡ newlines_at_end text → after ≡ newlines_at_end (text ++ more) →
    rest_of_script newlines (more ++ rest) ≡ without_last 10 (pending_newline newlines ++ more) ++ rest_of_script after rest
rest-more newlines after text more rest is counts =
    append_cancel_left (without_last 10 text) _ _ (
    ap (λ n. without_last 10 text ++ rest_of_script n (more ++ rest)) is ∙ sym (script-parted text (more ++ rest))
    ∙ ap without_double_end (sym (append_assoc text more rest)) ∙ script-parted (text ++ more) rest
    ∙ ap (λ n. without_last 10 (text ++ more) ++ rest_of_script n rest) (sym counts) ∙ ap (λ t. t ++ rest_of_script after rest) (pending-more text more)
    ∙ ap (λ n. (without_last 10 text ++ without_last 10 (pending_newline n ++ more)) ++ rest_of_script after rest) (sym is)
    ∙ append_assoc (without_last 10 text) (without_last 10 (pending_newline newlines ++ more)) (rest_of_script after rest)
    )
