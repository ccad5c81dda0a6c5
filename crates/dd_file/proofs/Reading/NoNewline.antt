-- Bytes that were searched for a newline and have none.
use Rattle.std.proofs.Common.{◌≡◌, ℕ, zero, suc, ◌+◌, ◌≤◌, ◌<◌, Bool, true, false, List, [], ◌∷◌, ◌++◌, length, take, drop, refl, sym, ◌∙◌, ap, add-zero, arith}
use Rattle.std.proofs.lemmas.Bool.{or_parts}
use Rattle.std.specs.Prelude.{◌==◌, filter}
use Rattle.std.specs.List.{list_any}
use Rattle.std.proofs.lemmas.List.{append-nil, take-append-drop, take_all, take-take, take-append-le, length-append, length-take}
use Rattle.std.proofs.lemmas.List.Elements.{filter-append}
use Rattle.std.proofs.Math.Seq.{take-length, drop-length}
use Rattle.ascii_text.specs.Lines.{first_len, full_lines, ends_in_newline}
use Rattle.dd_file.specs.Buffered.{BeginsWithLine, HasNoNewline, is_whole_text}
use Rattle.ascii_text.proofs.Offered.{full_lines-first, first_len-some, first_len-take, length-first}
use Rattle.dd_file.proofs.TextLines.TextAfter.{full_lines-append, full_lines-whole, filter-all}

abbrev has_newline : List ℕ → Bool
has_newline bytes = list_any (λ b. b == 10) bytes

pub whole-text : (bytes : List ℕ) → ends_in_newline bytes ≡ true → is_whole_text bytes ≡ true
whole-text [] h = cc
whole-text (b ∷ []) h = h
whole-text (b ∷ c ∷ bytes) h = whole-text (c ∷ bytes) h

pub none-nothing : (bytes : List ℕ) → HasNoNewline 0 bytes
none-nothing bytes = record { within = omega arith; none = refl }

-- the first full line ends after them
pub first_len-beyond : (count : ℕ) (bytes : List ℕ) → HasNoNewline count bytes → first_len bytes ≡ count + first_len (drop count bytes)
first_len-beyond zero bytes clear = omega arith
first_len-beyond (suc count) [] clear = let h = clear.within in absurd (omega (arith, h))
first_len-beyond (suc count) (b ∷ bytes) clear =
    let parts = or_parts (b == 10) (has_newline (take count bytes)) clear.none in
    let rest = first_len-beyond count bytes (record { within = omega (arith, clear.within); none = parts.1 }) in
    rw (parts.0) (omega (arith, rest))

-- a first full line that is not whole
unfinished-none : (bytes : List ℕ) → ends_in_newline (take (first_len bytes) bytes) ≡ false → has_newline bytes ≡ false
unfinished-none [] h = refl
unfinished-none (b ∷ []) h = grind arith
unfinished-none (b ∷ x ∷ bytes) h = grind (arith, unfinished-none (x ∷ bytes))

pub none-all : (bytes : List ℕ) → has_newline bytes ≡ false → HasNoNewline (length bytes) bytes
none-all bytes none = record { within = omega arith; none = ap has_newline (take-length bytes) ∙ none }

-- bytes without a newline are one full line, which is not whole
pub first_len-none : (bytes : List ℕ) → has_newline bytes ≡ false → first_len bytes ≡ length bytes
first_len-none [] none = refl
first_len-none (b ∷ bytes) none = grind (arith, first_len-none bytes)

pub none-ends : (bytes : List ℕ) → has_newline bytes ≡ false → ends_in_newline bytes ≡ false
none-ends [] none = refl
none-ends (b ∷ []) none = (or_parts (b == 10) false none).0
none-ends (b ∷ c ∷ bytes) none = none-ends (c ∷ bytes) (or_parts (b == 10) (has_newline (c ∷ bytes)) none).1

-- no newline was found
pub none-found : (bytes full_line : List ℕ) → full_line ≡ take (first_len bytes) bytes → ends_in_newline full_line ≡ false → HasNoNewline (length bytes) bytes
none-found bytes full_line is unfinished = none-all bytes (unfinished-none bytes (ap ends_in_newline (sym is) ∙ unfinished))

-- a newline was found
pub begins-first : (bytes full_line : List ℕ) → full_line ≡ take (first_len bytes) bytes → ends_in_newline full_line ≡ true → BeginsWithLine full_line bytes
begins-first bytes full_line is ends = record {
  rest = drop (first_len bytes) bytes;
  is = sym (ap (λ t. t ++ drop (first_len bytes) bytes) is ∙ take-append-drop (first_len bytes) bytes);
  one = ap first_len is ∙ first_len-take bytes ∙ sym (ap length is ∙ length-first bytes);
  ends = ends;
}

-- a line that ends in a newline goes on after them
pub first_len-farther : (searched : ℕ) (bytes full_line rest : List ℕ) → HasNoNewline searched bytes → full_line ≡ take (searched + first_len rest) bytes → ends_in_newline full_line ≡ true → 0 < first_len rest
first_len-farther searched bytes full_line [] clear is ends = let bad : true ≡ false = sym ends ∙ none-ends full_line (ap has_newline (is ∙ ap (λ n. take n bytes) (add-zero searched)) ∙ clear.none) in cc
first_len-farther searched bytes full_line (b ∷ rest) clear is ends = first_len-some (b ∷ rest) (omega arith)

pub begins-within : (full_line bytes : List ℕ) → BeginsWithLine full_line bytes → length full_line ≤ length bytes
begins-within full_line bytes begins = let len = length-append full_line begins.rest in let all = ap length begins.is in omega (arith, len, all)

pub none-in : (bytes : List ℕ) → HasNoNewline (length bytes) bytes → has_newline bytes ≡ false
none-in bytes clear = ap has_newline (sym (take-length bytes)) ∙ clear.none

-- fewer bytes, and more
pub none-cut : (count n : ℕ) (bytes : List ℕ) → HasNoNewline count bytes → count ≤ n → HasNoNewline count (take n bytes)
none-cut count n bytes clear le = let within = clear.within in record { within = simp length-take (omega (arith, within, le)); none = ap has_newline (take-take count n bytes le) ∙ clear.none }

pub none-more : (count : ℕ) (bytes more : List ℕ) → HasNoNewline count bytes → HasNoNewline count (bytes ++ more)
none-more count bytes more clear = grind (arith, length-append, take-append-le)

-- one full line alone
pub full_lines-one : (full_line : List ℕ) → first_len full_line ≡ length full_line → 0 < length full_line → full_lines full_line ≡ full_line ∷ []
full_lines-one full_line one some = grind (arith, full_lines-first, take_all, drop-length)

-- the whole full lines are those before them
pub no-whole_line : (rest : List ℕ) → has_newline rest ≡ false → filter ends_in_newline (full_lines rest) ≡ []
no-whole_line [] none = refl
no-whole_line (b ∷ bytes) none = ap (filter ends_in_newline) (full_lines-one (b ∷ bytes) (first_len-none (b ∷ bytes) none) (omega arith)) ∙ rw (none-ends (b ∷ bytes) none) refl

pub whole-lines : (whole rest : List ℕ) → is_whole_text whole ≡ true → has_newline rest ≡ false → filter ends_in_newline (full_lines (whole ++ rest)) ≡ full_lines whole
whole-lines whole rest ends none = grind (arith, full_lines-append, filter-append, no-whole_line, append-nil, filter-all, full_lines-whole)
