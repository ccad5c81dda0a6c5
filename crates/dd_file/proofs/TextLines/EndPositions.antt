-- Lines that lie in one text, found by the positions where they end.
use Rattle.std.proofs.Common.{◌≡◌, ℕ, suc, zero, ◌+◌, ◌-◌, ◌<◌, ◌≤◌, List, [], ◌∷◌, ◌++◌, length, take, drop, get_or, refl, sym, ◌∙◌, ap, arith}
use Rattle.std.proofs.lemmas.List.{append_assoc, append-nil, length-append, take_at, drop_at, take-append-drop}
use Rattle.ascii_text.specs.Lines.{newline, text_of}
use Rattle.dd_file.specs.LineEnds.{lines_at, ends_of, LieIn, FillText}
use Rattle.dd_file.proofs.TextLines.CutAgain.{text_of-append}

-- the lines are those that are found at their ends
lines_at-text : (before : List ℕ) (start : ℕ) (lines : List (List ℕ)) → length before ≡ start → lines_at (before ++ text_of lines) start (ends_of start lines) ≡ lines
lines_at-text before start [] at = refl
lines_at-text before start (line ∷ lines) at =
    ap (λ l. l ∷ lines_at whole (start + length line + 1) (ends_of (start + length line + 1) lines)) first
    ∙ ap (λ t. line ∷ lines_at t (start + length line + 1) (ends_of (start + length line + 1) lines)) (sym (append_assoc before (line ++ newline) (text_of lines)))
    ∙ ap (λ ls. line ∷ ls) (lines_at-text (before ++ (line ++ newline)) (start + length line + 1) lines suffix) where
      whole : List ℕ
      whole = before ++ ((line ++ newline) ++ text_of lines)

      count : start + length line - start ≡ length line
      count = omega arith

      first : take (start + length line - start) (drop start whole) ≡ line
      first = ap (λ n. take n (drop start whole)) count ∙ ap (take (length line)) (drop_at before _ start at ∙ append_assoc line newline (text_of lines)) ∙ take_at line (newline ++ text_of lines) (length line) refl

      suffix : length (before ++ (line ++ newline)) ≡ start + length line + 1
      suffix = omega (arith, at, length-append before (line ++ newline), length-append line newline)

pub found-lines : (text ends : List ℕ) (lines : List (List ℕ)) → LieIn text ends lines → lines_at text 0 ends ≡ lines
found-lines text ends lines lie = ap (λ t. lines_at t 0 ends) lie.whole ∙ ap (lines_at (text_of lines) 0) lie.positions ∙ lines_at-text [] 0 lines refl

pub fill-text : (text ends : List ℕ) (lines : List (List ℕ)) → LieIn text ends lines → FillText text ends
fill-text text ends lines lie = let same = found-lines text ends lines lie in record {
  whole = lie.whole ∙ ap text_of (sym same);
  positions = lie.positions ∙ ap (ends_of 0) (sym same);
}

-- what is known of the fields that hold the lines
pub lie-fields : (text ends : List ℕ) (lines : List (List ℕ)) → FillText text ends → lines_at text 0 ends ≡ lines → LieIn text ends lines
lie-fields text ends lines fill view = record { whole = fill.whole ∙ ap text_of view; positions = fill.positions ∙ ap (ends_of 0) view }

-- one line more
ends_of-push : (start : ℕ) (lines : List (List ℕ)) (line : List ℕ) (end : ℕ) → end ≡ start + length (text_of lines) + length line → ends_of start lines ++ end ∷ [] ≡ ends_of start (lines ++ line ∷ [])
ends_of-push start [] line end is = ap (λ e. e ∷ []) (let same : end ≡ start + length line = omega (arith, is) in same)
ends_of-push start (first ∷ lines) line end is = ap (λ es. (start + length first) ∷ es) (ends_of-push (start + length first + 1) lines line end (omega (arith, is, length-append (first ++ newline) (text_of lines), length-append first newline)))

pub lie-push : (text ends more positions : List ℕ) (lines : List (List ℕ)) (line : List ℕ) (end : ℕ) → LieIn text ends lines → more ≡ (text ++ line) ++ newline → positions ≡ ends ++ end ∷ [] →
    end ≡ length text + length line → LieIn more positions (lines ++ line ∷ [])
lie-push text ends more positions lines line end lie pushed added is = record {
  whole = pushed ∙ append_assoc text line newline ∙ ap (λ t. t ++ (line ++ newline)) lie.whole ∙ ap (λ t. text_of lines ++ t) (sym (append-nil (line ++ newline))) ∙ sym (text_of-append lines (line ∷ []));
  positions = added ∙ ap (λ es. es ++ end ∷ []) lie.positions ∙ ends_of-push 0 lines line end (let len = ap length lie.whole in omega (arith, is, len));
}

-- the text up to a line, and from there on
pub text-parts : (lines : List (List ℕ)) (i : ℕ) → text_of (take i lines) ++ text_of (drop i lines) ≡ text_of lines
text-parts lines i = sym (text_of-append (take i lines) (drop i lines)) ∙ ap text_of (take-append-drop i lines)

pub text-suffix : (lines : List (List ℕ)) (i start : ℕ) → start ≡ length (text_of (take i lines)) → drop start (text_of lines) ≡ text_of (drop i lines)
text-suffix lines i start is = ap (drop start) (sym (text-parts lines i)) ∙ drop_at (text_of (take i lines)) (text_of (drop i lines)) start (sym is)

start-bound : (lines : List (List ℕ)) (i start : ℕ) → start ≡ length (text_of (take i lines)) → start ≤ length (text_of lines)
start-bound lines i start is = let parts = ap length (text-parts lines i) in omega (arith, is, parts, length-append (text_of (take i lines)) (text_of (drop i lines)))

-- the end of a line
pub length-ends_of : (start : ℕ) (lines : List (List ℕ)) → length (ends_of start lines) ≡ length lines
length-ends_of start [] = refl
length-ends_of start (line ∷ lines) = ap suc (length-ends_of (start + length line + 1) lines)

end-at : (start : ℕ) (lines : List (List ℕ)) (i d : ℕ) → i < length lines → get_or (ends_of start lines) i d ≡ start + length (text_of (take i lines)) + length (get_or lines i [])
end-at start [] i d lt = absurd (omega arith)
end-at start (line ∷ lines) zero d lt = omega arith
end-at start (line ∷ lines) (suc i) d lt = grind (arith, length-append, end-at (start + length line + 1) lines i d (omega (arith, lt)))

pub position-within : (text ends seen : List ℕ) (lines : List (List ℕ)) (i : ℕ) → LieIn text ends lines → seen ≡ ends → i < length lines → i < length seen
position-within text ends seen lines i lie is lt = omega (arith, lt, ap length is, ap length lie.positions, length-ends_of 0 lines)

pub end-position : (text ends seen : List ℕ) (lines : List (List ℕ)) (i : ℕ) → LieIn text ends lines → seen ≡ ends → i < length lines → get_or seen i 0 ≡ length (text_of (take i lines)) + length (get_or lines i [])
end-position text ends seen lines i lie is lt = ap (λ es. get_or es i 0) (is ∙ lie.positions) ∙ (omega (arith, end-at 0 lines i 0 lt))

-- the start of the next line
pub next-start : (lines : List (List ℕ)) (i : ℕ) → i < length lines → length (text_of (take i lines)) + length (get_or lines i []) + 1 ≡ length (text_of (take (i + 1) lines))
next-start lines i lt = at lines i lt ∙ ap (λ n. length (text_of (take n lines))) (let same : suc i ≡ i + 1 = omega arith in same) where
  at : (ls : List (List ℕ)) (k : ℕ) → k < length ls → length (text_of (take k ls)) + length (get_or ls k []) + 1 ≡ length (text_of (take (suc k) ls))
  at [] k h = absurd (omega arith)
  at (l ∷ ls) zero h = omega (arith, length-append (l ++ newline) [], length-append l newline)
  at (l ∷ ls) (suc k) h = omega (arith, at ls k (omega (arith, h)), length-append (l ++ newline) (text_of (take k ls)), length-append (l ++ newline) (text_of (take (suc k) ls)))

pub end-within : (lines : List (List ℕ)) (i end : ℕ) → i < length lines → end ≡ length (text_of (take i lines)) + length (get_or lines i []) → end < length (text_of lines)
end-within lines i end lt is = omega (arith, is, next-start lines i lt, start-bound lines (i + 1) _ refl)

-- a line is a prefix of the text from it on
pub first-suffix : (lines : List (List ℕ)) (i len : ℕ) → i < length lines → len ≡ length (get_or lines i []) → take len (text_of (drop i lines)) ≡ get_or lines i []
first-suffix [] i len lt is = absurd (omega arith)
first-suffix (line ∷ lines) zero len lt is = ap (take len) (append_assoc line newline (text_of lines)) ∙ take_at line (newline ++ text_of lines) len (sym is)
first-suffix (line ∷ lines) (suc i) len lt is = first-suffix lines i len (omega (arith, lt)) is
