-- A draft that gets the lines of buffered bytes one after another.
use Rattle.std.proofs.Common.{◌≡◌, ℕ, ◌+◌, ◌-◌, ◌≤◌, ◌<◌, true, List, [], ◌∷◌, ◌++◌, length, take, drop, sym, ◌∙◌, ap, subst, arith}
use Rattle.std.proofs.lemmas.List.{append_assoc, append-nil, length-append, map-append, take-append-drop, nil_from_length}
use Rattle.std.proofs.Math.Seq.{take-append-add, drop-append_seam}
use Rattle.ascii_text.specs.Lines.{first_len, full_lines, line_of, lines_of, ends_in_newline}
use Rattle.dd_file.specs.Script.{FirstItem}
use Rattle.dd_file.specs.Buffered.{BeginsWithLine, HasNoNewline, is_whole_text}
use Rattle.dd_file.specs.Draft.{BegunItem, Adds, DraftOf, DraftOfAll}
use Rattle.dd_file.specs.declared.scan.Scan.{Scan}
use Rattle.dd_file.proofs.Reading.NoNewline.{whole-text, full_lines-one, none-nothing, none-cut, none-more, none-in, first_len-none}
use Rattle.dd_file.proofs.ScriptGrammar.AllItems.{full_lines-length}
use Rattle.dd_file.proofs.TextLines.TextAfter.{full_lines-append, whole-after}

whole-append : (xs ys : List ℕ) → ends_in_newline ys ≡ true → is_whole_text (xs ++ ys) ≡ true
whole-append xs [] h = cc
whole-append xs (y ∷ ys) h = whole-after xs y ys ∙ whole-text (y ∷ ys) h

module _ {A D : Type 0} {first : List (List ℕ) → FirstItem A} {begun : D → BegunItem A} {Fits : D → Type 0} {draft : D} {scan : Scan} {bytes : List ℕ} (d : DraftOf first begun Fits draft scan bytes) where
  -- the lines and the bytes that were searched are there
  pub draft-bound : (scan.lines ≤ scan.bytes) × (scan.bytes + scan.searched ≤ length bytes)
  draft-bound = grind (arith, full_lines-length, length-append)

  pub draft-rest : drop scan.bytes bytes ≡ d.rest
  draft-rest = ap (λ n. drop n bytes) d.consumed ∙ ap (drop (length d.whole)) d.is ∙ drop-append_seam d.whole d.rest

  -- the same draft with other bytes after its lines: fewer, more, or farther searched
  with-rest : (searched : ℕ) (rest other : List ℕ) → other ≡ d.whole ++ rest → HasNoNewline searched rest → DraftOf first begun Fits draft (record scan { searched = searched }) other
  with-rest searched rest other is none = record { whole = d.whole; rest = rest; is = is; ends = d.ends; consumed = d.consumed; count = d.count; searched = none; fits = d.fits; first_item = d.first_item }

  pub draft-cut : (n : ℕ) → scan.bytes + scan.searched ≤ n → DraftOf first begun Fits draft scan (take n bytes)
  draft-cut n le =
      let consumed = d.consumed in
      let sum : n ≡ length d.whole + (n - length d.whole) = omega (arith, le, consumed) in
      with-rest scan.searched _ (take n bytes) (ap (take n) d.is ∙ ap (λ m. take m (d.whole ++ d.rest)) sum ∙ take-append-add d.whole d.rest (n - length d.whole))
      (none-cut scan.searched (n - length d.whole) d.rest d.searched (omega (arith, le, consumed)))

  pub draft-more : (more : List ℕ) → DraftOf first begun Fits draft scan (bytes ++ more)
  draft-more more = with-rest scan.searched _ (bytes ++ more) (ap (λ t. t ++ more) d.is ∙ append_assoc d.whole d.rest more) (none-more scan.searched d.rest more d.searched)

  pub draft-farther : (len : ℕ) → HasNoNewline len (drop scan.bytes bytes) → DraftOf first begun Fits draft (record scan { searched = len }) bytes
  draft-farther len none = with-rest len d.rest bytes d.is (subst (HasNoNewline len) draft-rest none)

  -- one more full line
  lines-more : (full_line : List ℕ) → first_len full_line ≡ length full_line → 0 < length full_line → full_lines (d.whole ++ full_line) ≡ full_lines d.whole ++ full_line ∷ []
  lines-more full_line one some = full_lines-append d.whole full_line d.ends ∙ ap (λ ps. full_lines d.whole ++ ps) (full_lines-one full_line one some)

  first-more : (next : D) (full_line : List ℕ) → first_len full_line ≡ length full_line → 0 < length full_line → Adds (begun draft) (line_of full_line) (begun next) → (more : List (List ℕ)) →
      (begun next).first_with more ≡ first (lines_of (d.whole ++ full_line) ++ more)
  first-more next full_line one some adds more = grind (arith, append_assoc, lines-more, map-append)

  count-more : (full_line : List ℕ) → first_len full_line ≡ length full_line → 0 < length full_line → scan.lines + 1 ≡ length (full_lines (d.whole ++ full_line))
  count-more full_line one some = ap (λ n. n + 1) d.count ∙ sym (ap length (lines-more full_line one some) ∙ length-append (full_lines d.whole) (full_line ∷ []))

  pub draft-line : (next : D) (full_line : List ℕ) → BeginsWithLine full_line (drop scan.bytes bytes) → 0 < length full_line → Fits next → Adds (begun draft) (line_of full_line) (begun next) →
      DraftOf first begun Fits next (record { lines = scan.lines + 1; bytes = scan.bytes + length full_line; searched = 0 }) bytes
  draft-line next full_line begins some fits adds =
      let consumed = d.consumed in
      let total = length-append d.whole full_line in
      record {
        whole = d.whole ++ full_line;
        rest = begins.rest;
        is = d.is ∙ ap (λ t. d.whole ++ t) (sym draft-rest ∙ begins.is) ∙ sym (append_assoc d.whole full_line begins.rest);
        ends = whole-append d.whole full_line begins.ends;
        consumed = omega (arith, consumed, total);
        count = count-more full_line begins.one some;
        searched = none-nothing begins.rest;
        fits = fits;
        first_item = first-more next full_line begins.one some adds;
      }

  module _ (searched : scan.bytes + scan.searched ≡ length bytes) where
    length-rest : length d.rest ≡ scan.searched
    length-rest = grind (arith, length-append)

    -- no line is left
    pub draft-whole : scan.searched ≡ 0 → DraftOfAll first begun Fits draft scan.lines bytes
    draft-whole none = grind (arith, nil_from_length, length-rest, append-nil)

    pub draft-clear : HasNoNewline (length d.rest) d.rest
    draft-clear = subst (λ n. HasNoNewline n d.rest) (sym length-rest) d.searched

    -- the last line has no newline
    pub draft-last : (next : D) (last : List ℕ) → last ≡ drop scan.bytes bytes → 0 < scan.searched → Fits next → Adds (begun draft) (line_of last) (begun next) → DraftOfAll first begun Fits next (scan.lines + 1) bytes
    draft-last next last is more fits adds =
        let same : last ≡ d.rest = is ∙ draft-rest in
        let one : first_len last ≡ length last = ap first_len same ∙ first_len-none d.rest (none-in d.rest draft-clear) ∙ ap length (sym same) in
        let size : length last ≡ scan.searched = ap length same ∙ length-rest in
        let some : 0 < length last = omega (arith, size, more) in
        let all : bytes ≡ d.whole ++ last = d.is ∙ ap (λ t. d.whole ++ t) (sym same) in
        record {
          count = count-more last one some ∙ ap (λ t. length (full_lines t)) (sym all);
          fits = fits;
          first_item = first-more next last one some adds [] ∙ ap first (append-nil (lines_of (d.whole ++ last))) ∙ ap (λ t. first (lines_of t)) (sym all);
        }

-- the same draft of all bytes, of which it has the first
pub draft-uncut : {A D : Type 0} {first : List (List ℕ) → FirstItem A} {begun : D → BegunItem A} {Fits : D → Type 0} {draft : D} {scan : Scan} (n : ℕ) (bytes : List ℕ) → DraftOf first begun Fits draft scan (take n bytes) → DraftOf first begun Fits draft scan bytes
draft-uncut n bytes d = subst (DraftOf _ _ _ _ _) (take-append-drop n bytes) (draft-more d (drop n bytes))
