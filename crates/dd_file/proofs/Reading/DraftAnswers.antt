-- What the buffered lines of a draft state of the next item or line.
use Rattle.std.proofs.Common.{◌≡◌, ℕ, ◌+◌, ◌-◌, ◌≤◌, ◌<◌, Bool, true, false, List, [], ◌++◌, length, take, drop, map, refl, sym, ◌∙◌, ap, arith}
use Rattle.std.specs.Prelude.{filter, Option, Some, None, Result, Ok, Err}
use Rattle.std.specs.Io.KnownBytes.{IsAtEnd}
use Rattle.std.specs.List.{concat}
use Rattle.std.proofs.lemmas.Bool.Decides.{nat_tests}
use Rattle.std.proofs.lemmas.List.{append_assoc, append-nil, length-append, drop-append-le, length-map, map-append, take-append-le, take_all}
use Rattle.std.proofs.Math.Seq.{take-append_seam}
use Rattle.ascii_text.specs.Lines.{full_lines, line_of, lines_of, ends_in_newline}
use Rattle.dd_file.specs.Position.{Position, longest_input, longest_lookahead}
use Rattle.dd_file.specs.Script.{FirstItem, NoItem, Ended, Open, result_of, lines_left}
use Rattle.dd_file.specs.Grammar.{Next, Parsed, Faulty, next_of, from_first_item, with_count, is_too_long, full_lines_within}
use Rattle.dd_file.specs.ReaderState.{ReaderState}
use Rattle.dd_file.specs.Answer.{ReadsOn, next_in_answer, fault_of}
use Rattle.dd_file.specs.Buffered.{IsFirstBuffered, is_first_buffered, within_limit, whole_lines, is_ended, passed, ended}
use Rattle.dd_file.specs.Draft.{BegunItem, IsBegun, IsGrammar, DraftOf, DraftOfAll, opened, item_result}
use Rattle.dd_file.specs.declared.scan.Scan.{Scan}
use Rattle.dd_file.specs.declared.fault.SyntaxFault.{SyntaxFault}
use Rattle.dd_file.specs.declared.fault.FileFault.{FileFault}
use Rattle.dd_file.specs.declared.fault.FileFault.TheVariants.{InputTooLong}
use Rattle.dd_file.proofs.TextLines.TextAfter.{full_lines-append, full_lines_within-whole}
use Rattle.dd_file.proofs.Reading.NoNewline.{none-in, whole-lines}
use Rattle.dd_file.proofs.Reading.BufferFilled.{Filled, answer-passed, answer-ended}
use Rattle.dd_file.proofs.Reading.LinesOfDraft.{draft-clear}
use Rattle.dd_file.proofs.ScriptGrammar.AllItems.{concat-full_lines}

opened-is : {A : Type 0} (result : Option (Result A SyntaxFault)) → (result_of (opened result) ≡ result) × (lines_left (opened result) ≡ [])
opened-is None = (refl, refl)
opened-is (Some result) = (refl, refl)

item_result-some : {A : Type 0} (numbered : ℕ → A → A) (first last : ℕ) (result : Option (Result A SyntaxFault)) (found : Result A SyntaxFault) → result ≡ Some found → item_result numbered first last result ≡ Ok None → ⊥
item_result-some numbered first last result (Ok item) is none = let bad = sym (ap (item_result numbered first last) is) ∙ none in cc
item_result-some numbered first last result (Err fault) is none = let bad = sym (ap (item_result numbered first last) is) ∙ none in cc

-- the same result by other numbers
result-at : {A : Type 0} (numbered : ℕ → A → A) (before before_is last last_is : ℕ) (result : Option (Result A SyntaxFault)) → before ≡ before_is → last ≡ last_is →
    item_result numbered (before + 1) last result ≡ item_result numbered (before_is + 1) last_is result
result-at numbered before before_is last last_is result b l = ap (λ n. item_result numbered (n + 1) last result) b ∙ ap (λ n. item_result numbered (before_is + 1) n result) l

-- an item of these lines, or its error, comes next
counted : {A : Type 0} (numbered : ℕ → A → A) (state : ReaderState) (is_ended : Bool) (whole rest more : List ℕ) (result : Result A SyntaxFault) → state.buffered ≡ whole ++ rest →
    full_lines (state.buffered ++ more) ≡ full_lines whole ++ full_lines (rest ++ more) →
    with_count numbered (length (full_lines whole)) result state.position (state.buffered ++ more)
    ≡ next_in_answer (record (passed state (length (full_lines whole)) (length whole)) { is_ended = is_ended }) more (item_result numbered (state.position.lines + 1) (state.position.lines + length (full_lines whole)) (Some result))
counted numbered state is_ended whole rest more (Err fault) is parts = refl
counted {A} numbered state is_ended whole rest more (Ok item) is parts =
    let count = length (full_lines whole) in
    let parsed : ℕ → List ℕ → Next A = λ n left. Parsed (numbered (state.position.lines + 1) item) (record { lines = state.position.lines + count; bytes = state.position.bytes + n }) left in
    let size : length (concat (take count (full_lines (state.buffered ++ more)))) ≡ length whole =
    ap (λ ps. length (concat (take count ps))) parts ∙ ap (λ ps. length (concat ps)) (take-append_seam (full_lines whole) (full_lines (rest ++ more))) ∙ ap length (concat-full_lines whole) in
    let left : drop (length whole) (state.buffered ++ more) ≡ drop (length whole) state.buffered ++ more =
    drop-append-le (length whole) state.buffered more (omega (arith, ap length is, length-append whole rest)) in
    ap (λ n. parsed n (drop n (state.buffered ++ more))) size ∙ ap (parsed (length whole)) left

module _ {A D : Type 0} {first : List (List ℕ) → FirstItem A} {begun : D → BegunItem A} {Fits : D → Type 0} (known : (draft : D) → Fits draft → IsBegun (begun draft)) (draft : D) where
  -- a draft that is not done
  draft-first : (scan : Scan) (bytes : List ℕ) (d : DraftOf first begun Fits draft scan bytes) → (begun draft).is_done ≡ false → first (lines_of d.whole) ≡ opened (begun draft).result
  draft-first scan bytes d open_end = ap first (sym (append-nil (lines_of d.whole))) ∙ sym (d.first_item []) ∙ (known draft d.fits).open_end open_end

  -- no item ends in what is buffered
  pub open-buffered : (scan : Scan) (state : ReaderState) (bytes : List ℕ) → bytes ≡ within_limit state → DraftOf first begun Fits draft scan bytes → (begun draft).is_done ≡ false → scan.bytes + scan.searched ≡ length bytes → IsFirstBuffered first state → ⊥
  open-buffered scan state bytes same d open_end searched buffered =
      let all : bytes ≡ state.buffered = same ∙ take_all (longest_input - state.position.bytes) state.buffered (omega (arith, buffered.limit)) in
      let lines : whole_lines bytes ≡ lines_of d.whole = ap whole_lines d.is ∙ ap (map line_of) (whole-lines d.whole d.rest d.ends (none-in d.rest (draft-clear d searched))) in
      let none : is_first_buffered first bytes ≡ false = ap (λ ls. is_ended (first ls)) lines ∙ ap is_ended (draft-first scan bytes d open_end) ∙ at (begun draft).result in
      let enough : is_first_buffered first bytes ≡ true = ap (is_first_buffered first) all ∙ buffered.enough in
      let bad = sym none ∙ enough in cc where
        at : (r : Option (Result A SyntaxFault)) → is_ended (opened r) ≡ false
        at r = grind arith

  module _ (numbered : ℕ → A → A) where
    -- no item ends within the limit
    pub item-too_long : (limit : ℕ) (position : Position) (buffered more : List ℕ) (scan : Scan) → DraftOf first begun Fits draft scan (take (limit - position.bytes) buffered) → (begun draft).is_done ≡ false →
        scan.bytes + scan.searched ≡ length (take (limit - position.bytes) buffered) → limit < position.bytes + length buffered → next_of first numbered limit position (buffered ++ more) ≡ Faulty (InputTooLong (position.lines + 1))
    item-too_long limit position buffered more scan d open_end searched passes =
        let cut : take (limit - position.bytes) (buffered ++ more) ≡ d.whole ++ d.rest = take-append-le (limit - position.bytes) buffered more (omega (arith, passes)) ∙ d.is in
        let clear = none-in d.rest (draft-clear d searched) in
        let lines : map line_of (filter ends_in_newline (full_lines (take (limit - position.bytes) (buffered ++ more)))) ≡ lines_of d.whole =
        ap (λ t. map line_of (filter ends_in_newline (full_lines t))) cut ∙ ap (map line_of) (whole-lines d.whole d.rest d.ends clear) in
        rw long (ap (λ ls. from_first_item numbered true (length ls) (first ls) position (buffered ++ more)) lines
        ∙ ap (λ f. from_first_item numbered true (length (lines_of d.whole)) f position (buffered ++ more)) (draft-first scan (take (limit - position.bytes) buffered) d open_end) ∙ at (begun draft).result) where
          long : is_too_long limit position (buffered ++ more) ≡ true
          long = let len = length-append buffered more in grind (arith, nat_tests)

          at : (r : Option (Result A SyntaxFault)) → from_first_item numbered true (length (lines_of d.whole)) (opened r) position (buffered ++ more) ≡ Faulty (InputTooLong (position.lines + 1))
          at r = grind arith

    -- the item is done
    item-passed : (limit : ℕ) (state : ReaderState) (more : List ℕ) (scan : Scan) → DraftOf first begun Fits draft scan state.buffered → (begun draft).is_done ≡ true → state.position.bytes + scan.bytes ≤ limit →
        next_of first numbered limit state.position (state.buffered ++ more)
        ≡ next_in_answer (passed state scan.lines scan.bytes) more (item_result numbered (state.position.lines + 1) (state.position.lines + scan.lines) (begun draft).result)
    item-passed limit state more scan d done fits =
        let end = (known draft d.fits).ended done in
        let consumed = d.consumed in
        let within = full_lines_within-whole limit state.position d.whole (d.rest ++ more) d.ends (omega (arith, fits, consumed)) in
        let after = map line_of within.0 in
        let bytes : state.buffered ++ more ≡ d.whole ++ (d.rest ++ more) = ap (λ t. t ++ more) d.is ∙ append_assoc d.whole d.rest more in
        let lines : map line_of (full_lines_within limit state.position (state.buffered ++ more)) ≡ lines_of d.whole ++ after =
        ap (λ t. map line_of (full_lines_within limit state.position t)) bytes ∙ ap (map line_of) within.1 ∙ map-append line_of (full_lines d.whole) within.0 in
        let too_long = is_too_long limit state.position (state.buffered ++ more) in
        let all = length-append (lines_of d.whole) after in
        let own = length-map (full_lines d.whole) line_of in
        let count : length (lines_of d.whole ++ after) - length after ≡ length (full_lines d.whole) = omega (arith, all, own) in
        rw (d.count, consumed, end.is) (ap (λ ls. from_first_item numbered too_long (length ls) (first ls) state.position (state.buffered ++ more)) lines
        ∙ ap (λ f. from_first_item numbered too_long (length (lines_of d.whole ++ after)) f state.position (state.buffered ++ more)) (sym (d.first_item after) ∙ end.ended after)
        ∙ ap (λ n. with_count numbered n end.result state.position (state.buffered ++ more)) count
        ∙ counted numbered state state.is_ended d.whole d.rest more end.result d.is (ap full_lines bytes ∙ full_lines-append d.whole (d.rest ++ more) d.ends))

    -- the first item of all lines of the input
    item-ended : (limit : ℕ) (state : ReaderState) (count : ℕ) → DraftOfAll first begun Fits draft count state.buffered → state.position.bytes + length state.buffered ≤ limit →
        next_of first numbered limit state.position state.buffered
        ≡ next_in_answer (ended state count) [] (item_result numbered (state.position.lines + 1) (state.position.lines + count) (begun draft).result)
    item-ended limit state count d fits = rw (short, d.count, ← result.0) (at (first (lines_of bytes)) result.1) where
      bytes : List ℕ
      bytes = state.buffered

      short : is_too_long limit state.position bytes ≡ false
      short = grind (arith, nat_tests)

      lines : length (lines_of bytes) ≡ length (full_lines bytes)
      lines = length-map (full_lines bytes) line_of

      result : (result_of (first (lines_of bytes)) ≡ (begun draft).result) × (lines_left (first (lines_of bytes)) ≡ [])
      result = at (begun draft).is_done refl where
        at : (done : Bool) → (begun draft).is_done ≡ done → (result_of (first (lines_of bytes)) ≡ (begun draft).result) × (lines_left (first (lines_of bytes)) ≡ [])
        at true done = let end = (known draft d.fits).ended done in let same = sym d.first_item ∙ end.ended [] in (ap result_of same ∙ sym end.is, ap lines_left same)
        at false open_end =
            let is = opened-is (begun draft).result in
            let same = sym d.first_item ∙ (known draft d.fits).open_end open_end in (ap result_of same ∙ is.0, ap lines_left same ∙ is.1)

      all : (n : ℕ) (r : Result A SyntaxFault) → n ≡ length (full_lines bytes) →
          with_count numbered n r state.position bytes
          ≡ next_in_answer (ended state (length (full_lines bytes))) [] (item_result numbered (state.position.lines + 1) (state.position.lines + length (full_lines bytes)) (Some r))
      all n r e =
          ap (λ m. with_count numbered m r state.position bytes) e ∙ ap (with_count numbered (length (full_lines bytes)) r state.position) (sym (append-nil bytes))
          ∙ counted numbered state true bytes [] [] r (sym (append-nil bytes)) (ap full_lines (append-nil bytes) ∙ sym (append-nil (full_lines bytes)))

      at : (found : FirstItem A) → lines_left found ≡ [] → from_first_item numbered false (length (lines_of bytes)) found state.position bytes
          ≡ next_in_answer (ended state (length (full_lines bytes))) [] (item_result numbered (state.position.lines + 1) (state.position.lines + length (full_lines bytes)) (result_of found))
      at NoItem none = refl
      at (Ended r left) none = let nothing = ap length none in all (length (lines_of bytes) - length left) r (omega (arith, lines, nothing))
      at (Open r) none = all (length (lines_of bytes)) r lines

    module _ {IsFault : Position → FileFault → Type 0} (grammar : IsGrammar (next_of first numbered longest_input) IsFault) {R : Type 0} {remaining : R → Option (List ℕ)} {has_failed : R → Bool}
        (old now new : ReaderState) (before after : R) (result : Result (Option A) FileFault) (first_line last_line : ℕ) (filled : Filled remaining has_failed old now before after) (faultless : old.fault ≡ None) (unended : old.is_ended ≡ false) where
      pub item-reads : (scan : Scan) → DraftOf first begun Fits draft scan now.buffered → (begun draft).is_done ≡ true → now.position.bytes + scan.bytes ≤ longest_input →
          length now.buffered ≤ scan.bytes + longest_lookahead → new ≡ passed now scan.lines scan.bytes → new.position.lines ≤ longest_input →
          result ≡ item_result numbered (first_line + 1) last_line (begun draft).result → first_line ≡ old.position.lines → last_line ≡ new.position.lines →
          ReadsOn remaining has_failed (next_of first numbered longest_input) IsFault old (record new { fault = fault_of result }) before after result
      item-reads scan d done fits ahead passes bound found first_is last_is =
          let found_is = found ∙ result-at numbered first_line old.position.lines last_line (old.position.lines + scan.lines) (begun draft).result first_is
          (last_is ∙ ap (λ (s : ReaderState). s.position.lines) (passes ∙ ap (λ (s : ReaderState). passed s scan.lines scan.bytes) filled.same)) in
          let same = ap (λ (s : ReaderState). s.position.bytes) filled.same in
          let end = (known draft d.fits).ended done in
          rw found_is (answer-passed grammar old faultless unended now before after new scan.lines scan.bytes _ filled passes bound ahead (item_result-some numbered _ _ _ end.result end.is)
          (λ more. item-passed longest_input (record old { buffered = now.buffered }) more scan d done (omega (arith, fits, same))))

      pub last-reads : (count : ℕ) → DraftOfAll first begun Fits draft count now.buffered → count ≤ length now.buffered → IsAtEnd (remaining after) →
          now.position.bytes + length now.buffered ≤ longest_input → new ≡ ended now count → new.position.lines ≤ longest_input →
          result ≡ item_result numbered (first_line + 1) last_line (begun draft).result → first_line ≡ old.position.lines → last_line ≡ new.position.lines →
          ReadsOn remaining has_failed (next_of first numbered longest_input) IsFault old (record new { fault = fault_of result }) before after result
      last-reads count d few over fits ends bound found first_is last_is =
          let found_is = found ∙ result-at numbered first_line old.position.lines last_line (old.position.lines + count) (begun draft).result first_is
          (last_is ∙ ap (λ (s : ReaderState). s.position.lines) (ends ∙ ap (λ (s : ReaderState). ended s count) filled.same)) in
          let same = ap (λ (s : ReaderState). s.position.bytes) filled.same in
          rw found_is (answer-ended grammar old faultless unended now before after new count _ filled ends bound few over
          (item-ended longest_input (record old { buffered = now.buffered }) count d (omega (arith, fits, same))))
