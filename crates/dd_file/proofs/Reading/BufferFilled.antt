-- What reads that fill the buffer state of the next line or item.
use Rattle.std.proofs.Common.{◌≡◌, ℕ, ◌+◌, ◌≤◌, ◌<◌, Bool, true, false, List, [], ◌++◌, length, refl, sym, ◌∙◌, ap, subst, arith, inl, inr}
use Rattle.std.proofs.Math.Bool.{or-false}
use Rattle.std.proofs.Math.Seq.{drop-length}
use Rattle.std.specs.Prelude.{◌||◌, Option, Some, None, Result, Ok, Err, IfErr, IfOk, IfSome, OnOk}
use Rattle.std.specs.Io.KnownBytes.{Consumes, IsAtEnd}
use Rattle.std.proofs.lemmas.List.{append_assoc, append-nil, append_cancel_right, length-drop}
use Rattle.dd_file.specs.Position.{Position, longest_input, longest_lookahead}
use Rattle.dd_file.specs.Device.{LosesPrefix}
use Rattle.dd_file.specs.Grammar.{Next, Faulty}
use Rattle.dd_file.specs.ReaderState.{ReaderState}
use Rattle.dd_file.specs.Answer.{Agrees, ReadsOn, IsInterrupted, next_in_answer, is_read_fault, fault_of}
use Rattle.dd_file.specs.Buffered.{FilledBy, IsInterruption, passed, ended}
use Rattle.dd_file.specs.Draft.{IsSound, IsGrammar}
use Rattle.dd_file.specs.declared.fault.FileFault.{FileFault}
use Rattle.dd_file.specs.declared.fault.FileFault.TheVariants.{Read, NoMemory, InputTooLong}
use Rattle.dd_file.proofs.ScriptGrammar.CallAfterCall.{consumes-append}

-- Reads that filled the buffer, so that nothing else has changed.
pub record Filled {R : Type 0} (remaining : R → Option (List ℕ)) (has_failed : R → Bool) (old now : ReaderState) (before after : R) : Type 0 where
  pub bytes_read : List ℕ
  pub consumed : Consumes (remaining before) (remaining after) bytes_read
  pub same : now ≡ record old { buffered = now.buffered }
  pub buffered : now.buffered ≡ old.buffered ++ bytes_read
  pub sound : has_failed after ≡ has_failed before

-- an interruption is a failed read or a lack of memory
pub interruption : (P : FileFault → Type 0) → P Read → P NoMemory → (fault : FileFault) → IsInterruption fault → P fault
interruption P read memory Read i = read
interruption P read memory NoMemory i = memory
interruption P read memory fault i = absurd i

keeps : (bytes : Option (List ℕ)) → Consumes bytes bytes []
keeps bytes = grind arith

when-ok : {A P : Type 0} (result : Result A FileFault) → P → OnOk result P
when-ok result p = grind arith

-- what an answer owes, whatever it is
record Owed {A : Type 0} (IsFault : Position → FileFault → Type 0) (position : Position) (buffered : List ℕ) (after : Position) (result : Result (Option A) FileFault) : Type 0 where
  forward : IfOk result (λ value. IfSome value (λ _. position.lines < after.lines))
  kind : IfErr result (IsFault position)
  sound : is_read_fault result ≡ false
  none : result ≡ Ok None → buffered ≡ []
  open_end : OnOk result (fault_of result ≡ None)
  fault : IfErr result (λ fault. fault_of result ≡ Some fault)

owed : {A : Type 0} (IsFault : Position → FileFault → Type 0) (position : Position) (buffered : List ℕ) (new : ReaderState) (result : Result (Option A) FileFault) →
    IsSound IsFault position buffered (next_in_answer new [] result) → Owed IsFault position buffered new.position result
owed IsFault position buffered new (Ok None) is = record { forward = tt; kind = tt; sound = refl; none = λ _. is; open_end = refl; fault = tt }
owed IsFault position buffered new (Ok (Some value)) is = record { forward = is.1; kind = tt; sound = refl; none = λ e. cc; open_end = refl; fault = tt }
owed IsFault position buffered new (Err fault) is = record { forward = tt; kind = is.0; sound = is.1; none = λ e. cc; open_end = tt; fault = refl }

module _ {R : Type 0} {remaining : R → Option (List ℕ)} {has_failed : R → Bool} where
  pub filled-none : (old : ReaderState) (before : R) → Filled remaining has_failed old old before before
  filled-none old before = record { bytes_read = []; consumed = keeps (remaining before); same = refl; buffered = sym (append-nil old.buffered); sound = refl }

  pub filled-more : (old now new : ReaderState) (before between after : R) (some : Bool) → Filled remaining has_failed old now before between → new ≡ record now { buffered = new.buffered } →
      FilledBy now.buffered new.buffered (remaining between) (remaining after) some → has_failed after ≡ (has_failed between || false) → Filled remaining has_failed old new before after
  filled-more old now new before between after some filled same more sound = record {
    bytes_read = filled.bytes_read ++ more.bytes_read;
    consumed = consumes-append (remaining before) (remaining between) (remaining after) filled.bytes_read more.bytes_read filled.consumed more.consumed;
    same = same ∙ ap (λ (s : ReaderState). record s { buffered = new.buffered }) filled.same;
    buffered = more.buffered ∙ ap (λ bytes. bytes ++ more.bytes_read) filled.buffered ∙ append_assoc old.buffered filled.bytes_read more.bytes_read;
    sound = sound ∙ or-false (has_failed between) ∙ filled.sound;
  }

  -- a last read, which gave nothing
  pub filled-last : (old now new : ReaderState) (before between after : R) → Filled remaining has_failed old now before between → new ≡ record now { buffered = new.buffered } →
      FilledBy now.buffered new.buffered (remaining between) (remaining after) false → has_failed after ≡ (has_failed between || false) → (new ≡ now) × Filled remaining has_failed old now before after × IsAtEnd (remaining after)
  filled-last old now new before between after filled same more sound =
      let is : new ≡ now = same ∙ ap (λ bytes. record now { buffered = bytes }) (more.buffered ∙ ap (λ bytes. now.buffered ++ bytes) (more.ended refl).0 ∙ append-nil now.buffered) in
      (is, subst (λ s. Filled remaining has_failed old s before after) is (filled-more old now new before between after false filled same more sound), (more.ended refl).1)

  -- an input that agrees is what is buffered, and more
  filled-input : (old now : ReaderState) (before after : R) (input more : List ℕ) → Filled remaining has_failed old now before after → Agrees old (remaining before) (remaining after) input more →
      (input ≡ now.buffered ++ more) × (IsAtEnd (remaining after) → more ≡ [])
  filled-input old now before after input more filled agrees = at (remaining before) (remaining after) filled.consumed agrees where
    at : (b a : Option (List ℕ)) → Consumes b a filled.bytes_read → Agrees old b a input more → (input ≡ now.buffered ++ more) × (IsAtEnd a → more ≡ [])
    at (Some b) (Some a) consumed agrees =
        let same : agrees.bytes_read ≡ filled.bytes_read = append_cancel_right _ _ _ (sym agrees.consumed ∙ consumed) in
        (agrees.whole ∙ ap (λ t. (old.buffered ++ t) ++ more) same ∙ ap (λ bytes. bytes ++ more) (sym filled.buffered), agrees.last)
    at (Some b) None consumed agrees = absurd agrees
    at None a consumed agrees = absurd agrees

  module _ {A : Type 0} {next : Position → List ℕ → Next A} {IsFault : Position → FileFault → Type 0} (grammar : IsGrammar next IsFault) (old : ReaderState) (faultless : old.fault ≡ None) where
    module _ (unended : old.is_ended ≡ false) (now : ReaderState) (before : R) where
      -- the answer is what comes next after what is buffered, whatever more comes
      answered : (after : R) (new : ReaderState) (result : Result (Option A) FileFault) → Filled remaining has_failed old now before after → (new.is_ended ≡ true → IsAtEnd (remaining after)) →
          ((more : List ℕ) → (new.is_ended ≡ true → more ≡ []) → next old.position (now.buffered ++ more) ≡ next_in_answer new more result) → OnOk result (new.position.lines ≤ longest_input) →
          OnOk result (length new.buffered ≤ longest_lookahead) → (result ≡ Ok None → now.buffered ≡ [] → (new.buffered ≡ []) × (new.is_ended ≡ true) × (new.position ≡ old.position)) →
          ReadsOn remaining has_failed next IsFault old (record new { fault = fault_of result }) before after result
      answered after new result filled met is_next counted lookahead finished = record {
        answers = λ _ input more agrees. let is = filled-input old now before after input more filled agrees in inr (ap (next old.position) is.0 ∙ is_next more (λ e. is.1 (met e)));
        moves = record { consumed = (filled.bytes_read, filled.consumed); met = λ e. inr (met e); stays = λ was. cc };
        forward = owes.forward;
        counted = counted;
        lookahead = lookahead;
        finished = λ e. let h = finished e (owes.none e) in (record { fault = ap fault_of e; buffered = h.0; ended = h.1 }, h.2);
        over = λ is_over. let was = is_over.ended in cc;
        open_end = owes.open_end;
        fault = owes.fault;
        again = rw faultless tt;
        kind = λ _. owes.kind;
        read = λ _. filled.sound ∙ sym (or-false (has_failed before)) ∙ ap (λ b. has_failed before || b) (sym owes.sound);
      } where
        owes : Owed IsFault old.position now.buffered new.position result
        owes = owed IsFault old.position now.buffered new result (subst (IsSound IsFault old.position now.buffered) (ap (next old.position) (sym (append-nil now.buffered)) ∙ is_next [] (λ _. refl)) (grammar.sound old.position now.buffered))

      -- these lines and bytes of the buffer make the item or line
      pub answer-passed : (after : R) (new : ReaderState) (lines bytes : ℕ) (result : Result (Option A) FileFault) → Filled remaining has_failed old now before after → new ≡ passed now lines bytes →
          new.position.lines ≤ longest_input → length now.buffered ≤ bytes + longest_lookahead → (result ≡ Ok None → ⊥) →
          ((more : List ℕ) → next old.position (now.buffered ++ more) ≡ next_in_answer (passed (record old { buffered = now.buffered }) lines bytes) more result) →
          ReadsOn remaining has_failed next IsFault old (record new { fault = fault_of result }) before after result
      answer-passed after new lines bytes result filled is counted ahead some is_next =
          let new_is : new ≡ passed (record old { buffered = now.buffered }) lines bytes = is ∙ ap (λ (s : ReaderState). passed s lines bytes) filled.same in
          rw new_is (answered after (passed (record old { buffered = now.buffered }) lines bytes) result filled (λ was. cc) (λ more _. is_next more)
          (when-ok result (rw new_is at counted)) (when-ok result (simp length-drop (omega (arith, ahead)))) (λ e. absurd (some e)))

      -- all that is buffered makes it, or nothing is, and the input has ended
      pub answer-ended : (after : R) (new : ReaderState) (lines : ℕ) (result : Result (Option A) FileFault) → Filled remaining has_failed old now before after → new ≡ ended now lines →
          new.position.lines ≤ longest_input → lines ≤ length now.buffered → IsAtEnd (remaining after) →
          next old.position now.buffered ≡ next_in_answer (ended (record old { buffered = now.buffered }) lines) [] result →
          ReadsOn remaining has_failed next IsFault old (record new { fault = fault_of result }) before after result
      answer-ended after new lines result filled is counted few over is_next =
          let new_is : new ≡ ended (record old { buffered = now.buffered }) lines = is ∙ ap (λ (s : ReaderState). ended s lines) filled.same in
          let left = drop-length now.buffered in
          rw new_is (answered after (ended (record old { buffered = now.buffered }) lines) result filled (λ _. over)
          (λ more nothing. rw (nothing refl, append-nil now.buffered) is_next)
          (when-ok result (rw new_is at counted)) (when-ok result (rw left (omega arith)))
          (λ _ none. (left, refl, at lines (length now.buffered) (ap length none) few))) where
            at : (lines bytes : ℕ) → bytes ≡ 0 → lines ≤ bytes → record { lines = old.position.lines + lines; bytes = old.position.bytes + bytes } ≡ old.position
            at lines bytes none few =
                let l : old.position.lines + lines ≡ old.position.lines = omega (arith, none, few) in
                let b : old.position.bytes + bytes ≡ old.position.bytes = omega (arith, none) in
                ap (λ n. record { lines = n; bytes = old.position.bytes + bytes }) l ∙ ap (λ n. record { lines = old.position.lines; bytes = n }) b

      -- the limit was passed
      pub answer-too_long : (after : R) (line : ℕ) → Filled remaining has_failed old now before after → ((more : List ℕ) → next old.position (now.buffered ++ more) ≡ Faulty (InputTooLong line)) →
          ReadsOn remaining has_failed next IsFault old (record now { fault = Some (InputTooLong line) }) before after (Err (InputTooLong line))
      answer-too_long after line filled long =
          answered after now (Err (InputTooLong line)) filled (λ e. let same = ap (λ (s : ReaderState). s.is_ended) filled.same in cc) (λ more _. long more) tt tt (λ e _. cc)

      -- reading was interrupted, after reads that filled the buffer
      pub interrupted : (between after : R) (new : ReaderState) (fault : FileFault) → Filled remaining has_failed old now before between → LosesPrefix (remaining between) (remaining after) →
          new ≡ record now { buffered = new.buffered } → has_failed after ≡ (has_failed between || is_read_fault {X = Bool} (Err fault)) → IsInterruption fault →
          ReadsOn remaining has_failed next IsFault old (record new { fault = Some fault }) before after (Err fault)
      interrupted between after new fault filled lost same sound interrupts = record {
        answers = λ _ input more agrees. inl (interruption (λ f. IsInterrupted {X = Option A} (Err f)) (inl refl) (inr refl) fault interrupts);
        moves = record {
          consumed = (filled.bytes_read ++ lost.0, consumes-append (remaining before) (remaining between) (remaining after) filled.bytes_read lost.0 filled.consumed lost.1);
          met = λ e. let open_end = ap (λ (s : ReaderState). s.is_ended) (same ∙ ap (λ (s : ReaderState). record s { buffered = new.buffered }) filled.same) in cc;
          stays = λ was. cc;
        };
        forward = tt;
        counted = tt;
        lookahead = tt;
        finished = λ e. cc;
        over = λ is_over. let was = is_over.ended in cc;
        open_end = tt;
        fault = refl;
        again = rw faultless tt;
        kind = λ _. grammar.interrupted old.position fault interrupts;
        read = λ _. sound ∙ ap (λ b. b || is_read_fault {X = Bool} (Err fault)) filled.sound ∙ ap (λ b. has_failed before || b) (same-read fault);
      } where
        same-read : (fault : FileFault) → is_read_fault {X = Bool} (Err fault) ≡ is_read_fault {X = Option A} (Err fault)
        same-read fault = grind arith

      -- no memory is left, with no read after those that filled the buffer
      pub no-memory : (after : R) (new : ReaderState) → Filled remaining has_failed old now before after → new ≡ record now { buffered = new.buffered } →
          ReadsOn remaining has_failed next IsFault old (record new { fault = Some NoMemory }) before after (Err NoMemory)
      no-memory after new filled same = interrupted after after new NoMemory filled ([], keeps (remaining after)) same (sym (or-false (has_failed after))) tt
