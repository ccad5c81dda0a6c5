-- Where a mode is in its input between two parts.
use Rattle.std.proofs.Common.{◌≡◌, ◌≤◌, ℕ, Bool, true, false, List, [], ◌∷◌, ◌++◌, length, refl, sym, ◌∙◌, ap, subst, inl, inr, arith, length-append}
use Rattle.std.specs.Prelude.{◌⊎◌, Option, Some, None, Result, Ok, Err}
use Rattle.std.specs.Io.KnownBytes.{IsAtEnd}
use Rattle.std.proofs.lemmas.List.{append_assoc, append-nil, append_cancel_right}
use Rattle.dd_file.specs.Device.{LosesPrefix}
use Rattle.dd_file.specs.Position.{Position, start}
use Rattle.dd_file.specs.Grammar.{Next, Script, script_from, followed}
use Rattle.dd_file.specs.ReaderState.{ReaderState, fresh}
use Rattle.dd_file.specs.Answer.{Agrees, ReadsOn, IsInterrupted, next_in_answer}
use Rattle.dd_file.specs.declared.fault.FileFault.{FileFault}
use Rattle.dd_file.proofs.Offered.{consumes-append, agrees-in_turn}
use Rattle.conf_tool.specs.Answered.{InTurn, script, prepended}

-- known bytes that lose a part at the beginning
pub loses-nothing : (now : Option (List ℕ)) → LosesPrefix now now
loses-nothing None = ([], tt)
loses-nothing (Some bytes) = ([], refl)

pub loses-more : (begin now later : Option (List ℕ)) → LosesPrefix begin now → LosesPrefix now later → LosesPrefix begin later
loses-more begin now later a b = (a.0 ++ b.0, consumes-append begin now later a.0 b.0 a.1 b.1)

-- nothing was read yet
begin-input : (begin : Option (List ℕ)) (input more : List ℕ) → Agrees fresh begin begin input more → input ≡ more
begin-input None input more agrees = absurd agrees
begin-input (Some bytes) input more agrees = agrees.whole ∙ ap (λ t. ([] ++ t) ++ more) (append_cancel_right agrees.bytes_read [] bytes (sym agrees.consumed))

-- Each input that agrees with what was read begins with these parts, before what is read from there on.
pub record Reached {A : Type 0} (next : Position → List ℕ → Next A) (begin now : Option (List ℕ)) (state : ReaderState) (parts : List A) : Type 0 where
  pub consumed : LosesPrefix begin now
  pub ended : state.is_ended ≡ true → IsAtEnd now
  pub open_end : state.fault ≡ None
  pub read : (input more : List ℕ) → Agrees fresh begin now input more → script_from next start input ≡ prepended parts (script_from next state.position (state.buffered ++ more))
  -- each part has a line
  pub few : length parts ≤ state.position.lines

pub reached-begin : {A : Type 0} (next : Position → List ℕ → Next A) (begin : Option (List ℕ)) (state : ReaderState) → state ≡ fresh → Reached next begin begin state []
reached-begin next begin state is_fresh = record {
  consumed = loses-nothing begin;
  ended = λ yes. let bad : true ≡ false = sym yes ∙ ap (λ s. s.is_ended) is_fresh in cc;
  open_end = ap (λ s. s.fault) is_fresh;
  read = λ input more agrees.
      ap (script_from next start) (begin-input begin input more agrees)
      ∙ ap (λ (t : ReaderState). prepended [] (script_from next t.position (t.buffered ++ more))) (sym is_fresh);
  few = omega arith;
}

-- an input by what a call of the reader answers
pub reached-answer : {A R : Type 0} (next : Position → List ℕ → Next A) (remaining : R → Option (List ℕ)) (has_failed : R → Bool) (IsFault : Position → FileFault → Type 0)
    (begin : Option (List ℕ)) (state after : ReaderState) (now later : R) (parts : List A) (result : Result (Option A) FileFault) →
    InTurn next → Reached next begin (remaining now) state parts → ReadsOn remaining has_failed next IsFault state after now later result → (IsInterrupted result → ⊥) →
    (input more : List ℕ) → Agrees fresh begin (remaining later) input more → script_from next start input ≡ prepended parts (followed (script_from next) (next_in_answer after more result))
reached-answer next remaining has_failed IsFault begin state after now later parts result in_turn reached reads uncut input more agrees =
    let turn = agrees-in_turn fresh state begin (remaining now) (remaining later) input more reached.consumed reads.moves.consumed (λ yes. inr (reached.ended yes)) agrees in
    let converted = whole (reads.answers reached.open_end (state.buffered ++ turn.suffix) more turn.second) in
    reached.read input turn.suffix turn.first
    ∙ ap (prepended parts) (in_turn state.position (state.buffered ++ turn.suffix) ∙ ap (followed (script_from next)) converted) where
      whole : {P : Type 0} → IsInterrupted result ⊎ P → P
      whole x0 = grind arith

-- an answer is not cut short
pub ok-uncut : {X : Type 0} (found : X) → IsInterrupted (Ok found) → ⊥
ok-uncut found x1 = grind arith

-- the end of the input
pub reached-end : {A R : Type 0} (next : Position → List ℕ → Next A) (remaining : R → Option (List ℕ)) (has_failed : R → Bool) (IsFault : Position → FileFault → Type 0)
    (begin : Option (List ℕ)) (state after : ReaderState) (now later : R) (parts : List A) →
    InTurn next → Reached next begin (remaining now) state parts → ReadsOn remaining has_failed next IsFault state after now later (Ok None) →
    (input more : List ℕ) → Agrees fresh begin (remaining later) input more → script_from next start input ≡ script parts None
reached-end next remaining has_failed IsFault begin state after now later parts in_turn reached reads input more agrees =
    reached-answer next remaining has_failed IsFault begin state after now later parts (Ok None) in_turn reached reads (ok-uncut None) input more agrees
    ∙ ap (λ items. script items None) (append-nil parts)

-- .. and a fault of it
pub reached-fault : {A R : Type 0} (next : Position → List ℕ → Next A) (remaining : R → Option (List ℕ)) (has_failed : R → Bool) (IsFault : Position → FileFault → Type 0)
    (begin : Option (List ℕ)) (state after : ReaderState) (now later : R) (parts : List A) (fault : FileFault) →
    InTurn next → Reached next begin (remaining now) state parts → ReadsOn remaining has_failed next IsFault state after now later (Err fault) → (IsInterrupted {X = Option A} (Err fault) → ⊥) →
    (input more : List ℕ) → Agrees fresh begin (remaining later) input more → script_from next start input ≡ script parts (Some fault)
reached-fault next remaining has_failed IsFault begin state after now later parts fault in_turn reached reads uncut input more agrees =
    reached-answer next remaining has_failed IsFault begin state after now later parts (Err fault) in_turn reached reads uncut input more agrees
    ∙ ap (λ items. script items (Some fault)) (append-nil parts)

-- some script that begins with these parts, and then this one
pub record HasPart {A : Type 0} (parts : List A) (part : A) (read : Script A) : Type 0 where
  pub rest : Script A
  pub is : read ≡ script (parts ++ part ∷ rest.items) rest.fault

-- the part that was read
pub reached-part : {A R : Type 0} (next : Position → List ℕ → Next A) (remaining : R → Option (List ℕ)) (has_failed : R → Bool) (IsFault : Position → FileFault → Type 0)
    (begin : Option (List ℕ)) (state after : ReaderState) (now later : R) (parts : List A) (part : A) →
    InTurn next → Reached next begin (remaining now) state parts → ReadsOn remaining has_failed next IsFault state after now later (Ok (Some part)) →
    (input more : List ℕ) → Agrees fresh begin (remaining later) input more → HasPart parts part (script_from next start input)
reached-part next remaining has_failed IsFault begin state after now later parts part in_turn reached reads input more agrees = record {
  rest = script_from next after.position (after.buffered ++ more);
  is = reached-answer next remaining has_failed IsFault begin state after now later parts (Ok (Some part)) in_turn reached reads (ok-uncut (Some part)) input more agrees;
}

-- the end that was met stays the end
ended-next : {R : Type 0} (remaining : R → Option (List ℕ)) (was_ended : Bool) (now later : R) →
    (was_ended ≡ true → IsAtEnd (remaining now)) → (was_ended ≡ true → later ≡ now) → (was_ended ≡ true) ⊎ IsAtEnd (remaining later) → IsAtEnd (remaining later)
ended-next remaining was_ended now later ended same (inl was) = subst (λ r. IsAtEnd (remaining r)) (sym (same was)) (ended was)
ended-next remaining was_ended now later ended same (inr at_end) = at_end

pub reached-next : {A R : Type 0} (next : Position → List ℕ → Next A) (remaining : R → Option (List ℕ)) (has_failed : R → Bool) (IsFault : Position → FileFault → Type 0)
    (begin : Option (List ℕ)) (state after : ReaderState) (now later : R) (parts : List A) (part : A) →
    InTurn next → Reached next begin (remaining now) state parts → ReadsOn remaining has_failed next IsFault state after now later (Ok (Some part)) →
    Reached next begin (remaining later) after (parts ++ part ∷ [])
unfolding reached-part
reached-next next remaining has_failed IsFault begin state after now later parts part in_turn reached reads = record {
  consumed = loses-more begin (remaining now) (remaining later) reached.consumed reads.moves.consumed;
  ended = λ yes. ended-next remaining state.is_ended now later reached.ended (λ old. (reads.moves.stays old).0) (reads.moves.met yes);
  open_end = reads.open_end;
  read = λ input more agrees.
      (reached-part next remaining has_failed IsFault begin state after now later parts part in_turn reached reads input more agrees).is
      ∙ ap (λ items. script items (script_from next after.position (after.buffered ++ more)).fault) (sym (append_assoc parts (part ∷ []) (script_from next after.position (after.buffered ++ more)).items));
  few = omega (arith, length-append parts (part ∷ []), reached.few, reads.forward);
}

-- some script that begins with these parts, which is what an input is that agrees with what was read
pub record HasPrefix {A : Type 0} (parts : List A) (read : Script A) : Type 0 where
  pub rest : Script A
  pub is : read ≡ prepended parts rest

pub reached-prefix : {A : Type 0} (next : Position → List ℕ → Next A) (begin now later : Option (List ℕ)) (state : ReaderState) (parts : List A) → Reached next begin now state parts → LosesPrefix now later →
    (input more : List ℕ) → Agrees fresh begin later input more → HasPrefix parts (script_from next start input)
reached-prefix next begin now later state parts reached lost input more agrees =
    let turn = agrees-in_turn fresh state begin now later input more reached.consumed lost (λ yes. inr (reached.ended yes)) agrees in
    record { rest = script_from next state.position (state.buffered ++ turn.suffix); is = reached.read input turn.suffix turn.first }
