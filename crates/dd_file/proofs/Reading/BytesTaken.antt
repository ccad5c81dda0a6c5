-- What holds of whatever comes next: items and lines have bytes, and their errors are those of the input.
use Rattle.std.proofs.Common.{◌≡◌, ℕ, zero, suc, ◌+◌, ◌-◌, ◌<◌, ◌≤◌, Bool, true, false, List, [], ◌∷◌, length, take, drop, map, refl, sym, ◌∙◌, ap, subst, arith, rules}
use Rattle.std.specs.Prelude.{Option, Some, None, Result, Ok, Err}
use Rattle.std.specs.List.{concat}
use Rattle.std.proofs.lemmas.List.{length-append, length-drop}
use Rattle.ascii_text.specs.Lines.{full_lines, line_of}
use Rattle.dd_file.specs.Script.{FirstItem, NoItem, Ended, Open, result_of, first_of, first_line_of, at_line}
use Rattle.dd_file.specs.Position.{Position, longest_input}
use Rattle.dd_file.specs.Grammar.{next_line, next_item, from_first_item, with_count, at_end, is_too_long, full_lines_within}
use Rattle.dd_file.specs.InOrder.{TakesBytes}
use Rattle.dd_file.specs.Answer.{IsLineFault, IsItemFault}
use Rattle.dd_file.specs.Draft.{IsBegun, IsSound, IsGrammar, begun_line}
use Rattle.dd_file.specs.Items.{Item}
use Rattle.dd_file.specs.declared.fault.SyntaxFault.{SyntaxFault}
use Rattle.dd_file.specs.declared.fault.SyntaxFault.TheVariants.{BadDirective, AfterDouble, UnclosedDouble}
use Rattle.dd_file.specs.declared.fault.FileFault.{FileFault}
use Rattle.dd_file.specs.declared.fault.FileFault.TheVariants.{InputTooLong}
use Rattle.ascii_text.proofs.Offered.{full_lines-first, first_len-some, length-first}
use Rattle.dd_file.proofs.Reading.BufferFilled.{interruption}
use Rattle.dd_file.proofs.ScriptGrammar.MoreLines.{fewest, first_of-left, first_of-fewest, first_of-none}

-- this many full lines, at least one, have a byte
full_lines-some : (count : ℕ) (bytes : List ℕ) → 0 < count → 0 < length bytes → 0 < length (concat (take count (full_lines bytes)))
full_lines-some zero bytes some has = absurd (omega (arith, some))
full_lines-some (suc count) bytes some has = grind (arith, first_len-some, length-first, length-append, full_lines-first)

drop-shorter : (consumed : ℕ) (bytes : List ℕ) → 0 < consumed → 0 < length bytes → length (drop consumed bytes) < length bytes
drop-shorter consumed bytes some has = simp length-drop (omega (arith, some, has))

-- no bytes have no full lines, and others have one within the limit
none-within : (limit : ℕ) (position : Position) → full_lines_within limit position [] ≡ []
none-within limit position = grind arith

some-within : {P : Type 0} (limit : ℕ) (position : Position) (b : ℕ) (bytes : List ℕ) → is_too_long limit position (b ∷ bytes) ≡ false → full_lines_within limit position (b ∷ bytes) ≡ [] → P
some-within limit position b bytes short none = let bad = sym (full_lines-first (b ∷ bytes) (omega arith)) ∙ rw short at none in cc

within : (limit : ℕ) (position : Position) → position.bytes ≤ limit → is_too_long limit position [] ≡ false
within limit position le = search (rules, arith)

-- no byte is left
end-sound : (A : Type 0) (IsFault : Position → FileFault → Type 0) (position : Position) → IsFault position (InputTooLong (position.lines + 1)) → (c : Bool) → IsSound {A = A} IsFault position [] (at_end c position)
end-sound A IsFault position fault true = (fault, refl)
end-sound A IsFault position fault false = refl

next_line-sound : (limit : ℕ) (position : Position) (bytes : List ℕ) → IsSound IsLineFault position bytes (next_line limit position bytes)
next_line-sound limit position [] = rw (none-within limit position) (end-sound (List ℕ) IsLineFault position refl (is_too_long limit position []))
next_line-sound limit position (b ∷ bytes) = at (is_too_long limit position (b ∷ bytes)) refl (full_lines_within limit position (b ∷ bytes)) refl where
  at : (c : Bool) → is_too_long limit position (b ∷ bytes) ≡ c → (ps : List (List ℕ)) → full_lines_within limit position (b ∷ bytes) ≡ ps →
      IsSound IsLineFault position (b ∷ bytes) (from_first_item (λ first line. line) c (length (map line_of ps)) (first_line_of (map line_of ps)) position (b ∷ bytes))
  at true long [] is = (refl, refl)
  at false short [] is = some-within limit position b bytes short is
  at c is_c (p ∷ ps) is = (drop-shorter _ (b ∷ bytes) (full_lines-some _ (b ∷ bytes) (omega arith) (omega arith)) (omega arith), omega arith)

next_item-sound : (limit : ℕ) (position : Position) (bytes : List ℕ) → IsSound IsItemFault position bytes (next_item limit position bytes)
next_item-sound limit position [] = rw (none-within limit position) (end-sound Item IsItemFault position refl (is_too_long limit position []))
next_item-sound limit position (b ∷ bytes) = at (is_too_long limit position (b ∷ bytes)) refl (first_of lines) refl where
  lines : List (List ℕ)
  lines = map line_of (full_lines_within limit position (b ∷ bytes))

  counted : (count : ℕ) (result : Result Item SyntaxFault) → fewest result ≤ count → IsSound IsItemFault position (b ∷ bytes) (with_count at_line count result position (b ∷ bytes))
  counted count (Ok item) some = (drop-shorter _ (b ∷ bytes) (full_lines-some count (b ∷ bytes) (omega (arith, some)) (omega arith)) (omega arith), omega (arith, some))
  counted count (Err BadDirective) some = (refl, refl)
  counted count (Err UnclosedDouble) some = (refl, refl)
  counted count (Err AfterDouble) some = (omega (arith, some), refl)

  no-lines : (ps : List (List ℕ)) → map line_of ps ≡ [] → ps ≡ []
  no-lines [] none = refl
  no-lines (p ∷ ps) none = cc

  at : (c : Bool) → is_too_long limit position (b ∷ bytes) ≡ c → (first : FirstItem Item) → first_of lines ≡ first → IsSound IsItemFault position (b ∷ bytes) (from_first_item at_line c (length lines) first position (b ∷ bytes))
  at true long NoItem is = (refl, refl)
  at false short NoItem is = some-within limit position b bytes short (no-lines _ (first_of-none lines (ap result_of is)))
  at c is_c (Ended result left) is =
      let own = first_of-left lines left result is in
      let some = own.some in
      let all = ap length own.is in
      let len = length-append own.own left in
      counted (length lines - length left) result (omega (arith, some, all, len))
  at true long (Open result) is = (refl, refl)
  at false short (Open result) is = counted (length lines) result (first_of-fewest lines result (ap result_of is))

pub next_line-grammar : IsGrammar (next_line longest_input) IsLineFault
next_line-grammar = record { sound = next_line-sound longest_input; over = λ position fits. rw (none-within longest_input position, within longest_input position fits) refl; interrupted = λ position. interruption (IsLineFault position) tt tt }

pub next_item-grammar : IsGrammar (next_item longest_input) IsItemFault
next_item-grammar = record { sound = next_item-sound longest_input; over = λ position fits. rw (none-within longest_input position, within longest_input position fits) refl; interrupted = λ position. interruption (IsItemFault position) tt tt }

pub next_line-takes : (limit : ℕ) → TakesBytes (next_line limit)
next_line-takes limit position suffix bytes left line e = (subst (IsSound IsLineFault position bytes) e (next_line-sound limit position bytes)).0

pub next_item-takes : (limit : ℕ) → TakesBytes (next_item limit)
next_item-takes limit position suffix bytes left item e = (subst (IsSound IsItemFault position bytes) e (next_item-sound limit position bytes)).0

-- a line, which is complete once it is there
pub begun_line-is : (line : Option (List ℕ)) → IsBegun (begun_line line)
begun_line-is None = record { ended = λ done. cc; open_end = λ _. refl }
begun_line-is (Some line) = record { ended = λ _. record { result = Ok line; is = refl; ended = λ more. refl }; open_end = λ done. cc }
