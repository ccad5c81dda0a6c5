-- An item or a line while its lines are read from buffered bytes.
use Rattle.std.specs.Prelude.{◌≡◌, ℕ, ◌<◌, ◌≤◌, Bool, true, false, List, [], ◌∷◌, ◌++◌, length, Option, Some, None, option_map, Result, Ok, Err}
use Rattle.std.specs.Borrow.{Bor}
use Rattle.ascii_text.specs.Lines.{full_lines, lines_of}
use Rattle.dd_file.specs.Position.{Position, longest_input}
use Rattle.dd_file.specs.Script.{FirstItem, NoItem, Ended, Open, first_line_of}
use Rattle.dd_file.specs.Grammar.{Next, Over, Parsed, Faulty, fault_between}
use Rattle.dd_file.specs.Answer.{is_read_fault}
use Rattle.dd_file.specs.Buffered.{HasNoNewline, IsInterruption, is_whole_text}
use Rattle.dd_file.specs.declared.scan.Scan.{Scan}
use Rattle.dd_file.specs.declared.fault.FileFault.{FileFault}
use Rattle.dd_file.specs.declared.fault.SyntaxFault.{SyntaxFault}

-- The lines so far of an item: the first item if these lines follow, the item or its error if no line follows, and
-- whether it is complete.
pub record BegunItem (A : Type 0) : Type 0 where
  pub first_with : List (List ℕ) → FirstItem A
  pub result : Option (Result A SyntaxFault)
  pub is_done : Bool

-- no line yet
abbrev pub no_lines : {A : Type 0} → (List (List ℕ) → FirstItem A) → BegunItem A
no_lines first = record { first_with = first; result = None; is_done = false }

-- a line alone: no line yet, or a complete line
abbrev pub begun_line : Option (List ℕ) → BegunItem (List ℕ)
begun_line None = no_lines first_line_of
begun_line (Some line) = record { first_with = Ended (Ok line); result = Some (Ok line); is_done = true }

-- one more line was added
abbrev pub Adds : {A : Type 0} → BegunItem A → List ℕ → BegunItem A → Type 0
Adds old line new = (more : List (List ℕ)) → new.first_with more ≡ old.first_with (line ∷ more)

-- the first item with this result, if a further line could change it
abbrev pub opened : {A : Type 0} → Option (Result A SyntaxFault) → FirstItem A
opened None = NoItem
opened (Some result) = Open result

-- no further line changes the item, and its result is known
pub record IsEnded {A : Type 0} (item : BegunItem A) : Type 0 where
  pub result : Result A SyntaxFault
  pub is : item.result ≡ Some result
  pub ended : (more : List (List ℕ)) → item.first_with more ≡ Ended result more

-- an item is ended once it is complete, and open until then
pub record IsBegun {A : Type 0} (item : BegunItem A) : Type 0 where
  pub ended : item.is_done ≡ true → IsEnded item
  pub open_end : item.is_done ≡ false → item.first_with [] ≡ opened item.result

-- the result of a read: the item at its line, or its error; none if there is no line
abbrev pub item_result : {A : Type 0} → (ℕ → A → A) → ℕ → ℕ → Option (Result A SyntaxFault) → Result (Option A) FileFault
item_result numbered first last None = Ok None
item_result numbered first last (Some (Ok item)) = Ok (Some (numbered first item))
item_result numbered first last (Some (Err fault)) = Err (fault_between first last fault)

-- the result of a read, by a part that was filled if there was one
abbrev pub finished : {A : Type 0} → A → Result Bool FileFault → Result (Option A) FileFault
finished part (Ok true) = Ok (Some part)
finished part (Ok false) = Ok None
finished part (Err fault) = Err fault

-- the result of a read, with the part itself in place of the reference to it
abbrev pub by_value : {A : Type 0} → Result (Option (Bor A)) FileFault → Result (Option A) FileFault
by_value (Ok answer) = Ok (option_map (λ part. part.now) answer)
by_value (Err fault) = Err fault

-- The draft has the lines that end in the first bytes, and the scan counts those lines and bytes. How many of the bytes
-- after them have no newline is noted too.
pub record DraftOf {A D : Type 0} (first : List (List ℕ) → FirstItem A) (begun : D → BegunItem A) (Fits : D → Type 0) (draft : D) (scan : Scan) (bytes : List ℕ) : Type 0 where
  pub whole : List ℕ
  pub rest : List ℕ
  pub is : bytes ≡ whole ++ rest
  pub ends : is_whole_text whole ≡ true
  pub consumed : scan.bytes ≡ length whole
  pub count : scan.lines ≡ length (full_lines whole)
  pub searched : HasNoNewline scan.searched rest
  pub fits : Fits draft
  pub first_item : (more : List (List ℕ)) → (begun draft).first_with more ≡ first (lines_of whole ++ more)

-- The draft has all lines of the bytes, also one without a newline at the end, and this is their number.
pub record DraftOfAll {A D : Type 0} (first : List (List ℕ) → FirstItem A) (begun : D → BegunItem A) (Fits : D → Type 0) (draft : D) (lines : ℕ) (bytes : List ℕ) : Type 0 where
  pub count : lines ≡ length (full_lines bytes)
  pub fits : Fits draft
  pub first_item : (begun draft).first_with [] ≡ first (lines_of bytes)

-- nothing comes next only at the end of the bytes; an item or line has a byte and a line; an error is one of the input
abbrev pub IsSound : {A : Type 0} → (Position → FileFault → Type 0) → Position → List ℕ → Next A → Type 0
IsSound IsFault position bytes Over = bytes ≡ []
IsSound IsFault position bytes (Parsed item after left) = (length left < length bytes) × (position.lines < after.lines)
IsSound {A} IsFault position bytes (Faulty fault) = IsFault position fault × (is_read_fault {X = Option A} (Err fault) ≡ false)

-- what holds of lines and of items alike
pub record IsGrammar {A : Type 0} (next : Position → List ℕ → Next A) (IsFault : Position → FileFault → Type 0) : Type 0 where
  pub sound : (position : Position) (bytes : List ℕ) → IsSound IsFault position bytes (next position bytes)
  pub over : (position : Position) → position.bytes ≤ longest_input → next position [] ≡ Over
  pub interrupted : (position : Position) (fault : FileFault) → IsInterruption fault → IsFault position fault

-- a draft that has no line yet
pub record IsNew {A D : Type 0} (first : List (List ℕ) → FirstItem A) (begun : D → BegunItem A) (Fits : D → Type 0) (draft : D) : Type 0 where
  pub fits : Fits draft
  pub none : begun draft ≡ no_lines first
