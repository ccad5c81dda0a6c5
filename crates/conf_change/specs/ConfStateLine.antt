-- ConfState lines: how one is printed (etcd's `raft.DescribeConfState`), and which ConfState a text denotes (own).
use Rattle.std.specs.Prelude.{◌≡◌, ℕ, Bool, true, false, ◌==◌, List, [], ◌∷◌, ◌++◌, length, take, drop, codes, Option, Some, None, option_map, option_and_then, bytes_eq, if◌then◌else◌}
use Rattle.std.specs.List.{AllZip, join_with_byte, slice_split, position_or_len, before_first}
use Rattle.ascii_text.specs.Tokens.{has_bytes}
use Rattle.ascii_text.specs.WhiteSpace.{trimmed}
use Rattle.ascii_text.specs.Number.{ParsesToNumber, number_in}
use Rattle.conf_change.specs.Text.{spaced_numbers}
use Rattle.conf_change.specs.ConfState.{ConfStateLists}

-- true or false, as it is printed
abbrev pub truth_text : Bool → List ℕ
truth_text truth = if truth then codes "true" else codes "false"

-- the line with these texts in its brackets
abbrev pub bracketed_line : List ℕ → List ℕ → List ℕ → List ℕ → Bool → List ℕ
bracketed_line voters voters_outgoing learners learners_next auto_leave =
    codes "Voters:[" ++ voters ++ codes "] VotersOutgoing:[" ++ voters_outgoing ++ codes "] Learners:[" ++ learners
    ++ codes "] LearnersNext:[" ++ learners_next ++ codes "] AutoLeave:" ++ truth_text auto_leave

-- the line as it is printed: Voters:[1 2] VotersOutgoing:[] Learners:[3] LearnersNext:[] AutoLeave:false
abbrev pub conf_state_text : ConfStateLists → List ℕ
conf_state_text saved =
    bracketed_line (spaced_numbers saved.voters) (spaced_numbers saved.voters_outgoing) (spaced_numbers saved.learners) (spaced_numbers saved.learners_next) saved.auto_leave

-- the text parses to these numbers, which are separated by one space
pub record ParsesToNumbers (text : List ℕ) (numbers : List ℕ) : Type 0 where
  pub tokens : List (List ℕ)
  pub spaced : text ≡ join_with_byte 32 tokens
  pub parsed : AllZip ParsesToNumber tokens numbers

-- the text denotes the ConfState: it is the line of the ConfState, with any white space around it and any leading zeros
-- in its numbers
pub record DenotesConfState (text : List ℕ) (saved : ConfStateLists) : Type 0 where
  pub voters : List ℕ
  pub voters_outgoing : List ℕ
  pub learners : List ℕ
  pub learners_next : List ℕ
  pub line : trimmed text ≡ bracketed_line voters voters_outgoing learners learners_next saved.auto_leave
  pub parsed_voters : ParsesToNumbers voters saved.voters
  pub parsed_voters_outgoing : ParsesToNumbers voters_outgoing saved.voters_outgoing
  pub parsed_learners : ParsesToNumbers learners saved.learners
  pub parsed_learners_next : ParsesToNumbers learners_next saved.learners_next

-- ---- as functions
-- the text after a prefix
abbrev pub after_prefix : List ℕ → List ℕ → Option (List ℕ)
after_prefix prefix text = if bytes_eq (take (length prefix) text) prefix then Some (drop (length prefix) text) else None

-- a number before others, if all are numbers
abbrev pub and_number : Option ℕ → Option (List ℕ) → Option (List ℕ)
and_number None others = None
and_number (Some number) None = None
and_number (Some number) (Some numbers) = Some (number ∷ numbers)

-- the numbers that tokens parse to, if each does
abbrev pub numbers_in_tokens : List (List ℕ) → Option (List ℕ)
numbers_in_tokens [] = Some []
numbers_in_tokens (token ∷ tokens) = and_number (number_in token) (numbers_in_tokens tokens)

-- the byte is a space
abbrev pub is_space_byte : ℕ → Bool
is_space_byte byte = byte == 32

-- the numbers that a text parses to, which are separated by one space; the empty text has none
abbrev pub numbers_in : List ℕ → Option (List ℕ)
numbers_in text = if has_bytes text then numbers_in_tokens (slice_split is_space_byte text) else Some []

-- the byte is the bracket ] that ends a list
abbrev pub is_close : ℕ → Bool
is_close byte = byte == 93

-- the numbers between a prefix and the next closing bracket, and the text from that bracket on
abbrev pub field_in : List ℕ → List ℕ → Option (List ℕ × List ℕ)
field_in prefix text =
    option_and_then (λ rest. option_map (λ numbers. (numbers, drop (position_or_len is_close rest) rest)) (numbers_in (before_first is_close rest))) (after_prefix prefix text)

-- the value of the last field
abbrev pub auto_leave_in : List ℕ → Option Bool
auto_leave_in text =
    if bytes_eq text (codes "] AutoLeave:true") then Some true
    else (if bytes_eq text (codes "] AutoLeave:false") then Some false else None)

-- the function applied to the value, if there is one; `do` below is built on it
infixl 10 ◌>>=◌
abbrev pub ◌>>=◌ : {A B : Type 0} → Option A → (A → Option B) → Option B
first >>= more = option_and_then more first

-- the ConfState of a trimmed line
abbrev pub line_in : List ℕ → Option ConfStateLists
line_in line = do
  voters ← field_in (codes "Voters:[") line
  voters_outgoing ← field_in (codes "] VotersOutgoing:[") voters.1
  learners ← field_in (codes "] Learners:[") voters_outgoing.1
  learners_next ← field_in (codes "] LearnersNext:[") learners.1
  auto_leave ← auto_leave_in learners_next.1
  Some (record { voters = voters.0; voters_outgoing = voters_outgoing.0; learners = learners.0; learners_next = learners_next.0; auto_leave = auto_leave })

-- the ConfState that a text denotes
abbrev pub conf_state_in : List ℕ → Option ConfStateLists
conf_state_in text = line_in (trimmed text)
