-- Printed configurations, read: which ConfState a text such as voters=(2 3)&&(1 2) learners=(4) denotes. Etcd prints
-- these texts (`Config.String` of its package `tracker`); to read them is own.
use Rattle.std.specs.Prelude.{◌≡◌, ℕ, Bool, true, false, ◌||◌, ◌==◌, List, [], ◌∷◌, ◌++◌, flat_map, codes, Option, Some, None, option_and_then, bytes_eq, if◌then◌else◌}
use Rattle.std.specs.List.{AllZip}
use Rattle.ascii_text.specs.Tokens.{tokens_in}
use Rattle.ascii_text.specs.Number.{ParsesToNumber, number_in}
use Rattle.conf_change.specs.ConfState.{ConfStateLists}
use Rattle.conf_change.specs.ConfStateLine.{◌>>=◌}

-- the byte is a token by itself, whatever is beside it: ( or ) or =
abbrev pub is_mark : ℕ → Bool
is_mark byte = byte == 40 || byte == 41 || byte == 61

-- the byte, between two spaces if it is such a mark
abbrev pub spaced_mark : ℕ → List ℕ
spaced_mark byte = if is_mark byte then 32 ∷ byte ∷ 32 ∷ [] else byte ∷ []

-- the tokens of a printed configuration: those of voters=(1 2) are voters = ( 1 2 )
abbrev pub config_tokens_in : List ℕ → List (List ℕ)
config_tokens_in text = tokens_in (flat_map spaced_mark text)

-- tokens between brackets
abbrev pub bracketed : List (List ℕ) → List (List ℕ)
bracketed tokens = codes "(" ∷ tokens ++ codes ")" ∷ []

-- the tokens of a set after those before it, as learners = ( 4 5 ); an empty set is left out
abbrev pub part_tokens : List (List ℕ) → List (List ℕ) → List (List ℕ)
part_tokens before [] = []
part_tokens before (id ∷ ids) = before ++ bracketed (id ∷ ids)

-- the tokens of the printed configuration whose sets have these ones
abbrev pub config_tokens : List (List ℕ) → List (List ℕ) → List (List ℕ) → List (List ℕ) → Bool → List (List ℕ)
config_tokens voters voters_outgoing learners learners_next auto_leave =
    codes "voters" ∷ codes "=" ∷ bracketed voters
    ++ part_tokens (codes "&&" ∷ []) voters_outgoing
    ++ part_tokens (codes "learners" ∷ codes "=" ∷ []) learners
    ++ part_tokens (codes "learners_next" ∷ codes "=" ∷ []) learners_next
    ++ (if auto_leave then codes "autoleave" ∷ [] else [])

-- the text denotes the ConfState: it has the tokens of a printed configuration with these ids, in any order and with
-- any leading zeros
pub record DenotesConfig (text : List ℕ) (saved : ConfStateLists) : Type 0 where
  pub voters : List (List ℕ)
  pub voters_outgoing : List (List ℕ)
  pub learners : List (List ℕ)
  pub learners_next : List (List ℕ)
  pub printed : config_tokens_in text ≡ config_tokens voters voters_outgoing learners learners_next saved.auto_leave
  pub parsed_voters : AllZip ParsesToNumber voters saved.voters
  pub parsed_voters_outgoing : AllZip ParsesToNumber voters_outgoing saved.voters_outgoing
  pub parsed_learners : AllZip ParsesToNumber learners saved.learners
  pub parsed_learners_next : AllZip ParsesToNumber learners_next saved.learners_next

-- ---- as functions
-- the tokens after this one, if it is the first
abbrev pub after_token : List ℕ → List (List ℕ) → Option (List (List ℕ))
after_token expected [] = None
after_token expected (token ∷ tokens) = if bytes_eq token expected then Some tokens else None

-- the tokens after a name and =
abbrev pub after_name : List ℕ → List (List ℕ) → Option (List (List ℕ))
after_name name tokens = option_and_then (after_token (codes "=")) (after_token name tokens)

-- numbers with one more before them, and the tokens after them
abbrev pub before_numbers : Option ℕ → Option (List ℕ × List (List ℕ)) → Option (List ℕ × List (List ℕ))
before_numbers None read = None
before_numbers (Some number) None = None
before_numbers (Some number) (Some read) = Some (number ∷ read.0, read.1)

-- the numbers before a closing bracket, and the tokens after it
abbrev pub numbers_to_close : List (List ℕ) → Option (List ℕ × List (List ℕ))
numbers_to_close [] = None
numbers_to_close (token ∷ tokens) =
    if bytes_eq token (codes ")") then Some ([], tokens) else before_numbers (number_in token) (numbers_to_close tokens)

-- the numbers between brackets, and the tokens after them
abbrev pub set_in : List (List ℕ) → Option (List ℕ × List (List ℕ))
set_in tokens = option_and_then numbers_to_close (after_token (codes "(") tokens)

-- the same if there is a number
abbrev pub with_numbers : List ℕ × List (List ℕ) → Option (List ℕ × List (List ℕ))
with_numbers ([], tokens) = None
with_numbers (number ∷ numbers, tokens) = Some (number ∷ numbers, tokens)

-- the numbers of a part, by the tokens after what it begins with; a part that does not begin is left out
abbrev pub part_in : Option (List (List ℕ)) → List (List ℕ) → Option (List ℕ × List (List ℕ))
part_in None tokens = Some ([], tokens)
part_in (Some rest) tokens = option_and_then with_numbers (set_in rest)

-- whether the last part is there: the tokens are autoleave alone, or none
abbrev pub auto_leave_at_end : List (List ℕ) → Option Bool
auto_leave_at_end [] = Some false
auto_leave_at_end (token ∷ []) = if bytes_eq token (codes "autoleave") then Some true else None
auto_leave_at_end (token ∷ next ∷ tokens) = None

-- the ConfState of the tokens of a printed configuration
abbrev pub config_in_tokens : List (List ℕ) → Option ConfStateLists
config_in_tokens tokens = do
  voters ← option_and_then set_in (after_name (codes "voters") tokens)
  voters_outgoing ← part_in (after_token (codes "&&") voters.1) voters.1
  learners ← part_in (after_name (codes "learners") voters_outgoing.1) voters_outgoing.1
  learners_next ← part_in (after_name (codes "learners_next") learners.1) learners.1
  auto_leave ← auto_leave_at_end learners_next.1
  Some (record { voters = voters.0; voters_outgoing = voters_outgoing.0; learners = learners.0; learners_next = learners_next.0; auto_leave = auto_leave })

-- the ConfState that a printed configuration denotes
abbrev pub config_in : List ℕ → Option ConfStateLists
config_in text = config_in_tokens (config_tokens_in text)
