-- Change lists: which changes a text denotes, and what is wrong with a text that denotes none. `v1 l2` makes 1 a voter
-- and 2 a learner.
use Rattle.std.specs.Prelude.{◌≡◌, ◌≢◌, ℕ, ◌<◌, ◌==◌, List, [], ◌∷◌, ◌++◌, length, slice_index, Option, Some, None, Result, Ok, Err, if◌then◌else◌}
use Rattle.std.specs.List.{AllZip}
use Rattle.ascii_text.specs.Tokens.{tokens_in}
use Rattle.ascii_text.specs.Number.{ParsesToNumber, number_in}
use Rattle.conf_change.specs.declared.change.Change.{Change}
use Rattle.conf_change.specs.declared.change.Kind.{Kind}
use Rattle.conf_change.specs.declared.change.Kind.TheVariants.{Voter, Learner, Remove, Update}
use Rattle.conf_change.specs.declared.change_list.TokenFault.{TokenFault}
use Rattle.conf_change.specs.declared.change_list.TokenFault.TheVariants.{UnknownToken, UnknownInput, BadNumber, NoMemory}

-- the letter of a kind: v, l, r or u
abbrev pub letter_of : Kind → ℕ
letter_of Voter = 118
letter_of Learner = 108
letter_of Remove = 114
letter_of Update = 117

-- the token parses to the change: it is the letter of its kind and a number that is its id
pub record ParsesTo (token : List ℕ) (change : Change) : Type 0 where
  pub number : List ℕ
  pub letter_first : token ≡ letter_of change.kind ∷ number
  pub id_after : ParsesToNumber number change.id

-- the text denotes these changes: its tokens parse to them, one token per change
abbrev pub Denotes : List ℕ → List Change → Type 0
Denotes text changes = AllZip ParsesTo (tokens_in text) changes

-- a bad token, with the reason
pub data BadToken : Type 0 where
  unknown_token : List ℕ → BadToken
  unknown_input : List ℕ → BadToken
  bad_number : List ℕ → BadToken

-- the token itself
abbrev pub token_of : BadToken → List ℕ
token_of (unknown_token token) = token
token_of (unknown_input token) = token
token_of (bad_number token) = token

-- the reason is true of the token: it has fewer than two bytes; or it does not begin with a letter of a kind; or it
-- does, and the rest is not a number
abbrev pub HasReason : BadToken → Type 0
HasReason (unknown_token token) = length token < 2
HasReason (unknown_input token) = (1 < length token) × ((kind : Kind) → slice_index token 0 ≢ letter_of kind)
HasReason (bad_number token) = (kind : Kind) × (rest : List ℕ) × (1 < length token) × (token ≡ letter_of kind ∷ rest) × ((number : ℕ) → ¬ (ParsesToNumber rest number))

-- the first bad token: those before it all parse to changes
pub record IsFirstBad (tokens : List (List ℕ)) (bad : BadToken) : Type 0 where
  pub before : List (List ℕ)
  pub after : List (List ℕ)
  pub changes : List Change
  pub position : tokens ≡ before ++ token_of bad ∷ after
  pub parsed : AllZip ParsesTo before changes
  pub reason : HasReason bad

-- the bad token of an error, unless memory ran out
abbrev pub bad_token : TokenFault → Option BadToken
bad_token (UnknownToken token) = Some (unknown_token token.now)
bad_token (UnknownInput token) = Some (unknown_input token.now)
bad_token (BadNumber token) = Some (bad_number token.now)
bad_token NoMemory = None

-- ---- as functions
-- the kind of a letter
abbrev pub kind_in : ℕ → Option Kind
kind_in byte =
    if byte == 118 then Some Voter else (if byte == 108 then Some Learner
    else (if byte == 114 then Some Remove else (if byte == 117 then Some Update else None)))

-- the change of a kind and a number, or a bad token if there is no number
abbrev pub with_number : List ℕ → Kind → Option ℕ → Result Change BadToken
with_number token kind None = Err (bad_number token)
with_number token kind (Some id) = Ok (record { kind = kind; id = id })

-- the change of a kind and the digits after its letter, or a bad token if there is no kind or no number
abbrev pub with_kind : List ℕ → Option Kind → List ℕ → Result Change BadToken
with_kind token None rest = Err (unknown_input token)
with_kind token (Some kind) rest = with_number token kind (number_in rest)

-- the change that a token parses to, or what is wrong with it
abbrev pub change_in : List ℕ → Result Change BadToken
change_in [] = Err (unknown_token [])
change_in (letter ∷ []) = Err (unknown_token (letter ∷ []))
change_in (letter ∷ digit ∷ rest) = with_kind (letter ∷ digit ∷ rest) (kind_in letter) (digit ∷ rest)

-- a change before others, or the first bad token
abbrev pub and_more : Result Change BadToken → Result (List Change) BadToken → Result (List Change) BadToken
and_more (Err bad) others = Err bad
and_more (Ok change) (Err bad) = Err bad
and_more (Ok change) (Ok changes) = Ok (change ∷ changes)

-- the changes of the tokens, or the first bad token
abbrev pub changes_in_tokens : List (List ℕ) → Result (List Change) BadToken
changes_in_tokens [] = Ok []
changes_in_tokens (token ∷ tokens) = and_more (change_in token) (changes_in_tokens tokens)

-- the changes that a text denotes, or its first bad token
abbrev pub changes_in : List ℕ → Result (List Change) BadToken
changes_in text = changes_in_tokens (tokens_in text)
