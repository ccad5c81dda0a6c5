-- The reply of the mode `lines` to each line of its input, which should be one change.
use Rattle.std.specs.Prelude.{ℕ, Bool, ◌==◌, List, [], ◌∷◌, ◌++◌, length, Result, Ok, Err, codes, if◌then◌else◌}
use Rattle.ascii_text.specs.Lines.{newline}
use Rattle.conf_change.specs.Configuration.{Configuration}
use Rattle.conf_change.specs.Outcome.{Outcome, outcome}
use Rattle.conf_change.specs.ChangeList.{BadToken, changes_in}
use Rattle.ascii_text.specs.Tokens.{tokens_in}
use Rattle.conf_change.specs.Text.{config_text, refused_text, bad_token_text}
use Rattle.conf_change.specs.declared.change.Change.{Change}
use Rattle.conf_change.specs.declared.step.Step.TheVariants.{Simple}

-- the effect of a line: a reply, and the configuration afterwards
pub record LineReply : Type 0 where
  pub text : List ℕ
  pub after : Configuration

-- a reply that leaves the configuration as it is
abbrev pub text_alone : Configuration → List ℕ → LineReply
text_alone c text = record { text = text; after = c }

-- the reply to a change: the configuration after it, or why it is refused
abbrev pub reply_to_outcome : Configuration → Outcome → LineReply
reply_to_outcome c (Ok after) = record { text = config_text after; after = after }
reply_to_outcome c (Err refused) = text_alone c (refused_text refused)

-- the reply to the changes of a line, or to its first bad token
abbrev pub reply_to_changes : Configuration → Result (List Change) BadToken → LineReply
reply_to_changes c (Ok changes) = reply_to_outcome c (outcome c (Simple changes))
reply_to_changes c (Err bad) = text_alone c (bad_token_text bad)

-- whether a line has exactly one token
abbrev pub has_one_token : List ℕ → Bool
has_one_token line = length (tokens_in line) == 1

-- the reply to a line: that to its one token, or that one change is expected
abbrev pub line_reply : Configuration → List ℕ → LineReply
line_reply c line = if has_one_token line then reply_to_changes c (changes_in line) else text_alone c (codes "one change expected")

-- the replies to lines, each with a newline, where each line applies to the configuration after those before it
abbrev pub line_replies : Configuration → List (List ℕ) → List ℕ
line_replies c [] = []
line_replies c (line ∷ lines) = let reply = line_reply c line in (reply.text ++ newline) ++ line_replies reply.after lines
