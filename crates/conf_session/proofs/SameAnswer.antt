-- A directive whose input is the same but for white space at line ends is answered the same.
use Rattle.std.proofs.Common.{◌≡◌, ℕ, Bool, true, false, List, refl, sym, ap, ◌∙◌, subst, arith}
use Rattle.std.specs.Prelude.{Option, Some, None, Result, flat_map}
use Rattle.std.specs.List.{list_all}
use Rattle.dd_file.specs.DirectiveText.{DirectiveText}
use Rattle.ascii_text.specs.WhiteSpace.{trimmed}
use Rattle.dd_file.specs.DirectiveLine.{ArgumentText}
use Rattle.dd_file.specs.Laws.{IsSameDirective}
use Rattle.ascii_text.specs.Tokens.{tokens_in}
use Rattle.conf_change.specs.ChangeList.{changes_in, changes_in_tokens}
use Rattle.conf_change.specs.ConfState.{ConfStateLists}
use Rattle.conf_change.specs.ConfStateLine.{line_in, conf_state_in}
use Rattle.conf_change.proofs.Offered.{DenotesConfState-from_some}
use Rattle.conf_session.specs.SessionState.{SessionState}
use Rattle.conf_session.specs.Reply.{Reply}
use Rattle.conf_session.specs.Input.{Input, changes_read, no_change_read, conf_state_read, nothing_read, read_input}
use Rattle.conf_session.specs.Values.{read_arguments}
use Rattle.conf_session.specs.Commands.{row_of, if_read, reply_of, reply_by, reply_to, answered, answer}
use Rattle.conf_session.specs.declared.input.InputKind.{InputKind}
use Rattle.conf_session.specs.declared.input.InputKind.TheVariants.{Changes, NoChange, ConfStateLine, Nothing}
use Rattle.conf_session.specs.ReplyLines.{is_line_byte}
use Rattle.conf_session.proofs.ReplyLines.{saved-bytes}
use Rattle.conf_session.proofs.InputLines.{IsOneLine, has_one, first_line, ends_of, tokens_in-in_lines, trimmed-in_lines}

-- a text with a newline between its two ends is no saved configuration
no-conf_state : (text : List ℕ) → list_all is_line_byte (trimmed text) ≡ false → conf_state_in text ≡ None
no-conf_state text h = at (conf_state_in text) refl where
  at : (actual : Option ConfStateLists) → conf_state_in text ≡ actual → conf_state_in text ≡ None
  at None e = e
  at (Some saved) e = let whole = saved-bytes text saved (DenotesConfState-from_some text saved e) in absurd cc

-- an answer depends on three things of an input: the saved configuration that it denotes, its changes, and whether it is empty
conf_state-same : (input other : List ℕ) → ends_of input ≡ ends_of other → conf_state_in input ≡ conf_state_in other
conf_state-same input other same = at (has_one (ends_of other)) (subst (λ ls. IsOneLine (has_one ls) (first_line ls) (trimmed input)) same (trimmed-in_lines input)) (trimmed-in_lines other) where
  at : (one : Bool) → IsOneLine one (first_line (ends_of other)) (trimmed input) → IsOneLine one (first_line (ends_of other)) (trimmed other) → conf_state_in input ≡ conf_state_in other
  at true e f = ap line_in (e ∙ sym f)
  at false e f = no-conf_state input e ∙ sym (no-conf_state other f)

changes-same : (input other : List ℕ) → ends_of input ≡ ends_of other → changes_in input ≡ changes_in other
changes-same input other same = ap changes_in_tokens (tokens_in-in_lines input ∙ ap (flat_map tokens_in) same ∙ sym (tokens_in-in_lines other))

nothing-same : (input other : List ℕ) → ends_of input ≡ ends_of other → nothing_read input ≡ nothing_read other
nothing-same input other same = grind arith

input-same : (kind : InputKind) (input other : List ℕ) → ends_of input ≡ ends_of other → read_input kind input ≡ read_input kind other
input-same Changes input other same = ap changes_read (changes-same input other same)
input-same NoChange input other same = ap no_change_read (changes-same input other same)
input-same ConfStateLine input other same = ap conf_state_read (conf_state-same input other same)
input-same Nothing input other same = nothing-same input other same

reply-same : (session : SessionState) (again directive : DirectiveText) → again.command ≡ directive.command → again.arguments ≡ directive.arguments → ends_of again.input ≡ ends_of directive.input →
    reply_to session again ≡ reply_to session directive
reply-same session again directive command arguments input =
    let row = row_of directive.command in
    let reply : List ArgumentText → Result Input (List ℕ) → Reply = λ args read. if_read (λ i. if_read (λ values. reply_of row.command session i values) (read_arguments row.parameters args)) read in
    ap (λ name. reply_by (row_of name) session again.input again.arguments) command
    ∙ ap (λ args. reply args (read_input row.input again.input)) arguments
    ∙ ap (reply directive.arguments) (input-same row.input again.input directive.input input)

pub same-answer : (n : ℕ) (actual : List ℕ) (directive again : DirectiveText) (session : SessionState) → IsSameDirective n actual directive again → answer session again ≡ answer session directive
same-answer n actual directive again session same = ap (answered session) (reply-same session again directive same.command same.arguments same.input)
