-- What the modes for scripts write of each item: `check` a report, `rewrite` and `undo` the item with its actual
-- output.
use Rattle.std.specs.Prelude.{ℕ, Bool, false, not, List, [], ◌∷◌, ◌++◌, flat_map, count_by, codes, decimal, bytes_eq, if◌then◌else◌}
use Rattle.ascii_text.specs.Lines.{full_lines, without_last}
use Rattle.dd_file.specs.DirectiveText.{DirectiveText}
use Rattle.dd_file.specs.Rewritten.{Entry, entry, entry_text, is_directive}
use Rattle.dd_file.specs.Items.{Item, Comment, Blank, Directive}
use Rattle.conf_session.specs.SessionState.{SessionState}
use Rattle.conf_session.specs.Commands.{answer}
use Rattle.conf_session.specs.ReplyTexts.{line}

-- the actual output of an item in a session: that of a directive; empty for other items
abbrev pub actual_for : SessionState → Item → List ℕ
actual_for session (Comment lines) = []
actual_for session (Blank lines) = []
actual_for session (Directive directive) = (answer session directive).actual

-- the session after an item: it runs a directive, and other items change nothing
abbrev pub session_after : SessionState → Item → SessionState
session_after session (Comment lines) = session
session_after session (Blank lines) = session
session_after session (Directive directive) = (answer session directive).session

-- the session after it has run these items
abbrev pub session_after_all : SessionState → List Item → SessionState
session_after_all session [] = session
session_after_all session (item ∷ items) = session_after_all (session_after session item) items

-- the items in order, each with its actual output in the session that the items before it lead to
abbrev pub answered_entries : SessionState → List Item → List Entry
answered_entries session [] = []
answered_entries session (item ∷ items) = entry item (actual_for session item) ∷ answered_entries (session_after session item) items

-- the text of the items, each with its actual output
abbrev pub answered_text : SessionState → List Item → List ℕ
answered_text session items = flat_map (λ (entry : Entry). entry_text entry.item entry.output) (answered_entries session items)

-- whether an item is a directive that expects another output than this one
abbrev pub expects_other : List ℕ → Item → Bool
expects_other actual (Comment lines) = false
expects_other actual (Blank lines) = false
expects_other actual (Directive directive) = not (bytes_eq actual directive.expected)

-- whether an entry differs: it is a directive whose actual output is not the expected one
abbrev pub differs : Entry → Bool
differs entry = expects_other entry.output entry.item

-- a text with a sign before each of its lines
abbrev pub marked : List ℕ → List ℕ → List ℕ
marked sign text = flat_map (λ full_line. line (sign ++ without_last 10 full_line)) (full_lines text)

-- how a directive differs: its line number and command, then the expected lines after -, then the actual ones after +
abbrev pub difference_text : List ℕ → DirectiveText → List ℕ
difference_text actual directive =
    line (decimal directive.line ++ codes ": " ++ directive.command) ++ marked (codes "- ") directive.expected ++ marked (codes "+ ") actual

-- the report on an item with this actual output; empty unless it differs
abbrev pub report_of : List ℕ → Item → List ℕ
report_of actual (Comment lines) = []
report_of actual (Blank lines) = []
report_of actual (Directive directive) = if not (bytes_eq actual directive.expected) then difference_text actual directive else []

-- the report on an entry; empty unless it differs
abbrev pub report : Entry → List ℕ
report entry = report_of entry.output entry.item

-- the last line of a report: how many directives there are, and how many of them differ
abbrev pub counts_line : ℕ → ℕ → List ℕ
counts_line directives mismatches = line (decimal directives ++ codes " directives, " ++ decimal mismatches ++ codes " mismatches")

-- the counts of some entries
abbrev pub counts_text : List Entry → List ℕ
counts_text entries = counts_line (count_by (λ entry. is_directive entry.item) entries) (count_by differs entries)
