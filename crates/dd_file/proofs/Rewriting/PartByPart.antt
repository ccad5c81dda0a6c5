-- A script that is written part by part.
use Rattle.std.proofs.Common.{◌≡◌, ℕ, false, List, [], ◌∷◌, ◌++◌, length, sym, ◌∙◌, ap, subst, arith}
use Rattle.std.specs.Prelude.{◌==◌, Option, if◌then◌else◌}
use Rattle.std.specs.Io.KnownBytes.{Appends}
use Rattle.std.proofs.lemmas.List.{append_assoc, append-nil}
use Rattle.ascii_text.specs.Lines.{newline, without_last}
use Rattle.dd_file.specs.Device.{AppendsPart}
use Rattle.dd_file.specs.Rewritten.{newlines_at_end, pending_newline, without_double_end}
use Rattle.dd_file.specs.RewriterState.{HasBegun, HasWritten, Continues, BreaksOff, Finishes, FinishesPart}
use Rattle.dd_file.proofs.Rewriting.KnownBytes.{appends-append, append-part, part-append, part-part}
use Rattle.dd_file.proofs.TextLines.LastNewlines.{text-buffered, text-ended, without_last-prefix}
use Rattle.ascii_text.proofs.Offered.{without_last-append}

-- a part of the text without its last newline is a part of the script, whatever follows
pub begun-part : (start now : Option (List ℕ)) (text : List ℕ) → AppendsPart start now (without_last 10 text) → HasBegun start now text
begun-part start now text part rest =
    let more = without_last-prefix text rest in
    let end = if newlines_at_end (text ++ rest) == 1 then newline else [] in
    let whole : (without_last 10 text ++ more.0) ++ end ≡ without_double_end (text ++ rest) = ap (λ t. t ++ end) (sym more.1) ∙ text-ended (text ++ rest) in
    subst (λ t. AppendsPart start now t) whole (part-part start now _ end (part-part start now _ more.0 part))

pub HasWritten-from_text : (newlines : ℕ) (start now : Option (List ℕ)) (text : List ℕ) → newlines ≡ newlines_at_end text → Appends start now (without_last 10 text) → HasWritten newlines start now text
HasWritten-from_text newlines start now text count gained = grind (arith, begun-part, append-nil, part-append)

-- the text so far and some bytes more
text-more : (newlines : ℕ) (start now : Option (List ℕ)) (text more : List ℕ) → (length more == 0) ≡ false → HasWritten newlines start now text →
    without_last 10 text ++ (pending_newline newlines ++ without_last 10 more) ≡ without_last 10 (text ++ more)
text-more newlines start now text [] some is = cc
text-more newlines start now text (x ∷ more) some is =
    sym (append_assoc (without_last 10 text) (pending_newline newlines) (without_last 10 (x ∷ more)))
    ∙ ap (λ t. t ++ without_last 10 (x ∷ more)) (ap (λ n. without_last 10 text ++ pending_newline n) is.counted ∙ text-buffered text) ∙ sym (without_last-append 10 text x more)

-- bytes are written: what is buffered, and then they without a newline at their end
pub continues-bytes : (newlines count : ℕ) (old new : Option (List ℕ)) (more : List ℕ) → (length more == 0) ≡ false →
    Appends old new (pending_newline newlines ++ without_last 10 more) → ((text : List ℕ) → newlines ≡ newlines_at_end text → count ≡ newlines_at_end (text ++ more)) → Continues newlines count old new more
continues-bytes newlines count old new more some bytes counts start text is =
    HasWritten-from_text count start new (text ++ more) (counts text is.counted) (subst (λ t. Appends start new t) (text-more newlines start old text more some is)
    (appends-append start old new _ _ is.gained bytes))

pub breaks-bytes : (newlines : ℕ) (old new : Option (List ℕ)) (more : List ℕ) → (length more == 0) ≡ false →
    AppendsPart old new (pending_newline newlines ++ without_last 10 more) → BreaksOff newlines old new more
breaks-bytes newlines old new more some part start text is = grind (arith, begun-part, text-more, append-part)

-- the end: the newline that is buffered, where it is the only one
abbrev pub last : ℕ → List ℕ
last newlines = if newlines == 1 then newline else []

script-ended : (newlines : ℕ) (start now : Option (List ℕ)) (text : List ℕ) → HasWritten newlines start now text → without_last 10 text ++ last newlines ≡ without_double_end text
script-ended newlines start now text is = ap (λ n. without_last 10 text ++ last n) is.counted ∙ text-ended text

pub Finishes-from_last : (newlines : ℕ) (old new : Option (List ℕ)) → Appends old new (last newlines) → Finishes newlines old new
Finishes-from_last newlines old new a start text is = grind (arith, script-ended, appends-append)

pub finishes-part : (newlines : ℕ) (old new : Option (List ℕ)) → AppendsPart old new (last newlines) → FinishesPart newlines old new
finishes-part newlines old new a start text is = grind (arith, script-ended, append-part)

-- nothing is written
pub finishes-none : (newlines : ℕ) (old : Option (List ℕ)) → FinishesPart newlines old old
finishes-none newlines old start text is = subst (λ t. AppendsPart start old (without_double_end t)) (append-nil text) (is.begun [])
