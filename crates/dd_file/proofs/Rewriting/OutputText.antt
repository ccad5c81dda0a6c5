-- What is written of an output: the newline that is buffered with the dashes, the output, and what is after it.
use Rattle.std.proofs.Common.{◌≡◌, ℕ, Bool, true, false, List, [], ◌∷◌, ◌++◌, length, sym, ◌∙◌, ap, subst, rules, arith}
use Rattle.std.specs.Prelude.{◌==◌, Option}
use Rattle.std.specs.Io.KnownBytes.{Appends}
use Rattle.std.proofs.lemmas.List.{append_assoc}
use Rattle.ascii_text.specs.Lines.{without_last}
use Rattle.ascii_text.proofs.Offered.{without_last-append}
use Rattle.dd_file.specs.Device.{AppendsPart}
use Rattle.dd_file.specs.RewriterState.{Continues, BreaksOff}
use Rattle.dd_file.specs.Rewritten.{opening, closing, newlines_at_end, pending_newline}
use Rattle.dd_file.proofs.Rewriting.PartByPart.{continues-bytes, breaks-bytes}
use Rattle.dd_file.proofs.TextLines.LastNewlines.{newlines_at_end-last}

-- it is some text
found_some : (double : Bool) (text : List ℕ) → (length ((opening double ++ text) ++ closing double) == 0) ≡ false
found_some true text = search rules
found_some false text = search rules

closing_buffered : (double : Bool) (xs : List ℕ) → xs ++ without_last 10 (closing double) ≡ without_last 10 (xs ++ closing double)
closing_buffered true xs = sym (without_last-append 10 xs _ _)
closing_buffered false xs = sym (without_last-append 10 xs _ _)

-- the parts that are written are its text without the newline at its end
found_parts : (newlines : ℕ) (double : Bool) (text : List ℕ) →
    (pending_newline newlines ++ opening double) ++ (text ++ without_last 10 (closing double)) ≡ pending_newline newlines ++ without_last 10 ((opening double ++ text) ++ closing double)
found_parts newlines double text = grind (arith, append_assoc, closing_buffered)

dashes_end : (xs prefix : List ℕ) → newlines_at_end (xs ++ (prefix ++ 45 ∷ 10 ∷ [])) ≡ 1
dashes_end xs prefix =
    ap newlines_at_end (sym (append_assoc xs prefix (45 ∷ 10 ∷ [])) ∙ sym (append_assoc (xs ++ prefix) (45 ∷ []) (10 ∷ []))) ∙ newlines_at_end-last (xs ++ prefix) 45 10

-- one newline ends the dashes
opening_end : (double : Bool) (xs : List ℕ) → 1 ≡ newlines_at_end (xs ++ opening double)
opening_end true xs = sym (dashes_end xs (45 ∷ 45 ∷ 45 ∷ 45 ∷ 10 ∷ 45 ∷ 45 ∷ 45 ∷ []))
opening_end false xs = sym (dashes_end xs (45 ∷ 45 ∷ 45 ∷ []))

-- the newlines at its end, counted part by part
found_counted : (double : Bool) (text : List ℕ) (inside suffix : ℕ)
    → ((xs : List ℕ) → 1 ≡ newlines_at_end xs → inside ≡ newlines_at_end (xs ++ text))
    → ((xs : List ℕ) → inside ≡ newlines_at_end xs → suffix ≡ newlines_at_end (xs ++ closing double))
    → (before : List ℕ) → suffix ≡ newlines_at_end (before ++ ((opening double ++ text) ++ closing double))
found_counted double text inside suffix counts_text counts_closing before =
    let with_text = counts_text (before ++ opening double) (opening_end double before) ∙ ap newlines_at_end (append_assoc before (opening double) text) in
    counts_closing (before ++ (opening double ++ text)) with_text ∙ ap newlines_at_end (append_assoc before (opening double ++ text) (closing double))

-- the parts are written: what is buffered and the dashes, the output, and what is after it without its last newline
abbrev pub parts : ℕ → Bool → List ℕ → List ℕ
parts newlines double text = (pending_newline newlines ++ opening double) ++ (text ++ without_last 10 (closing double))

pub continues-found : (newlines inside suffix : ℕ) (double : Bool) (old new : Option (List ℕ)) (text : List ℕ) → Appends old new (parts newlines double text)
    → ((xs : List ℕ) → 1 ≡ newlines_at_end xs → inside ≡ newlines_at_end (xs ++ text))
    → ((xs : List ℕ) → inside ≡ newlines_at_end xs → suffix ≡ newlines_at_end (xs ++ closing double))
    → Continues newlines suffix old new ((opening double ++ text) ++ closing double)
continues-found newlines inside suffix double old new text written counts_text counts_closing =
    continues-bytes newlines suffix old new _ (found_some double text) (subst (λ t. Appends old new t) (found_parts newlines double text) written)
    (λ before is. found_counted double text inside suffix counts_text counts_closing before)

pub breaks-found : (newlines : ℕ) (double : Bool) (old new : Option (List ℕ)) (text : List ℕ) → AppendsPart old new (parts newlines double text)
    → BreaksOff newlines old new ((opening double ++ text) ++ closing double)
breaks-found newlines double old new text part = grind (arith, breaks-bytes, found_some, found_parts)
