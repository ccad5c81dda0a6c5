-- One more line of an item, where it ends a part of it, and within a double separator.
use Rattle.std.proofs.Common.{◌≡◌, ℕ, Bool, true, false, not, List, [], ◌∷◌, ◌++◌, refl, sym, ◌∙◌, ap, subst, arith}
use Rattle.std.specs.Prelude.{Option, Some, None}
use Rattle.std.proofs.lemmas.List.{append_assoc}
use Rattle.ascii_text.specs.WhiteSpace.{is_blank}
use Rattle.dd_file.specs.Cut.{Parted, cut}
use Rattle.dd_file.specs.DirectiveLine.{CommandText, command_of}
use Rattle.dd_file.specs.Script.{joined, is_continued, is_last_line, is_separator, is_dashes, in_double, in_single, body}
use Rattle.dd_file.specs.ItemDraft.{DraftParts, DraftText, AddsIn, FitsIn, dashes_line, draft_after_directive_lines}
use Rattle.dd_file.specs.declared.draft_state.DraftState.{DraftState}
use Rattle.dd_file.specs.declared.draft_state.DraftState.TheVariants.{DirectiveLines, Input, Separator, Single, Double, Dashes, Pair, Complete}
use Rattle.dd_file.proofs.ScriptGrammar.Cuts.{cut-parted, pair-parted, has_pair-prefix, has_pair-skip}

module _ (old : DraftParts) (line : List ℕ) where
  -- the last directive line
  pub adds-last : (now new : DraftParts) (next : DraftState) (text : List ℕ) → FitsIn DirectiveLines old → is_continued line ≡ false → now ≡ record old { directive_lines = old.directive_lines ++ line ∷ [] } →
      text ≡ joined (old.directive_lines ++ line ∷ []) → record { parts = new; state = next } ≡ draft_after_directive_lines now text → AddsIn DirectiveLines old next new line
  adds-last now new next text fits last now_is text_is is =
      subst (λ (draft : DraftText). AddsIn DirectiveLines old draft.state draft.parts line) (sym (is ∙ ap (λ parts. draft_after_directive_lines parts text) now_is ∙ ap (draft_after_directive_lines kept) text_is))
      (at (is_blank (joined lines)) refl (command_of (joined lines)) refl) where
        lines : List (List ℕ)
        lines = old.directive_lines ++ line ∷ []

        kept : DraftParts
        kept = record old { directive_lines = lines }

        cut_is : (more : List (List ℕ)) → cut is_last_line (old.directive_lines ++ line ∷ more) ≡ Parted old.directive_lines line more
        cut_is more = cut-parted is_last_line old.directive_lines line more fits.0 (ap not last)

        at : (blank : Bool) → is_blank (joined lines) ≡ blank → (command : Option CommandText) → command_of (joined lines) ≡ command →
            AddsIn DirectiveLines old (draft_after_directive_lines kept (joined lines)).state (draft_after_directive_lines kept (joined lines)).parts line
        at true is command parses = rw is (record { fits = fits.1; first_item = λ more. sym (rw (cut_is more, is) refl) })
        at false is None parses = rw (is, parses) (record { fits = tt; first_item = λ more. sym (rw (cut_is more, is, parses) refl) })
        at false is (Some command) parses = grind (arith, lines, cut_is)

  pub adds-separator : FitsIn Input old → is_separator line ≡ true → AddsIn Input old Separator old line
  adds-separator fits is = record { fits = fits.1; first_item = λ more. sym (ap (body old.command old.directive_lines) (cut-parted is_separator old.input line more fits.0 is)) }

  pub adds-blank : FitsIn Single old → is_blank line ≡ true → AddsIn Single old Complete old line
  adds-blank fits is = record { fits = tt; first_item = λ more. sym (ap (in_single old.command old.directive_lines old.input) (cut-parted is_blank old.expected line more fits is)) }

  pub adds-double : (new : DraftParts) → FitsIn Double old → is_dashes line ≡ false → new ≡ record old { expected = old.expected ++ line ∷ [] } → AddsIn Double old Double new line
  adds-double new fits other e = grind (arith, append_assoc, has_pair-skip, has_pair-prefix)

  pub adds-pair : FitsIn Dashes old → is_dashes line ≡ true → AddsIn Dashes old Pair old line
  adds-pair fits is = record { fits = tt; first_item = λ more. sym (ap (in_double old.command old.directive_lines old.input) (pair-parted old.expected dashes_line line more fits refl is)) }

  -- the line after one line of dashes, which is output too
  pub adds-lone_dashes : (new : DraftParts) → FitsIn Dashes old → is_dashes line ≡ false → new ≡ record old { expected = (old.expected ++ dashes_line ∷ []) ++ line ∷ [] } → AddsIn Dashes old Double new line
  adds-lone_dashes new fits other e = grind (arith, append_assoc, has_pair-skip)
