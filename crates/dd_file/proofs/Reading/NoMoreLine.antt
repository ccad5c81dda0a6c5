-- What an item is where no line follows, and once it is complete.
use Rattle.std.proofs.Common.{◌≡◌, true, false, [], ◌∷◌, ◌++◌, refl, sym, ◌∙◌, ap, arith}
use Rattle.std.specs.Prelude.{Ok}
use Rattle.std.proofs.lemmas.List.{append-nil}
use Rattle.ascii_text.specs.WhiteSpace.{is_blank}
use Rattle.dd_file.specs.Cut.{cut}
use Rattle.dd_file.specs.Script.{Open, is_last_line, directive, in_double, in_single, at_directive}
use Rattle.dd_file.specs.ItemDraft.{DraftParts, DraftText, FitsIn, first_item_in, result_in, dashes_line, is_done, begun_item}
use Rattle.dd_file.specs.Draft.{IsEnded, IsBegun, opened}
use Rattle.dd_file.specs.declared.draft_state.DraftState.{DraftState}
use Rattle.dd_file.specs.declared.draft_state.DraftState.TheVariants.{Begin, CommentLine, BlankLines, DirectiveLines, NoCommand, Input, Separator, Single, Double, Dashes, Pair, Complete, AfterPair}
use Rattle.dd_file.proofs.ScriptGrammar.Cuts.{cut-whole, pair-whole, has_pair-prefix}

draft-ended : (state : DraftState) (parts : DraftParts) → FitsIn state parts → is_done state ≡ true → IsEnded (begun_item (record { parts = parts; state = state }))
draft-ended CommentLine parts fits done = grind (arith, append-nil)
draft-ended BlankLines parts fits done = grind (arith, append-nil)
draft-ended NoCommand parts fits done = record { result = _; is = refl; ended = λ more. refl }
draft-ended Complete parts fits done = record { result = _; is = refl; ended = λ more. refl }
draft-ended AfterPair parts fits done = record { result = _; is = refl; ended = λ more. refl }
draft-ended state parts fits done = cc

draft-open : (state : DraftState) (parts : DraftParts) → FitsIn state parts → is_done state ≡ false → first_item_in state parts [] ≡ opened (result_in state parts)
draft-open Begin parts fits open_end = refl
draft-open DirectiveLines parts fits open_end = ap at_directive (ap (cut is_last_line) (append-nil parts.directive_lines) ∙ cut-whole is_last_line parts.directive_lines fits.0)
draft-open Input parts fits open_end = grind (arith, append-nil, cut-whole)
draft-open Separator parts fits open_end = ap (λ e. Open (Ok (directive 1 parts.command parts.directive_lines parts.input e))) (sym fits)
draft-open Single parts fits open_end = ap (in_single parts.command parts.directive_lines parts.input) (ap (cut is_blank) (append-nil parts.expected) ∙ cut-whole is_blank parts.expected fits)
draft-open Double parts fits open_end = grind (arith, append-nil, pair-whole, has_pair-prefix)
draft-open Dashes parts fits open_end = ap (in_double parts.command parts.directive_lines parts.input) (pair-whole (parts.expected ++ dashes_line ∷ []) fits)
draft-open Pair parts fits open_end = refl
draft-open state parts fits open_end = cc

pub begun_item-is : (draft : DraftText) → FitsIn draft.state draft.parts → IsBegun (begun_item draft)
begun_item-is draft fits = record { ended = draft-ended draft.state draft.parts fits; open_end = draft-open draft.state draft.parts fits }
