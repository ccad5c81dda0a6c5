use Rattle.std.proofs.Common.{◌∷◌, [], ◌++◌, ◌∙◌, ap, rules}
use Rattle.dd_file.specs.ItemDraft.{DraftParts}
use Rattle.dd_file.proofs.Reading.StateByState.{adds-pair, adds-lone_dashes}
use Rattle.dd_file.proofs.item_draft.DraftParts.add_after_dashes.Goals as goal

pub returns-then-is_dashes : goal.returns-then-is_dashes
returns-then-is_dashes c = adds-pair _ _ c.requires.fits (search rules)

pub returns : goal.returns
returns c = adds-lone_dashes _ _ _ c.requires.fits (search rules)
    (c.in_ok-keep_output-2.ensures ∙ ap (λ (parts : DraftParts). record parts { expected = parts.expected ++ c.args.line.now ∷ [] }) c.in_ok-keep_output.ensures)
