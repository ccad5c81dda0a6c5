use Rattle.std.proofs.Common.{◌≡◌, ◌++◌, ◌∙◌, List, ℕ, ap}
use Rattle.std.proofs.lemmas.List.{append_assoc}
use Rattle.ascii_text.specs.Lines.{newline}
use Rattle.conf_tool.proofs.report.Counts.append_to.Goals as goal

-- a line that is appended in four parts
parts-line : (text a b c d : List ℕ) → ((((text ++ a) ++ b) ++ c) ++ d) ++ newline ≡ text ++ ((a ++ b ++ c ++ d) ++ newline)
parts-line text a b c d =
    ap (λ t. ((t ++ c) ++ d) ++ newline) (append_assoc text a b) ∙ ap (λ t. (t ++ d) ++ newline) (append_assoc text (a ++ b) c)
    ∙ ap (λ t. t ++ newline) (append_assoc text (a ++ b ++ c) d) ∙ append_assoc text (a ++ b ++ c ++ d) newline

pub returns : goal.returns
returns c =
    rw (c.in_ok-push.ensures.items, c.in_ok-extend_from_slice-2.ensures.items, c.in_ok-append_count-2.ensures, c.in_ok-extend_from_slice.ensures.items, c.in_ok-append_count.ensures)
    (parts-line c.args.text.now.items _ _ _ _)
