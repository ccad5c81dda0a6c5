use Rattle.std.proofs.Common.{◌≡◌, ℕ, ◌+◌, List, take, drop, ap, sym, ◌∙◌, arith}
use Rattle.ascii_text.specs.Lines.{first_len}
use Rattle.dd_file.specs.Buffered.{HasNoNewline}
use Rattle.dd_file.proofs.Reading.NoNewline.{first_len-beyond, first_len-farther, none-found, begins-first}
use Rattle.dd_file.proofs.scan.whole_line_from.Goals as goal

-- the full line is the first
first : (searched len : ℕ) (bytes full_line : List ℕ) → HasNoNewline searched bytes → len ≡ first_len (drop searched bytes) → full_line ≡ take (searched + len) bytes → full_line ≡ take (first_len bytes) bytes
first searched len bytes full_line clear count is = is ∙ ap (λ n. take n bytes) (ap (λ n. searched + n) count ∙ sym (first_len-beyond searched bytes clear))

pub returns-then-ends_in_newline-clause-line : goal.returns-then-ends_in_newline-clause-line
returns-then-ends_in_newline-clause-line c =
    begins-first c.args.bytes.now _ (first _ _ _ _ c.requires (c.first_line_len.ensures.count ∙ ap first_len c.split_at.ensures.back) c.split_at-2.ensures.front) (sym c.ends_in_newline.ensures ∙ c.if-ends_in_newline.true)

pub returns-then-ends_in_newline-clause-searched : goal.returns-then-ends_in_newline-clause-searched
returns-then-ends_in_newline-clause-searched c = grind (arith, first_len-farther, c.first_line_len.ensures.count, c.requires, c.split_at-2.ensures.front, c.ends_in_newline.ensures, c.if-ends_in_newline.true, c.split_at-2.ensures.front_len)

pub returns-else-ends_in_newline-clause-line : goal.returns-else-ends_in_newline-clause-line
returns-else-ends_in_newline-clause-line c =
    none-found c.args.bytes.now _ (first _ _ _ _ c.requires (c.first_line_len.ensures.count ∙ ap first_len c.split_at.ensures.back) c.split_at-2.ensures.front) (sym c.ends_in_newline.ensures ∙ c.if-ends_in_newline.false)
