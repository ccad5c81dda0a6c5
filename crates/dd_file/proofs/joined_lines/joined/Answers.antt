use Rattle.std.proofs.Common.{◌≡◌, ℕ, ◌+◌, ◌<◌, ◌≤◌, List, [], ◌∷◌, ◌++◌, length, drop, vec_items, ap, ◌∙◌, arith}
use Rattle.std.specs.Prelude.{Some, slice_get}
use Rattle.std.proofs.lemmas.List.{append_assoc, append-nil, drop_more, drop_all, length-drop}
use Rattle.std.proofs.lemmas.Option.{slice_get_within, get_or_from_slice_get}
use Rattle.ascii_text.specs.WhiteSpace.{trimmed}
use Rattle.ascii_text.specs.Lines.{without_last}
use Rattle.dd_file.specs.Script.{joined}
use Rattle.dd_file.proofs.joined_lines.joined.Goals as goal
use Rattle.dd_file.proofs.joined_lines.joined.Goals.{then-i-count+in_ok-extend_from_slice+in_ok-push, else-i-count+in_ok-extend_from_slice-2}

-- the lines from a position on
at-line : (lines : List (List ℕ)) (i : ℕ) (line : List ℕ) → slice_get lines i ≡ Some line → drop i lines ≡ line ∷ drop (i + 1) lines
at-line lines i line is = drop_more lines i [] (slice_get_within lines i line is) ∙ ap (λ l. l ∷ drop (i + 1) lines) (get_or_from_slice_get lines i line [] is)

joined-more : (line : List ℕ) (rest : List (List ℕ)) → 0 < length rest → joined (line ∷ rest) ≡ (without_last 92 (trimmed line) ++ 32 ∷ []) ++ joined rest
joined-more line rest some = grind arith

-- a line that another follows
prefix-line : (lines : List (List ℕ)) (i : ℕ) (line before text : List ℕ) → before ++ joined (drop i lines) ≡ joined lines → slice_get lines i ≡ Some line → i + 1 < length lines →
    text ≡ (before ++ without_last 92 (trimmed line)) ++ 32 ∷ [] → text ++ joined (drop (i + 1) lines) ≡ joined lines
prefix-line lines i line before text so_far is lt more = grind (arith, append_assoc, at-line, joined-more, length-drop)

-- the last line
last-line : (lines : List (List ℕ)) (i : ℕ) (line before text : List ℕ) → before ++ joined (drop i lines) ≡ joined lines → slice_get lines i ≡ Some line → length lines ≤ i + 1 →
    text ≡ before ++ trimmed line → text ++ joined (drop (i + 1) lines) ≡ joined lines
last-line lines i line before text so_far is le more = grind (arith, drop_all, append-nil, at-line)

pub loop-i-preserved : goal.loop-i-preserved
loop-i-preserved c = grind (arith, prefix-line, vec_items, last-line, c.in-Some.ensures, c.count-count.ensures, c.if-i-count.branch, c.loop-i.invariant)
