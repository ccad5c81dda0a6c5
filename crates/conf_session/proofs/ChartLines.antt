-- A chart, a committed index and the result of a vote are reply lines.
use Rattle.std.proofs.Common.{◌≡◌, ℕ, zero, suc, ◌-◌, Bool, true, false, cond, List, [], ◌∷◌, ◌++◌, length, refl, sym, ap, ◌∙◌, subst, arith}
use Rattle.std.specs.Prelude.{nat_eq, Option, Some, None, unwrap_or, codes, decimal, flat_map, replicate}
use Rattle.std.specs.FinMap as finite
use Rattle.std.proofs.lemmas.Bool.{or_right}
use Rattle.std.proofs.lemmas.List.{append_assoc}
use Rattle.std.proofs.lemmas.List.Folds.{list_any-append}
use Rattle.quorum_sets.specs.Chart.{bar_text, bar_width, in_five_columns, row_text, chart_row, chart_text}
use Rattle.quorum_sets.specs.Committed.{Acks, greatest_index}
use Rattle.quorum_sets.specs.declared.voting.VoteResult.{VoteResult}
use Rattle.ascii_text.specs.Lines.{newline}
use Rattle.conf_session.specs.Quorum.{index_text, vote_text}
use Rattle.conf_session.specs.ReplyTexts.{line}
use Rattle.conf_session.specs.ReplyLines.{is_line_byte, is_reply_line, IsReplyText}
use Rattle.conf_session.proofs.ReplyLines.{and-both, all-append, is_mark, IsBytes, IsLine, IsTail, ◌▸◌, ◌▹◌, IsLine-from_mark, IsLine-in_lines, IsTail-from_bytes, IsTail-number, decimal-line, line-in_lines, reply_text-append, rows-in_lines}

-- ---- a line with its mark at the end
leads : {front back : List ℕ} → IsTail front → IsLine back → IsLine (front ++ back)
leads {front} {back} h k = record { mark = list_any-append is_mark front back ∙ or_right _ _ k.mark; bytes = all-append is_line_byte front back h.tail k.bytes }

-- ---- the lines of a chart
same-bytes : (n b : ℕ) → is_line_byte b ≡ true → IsBytes (replicate n b)
same-bytes zero b h = refl
same-bytes (suc n) b h = and-both _ _ h (same-bytes n b h)

spaces : (n : ℕ) → IsTail (replicate n 32)
spaces n = IsTail-from_bytes (replicate n 32) (same-bytes n 32 refl)

bar-tail : (n : ℕ) (acked : Option ℕ) (width : ℕ) → IsTail (bar_text n acked width)
bar-tail n None width = IsTail-from_bytes (codes "?") refl ▹ spaces n
bar-tail n (Some index) width = IsTail-from_bytes (replicate width 120) (same-bytes width 120 refl) ▹ IsTail-from_bytes (codes ">") refl ▹ spaces (n - width)

-- the line of an id
abbrev row_line : ℕ → ℕ → Option ℕ → ℕ → List ℕ
row_line n id acked width =
    bar_text n acked width ++ codes " " ++ in_five_columns (unwrap_or acked 0) ++ codes "    (id=" ++ decimal id ++ codes ")"

row-in_lines : (n id : ℕ) (acked : Option ℕ) (width : ℕ) → is_reply_line (row_line n id acked width) ≡ true
row-in_lines n id acked width =
    let index = unwrap_or acked 0 in
    let five : IsTail (in_five_columns index) = spaces _ ▹ IsTail-number index in
    IsLine-in_lines (leads (bar-tail n acked width ▹ IsTail-from_bytes (codes " ") refl ▹ five) (IsLine-from_mark (codes "    (id=") refl refl) ▸ IsTail-number id ▸ IsTail-from_bytes (codes ")") refl)

abbrev row_of : List ℕ → Acks → ℕ → List ℕ
row_of ids acks id = row_line (length ids) id (finite.get acks id) (bar_width ids acks id)

row-whole : (n id : ℕ) (acked : Option ℕ) (width : ℕ) → row_text n id acked width ≡ line (row_line n id acked width)
row-whole n id acked width = grind (arith, append_assoc)

rows-whole : (ids : List ℕ) (acks : Acks) (some : List ℕ) → flat_map (chart_row ids acks) some ≡ flat_map (λ id. line (row_of ids acks id)) some
rows-whole ids acks [] = refl
rows-whole ids acks (id ∷ some) = (λ i. row-whole (length ids) id (finite.get acks id) (bar_width ids acks id) i ++ rows-whole ids acks some i)

-- the first line and the others
all-in_lines : (ids : List ℕ) (acks : Acks) → IsReplyText (replicate (length ids) 32 ++ codes "    idx\n" ++ flat_map (chart_row ids acks) ids)
all-in_lines ids acks =
    let head : List ℕ = replicate (length ids) 32 ++ codes "    idx" in
    subst IsReplyText (ap (λ rows. line head ++ rows) (sym (rows-whole ids acks ids)) ∙ ap (λ text. text ++ flat_map (chart_row ids acks) ids) (append_assoc (replicate (length ids) 32) (codes "    idx") newline))
    (rows-in_lines head (row_of ids acks) ids (IsLine-in_lines (leads (spaces (length ids)) (IsLine-from_mark (codes "    idx") refl refl)))
    (λ id. row-in_lines (length ids) id (finite.get acks id) (bar_width ids acks id)))

-- ---- an index, after a chart or alone
index-line : (index : ℕ) → IsLine (index_text index)
index-line index = by (nat_eq index greatest_index) where
  by : (greatest : Bool) → IsLine (cond greatest (226 ∷ 136 ∷ 158 ∷ []) (decimal index))
  by true = IsLine-from_mark (226 ∷ 136 ∷ 158 ∷ []) refl refl
  by false = decimal-line index

pub index-in_lines : (index : ℕ) → is_reply_line (index_text index) ≡ true
index-in_lines index = IsLine-in_lines (index-line index)

pub chart-in_lines : (ids : List ℕ) (acks : Acks) (index : ℕ) → IsReplyText (line (chart_text ids acks ++ index_text index))
chart-in_lines ids acks index = by (nat_eq (length ids) 0) where
  rows : List ℕ
  rows = replicate (length ids) 32 ++ codes "    idx\n" ++ flat_map (chart_row ids acks) ids

  by : (none : Bool) → IsReplyText (line (cond none (codes "<empty majority quorum>") rows ++ index_text index))
  by true = line-in_lines (codes "<empty majority quorum>" ++ index_text index) (IsLine-in_lines (IsLine-from_mark (codes "<empty majority quorum>") refl refl ▸ IsTail-from_bytes (index_text index) (index-line index).bytes))
  by false = subst IsReplyText (sym (append_assoc rows (index_text index) newline)) (reply_text-append rows (line (index_text index)) (all-in_lines ids acks) (line-in_lines (index_text index) (index-in_lines index)))

-- ---- the result of a vote
pub vote-in_lines : (vote : VoteResult) → is_reply_line (vote_text vote) ≡ true
vote-in_lines vote = grind arith
