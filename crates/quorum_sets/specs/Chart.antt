-- The chart of the acknowledged indexes (etcd's `MajorityConfig.Describe`). Byte 32 is a space and 120 is x.
use Rattle.std.specs.Prelude.{ℕ, ◌-◌, Bool, ◌&&◌, List, ◌++◌, map, length, replicate, codes, decimal, flat_map, count_by, nat_lt, nat_eq, unwrap_or, Option, Some, None, if◌then◌else◌}
use Rattle.std.specs.Ordering.{nat_cmp, ordering_then}
use Rattle.std.specs.List.{list_any}
use Rattle.std.specs.List.Sorted.{IsPermutation, IsSorted}
use Rattle.std.specs.FinMap as finite
use Rattle.quorum_sets.specs.Committed.{Acks, acked_index}

-- a smaller id has acknowledged the same index
abbrev pub is_tied : List ℕ → Acks → ℕ → Bool
is_tied ids acks id = list_any (λ other. nat_lt other id && nat_eq (acked_index acks other) (acked_index acks id)) ids

-- the number of ids with a smaller index, or 0 if a smaller id has the same index
abbrev pub bar_width : List ℕ → Acks → ℕ → ℕ
bar_width ids acks id =
    if is_tied ids acks id then 0 else count_by (λ other. nat_lt (acked_index acks other) (acked_index acks id)) ids

-- a bar of this width, as xx>, or ? for an unknown index, in a field of n + 1 columns
abbrev pub bar_text : ℕ → Option ℕ → ℕ → List ℕ
bar_text n None width = codes "?" ++ replicate n 32
bar_text n (Some index) width = replicate width 120 ++ codes ">" ++ replicate (n - width) 32

-- a number, right-aligned in five columns; a wider one in full
abbrev pub in_five_columns : ℕ → List ℕ
in_five_columns k = replicate (5 - length (decimal k)) 32 ++ decimal k

-- the line of one of n ids with the index that it acknowledged and a bar of this width, as `xx>      7    (id=1)`
abbrev pub row_text : ℕ → ℕ → Option ℕ → ℕ → List ℕ
row_text n id acked width =
    bar_text n acked width ++ codes " " ++ in_five_columns (unwrap_or acked 0) ++ codes "    (id=" ++ decimal id ++ codes ")\n"

-- the line of one of the ids
abbrev pub chart_row : List ℕ → Acks → ℕ → List ℕ
chart_row ids acks id = row_text (length ids) id (finite.get acks id) (bar_width ids acks id)

-- the chart of the ids, in the order given
abbrev pub chart_text : List ℕ → Acks → List ℕ
chart_text ids acks =
    if nat_eq (length ids) 0 then codes "<empty majority quorum>"
    else replicate (length ids) 32 ++ codes "    idx\n" ++ flat_map (chart_row ids acks) ids

-- an id paired with the index that it acknowledged
abbrev pub ranked : Acks → ℕ → ℕ × ℕ
ranked acks id = (acked_index acks id, id)

-- the ids with the indexes that they acknowledged, sorted by index and then by id
pub record IsRanking (ids : List ℕ) (acks : Acks) (rows : List (ℕ × ℕ)) : Type 0 where
  pub same : IsPermutation (map (ranked acks) ids) rows
  pub ascends : IsSorted (λ x y. ordering_then (nat_cmp x.0 y.0) (nat_cmp x.1 y.1)) rows
