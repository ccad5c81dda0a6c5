-- A finite set of ids, as a value: `FinSet nat_cmp`, which is a `FinMap` with nothing at each key. `FinSet` has no
-- facts about the order of its items, so these definitions use `FinMap`.
use Rattle.std.specs.Prelude.{ℕ, ◌+◌, ◌*◌, Bool, not, List, ◌++◌, map, length, is_some, nat_eq, nat_lt, count_by, filter}
use Rattle.std.specs.Ordering.{nat_cmp}
use Rattle.std.specs.FinSet.{FinSet}
use Rattle.std.specs.FinMap as finite

-- a finite set of ids; two with the same members are equal
abbrev pub Ids : Type 0
Ids = FinSet nat_cmp

-- the empty set
abbrev pub no_ids : Ids
no_ids = finite.empty

-- whether the set has the id
abbrev pub has : Ids → ℕ → Bool
has ids id = is_some (finite.get ids id)

-- the set with this id added
abbrev pub with_id : Ids → ℕ → Ids
with_id ids id = finite.insert ids id tt

-- the set with this id removed
abbrev pub without_id : Ids → ℕ → Ids
without_id ids id = finite.remove ids id

-- the ids in ascending order
abbrev pub ascending : Ids → List ℕ
ascending ids = finite.keys ids

-- how many ids the set has
abbrev pub size : Ids → ℕ
size ids = length (ascending ids)

-- the set of the ids of a list
abbrev pub ids_of : List ℕ → Ids
ids_of list = finite.from_entries (map (λ id. (id, tt)) list)

-- the union of two sets: for (1 2 3) and (2 3 4) it is (1 2 3 4)
abbrev pub union : Ids → Ids → Ids
union a b = ids_of (ascending a ++ ascending b)

-- the ids of a list that pass a test
abbrev pub ids_where : (ℕ → Bool) → List ℕ → Ids
ids_where test list = ids_of (filter test list)

-- how many ids of the set pass a test
abbrev pub count_of : (ℕ → Bool) → Ids → ℕ
count_of test ids = count_by test (ascending ids)

-- whether more than half of the ids pass the test, which is false for the empty set
abbrev pub majority_passes : (ℕ → Bool) → Ids → Bool
majority_passes test ids = nat_lt (size ids) (2 * count_of test ids)

-- whether the set is empty
abbrev pub is_empty : Ids → Bool
is_empty ids = nat_eq (size ids) 0

-- how many ids are in exactly one of the sets: for (1 2 3) and (2 3 4) there are two, 1 and 4
abbrev pub difference_count : Ids → Ids → ℕ
difference_count a b = count_of (λ id. not (has b id)) a + count_of (λ id. not (has a id)) b
