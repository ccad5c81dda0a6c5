-- Sets of ids that are made from others.
use Rattle.std.specs.Prelude.{ℕ, not, [], ◌∷◌, Option, Some, None, slice_get, if◌then◌else◌}
use Rattle.quorum_sets.specs.Ids.{Ids, has, ascending, ids_of, ids_where, is_empty, union}

infixl 60 ◌∪◌
infixl 60 ◌∖◌
infixl 61 ◌∩◌
-- the ids that are in one of the sets
abbrev pub ◌∪◌ : Ids → Ids → Ids
a ∪ b = union a b

-- the ids that are in both sets
abbrev pub ◌∩◌ : Ids → Ids → Ids
a ∩ b = ids_where (has b) (ascending a)

-- the ids of the first set that are not in the second
abbrev pub ◌∖◌ : Ids → Ids → Ids
a ∖ b = ids_where (λ id. not (has b id)) (ascending a)

-- the set of one id
abbrev pub just : ℕ → Ids
just id = ids_of (id ∷ [])

-- the first set, or the second if the first is empty
abbrev pub or_else : Ids → Ids → Ids
or_else a b = if is_empty a then b else a

-- the least id of a set
abbrev pub least_of : Ids → Option ℕ
least_of ids = slice_get (ascending ids) 0

-- the first number, or the second if there is no first
abbrev pub or_second : Option ℕ → Option ℕ → Option ℕ
or_second None second = second
or_second (Some first) second = Some first
