-- Lists of ids in JSON.
use Rattle.std.specs.Prelude.{ℕ, List, [], ◌∷◌, map, Option, Some, None, option_map, option_and_then}
use Rattle.serde_json.specs.Data.{Data, null, number, unsigned, array, Items, no_items, item}
use Rattle.serde_json.specs.Find.{as_number, as_u64}
use Rattle.serde_json.specs.View.{items_of}

-- a list of ids as JSON, in its order, such as [1,2,3]
abbrev pub ids_json : List ℕ → Data
ids_json ids = array (items_of (map (λ id. number (unsigned id)) ids))

-- the id that a value denotes: a number written without a sign, a fraction or an exponent, at most 2^64-1
abbrev pub id_from : Data → Option ℕ
id_from d = option_and_then as_u64 (as_number d)

-- the ids that the items denote, in their order, if each item denotes one
abbrev pub ids_from : Items → Option (List ℕ)
ids_from no_items = Some []
ids_from (item d ds) = option_and_then (λ id. option_map (λ ids. id ∷ ids) (ids_from ds)) (id_from d)

-- the ids at a key: an empty list if the key is missing or null
abbrev pub ids_in : Option Data → Option (List ℕ)
ids_in None = Some []
ids_in (Some null) = Some []
ids_in (Some (array ds)) = ids_from ds
ids_in (Some _) = None
