-- Ascending lists of ids, and positions in them, which count from 0.
use Rattle.std.specs.Prelude.{◌≡◌, ℕ, ◌<◌, ◌≤◌, List, length, slice_index}
use Rattle.smallvec.specs.SmallVec.{SmallVec}

-- each id is below all later ones
abbrev pub IsAscending : List ℕ → Type 0
IsAscending list = (i j : ℕ) → i < j → j < length list → slice_index list i < slice_index list j

-- the list of a set: it is ascending and has room for at least eight ids
pub record IsIdList (list : SmallVec ℕ) : Type 0 where
  pub ascends : IsAscending list.items
  pub room : 8 ≤ list.capacity

-- the list has the id at this position
pub record IsAtPosition (list : List ℕ) (id position : ℕ) : Type 0 where
  pub within : position < length list
  pub there : slice_index list position ≡ id

-- the position at which the id is inserted: the ids before it are smaller, and the ids from there on are greater
pub record IsInsertionPoint (list : List ℕ) (id position : ℕ) : Type 0 where
  pub within : position ≤ length list
  pub below : (k : ℕ) → k < position → slice_index list k < id
  pub above : (k : ℕ) → position ≤ k → k < length list → id < slice_index list k
