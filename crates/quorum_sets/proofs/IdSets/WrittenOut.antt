-- Sets of ids that are written out, so that statements about them compute.
use Rattle.std.proofs.Common.{◌≡◌, ℕ, []}
use Rattle.std.specs.Ordering.{nat_cmp}
use Rattle.std.specs.Cmp.{nat_cmp_total}
use Rattle.std.specs.FinMap as finite
use Rattle.std.specs.FinMap.{put, find}
use Rattle.quorum_sets.specs.Ids.{Ids}
use Rattle.quorum_sets.proofs.IdSets.Members.{entries-no_ids}

pub entries-insert_id : (s : Ids) (id : ℕ) → finite.entries (finite.insert s id tt) ≡ put nat_cmp id tt (finite.entries s)
entries-insert_id s id = finite.entries-insert nat_cmp_total s id tt

-- `entries-no_ids` in the tokens that a written set computes to
pub entries-empty : finite.entries (finite.empty {K = ℕ} {X = Unit {0}} {R = nat_cmp}) ≡ []
entries-empty = entries-no_ids

pub get-find : (s : Ids) (id : ℕ) → finite.get s id ≡ find nat_cmp id (finite.entries s)
get-find s id = finite.get-entries s id

-- for the tactic `simp`
pub ruleset written_out = (get-find, entries-insert_id, entries-empty)
