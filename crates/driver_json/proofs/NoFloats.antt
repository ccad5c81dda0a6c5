-- The objects of actions have no float, so their text is known byte for byte.
use Rattle.std.proofs.Common.{◌≡◌, ℕ, List, false, refl, ap, ◌∙◌, Ordering, Less, Equal, Greater, nat_cmp, BTreeMap, String, Global}
use Rattle.std.specs.Cmp.Lexicographic.{slice_cmp}
use Rattle.std.specs.Ordering.{match_ordering}
use Rattle.std.proofs.lemmas.Bool.{or_parts}
use Rattle.serde_json.specs.Data.{Data, Members, no_members, member, put}
use Rattle.serde_json.specs.View.{view, members_view}
use Rattle.serde_json.specs.Written.{has_float, members_have_float}
use Rattle.serde_json.specs.declared.value.Value.{Value, Object}
use Rattle.serde_json.proofs.Views.{view-Object}
use Rattle.raft_json.proofs.Offered.{has_float-ids_json}
use Rattle.driver_json.specs.Answer.{ids_members}

pub has_float-Object : (m : BTreeMap (String Global) Value) → members_have_float (members_view m.entries) ≡ false → has_float (view (Object m)) ≡ false
has_float-Object m is = ap has_float (view-Object m) ∙ is

pub members_have_float-ids_members : (name ids : List ℕ) (others : Members) → members_have_float others ≡ false → members_have_float (ids_members name ids others) ≡ false
members_have_float-ids_members name ids others is = rw (has_float-ids_json ids) is

by_order : (o : Ordering) (a b c : Members) → members_have_float a ≡ false → members_have_float b ≡ false → members_have_float c ≡ false → members_have_float (match_ordering o a b c) ≡ false
by_order Less a b c x y z = x
by_order Equal a b c x y z = y
by_order Greater a b c x y z = z

-- one more member without a float
pub members_have_float-put : (key : List ℕ) (d : Data) (ms : Members) → has_float d ≡ false → members_have_float ms ≡ false → members_have_float (put key d ms) ≡ false
members_have_float-put key d no_members no_d no_ms = rw no_d refl
members_have_float-put key d (member other e ms) no_d no_ms =
    let parts = or_parts (has_float e) (members_have_float ms) no_ms in
    by_order (slice_cmp nat_cmp key other) (member key d (member other e ms)) (member other d ms) (member other e (put key d ms))
    (rw no_d no_ms) (rw no_d parts.1) (rw parts.0 (members_have_float-put key d ms no_d parts.1))
