-- What the list of moves states of each id.
use Rattle.std.proofs.Common.{◌≡◌, ℕ, Bool, false, cond, not, ◌&&◌, ◌||◌, ◌==◌, List, [], ◌∷◌, reverse, refl, eqb-true, arith}
use Rattle.std.specs.Prelude.{Option, Some, None, IfSome, option_map, filter_map, count_by}
use Rattle.std.specs.Option.{option_or}
use Rattle.std.specs.List.{All, list_any, cons_option}
use Rattle.std.proofs.lemmas.List.{reverse-append}
use Rattle.std.proofs.lemmas.List.Elements.{All-nil, All-cons}
use Rattle.std.proofs.lemmas.List.Folds.{find-append}
use Rattle.std.proofs.lemmas.List.Sums.{sum_by-cons}
use Rattle.quorum_sets.specs.Ids.{Ids, ascending, has, union}
use Rattle.quorum_sets.proofs.Offered.{has-ascending}
pub use Rattle.quorum_sets.proofs.Offered.{has-union}
use Rattle.conf_change.specs.Configuration.{Configuration}
use Rattle.conf_change.specs.Change.{names, last_effective, is_update}
use Rattle.conf_change.specs.declared.change.Change.{Change}
use Rattle.conf_change.specs.declared.change.Kind.{Kind}
use Rattle.conf_change.proofs.Offered.{last_effective-one}
use Rattle.conf_plan.specs.Planned.{kind_by, kind_of_move, moves}

-- ---- a list with one change per id
abbrev pub change_of : ℕ → Kind → Change
change_of id kind = record { kind = kind; id = id }

-- the change is the one for its id
abbrev pub IsFor : (ℕ → Option Kind) → Change → Type 0
IsFor kind_for change = kind_for change.id ≡ Some change.kind

pub filter_map-each : (kind_for : ℕ → Option Kind) (ids : List ℕ) → All (IsFor kind_for) (filter_map (λ id. option_map (change_of id) (kind_for id)) ids)
filter_map-each kind_for [] = All-nil (IsFor kind_for)
filter_map-each kind_for (x ∷ ids) = first (kind_for x) refl _ (filter_map-each kind_for ids)
  where
    first : (o : Option Kind) → kind_for x ≡ o → (changes : List Change) → All (IsFor kind_for) changes → All (IsFor kind_for) (cons_option (option_map (change_of x) o) changes)
    first None is changes rest = rest
    first (Some kind) is changes rest = All-cons (IsFor kind_for) (change_of x kind) changes is rest

-- the first change has its say where the others have none
pub last_effective-cons : (x : Change) (xs : List Change) (q : ℕ) → last_effective (x ∷ xs) q ≡ option_or (last_effective xs q) (cond (names q x) (Some x.kind) None)
last_effective-cons x xs q =
    grind (arith, reverse-append (x ∷ []) xs, find-append (names q) (reverse xs) (x ∷ []), last_effective-one x q)

-- nor has an id that no change names a last effective one
pub last_effective-none : (changes : List Change) (q : ℕ) → count_by (names q) changes ≡ 0 → last_effective changes q ≡ None
last_effective-none [] q none = refl
last_effective-none (x ∷ changes) q none = grind (arith, last_effective-cons x changes q, sum_by-cons (λ y. cond (names q y) 1 0) x changes, last_effective-none changes q)

-- the id x goes before those of the list
with_first : (kind_for : ℕ → Option Kind) (x q : ℕ) (xs : List Change) (later : Bool) (o : Option Kind) → kind_for x ≡ o → IfSome o (λ kind. is_update kind ≡ false)
    → last_effective xs q ≡ cond (later && not (q == 0)) (kind_for q) None
    → last_effective (cons_option (option_map (change_of x) o) xs) q ≡ cond (((q == x) || later) && not (q == 0)) (kind_for q) None
with_first kind_for x q xs later None e plain rest = grind (arith, eqb-true q x)
with_first kind_for x q xs later (Some kind) e plain rest = grind (arith, last_effective-cons (change_of x kind) xs q, eqb-true q x)

-- where each id of a list gets the change that is for it, each other than 0 goes by that change
last_effective-each : (kind_for : ℕ → Option Kind) → ((id : ℕ) → IfSome (kind_for id) (λ kind. is_update kind ≡ false)) → (ids : List ℕ) (q : ℕ)
    → last_effective (filter_map (λ id. option_map (change_of id) (kind_for id)) ids) q ≡ cond (list_any (λ x. q == x) ids && not (q == 0)) (kind_for q) None
last_effective-each kind_for plain [] q = refl
last_effective-each kind_for plain (x ∷ xs) q = with_first kind_for x q _ _ (kind_for x) refl (plain x) (last_effective-each kind_for plain xs q)

-- ---- the moves
pub kind_by-no_update : (v m i l : Bool) → IfSome (kind_by v m i l) (λ kind. is_update kind ≡ false)
kind_by-no_update v m i l = grind arith

pub last_effective-moves : (c : Configuration) (voters learners : Ids) (q : ℕ) → kind_of_move c voters learners 0 ≡ None
    → last_effective (moves c voters learners) q ≡ kind_by (has voters q) (has learners q) (has c.incoming q) (has c.learners q)
last_effective-moves c voters learners q zero =
    grind (
      arith,
      last_effective-each (kind_of_move c voters learners) (λ id. kind_by-no_update (has voters id) (has learners id) (has c.incoming id) (has c.learners id))
          (ascending (union (union voters learners) (union c.incoming c.learners))) q,
      has-ascending (union (union voters learners) (union c.incoming c.learners)) q,
      has-union (union voters learners) (union c.incoming c.learners) q,
      has-union voters learners q,
      has-union c.incoming c.learners q,
      eqb-true q 0,
      zero,
    )
