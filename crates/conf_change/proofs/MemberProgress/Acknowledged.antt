-- What an acknowledgement owes.
use Rattle.std.proofs.Common.{◌≡◌, ℕ, Bool, true, false, cond, ◌==◌, T, List, [], ◌∷◌, map, refl, sym, ap, subst, ◌∙◌, eqb→eq, arith}
use Rattle.std.specs.Prelude.{Option, Some, None, Ok, Err, IfSome, is_some, option_map}
use Rattle.std.specs.Ordering.{nat_cmp}
use Rattle.std.specs.Cmp.{nat_cmp_total, unsigned_tied}
use Rattle.std.specs.FinMap as finite
use Rattle.std.specs.FinMap.{find, nat_cmp-IsAntisymmetric}
use Rattle.quorum_sets.specs.Committed.{greatest_index}
use Rattle.quorum_sets.specs.Ids.{has}
use Rattle.conf_change.specs.Configuration.{Configuration, is_member}
use Rattle.conf_change.specs.Acknowledgement.{acknowledged, acknowledged_progress, ack_answer, with_progress, changer_with_progress, matches}
use Rattle.conf_change.specs.Changer.{TrackerState, ChangerState, IsSound, tracker_of}
use Rattle.conf_change.specs.Floor.{IsAhead}
use Rattle.conf_change.specs.declared.acknowledgement.AckFault.TheVariants.{IndexTooLarge}
use Rattle.conf_change.specs.declared.floor.Floor.{Floor}
use Rattle.conf_change.specs.declared.progress.Progress.{Progress}

-- ---- the match of each member
find-matched : (q : ℕ) (es : List (ℕ × Progress))
    → find nat_cmp q (map (λ e. (e.0, e.1.matched)) es) ≡ option_map (λ p. p.matched) (find nat_cmp q es)
find-matched q [] = refl
find-matched q (e ∷ es) = grind (arith, find-matched q es)

pub get-matches : (t : TrackerState) (q : ℕ) → finite.get (matches t) q ≡ option_map (λ p. p.matched) (finite.get t.progress q)
get-matches t q =
    finite.get-from_entries nat_cmp_total (map (λ e. (e.0, e.1.matched)) (finite.entries t.progress)) q
    ∙ find-matched q (finite.entries t.progress) ∙ ap (option_map (λ p. p.matched)) (sym (finite.get-entries t.progress q))

-- ---- who has which progress
pub get-with_progress : (t : TrackerState) (id : ℕ) (p : Progress) (q : ℕ)
    → finite.get (with_progress t id p).progress q ≡ cond (q == id) (Some p) (finite.get t.progress q)
get-with_progress t id p q =
    finite.get-insert nat_cmp_total t.progress id p q ∙ ap (λ b. cond b (Some p) (finite.get t.progress q)) (unsigned_tied q id)

-- what holds of the one entry and buffered of each holds of each
holds_of_each : (P : ℕ → Progress → Type 0) (t : TrackerState) (id : ℕ) (p : Progress) → P id p → ((q : ℕ) → IfSome (finite.get t.progress q) (P q))
    → (q : ℕ) → IfSome (finite.get (with_progress t id p).progress q) (P q)
holds_of_each P t id p here kept_back q =
    let Q : Option Progress → Type 0 = λ o. IfSome o (P q) in
    subst Q (sym (get-with_progress t id p q)) (by (q == id) refl)
  where
    by : (b : Bool) → (q == id) ≡ b → IfSome (cond b (Some p) (finite.get t.progress q)) (P q)
    by true e = let R : ℕ → Type 0 = λ x. P x p in subst R (sym (eqb→eq q id (subst T (sym e) tt))) here
    by false e = kept_back q

found : (P : Progress → Type 0) (o : Option Progress) (was : Progress) → o ≡ Some was → IfSome o P → P was
found P o was e h = let Q : Option Progress → Type 0 = λ x. IfSome x P in subst Q e h

marked-acknowledged : (index : ℕ) (was : Progress) → (acknowledged index was).learner ≡ was.learner
marked-acknowledged index was = grind arith

ahead-acknowledged : (floor : Floor) (index : ℕ) (was : Progress) → IsAhead floor was → IsAhead floor (acknowledged index was)
ahead-acknowledged floor index was ahead = grind arith

-- an acknowledgement leaves a tracker sound
pub ack-is_sound : (t : TrackerState) (id index : ℕ) (was p : Progress) → IsSound t → finite.get t.progress id ≡ Some was → p ≡ acknowledged index was
    → IsSound (with_progress t id p)
ack-is_sound t id index was p sound had is =
    let marked = found (λ x. x.learner ≡ has t.config.learners id) (finite.get t.progress id) was had (sound.marked id) in
    let ahead = found (IsAhead t.floor) (finite.get t.progress id) was had (sound.ahead id) in
    let Ahead : Progress → Type 0 = IsAhead t.floor in
    record {
      restorable = sound.restorable;
      of_members = λ q. ap is_some (get-with_progress t id p q) ∙ member (q == id) q refl;
      marked = holds_of_each (λ q x. x.learner ≡ has t.config.learners q) t id p (ap (λ x. x.learner) is ∙ marked-acknowledged index was ∙ marked) sound.marked;
      ahead = holds_of_each (λ q. IsAhead t.floor) t id p (subst Ahead (sym is) (ahead-acknowledged t.floor index was ahead)) sound.ahead;
    }
  where
    member : (b : Bool) (q : ℕ) → (q == id) ≡ b → is_some (cond b (Some p) (finite.get t.progress q)) ≡ is_member t.config q
    member true q e = sym (ap is_some had) ∙ sound.of_members id ∙ ap (is_member t.config) (sym (eqb→eq q id (subst T (sym e) tt)))
    member false q e = sound.of_members q

pub ack_answer-is_sound : (before : ChangerState) (id index : ℕ) (p : Progress) → IsSound before.tracker → ack_answer before.tracker id index ≡ Ok p
    → IsSound (changer_with_progress before id p).tracker
ack_answer-is_sound before id index p sound = by (finite.get before.tracker.progress id) refl where
  is_acknowledged : (was : Progress) (large : Bool) → cond large (Err IndexTooLarge) (Ok (acknowledged index was)) ≡ Ok p → p ≡ acknowledged index was
  is_acknowledged was large e = grind arith

  by : (o : Option Progress) → finite.get before.tracker.progress id ≡ o → acknowledged_progress o index ≡ Ok p → IsSound (changer_with_progress before id p).tracker
  by None had e = cc
  by (Some was) had e = ack-is_sound before.tracker id index was p sound had (is_acknowledged was (index == greatest_index) e)

-- ---- a write to one entry
pub progress-set : (t : TrackerState) (floor : Floor) (d : Configuration) (id : ℕ) (p : Progress) (fs : List (ℕ × Progress))
    → floor ≡ t.floor → d ≡ t.config → ((q : ℕ) → finite.get (finite.from_entries {R = nat_cmp} fs) q ≡ cond (q == id) (Some p) (finite.get t.progress q))
    → tracker_of floor d (finite.from_entries {R = nat_cmp} fs) ≡ with_progress t id p
progress-set t floor d id p fs same_floor same_config gets =
    let same : finite.from_entries {R = nat_cmp} fs ≡ finite.insert t.progress id p =
    finite.same_map nat_cmp_total nat_cmp-IsAntisymmetric _ _ (λ q. gets q ∙ sym (get-with_progress t id p q)) in
    λ i. tracker_of (same_floor i) (same_config i) (same i)
