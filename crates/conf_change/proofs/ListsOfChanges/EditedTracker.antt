-- The configuration and the progress after the edits of a list of changes.
use Rattle.std.proofs.Common.{◌≡◌, ℕ, Bool, true, false, cond, not, ◌&&◌, ◌||◌, ◌==◌, List, [], ◌∷◌, refl, sym, ap, ◌∙◌, arith, eqb-true}
use Rattle.std.specs.Prelude.{Option, Some, None, IfSome, option_map, is_some}
use Rattle.std.specs.Ordering.{nat_cmp}
use Rattle.std.specs.FinMap as finite
use Rattle.std.specs.Cmp.{nat_cmp_total, unsigned_tied, nat_eq_equiv}
use Rattle.std.proofs.lemmas.Bool.{true≢false, and_parts, not-false}
use Rattle.quorum_sets.specs.Ids.{Ids, has}
use Rattle.quorum_sets.specs.Edits.{item_of, edited, edited_by}
use Rattle.conf_change.specs.Configuration.{Configuration, is_member, is_joint}
use Rattle.conf_change.specs.Change.{last_effective, removes, is_incoming_after, is_learner_after, is_next_after, result_of}
use Rattle.conf_change.specs.Edits.{AreEdits, HasEditedEntries, has_role, entry_after, member_after, with_voters_out}
use Rattle.conf_change.specs.TrackerState.{TrackerState, ProgressMap}
use Rattle.conf_change.specs.TrackerEdits.{entry_of, entry_in, progress_left_after}
use Rattle.conf_change.specs.Changer.{IsSound}
use Rattle.conf_change.specs.declared.change.Change.{Change}
use Rattle.conf_change.specs.declared.change.Kind.{Kind}
use Rattle.conf_change.specs.declared.change.Kind.TheVariants.{Voter, Learner, Remove, Update}
use Rattle.conf_change.specs.declared.edit_list.Edit.{Edit}
use Rattle.conf_change.specs.declared.edit_list.Role.TheVariants as role
use Rattle.conf_change.specs.declared.progress.Progress.{Progress}
use Rattle.conf_change.proofs.Configurations.Validity.{ValidByMember-from_is_valid, has-none_in_empty}
use Rattle.conf_change.proofs.ListsOfChanges.EditOfEach.{IsEffective, edit_with, last-effective, removes-none}
use Rattle.conf_change.proofs.ListsOfChanges.ResultOfEach.{configuration-by_members, has-incoming_after, has-learners_after, has-next_after, option_map-cond}

-- ---- the roles of an id
incoming-edited : (last : Option Kind) (removed out was : Bool) → IsEffective last → edited_by (λ e _. has_role e role.Incoming) (edit_with removed out last) was ≡ is_incoming_after last was
incoming-edited None removed out was h = refl
incoming-edited (Some Voter) removed out was h = refl
incoming-edited (Some Learner) removed out was h = refl
incoming-edited (Some Remove) removed out was h = refl
incoming-edited (Some Update) removed out was h = absurd (true≢false h)

learner-edited : (last : Option Kind) (removed out was : Bool) → IsEffective last → edited_by (λ e _. has_role e role.Learner) (edit_with removed out last) was ≡ is_learner_after last out was
learner-edited None removed out was h = refl
learner-edited (Some Voter) removed out was h = refl
learner-edited (Some Learner) removed out was h = refl
learner-edited (Some Remove) removed out was h = refl
learner-edited (Some Update) removed out was h = absurd (true≢false h)

next-edited : (last : Option Kind) (removed out was : Bool) → IsEffective last → edited_by (λ e _. has_role e role.Next) (edit_with removed out last) was ≡ is_next_after last out was
next-edited None removed out was h = refl
next-edited (Some Voter) removed out was h = refl
next-edited (Some Learner) removed out was h = refl
next-edited (Some Remove) removed out was h = refl
next-edited (Some Update) removed out was h = absurd (true≢false h)

pub configuration-edited : (c d : Configuration) (outgoing : Ids) (auto_leave : Bool) (changes : List Change) (edits : List (ℕ × Edit)) → AreEdits changes outgoing edits
    → ((q : ℕ) → has d.incoming q ≡ edited (λ e _. has_role e role.Incoming) edits q (has c.incoming q)) → d.outgoing ≡ outgoing
    → ((q : ℕ) → has d.learners q ≡ edited (λ e _. has_role e role.Learner) edits q (has c.learners q))
    → ((q : ℕ) → has d.learners_next q ≡ edited (λ e _. has_role e role.Next) edits q (has c.learners_next q)) → d.auto_leave ≡ auto_leave
    → d ≡ result_of (with_voters_out c outgoing auto_leave) changes
configuration-edited c d outgoing auto_leave changes edits are incoming out learners next flag =
    let start = with_voters_out c outgoing auto_leave in
    configuration-by_members d (result_of start changes)
    (λ q. incoming q ∙ ap (λ o. edited_by (λ e _. has_role e role.Incoming) o (has c.incoming q)) (are.each q)
    ∙ incoming-edited (last_effective changes q) (removes changes q) (has outgoing q) (has c.incoming q) (last-effective changes q) ∙ sym (has-incoming_after start changes q))
    out
    (λ q. learners q ∙ ap (λ o. edited_by (λ e _. has_role e role.Learner) o (has c.learners q)) (are.each q)
    ∙ learner-edited (last_effective changes q) (removes changes q) (has outgoing q) (has c.learners q) (last-effective changes q) ∙ sym (has-learners_after start changes q))
    (λ q. next q ∙ ap (λ o. edited_by (λ e _. has_role e role.Next) o (has c.learners_next q)) (are.each q)
    ∙ next-edited (last_effective changes q) (removes changes q) (has outgoing q) (has c.learners_next q) (last-effective changes q) ∙ sym (has-next_after start changes q))
    flag

-- ---- the entry of an id
entry-edited : (next_index : ℕ) (last : Option Kind) (incoming out learner removed : Bool) (had : Option Progress) → IsEffective last
    → (last ≡ None → (removed && not out) ≡ true → had ≡ None) → had ≡ entry_of next_index (incoming || out || learner) learner had
    → edited_by (λ e. entry_after e next_index) (edit_with removed out last) had
    ≡ entry_of next_index (is_incoming_after last incoming || out || is_learner_after last out learner) (is_learner_after last out learner) (progress_left_after removed out had)
entry-edited next_index None incoming out learner removed had h none same = kept (removed && not out) (none refl)
  where
    kept : (b : Bool) → (b ≡ true → had ≡ None) → had ≡ entry_of next_index (incoming || out || learner) learner (cond b None had)
    kept true e = same ∙ ap (entry_of next_index (incoming || out || learner) learner) (e refl)
    kept false e = same
entry-edited next_index (Some Voter) incoming out learner removed had h none same = refl
entry-edited next_index (Some Learner) incoming out learner removed had h none same = refl
entry-edited next_index (Some Remove) incoming out learner removed had h none same = refl
entry-edited next_index (Some Update) incoming out learner removed had h none same = absurd (true≢false h)

-- ---- the members as a list
value-item_of : (es : List (ℕ × Progress)) (q : ℕ) → option_map (λ m. m.1) (item_of (λ m. m.0) q es) ≡ finite.find nat_cmp q es
value-item_of [] q = refl
value-item_of (e ∷ es) q =
    option_map-cond (λ m. m.1) (e.0 == q) e (item_of (λ m. m.0) q es) ∙ (λ i. cond ((nat_eq_equiv.symm e.0 q ∙ sym (unsigned_tied q e.0)) i) (Some e.1) (value-item_of es q i))

value-edited : (next_index q : ℕ) (edit : Option Edit) (had : Option (ℕ × Progress))
    → option_map (λ m. m.1) (edited_by (λ e. member_after e next_index q) edit had) ≡ edited_by (λ e. entry_after e next_index) edit (option_map (λ m. m.1) had)
value-edited next_index q None had = refl
value-edited next_index q (Some e) had = again (entry_after e next_index (option_map (λ m. m.1) had))
  where
    again : (o : Option Progress) → option_map (λ (m : ℕ × Progress). m.1) (option_map (λ p. (q, p)) o) ≡ o
    again None = refl
    again (Some p) = refl

pub get-edited : (next_index : ℕ) (es es' : List (ℕ × Progress)) (edits : List (ℕ × Edit)) (q : ℕ) → item_of (λ m. m.0) q es' ≡ edited (λ e. member_after e next_index q) edits q (item_of (λ m. m.0) q es)
    → finite.get (finite.from_entries {R = nat_cmp} es') q ≡ edited (λ e. entry_after e next_index) edits q (finite.get (finite.from_entries {R = nat_cmp} es) q)
get-edited next_index es es' edits q is =
    finite.get-from_entries nat_cmp_total es' q ∙ sym (value-item_of es' q) ∙ ap (option_map (λ m. m.1)) is
    ∙ value-edited next_index q (finite.find nat_cmp q edits) (item_of (λ m. m.0) q es)
    ∙ ap (edited_by (λ e. entry_after e next_index) (finite.find nat_cmp q edits)) (value-item_of es q ∙ sym (finite.get-from_entries nat_cmp_total es q))

-- ---- the tracker
-- with these outgoing voters the members are the same
abbrev pub HasSameMembers : Configuration → Ids → Type 0
HasSameMembers c outgoing = (q : ℕ) → (has c.incoming q || has outgoing q || has c.learners q) ≡ is_member c q

-- the incoming voters may be the outgoing ones too, where there are none
pub HasSameMembers-entering : (c : Configuration) → is_joint c ≡ false → HasSameMembers c c.incoming
HasSameMembers-entering c single q = grind (arith, has-none_in_empty, not-false)

-- who is a member has progress with its mark, and no other id has any
entry_of-known : (next_index : ℕ) (had : Option Progress) (member learner : Bool) → is_some had ≡ member → IfSome had (λ p. p.learner ≡ learner) → had ≡ entry_of next_index member learner had
entry_of-known next_index had member learner e marked = grind arith

no_progress_of_zero : (t : TrackerState) → IsSound t → finite.get t.progress 0 ≡ None
no_progress_of_zero t sound = grind (arith, ValidByMember-from_is_valid, and_parts)

-- the entry of each id is that of the changes
pub entry-moved : (next_index : ℕ) (before : TrackerState) (outgoing : Ids) (auto_leave : Bool) (changes : List Change) (edits : List (ℕ × Edit)) (after : Configuration) (progress : ProgressMap)
    → IsSound before → HasSameMembers before.config outgoing → AreEdits changes outgoing edits → after ≡ result_of (with_voters_out before.config outgoing auto_leave) changes
    → HasEditedEntries next_index edits before.progress progress → (q : ℕ) → finite.get progress q ≡ entry_in next_index after (progress_left_after (removes changes q) (has after.outgoing q) (finite.get before.progress q)) q
entry-moved next_index before outgoing auto_leave changes edits after progress sound members are is entries q =
    let start = with_voters_out before.config outgoing auto_leave in
    let last = last_effective changes q in
    let had = finite.get before.progress q in
    let incoming_is : has after.incoming q ≡ is_incoming_after last (has before.config.incoming q) = ap (λ c. has c.incoming q) is ∙ has-incoming_after start changes q in
    let out_is : has after.outgoing q ≡ has outgoing q = ap (λ c. has c.outgoing q) is in
    let learner_is : has after.learners q ≡ is_learner_after last (has outgoing q) (has before.config.learners q) = ap (λ c. has c.learners q) is ∙ has-learners_after start changes q in
    entries q ∙ ap (λ o. edited_by (λ e. entry_after e next_index) o had) (are.each q)
    ∙ entry-edited next_index last (has before.config.incoming q) (has outgoing q) (has before.config.learners q) (removes changes q) had (last-effective changes q)
    (λ none removed. no_removal (q == 0) refl none removed) (entry_of-known next_index had _ (has before.config.learners q) (sound.of_members q ∙ sym (members q)) (sound.marked q))
    ∙ sym (λ i. entry_of next_index (incoming_is i || out_is i || learner_is i) (learner_is i) (progress_left_after (removes changes q) (out_is i) had))
  where
    no_removal : (zero : Bool) → (q == 0) ≡ zero → last_effective changes q ≡ None → (removes changes q && not (has outgoing q)) ≡ true → finite.get before.progress q ≡ None
    no_removal true e none removed = ap (finite.get before.progress) (eqb-true q 0 e) ∙ no_progress_of_zero before sound
    no_removal false e none removed = let kept = removes-none changes q e none in grind arith
