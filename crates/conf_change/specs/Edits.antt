-- Edits: what a list of changes makes of each id that it names. Of v4 r4 l4 the edit of 4 is Learner with a removal.
use Rattle.std.specs.Prelude.{◌≡◌, ℕ, ◌==◌, Bool, false, ◌||◌, List, map, Option, Some, None, option_map, if◌then◌else◌}
use Rattle.std.specs.Ordering.{nat_cmp}
use Rattle.std.specs.FinMap as finite
use Rattle.std.specs.FinMap.{find}
use Rattle.quorum_sets.specs.Ids.{Ids, has}
use Rattle.quorum_sets.specs.AscendingLists.{IsAscending}
use Rattle.quorum_sets.specs.Edits.{edited}
use Rattle.conf_change.specs.Configuration.{Configuration}
use Rattle.conf_change.specs.Change.{last_effective, removes, is_removal, is_incoming_after, is_learner_after, is_next_after}
use Rattle.conf_change.specs.TrackerEdits.{entry_of, progress_left_after}
use Rattle.conf_change.specs.TrackerState.{ProgressMap}
use Rattle.conf_change.specs.declared.change.Change.{Change}
use Rattle.conf_change.specs.declared.change.Kind.{Kind}
use Rattle.conf_change.specs.declared.edit_list.Edit.{Edit}
use Rattle.conf_change.specs.declared.edit_list.Role.{Role}
use Rattle.conf_change.specs.declared.edit_list.Role.TheVariants.{Incoming, Learner, Next}
use Rattle.conf_change.specs.declared.progress.Progress.{Progress}
use Rattle.conf_change.specs.declared.step.StepKind.{StepKind}
use Rattle.conf_change.specs.declared.step.StepKind.TheVariants as kind

-- the edit of an id among these outgoing voters, if the changes have an effective one of it
abbrev pub edit_of : List Change → Ids → ℕ → Option Edit
edit_of changes outgoing id = option_map (λ kind. record { kind = kind; removed = removes changes id; outgoing = has outgoing id }) (last_effective changes id)

-- the edits of the changes, in ascending order of the ids
pub record AreEdits (changes : List Change) (outgoing : Ids) (edits : List (ℕ × Edit)) : Type 0 where
  pub ascends : IsAscending (map (λ e. e.0) edits)
  pub each : (id : ℕ) → find nat_cmp id edits ≡ edit_of changes outgoing id

-- whether the id has the role after the edit; an outgoing voter does not become a learner yet, but a next learner
abbrev pub has_role : Edit → Role → Bool
has_role edit Incoming = is_incoming_after (Some edit.kind) false
has_role edit Learner = is_learner_after (Some edit.kind) edit.outgoing false
has_role edit Next = is_next_after (Some edit.kind) edit.outgoing false

-- whether the id is a member after the edit
abbrev pub has_member_role : Edit → Bool
has_member_role edit = has_role edit Incoming || edit.outgoing || has_role edit Learner

-- the entry of the id after the edit: a member keeps its progress, unless a change removes it and it is not an outgoing
-- voter; then, or if it is new, it gets fresh progress; any other id has none
abbrev pub entry_after : Edit → ℕ → Option Progress → Option Progress
entry_after edit next_index had = entry_of next_index (has_member_role edit) (has_role edit Learner) (progress_left_after edit.removed edit.outgoing had)

-- the same of an id with its progress
abbrev pub member_after : Edit → ℕ → ℕ → Option (ℕ × Progress) → Option (ℕ × Progress)
member_after edit next_index id had = option_map (λ p. (id, p)) (entry_after edit next_index (option_map (λ m. m.1) had))

-- the edit of an id after one more effective change of this kind
abbrev pub with_change : Option Edit → Kind → Bool → Edit
with_change None kind outgoing = record { kind = kind; removed = is_removal kind; outgoing = outgoing }
with_change (Some edit) kind outgoing = record { kind = kind; removed = edit.removed || is_removal kind; outgoing = edit.outgoing }

-- the edits after one more effective change: the edit of its id has the change too
abbrev pub Adds : Change → Bool → List (ℕ × Edit) → List (ℕ × Edit) → Type 0
Adds change outgoing before after =
    (q : ℕ) → find nat_cmp q after ≡ (if q == change.id then Some (with_change (find nat_cmp change.id before) change.kind outgoing) else find nat_cmp q before)

-- the progress after the edits: each id has the entry that its edit gives, or the one that it had
abbrev pub HasEditedEntries : ℕ → List (ℕ × Edit) → ProgressMap → ProgressMap → Type 0
HasEditedEntries next_index edits before after =
    (id : ℕ) → finite.get after id ≡ edited (λ e. entry_after e next_index) edits id (finite.get before id)

-- the configuration with these outgoing voters and this flag
abbrev pub with_voters_out : Configuration → Ids → Bool → Configuration
with_voters_out c outgoing auto_leave = record c { outgoing = outgoing; auto_leave = auto_leave }

-- the edits of a step of this kind: leaving a joint configuration has none
abbrev pub HasEdits : StepKind → List Change → Ids → List (ℕ × Edit) → Type 0
HasEdits kind.Leave changes outgoing edits = Unit {0}
HasEdits kind.Simple changes outgoing edits = AreEdits changes outgoing edits
HasEdits (kind.Enter _) changes outgoing edits = AreEdits changes outgoing edits
