-- The changes that a target may not have.
use Rattle.std.specs.Prelude.{◌≡◌, ℕ, ◌<◌, Bool, true, false, ◌==◌, ◌&&◌, List, [], ◌∷◌, length, take, slice_get, filter_map, Option, Some, None, option_and_then, if◌then◌else◌}
use Rattle.std.specs.List.{list_any, range_with_len}
use Rattle.conf_change.specs.Configuration.{Configuration, is_member}
use Rattle.conf_change.specs.declared.change.Change.{Change}
use Rattle.conf_change.specs.declared.change.Kind.{Kind}
use Rattle.conf_change.specs.declared.change.Kind.TheVariants.{Voter, Learner, Remove, Update}
use Rattle.plan_input.specs.declared.text_fault.TextFault.{TextFault}
use Rattle.plan_input.specs.declared.text_fault.TextFault.TheVariants.{Empty, NotAMember, AddedAgain}

-- a change of this kind removes an id
abbrev pub is_removal : Kind → Bool
is_removal Remove = true
is_removal kind = false

-- the change removes this id
abbrev pub removes : ℕ → Change → Bool
removes id change = is_removal change.kind && change.id == id

-- why a change of this kind is refused, by whether the id is a member, and whether an earlier change removes it
abbrev pub refusal_of : Kind → ℕ → Bool → Bool → Option TextFault
refusal_of Remove id is_member is_removed = if is_member then None else Some (NotAMember id)
refusal_of Voter id is_member is_removed = if is_member && is_removed then Some (AddedAgain id) else None
refusal_of Learner id is_member is_removed = if is_member && is_removed then Some (AddedAgain id) else None
refusal_of Update id is_member is_removed = None

-- why a change of this configuration is refused, if these are before it in the list
abbrev pub refusal : Configuration → List Change → Change → Option TextFault
refusal now before change = refusal_of change.kind change.id (is_member now change.id) (list_any (removes change.id) before)

-- why the change at a position of the list is refused
abbrev pub refusal_at : Configuration → List Change → ℕ → Option TextFault
refusal_at now changes position = option_and_then (refusal now (take position changes)) (slice_get changes position)

-- why the first change is refused that is, by its position
abbrev pub first_refusal : Configuration → List Change → Option TextFault
first_refusal now changes = slice_get (filter_map (refusal_at now changes) (range_with_len 0 (length changes))) 0

-- why a list of changes is no target of this configuration
abbrev pub list_refusal : Configuration → List Change → Option TextFault
list_refusal now [] = Some Empty
list_refusal now (change ∷ changes) = first_refusal now (change ∷ changes)

-- no change of the list is refused
abbrev pub NoneRefused : Configuration → List Change → Type 0
NoneRefused now changes = (position : ℕ) → refusal_at now changes position ≡ None

-- this is why the first change is refused that is
pub record IsFirstRefusal (now : Configuration) (changes : List Change) (why : TextFault) : Type 0 where
  pub position : ℕ
  pub reason : refusal_at now changes position ≡ Some why
  pub is_first : (before : ℕ) → before < position → refusal_at now changes before ≡ None
