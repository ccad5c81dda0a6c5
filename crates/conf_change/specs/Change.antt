-- The result of a list of changes: the last effective change of an id decides its roles (etcd's package `confchange`).
use Rattle.std.specs.Prelude.{ℕ, Bool, true, false, not, ◌&&◌, ◌==◌, List, ◌++◌, map, reverse, find, Option, Some, None, option_map}
use Rattle.std.specs.List.{list_any}
use Rattle.quorum_sets.specs.Ids.{Ids, has, ascending, ids_where}
use Rattle.conf_change.specs.Configuration.{Configuration}
use Rattle.conf_change.specs.declared.change.Change.{Change}
use Rattle.conf_change.specs.declared.change.Kind.{Kind}
use Rattle.conf_change.specs.declared.change.Kind.TheVariants.{Voter, Learner, Remove, Update}

-- the kind is an update, which changes nothing
abbrev pub is_update : Kind → Bool
is_update Voter = false
is_update Learner = false
is_update Remove = false
is_update Update = true

-- the kind is a removal
abbrev pub is_removal : Kind → Bool
is_removal Voter = false
is_removal Learner = false
is_removal Remove = true
is_removal Update = false

-- the change is effective for the id: it names the id, which is not 0, and is not an update
abbrev pub names : ℕ → Change → Bool
names id change = (change.id == id) && not (id == 0) && not (is_update change.kind)

-- the kind of the last effective change of the id: Learner for 4 in v4 l4 u4
abbrev pub last_effective : List Change → ℕ → Option Kind
last_effective changes id = option_map (λ change. change.kind) (find (names id) (reverse changes))

-- whether an id is an incoming voter after its last effective change
abbrev pub is_incoming_after : Option Kind → Bool → Bool
is_incoming_after None was = was
is_incoming_after (Some Voter) was = true
is_incoming_after (Some Learner) was = false
is_incoming_after (Some Remove) was = false
is_incoming_after (Some Update) was = was

-- whether an id is a learner after its last effective change; an outgoing voter does not become one yet
abbrev pub is_learner_after : Option Kind → Bool → Bool → Bool
is_learner_after None outgoing was = was
is_learner_after (Some Voter) outgoing was = false
is_learner_after (Some Learner) outgoing was = not outgoing
is_learner_after (Some Remove) outgoing was = false
is_learner_after (Some Update) outgoing was = was

-- whether an id is a next learner after its last effective change; only an outgoing voter becomes one
abbrev pub is_next_after : Option Kind → Bool → Bool → Bool
is_next_after None outgoing was = was
is_next_after (Some Voter) outgoing was = false
is_next_after (Some Learner) outgoing was = outgoing
is_next_after (Some Remove) outgoing was = false
is_next_after (Some Update) outgoing was = was

-- the ids that the changes name, and those of a set: the candidates for the set after the changes
abbrev pub named_or_in : List Change → Ids → List ℕ
named_or_in changes ids = map (λ change. change.id) changes ++ ascending ids

-- the configuration after the changes: the outgoing voters and the flag stay, and the last effective change of an id
-- decides its other roles
abbrev pub result_of : Configuration → List Change → Configuration
result_of c changes = record {
  incoming = ids_where (λ id. is_incoming_after (last_effective changes id) (has c.incoming id)) (named_or_in changes c.incoming);
  outgoing = c.outgoing;
  learners = ids_where (λ id. is_learner_after (last_effective changes id) (has c.outgoing id) (has c.learners id)) (named_or_in changes c.learners);
  learners_next = ids_where (λ id. is_next_after (last_effective changes id) (has c.outgoing id) (has c.learners_next id)) (named_or_in changes c.learners_next);
  auto_leave = c.auto_leave;
}

-- the list removes the id, whatever the other changes of the id are
abbrev pub removes : List Change → ℕ → Bool
removes changes id = list_any (λ change. (change.id == id) && is_removal change.kind) changes
