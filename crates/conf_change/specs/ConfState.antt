-- Saved configurations (etcd's `raftpb.ConfState`): four lists and a flag.
use Rattle.std.specs.Prelude.{◌≡◌, ℕ, Bool, ◌&&◌, List, length, Option, Some, None, nat_eq, if◌then◌else◌}
use Rattle.quorum_sets.specs.Ids.{Ids, ascending, size, ids_of}
use Rattle.conf_change.specs.Configuration.{Configuration, is_restorable}

-- a ConfState: its lists, in their order, and its flag
pub record ConfStateLists : Type 0 where
  pub voters : List ℕ
  pub voters_outgoing : List ℕ
  pub learners : List ℕ
  pub learners_next : List ℕ
  pub auto_leave : Bool

-- the list names the ids of the set, each once
pub record Lists (list : List ℕ) (ids : Ids) : Type 0 where
  pub same : ids_of list ≡ ids
  pub once : length list ≡ size ids

-- the ConfState describes the configuration: its lists name the ids of the sets, each once, in any order
pub record Describes (saved : ConfStateLists) (c : Configuration) : Type 0 where
  pub incoming : Lists saved.voters c.incoming
  pub outgoing : Lists saved.voters_outgoing c.outgoing
  pub learners : Lists saved.learners c.learners
  pub learners_next : Lists saved.learners_next c.learners_next
  pub auto_leave : saved.auto_leave ≡ c.auto_leave

-- the ConfState of a configuration, with its lists in ascending order
abbrev pub lists_of : Configuration → ConfStateLists
lists_of c = record {
  voters = ascending c.incoming;
  voters_outgoing = ascending c.outgoing;
  learners = ascending c.learners;
  learners_next = ascending c.learners_next;
  auto_leave = c.auto_leave;
}

-- the list names no id twice: it has as many items as its set
abbrev pub names_once : List ℕ → Bool
names_once list = nat_eq (length list) (size (ids_of list))

-- the configuration whose sets have the ids of the lists, which may have repeats
abbrev pub named_by : ConfStateLists → Configuration
named_by saved = record {
  incoming = ids_of saved.voters;
  outgoing = ids_of saved.voters_outgoing;
  learners = ids_of saved.learners;
  learners_next = ids_of saved.learners_next;
  auto_leave = saved.auto_leave;
}

-- no list names an id twice
abbrev pub names_each_once : ConfStateLists → Bool
names_each_once saved = names_once saved.voters && names_once saved.voters_outgoing && names_once saved.learners && names_once saved.learners_next

-- the configuration to which a ConfState is restored, if no list names an id twice and the configuration can be
-- restored
abbrev pub restored : ConfStateLists → Option Configuration
restored saved =
    if names_each_once saved && is_restorable (named_by saved)
    then Some (named_by saved) else None
