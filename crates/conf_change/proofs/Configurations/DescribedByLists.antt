-- Lists of ids, and the configurations that they describe.
use Rattle.std.proofs.Common.{arith, ◌≡◌, ℕ, true, cond, ◌&&◌, List, length, refl, sym, ap, subst, ◌∙◌, eq-eqb, eqb-true}
use Rattle.std.specs.Prelude.{Option, Some, None}
use Rattle.std.proofs.lemmas.Bool.{and_parts, and_from}
use Rattle.std.proofs.lemmas.Option.{cond_some}
use Rattle.quorum_sets.specs.Ids.{Ids, ascending, size, ids_of}
use Rattle.quorum_sets.proofs.Offered.{has-same_ids, has-ids_of, has-ascending}
use Rattle.conf_change.specs.Configuration.{Configuration, is_restorable}
use Rattle.conf_change.specs.ConfState.{ConfStateLists, Lists, Describes, lists_of, names_once, names_each_once, named_by, restored}
use Rattle.conf_change.specs.Described.{described}

-- ---- lists that name a set
pub ids_of-ascending : (s : Ids) → ids_of (ascending s) ≡ s
ids_of-ascending s = has-same_ids _ _ (λ q. has-ids_of (ascending s) q ∙ sym (has-ascending s q))

-- the ids of two sets are those of the one where the other has none
pub Lists-ascending : (s : Ids) → Lists (ascending s) s
Lists-ascending s = record { same = ids_of-ascending s; once = refl }

pub names_once-from_Lists : (list : List ℕ) (s : Ids) → Lists list s → names_once list ≡ true
names_once-from_Lists list s l = eq-eqb (length list) (size (ids_of list)) (l.once ∙ ap size (sym l.same))

pub Lists-from_names_once : (list : List ℕ) → names_once list ≡ true → Lists list (ids_of list)
Lists-from_names_once list e = record { same = refl; once = eqb-true (length list) (size (ids_of list)) e }

-- ---- configurations that are described
pub Describes-lists_of : (c : Configuration) → Describes (lists_of c) c
Describes-lists_of c = grind (arith, Lists-ascending)

-- the one that is described is the one that is named
pub named_by-from_Describes : (saved : ConfStateLists) (c : Configuration) → Describes saved c → named_by saved ≡ c
named_by-from_Describes saved c d i = record {
  incoming = d.incoming.same i;
  outgoing = d.outgoing.same i;
  learners = d.learners.same i;
  learners_next = d.learners_next.same i;
  auto_leave = d.auto_leave i;
}

pub Describes-same : (saved : ConfStateLists) (c d : Configuration) → Describes saved c → Describes saved d → c ≡ d
Describes-same saved c d is_c is_d = sym (named_by-from_Describes saved c is_c) ∙ named_by-from_Describes saved d is_d

-- ---- the configuration to which a saved form is restored
pub names_each_once-from_Describes : (saved : ConfStateLists) (c : Configuration) → Describes saved c → names_each_once saved ≡ true
names_each_once-from_Describes saved c d = grind (arith, names_once-from_Lists)

pub Describes-from_names_each_once : (saved : ConfStateLists) → names_each_once saved ≡ true → Describes saved (named_by saved)
Describes-from_names_each_once saved e = grind (arith, Lists-from_names_once)

pub described-from_Describes : (saved : ConfStateLists) (c : Configuration) → Describes saved c → described saved ≡ Some c
described-from_Describes saved c d = λ i. cond (names_each_once-from_Describes saved c d i) (Some (named_by-from_Describes saved c d i)) None

pub restored-from_Describes : (saved : ConfStateLists) (c : Configuration) → Describes saved c → is_restorable c ≡ true → restored saved ≡ Some c
restored-from_Describes saved c d ok =
    (λ i. cond (passes i) (Some (named_by-from_Describes saved c d i)) None)
  where
    passes : (names_each_once saved && is_restorable (named_by saved)) ≡ true
    passes = and_from _ _ (names_each_once-from_Describes saved c d) (ap is_restorable (named_by-from_Describes saved c d) ∙ ok)

pub record IsDescribed (saved : ConfStateLists) (c : Configuration) : Type 0 where
  pub describes : Describes saved c
  pub restorable : is_restorable c ≡ true

pub IsDescribed-from_restored : (saved : ConfStateLists) (c : Configuration) → restored saved ≡ Some c → IsDescribed saved c
IsDescribed-from_restored saved c e =
    let found = cond_some (names_each_once saved && is_restorable (named_by saved)) (named_by saved) c e in
    let tests = and_parts (names_each_once saved) (is_restorable (named_by saved)) found.0 in
    subst (IsDescribed saved) found.1 (record { describes = Describes-from_names_each_once saved tests.0; restorable = tests.1 })

pub restored-none : (saved : ConfStateLists) → ((c : Configuration) → Describes saved c → is_restorable c ≡ true → ⊥) → restored saved ≡ None
restored-none saved none = of_option (restored saved) refl
  where
    of_option : (o : Option Configuration) → restored saved ≡ o → restored saved ≡ None
    of_option None e = e
    of_option (Some c) e = let is = IsDescribed-from_restored saved c e in absurd (none c is.describes is.restorable)
