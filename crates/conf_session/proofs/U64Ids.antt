-- That ids are numbers of 64 bits: those of an input are, an accepted step leads to no others, and a plan names no others.
use Rattle.std.proofs.Common.{◌≡◌, ℕ, ◌<◌, ◌^◌, ◌==◌, ◌&&◌, Bool, true, false, List, [], ◌∷◌, ◌++◌, map, refl, sym, ◌∙◌, subst, inl, inr, eqb-true, arith}
use Rattle.std.proofs.lemmas.Grind.{common_steps}
use Rattle.std.specs.Prelude.{Option, Some, None, IfSome, option_map, Result, Ok, Err, IfOk, filter, filter_map, if◌then◌else◌}
use Rattle.std.specs.List.{All, AllZip, cons_option, list_any}
use Rattle.std.specs.Result.{result_unwrap_or}
use Rattle.std.proofs.lemmas.Bool.{or_cases}
use Rattle.std.proofs.lemmas.Cmp.{nat_eq_equiv}
use Rattle.std.proofs.lemmas.List.Elements.{All-nil, All-cons, All-head, All-tail, All-append, All-filter, All-map}
use Rattle.std.proofs.lemmas.Map.Views.{All-from_any}
use Rattle.ascii_text.specs.Number.{ParsesToNumber}
use Rattle.ascii_text.specs.Tokens.{tokens_in}
use Rattle.quorum_sets.specs.Ids.{Ids, no_ids, ascending, ids_of, ids_where, union}
use Rattle.quorum_sets.proofs.Offered.{ascending-no_ids, has-ascending, has-ids_of}
use Rattle.conf_change.specs.Change.{named_or_in, result_of}
use Rattle.conf_change.specs.ChangeList.{BadToken, ParsesTo, changes_in}
use Rattle.conf_change.specs.Configuration.{Configuration, empty_configuration, is_joint, is_restorable, is_same, is_same_set, members}
use Rattle.conf_change.specs.ConfState.{ConfStateLists, named_by, names_each_once, restored}
use Rattle.conf_change.specs.ConfStateLine.{conf_state_in}
use Rattle.conf_change.specs.Outcome.{Outcome, after_leave, outcome, with_outgoing}
use Rattle.conf_change.specs.U64Lists.{HasU64Lists}
use Rattle.conf_change.specs.declared.change.Change.{Change}
use Rattle.conf_change.specs.declared.change.Kind.{Kind}
use Rattle.conf_change.specs.declared.step.Step.{Step}
use Rattle.conf_change.specs.declared.step.Step.TheVariants.{Simple, EnterJoint, LeaveJoint}
use Rattle.conf_change.proofs.Offered.{AllZip-from_ok, DenotesConfState-from_some, EnterTaken-from_outcome, LeaveTaken-from_outcome, SimpleTaken-from_outcome}
use Rattle.conf_plan.specs.PlanSteps.{HasU64Ids}
use Rattle.conf_plan.specs.Planned.{configuration_after, entering_step, inserted_steps, is_shared, joint_steps, move_of, moves, planned, planned_from_single, shared_members, single_steps}
use Rattle.conf_session.specs.Input.{Input, changes_read, conf_state_read, no_change_read, of_changes, read_input}
use Rattle.conf_session.specs.declared.input.InputKind.{InputKind}
use Rattle.conf_session.specs.declared.input.InputKind.TheVariants.{Changes, NoChange, ConfStateLine, Nothing}

-- the id is a number of 64 bits
abbrev pub IsU64 : ℕ → Type 0
IsU64 id = id < 2 ^ 64

-- the changes name such ids alone
abbrev pub NameU64 : List Change → Type 0
NameU64 changes = All (λ change. change.id < 2 ^ 64) changes

-- ---- sets
-- an id of a list of such ids
listed-u64 : (xs : List ℕ) (q : ℕ) → All IsU64 xs → list_any (λ x. q == x) xs ≡ true → IsU64 q
listed-u64 [] q small is = let wrong : ⊥ = cc in absurd wrong
listed-u64 (x ∷ xs) q small is = elim (or_cases (q == x) (list_any (λ y. q == y) xs) is) [
  | inl same ↦ subst IsU64 (sym (eqb-true q x same)) (All-head IsU64 x xs small)
  | inr later ↦ listed-u64 xs q (All-tail IsU64 x xs small) later
]

-- the set of a list of such ids has no others
ids_of-u64 : (xs : List ℕ) → All IsU64 xs → All IsU64 (ascending (ids_of xs))
ids_of-u64 xs small =
    All-from_any nat_eq_equiv IsU64 (ascending (ids_of xs)) (λ q listed. listed-u64 xs q small (sym (has-ids_of xs q) ∙ has-ascending (ids_of xs) q ∙ listed))

pub where-u64 : (test : ℕ → Bool) (xs : List ℕ) → All IsU64 xs → All IsU64 (ascending (ids_where test xs))
where-u64 test xs small = ids_of-u64 (filter test xs) (All-filter test IsU64 xs small)

pub union-u64 : (a b : Ids) → All IsU64 (ascending a) → All IsU64 (ascending b) → All IsU64 (ascending (union a b))
union-u64 a b first second = ids_of-u64 (ascending a ++ ascending b) (All-append IsU64 (ascending a) (ascending b) first second)

none-u64 : All IsU64 (ascending no_ids)
none-u64 = subst (All IsU64) (sym ascending-no_ids) (All-nil IsU64)

pub empty-u64 : HasU64Lists empty_configuration
empty-u64 = record { incoming = none-u64; outgoing = none-u64; learners = none-u64; learners_next = none-u64 }

members-u64 : (c : Configuration) → HasU64Lists c → All IsU64 (members c)
members-u64 c small = grind (arith, common_steps, All-append)

-- ---- a step
result-u64 : (c : Configuration) (changes : List Change) → HasU64Lists c → NameU64 changes → HasU64Lists (result_of c changes)
result-u64 c changes small named = record {
  incoming = where-u64 _ (named_or_in changes c.incoming) (among c.incoming small.incoming);
  outgoing = small.outgoing;
  learners = where-u64 _ (named_or_in changes c.learners) (among c.learners small.learners);
  learners_next = where-u64 _ (named_or_in changes c.learners_next) (among c.learners_next small.learners_next);
}
  where
    among : (ids : Ids) → All IsU64 (ascending ids) → All IsU64 (named_or_in changes ids)
    among ids in_set = All-append IsU64 (map (λ change. change.id) changes) (ascending ids) (All-map IsU64 (λ change. change.id) changes named) in_set

pub after_leave-u64 : (c : Configuration) → HasU64Lists c → HasU64Lists (after_leave c)
after_leave-u64 c small = record {
  incoming = small.incoming;
  outgoing = none-u64;
  learners = union-u64 c.learners c.learners_next small.learners small.learners_next;
  learners_next = none-u64;
}

entered-u64 : (c : Configuration) (auto_leave : Bool) → HasU64Lists c → HasU64Lists (with_outgoing c auto_leave)
entered-u64 c auto_leave small = record { incoming = small.incoming; outgoing = small.incoming; learners = small.learners; learners_next = small.learners_next }

-- an accepted step
pub outcome-u64 : (c after : Configuration) (step : Step) → HasU64Lists c → HasU64Ids step → outcome c step ≡ Ok after → HasU64Lists after
outcome-u64 c after (Simple changes) small named e = subst HasU64Lists (SimpleTaken-from_outcome c after changes e).made (result-u64 c changes small named)
outcome-u64 c after (EnterJoint auto_leave changes) small named e =
    subst HasU64Lists (EnterTaken-from_outcome c after auto_leave changes e).made (result-u64 (with_outgoing c auto_leave) changes (entered-u64 c auto_leave small) named)
outcome-u64 c after LeaveJoint small named e = subst HasU64Lists (LeaveTaken-from_outcome c after e).made (after_leave-u64 c small)

-- ---- a saved configuration
-- its lists have such ids alone
pub record HasU64Saved (saved : ConfStateLists) : Type 0 where
  pub voters : All IsU64 saved.voters
  pub voters_outgoing : All IsU64 saved.voters_outgoing
  pub learners : All IsU64 saved.learners
  pub learners_next : All IsU64 saved.learners_next

-- nor has the configuration that it names any others
pub named-u64 : (saved : ConfStateLists) → HasU64Saved saved → HasU64Lists (named_by saved)
named-u64 saved small = record {
  incoming = ids_of-u64 saved.voters small.voters;
  outgoing = ids_of-u64 saved.voters_outgoing small.voters_outgoing;
  learners = ids_of-u64 saved.learners small.learners;
  learners_next = ids_of-u64 saved.learners_next small.learners_next;
}

pub restored-u64 : (saved : ConfStateLists) (c : Configuration) → HasU64Saved saved → restored saved ≡ Some c → HasU64Lists c
restored-u64 saved c small e = subst HasU64Lists (made (names_each_once saved && is_restorable (named_by saved)) e) (named-u64 saved small)
  where
    made : (test : Bool) → (if test then Some (named_by saved) else None) ≡ Some c → named_by saved ≡ c
    made true is = cc
    made false is = cc

-- ---- what is read
zipped : {A B : Type 0} (Q : A → B → Type 0) (P : B → Type 0) (xs : List A) (ys : List B) → ((x : A) (y : B) → Q x y → P y) → AllZip Q xs ys → All P ys
zipped Q P [] [] each h = All-nil P
zipped Q P [] (y ∷ ys) each h = absurd h
zipped Q P (x ∷ xs) [] each h = absurd h
zipped Q P (x ∷ xs) (y ∷ ys) each h = All-cons P y ys (each x y h.0) (zipped Q P xs ys each h.1)

pub numbers-u64 : (tokens : List (List ℕ)) (numbers : List ℕ) → AllZip ParsesToNumber tokens numbers → All IsU64 numbers
numbers-u64 tokens numbers parsed = zipped ParsesToNumber IsU64 tokens numbers (λ token number is. is.in_range) parsed

pub changes-u64 : (text : List ℕ) → IfOk (changes_in text) NameU64
changes-u64 text = by (changes_in text) refl
  where
    by : (read : Result (List Change) BadToken) → changes_in text ≡ read → IfOk read NameU64
    by (Ok changes) is = zipped ParsesTo (λ change. change.id < 2 ^ 64) (tokens_in text) changes (λ token change parsed. parsed.id_after.in_range) (AllZip-from_ok (tokens_in text) changes is)
    by (Err bad) is = tt

pub line-u64 : (text : List ℕ) → IfSome (conf_state_in text) HasU64Saved
line-u64 text = by (conf_state_in text) refl
  where
    by : (read : Option ConfStateLists) → conf_state_in text ≡ read → IfSome read HasU64Saved
    by (Some saved) is =
        let line = DenotesConfState-from_some text saved is in
        record {
          voters = numbers-u64 line.parsed_voters.tokens saved.voters line.parsed_voters.parsed;
          voters_outgoing = numbers-u64 line.parsed_voters_outgoing.tokens saved.voters_outgoing line.parsed_voters_outgoing.parsed;
          learners = numbers-u64 line.parsed_learners.tokens saved.learners line.parsed_learners.parsed;
          learners_next = numbers-u64 line.parsed_learners_next.tokens saved.learners_next line.parsed_learners_next.parsed;
        }
    by None is = tt

-- an input with such ids alone
pub record HasU64Input (input : Input) : Type 0 where
  pub changes : NameU64 input.changes
  pub saved : HasU64Saved input.saved

of_changes-u64 : (changes : List Change) → NameU64 changes → HasU64Input (of_changes changes)
of_changes-u64 changes named = record {
  changes = named;
  saved = record { voters = All-nil IsU64; voters_outgoing = All-nil IsU64; learners = All-nil IsU64; learners_next = All-nil IsU64 };
}

no_change-u64 : HasU64Input (of_changes [])
no_change-u64 = of_changes-u64 [] (All-nil (λ change. change.id < 2 ^ 64))

pub input-u64 : (kind : InputKind) (text : List ℕ) → IfOk (read_input kind text) HasU64Input
input-u64 Changes text = by (changes_in text) (changes-u64 text)
  where
    by : (read : Result (List Change) BadToken) → IfOk read NameU64 → IfOk (changes_read read) HasU64Input
    by (Ok changes) named = of_changes-u64 changes named
    by (Err bad) named = tt
input-u64 NoChange text = by (changes_in text)
  where
    by : (read : Result (List Change) BadToken) → IfOk (no_change_read read) HasU64Input
    by (Ok []) = no_change-u64
    by (Ok (change ∷ changes)) = tt
    by (Err bad) = tt
input-u64 ConfStateLine text = by (conf_state_in text) (line-u64 text)
  where
    by : (read : Option ConfStateLists) → IfSome read HasU64Saved → IfOk (conf_state_read read) HasU64Input
    by (Some saved) small = record { changes = All-nil (λ change. change.id < 2 ^ 64); saved = small }
    by None small = tt
input-u64 Nothing [] = no_change-u64
input-u64 Nothing (byte ∷ text) = tt

-- ---- a plan
pub moves-u64 : (c : Configuration) (voters learners : Ids) → HasU64Lists c → All IsU64 (ascending voters) → All IsU64 (ascending learners) → NameU64 (moves c voters learners)
moves-u64 c voters learners small in_voters in_learners =
    of_ids (ascending (union (union voters learners) (union c.incoming c.learners)))
    (union-u64 (union voters learners) (union c.incoming c.learners) (union-u64 voters learners in_voters in_learners) (union-u64 c.incoming c.learners small.incoming small.learners))
  where
    with_move : (kind : Option Kind) (id : ℕ) (changes : List Change) → IsU64 id → NameU64 changes → NameU64 (cons_option (option_map (λ kind. record { kind = kind; id = id }) kind) changes)
    with_move None id changes is named = named
    with_move (Some kind) id changes is named = All-cons (λ change. change.id < 2 ^ 64) (record { kind = kind; id = id }) changes is named

    of_ids : (ids : List ℕ) → All IsU64 ids → NameU64 (filter_map (move_of c voters learners) ids)
    of_ids [] listed = All-nil (λ change. change.id < 2 ^ 64)
    of_ids (id ∷ ids) listed = grind (arith, with_move, voters, learners, All-head, All-tail, of_ids ids (All-tail IsU64 id ids listed))

pub leave-u64 : HasU64Ids LeaveJoint
leave-u64 = All-nil (λ change. change.id < 2 ^ 64)

-- either of two lists of steps
pub either-u64 : (test : Bool) (xs ys : List Step) → All HasU64Ids xs → All HasU64Ids ys → All HasU64Ids (if test then xs else ys)
either-u64 true xs ys first second = first
either-u64 false xs ys first second = second

single_steps-u64 : (c : Configuration) (voters learners : Ids) → HasU64Lists c → All IsU64 (ascending voters) → All IsU64 (ascending learners) → All HasU64Ids (single_steps c voters learners)
single_steps-u64 c voters learners small in_voters in_learners = grind (arith, voters, learners, moves-u64, either-u64, All-cons, All-nil, leave-u64)

inserted_steps-u64 : (c target : Configuration) → HasU64Lists c → HasU64Lists target → All HasU64Ids (inserted_steps c target)
inserted_steps-u64 c target small there =
    either-u64 (is_same_set c.incoming target.outgoing) [] (single_steps c target.outgoing (shared_members c target)) (All-nil HasU64Ids)
    (single_steps-u64 c target.outgoing (shared_members c target) small there.outgoing (where-u64 (is_shared target) (members c) (members-u64 c small)))

configuration_after-u64 : (c : Configuration) (steps : List Step) → HasU64Lists c → All HasU64Ids steps → HasU64Lists (configuration_after c steps)
configuration_after-u64 c [] small named = small
configuration_after-u64 c (step ∷ steps) small named =
    configuration_after-u64 (result_unwrap_or (outcome c step) c) steps (by (outcome c step) refl) (All-tail HasU64Ids step steps named)
  where
    by : (o : Outcome) → outcome c step ≡ o → HasU64Lists (result_unwrap_or o c)
    by (Ok after) is = outcome-u64 c after step small (All-head HasU64Ids step steps named) is
    by (Err why) is = small

joint_steps-u64 : (c target : Configuration) → HasU64Lists c → HasU64Lists target → All HasU64Ids (joint_steps c target)
joint_steps-u64 c target small there =
    let inserted = inserted_steps c target in
    let first = inserted_steps-u64 c target small there in
    let between = configuration_after c inserted in
    let entering = moves-u64 between target.incoming (union target.learners target.learners_next) (configuration_after-u64 c inserted small first) there.incoming
    (union-u64 target.learners target.learners_next there.learners there.learners_next) in
    All-append HasU64Ids inserted (entering_step between target ∷ []) first (All-cons HasU64Ids (entering_step between target) [] entering (All-nil HasU64Ids))

pub planned_from_single-u64 : (c target : Configuration) → HasU64Lists c → HasU64Lists target → All HasU64Ids (planned_from_single c target)
planned_from_single-u64 c target small there =
    let joint = joint_steps c target in
    let single = single_steps c target.incoming target.learners in
    either-u64 (is_same c target) [] (if is_joint target then joint else single) (All-nil HasU64Ids)
    (either-u64 (is_joint target) joint single (joint_steps-u64 c target small there) (single_steps-u64 c target.incoming target.learners small there.incoming there.learners))

pub planned-u64 : (now target : Configuration) → HasU64Lists now → HasU64Lists target → All HasU64Ids (planned now target)
planned-u64 now target small there =
    let left = LeaveJoint ∷ planned_from_single (after_leave now) target in
    let single = planned_from_single now target in
    either-u64 (is_same now target) [] (if is_joint now then left else single) (All-nil HasU64Ids)
    (either-u64 (is_joint now) left single
    (All-cons HasU64Ids LeaveJoint (planned_from_single (after_leave now) target) leave-u64 (planned_from_single-u64 (after_leave now) target (after_leave-u64 now small) there))
    (planned_from_single-u64 now target small there))
