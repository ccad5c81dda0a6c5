-- Whether entries, logs, votes and requests are equal, and whether a log is the beginning of another, is decided by computing.
use Rattle.std.proofs.Common.{◌≡◌, ℕ, Bool, true, false, List, [], ◌∷◌, refl, ap, arith, nat_eq}
use Rattle.std.proofs.lemmas.Bool.Decides.{nat_tests}
use Rattle.conf_change.specs.declared.change.Change.{Change}
use Rattle.conf_change.specs.declared.change.Kind.{Kind}
use Rattle.conf_change.specs.declared.change.Kind.TheVariants.{Voter, Learner, Remove, Update}
use Rattle.conf_change.specs.declared.step.Step.{Step}
use Rattle.conf_change.specs.declared.step.Step.TheVariants.{Simple, EnterJoint, LeaveJoint}
use Rattle.raft_safety.specs.Logs.{Payload, Command, ConfChange, Entry, Log, IsPrefix}
use Rattle.raft_safety.specs.Cluster.{Vote, VoteRequest}
use Rattle.safety_examples.proofs.Decisions.{Decision, yes, no, number_is, like, both, either, list_is}

-- ---- equal entries and logs
-- what differs in a number is not equal
pub differ : {X : Type 0} → (number : X → ℕ) → (a b : X) → nat_eq (number a) (number b) ≡ false → ¬ (a ≡ b)
differ number a b other same = let numbers = ap number same in grind (arith, nat_tests)

abbrev pub kind_number : Kind → ℕ
kind_number Voter = 0
kind_number Learner = 1
kind_number Remove = 2
kind_number Update = 3

abbrev pub kind_is : (a b : Kind) → Decision (a ≡ b)
kind_is Voter Voter = yes refl
kind_is Learner Learner = yes refl
kind_is Remove Remove = yes refl
kind_is Update Update = yes refl
kind_is a b = no (differ kind_number a b refl)

abbrev pub flag_number : Bool → ℕ
flag_number true = 1
flag_number false = 0

abbrev pub flag_is : (a b : Bool) → Decision (a ≡ b)
flag_is true true = yes refl
flag_is false false = yes refl
flag_is a b = no (differ flag_number a b refl)

abbrev pub change_is : (a b : Change) → Decision (a ≡ b)
change_is a b =
    like (λ parts i. record { kind = parts.0 i; id = parts.1 i }) (λ same. (ap (λ (c : Change). c.kind) same, ap (λ (c : Change). c.id) same))
    (both (kind_is a.kind b.kind) (number_is a.id b.id))

abbrev pub step_number : Step → ℕ
step_number (Simple changes) = 0
step_number (EnterJoint auto_leave changes) = 1
step_number LeaveJoint = 2

pub same_simple : (a b : List Change) → Simple a ≡ Simple b → a ≡ b
same_simple a b same = cc

pub same_enter : (auto_a auto_b : Bool) (a b : List Change) → EnterJoint auto_a a ≡ EnterJoint auto_b b → (auto_a ≡ auto_b) × (a ≡ b)
same_enter auto_a auto_b a b same = (cc, cc)

abbrev pub step_is : (a b : Step) → Decision (a ≡ b)
step_is (Simple a) (Simple b) = like (λ same. ap Simple same) (same_simple a b) (list_is change_is a b)
step_is (EnterJoint auto_a a) (EnterJoint auto_b b) =
    like (λ parts i. EnterJoint (parts.0 i) (parts.1 i)) (same_enter auto_a auto_b a b) (both (flag_is auto_a auto_b) (list_is change_is a b))
step_is LeaveJoint LeaveJoint = yes refl
step_is a b = no (differ step_number a b refl)

abbrev pub payload_number : Payload → ℕ
payload_number (Command bytes) = 0
payload_number (ConfChange step) = 1

pub same_command : (a b : List ℕ) → Command a ≡ Command b → a ≡ b
same_command a b same = cc

pub same_step : (a b : Step) → ConfChange a ≡ ConfChange b → a ≡ b
same_step a b same = cc

abbrev pub payload_is : (a b : Payload) → Decision (a ≡ b)
payload_is (Command a) (Command b) = like (λ same. ap Command same) (same_command a b) (list_is number_is a b)
payload_is (ConfChange a) (ConfChange b) = like (λ same. ap ConfChange same) (same_step a b) (step_is a b)
payload_is a b = no (differ payload_number a b refl)

abbrev pub entry_is : (a b : Entry) → Decision (a ≡ b)
entry_is a b =
    like (λ parts i. record { term = parts.0 i; payload = parts.1 i }) (λ same. (ap (λ (e : Entry). e.term) same, ap (λ (e : Entry). e.payload) same))
    (both (number_is a.term b.term) (payload_is a.payload b.payload))

abbrev pub log_is : (a b : Log) → Decision (a ≡ b)
log_is a b = list_is entry_is a b

-- the first log is the beginning of the second
abbrev pub prefix : (first log : Log) → Decision (IsPrefix first log)
prefix first [] = log_is first []
prefix first (entry ∷ log) = either (log_is first (entry ∷ log)) (prefix first log)

-- ---- what was said
abbrev pub vote_is : (a b : Vote) → Decision (a ≡ b)
vote_is a b =
    like (λ parts i. record { term = parts.0 i; voter = parts.1.0 i; candidate = parts.1.1 i })
    (λ same. (ap (λ (v : Vote). v.term) same, (ap (λ (v : Vote). v.voter) same, ap (λ (v : Vote). v.candidate) same)))
    (both (number_is a.term b.term) (both (number_is a.voter b.voter) (number_is a.candidate b.candidate)))

abbrev pub request_is : (a b : VoteRequest) → Decision (a ≡ b)
request_is a b =
    like (λ parts i. record { term = parts.0.0 i; candidate = parts.0.1 i; log = parts.1.0 i; committed = parts.1.1 i })
    (λ same. ((ap (λ (r : VoteRequest). r.term) same, ap (λ (r : VoteRequest). r.candidate) same), (ap (λ (r : VoteRequest). r.log) same, ap (λ (r : VoteRequest). r.committed) same)))
    (both (both (number_is a.term b.term) (number_is a.candidate b.candidate)) (both (log_is a.log b.log) (log_is a.committed b.committed)))
