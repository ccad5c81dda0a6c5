-- The values at the keys of a line. A number that is missing or null is 0, a list is empty, and a boolean false.
use Rattle.std.specs.Prelude.{◌≡◌, ◌≢◌, ℕ, ◌+◌, List, [], ◌∷◌, codes, Option, Some, None, option_and_then, Result, Ok, Err, ok_or, bytes_eq, nat_eq, if◌then◌else◌}
use Rattle.quorum_sets.specs.Ids.{Ids, has, ids_of}
use Rattle.conf_change.specs.Configuration.{Configuration}
use Rattle.conf_change.specs.Violation.{valid_of}
use Rattle.conf_change.specs.declared.configuration_line.ConfigurationFault.{ConfigurationFault}
use Rattle.conf_change.specs.declared.configuration_line.ConfigurationFault.TheVariants as configuration_fault
use Rattle.conf_driver.specs.declared.view.MemberView.{MemberView}
use Rattle.conf_plan.specs.declared.strategy.Strategy.{Strategy}
use Rattle.conf_plan.specs.declared.strategy.Strategy.TheVariants.{Shortest, LearnersFirst, OneAtATime}
use Rattle.serde_json.specs.Data.{Data, null, array, object, Items, no_items, item}
use Rattle.serde_json.specs.Find.{as_str, get}
use Rattle.raft_json.specs.ConfStateJson.{boolean_in}
use Rattle.raft_json.specs.IdsJson.{id_from, ids_in}
use Rattle.raft_json.specs.SavedJson.{saved_of_json}
use Rattle.driver_json.specs.Texts.{key_name}
use Rattle.driver_json.specs.declared.line_fault.Expected.{Expected}
use Rattle.driver_json.specs.declared.line_fault.Expected.TheVariants as expects
use Rattle.driver_json.specs.declared.line_fault.LineFault.{LineFault}
use Rattle.driver_json.specs.declared.line_fault.LineFault.TheVariants.{NotExpected, NotValid, NoMemory}
use Rattle.driver_json.specs.declared.place.Key.{Key}
use Rattle.driver_json.specs.declared.place.Key.TheVariants as key
use Rattle.driver_json.specs.declared.place.MemberKey.{MemberKey}
use Rattle.driver_json.specs.declared.place.MemberKey.TheVariants as member_key
use Rattle.driver_json.specs.declared.place.Place.{Place}
use Rattle.driver_json.specs.declared.place.Place.TheVariants.{AtKey, AtMember, InMember}

-- ---- errors
-- that the value at a key is not what is expected there
abbrev pub not_expected : Key → Expected → LineFault
not_expected key what = NotExpected (AtKey key) what

abbrev pub not_expected_in_member : ℕ → MemberKey → Expected → LineFault
not_expected_in_member index key what = NotExpected (InMember index key) what

-- what follows from a value, or the error in its place
abbrev pub given : {A B : Type 0} → Result A LineFault → (A → Result B LineFault) → Result B LineFault
given (Err fault) next = Err fault
given (Ok value) next = next value

-- an error of reading: what is wrong with the line, unless memory ran out
abbrev pub IsFaultOf : {A : Type 0} → Result A LineFault → LineFault → Type 0
IsFaultOf read fault = fault ≢ NoMemory → read ≡ Err fault

-- ---- values
-- the value, if there is one, or that this is expected at the place
abbrev pub expected : {A : Type 0} → Place → Expected → Option A → Result A LineFault
expected place what value = ok_or value (NotExpected place what)

-- a number: without a sign, a fraction or an exponent, at most 2^64-1
abbrev pub number_in : Option Data → Option ℕ
number_in None = Some 0
number_in (Some null) = Some 0
number_in (Some d) = id_from d

-- the number, unless it is 0, which is not an id
abbrev pub unless_zero : ℕ → Option ℕ
unless_zero id = if nat_eq id 0 then None else Some id

-- the set of these ids, unless 0 is one of them
abbrev pub unless_has_zero : List ℕ → Option Ids
unless_has_zero ids = if has (ids_of ids) 0 then None else Some (ids_of ids)

-- the strategy of a name
abbrev pub strategy_named : List ℕ → Option Strategy
strategy_named name =
    if bytes_eq name (codes "learners-first") then Some LearnersFirst
    else (if bytes_eq name (codes "one-at-a-time") then Some OneAtATime
    else (if bytes_eq name (codes "shortest") then Some Shortest else None))

-- the strategy whose name a value is
abbrev pub strategy_in : Option Data → Option Strategy
strategy_in value = option_and_then strategy_named (option_and_then as_str value)

-- ---- at a key of the line
abbrev pub number_at : Key → Data → Result ℕ LineFault
number_at key line = expected (AtKey key) expects.Number (number_in (get (key_name key) line))

abbrev pub ids_at : Key → Data → Result Ids LineFault
ids_at key line = expected (AtKey key) expects.Ids (option_and_then unless_has_zero (ids_in (get (key_name key) line)))

-- the strategy has to be named
abbrev pub strategy_at : Data → Result Strategy LineFault
strategy_at line = expected (AtKey key.Strategy) expects.Strategy (strategy_in (get (codes "strategy") line))

-- a valid configuration, or what is wrong with it
abbrev pub valid_at : Key → Result Configuration ConfigurationFault → Result Configuration LineFault
valid_at key (Ok c) = Ok c
valid_at key (Err (configuration_fault.NotAConfiguration violation)) = Err (NotValid key violation)
valid_at key (Err configuration_fault.BadConfState) = Err (NotExpected (AtKey key) expects.ConfState)
valid_at key (Err configuration_fault.NoMemory) = Err NoMemory

-- the configuration, in either form of its JSON, has to be there
abbrev pub configuration_at : Key → Data → Result Configuration LineFault
configuration_at key line =
    given (expected (AtKey key) expects.ConfState (option_and_then saved_of_json (get (key_name key) line))) (λ saved. valid_at key (valid_of saved))

-- ---- members
-- a member with these three keys
abbrev pub member_with : ℕ → Data → Result MemberView LineFault
member_with index d =
    given (expected (InMember index member_key.Id) expects.Id (option_and_then unless_zero (number_in (get (codes "id") d)))) (λ id.
    given (expected (InMember index member_key.Match) expects.Number (number_in (get (codes "match") d))) (λ matched.
    given (expected (InMember index member_key.RecentActive) expects.Flag (boolean_in (get (codes "recent_active") d))) (λ recent_active.
    Ok (record { id = id; matched = matched; recent_active = recent_active }))))

-- the member with this index in the list
abbrev pub member_in : ℕ → Data → Result MemberView LineFault
member_in index (object members) = member_with index (object members)
member_in index _ = Err (NotExpected (AtMember index) expects.Member)

-- the members, of which the first has this index, or what is wrong with the first of them that is wrong
abbrev pub members_from : ℕ → Items → Result (List MemberView) LineFault
members_from index no_items = Ok []
members_from index (item d ds) = given (member_in index d) (λ member. given (members_from (index + 1) ds) (λ members. Ok (member ∷ members)))

-- the members at the key progress
abbrev pub progress_in : Option Data → Result (List MemberView) LineFault
progress_in None = Ok []
progress_in (Some null) = Ok []
progress_in (Some (array ds)) = members_from 0 ds
progress_in (Some _) = Err (NotExpected (AtKey key.Progress) expects.Members)
