-- Small cases, worked out by hand.
use Rattle.std.proofs.Common.{◌≡◌, ℕ, true, false, [], ◌∷◌, refl}
use Rattle.std.specs.Prelude.{codes, Some, None, Ok, Err}
use Rattle.conf_plan.specs.declared.strategy.Strategy.TheVariants.{OneAtATime}
use Rattle.serde_json.specs.Data.{Data, null, boolean, number, unsigned, string, array, object, item, member, no_items, no_members}
use Rattle.driver_json.specs.Texts.{fault_text}
use Rattle.driver_json.specs.Values.{member_in, number_in, progress_in, strategy_in}
use Rattle.driver_json.specs.declared.line_fault.Expected.TheVariants as expects
use Rattle.driver_json.specs.declared.line_fault.LineFault.TheVariants.{NotExpected}
use Rattle.driver_json.specs.declared.place.Key.TheVariants.{Lead, Progress}
use Rattle.driver_json.specs.declared.place.MemberKey.TheVariants.{Id, Match}
use Rattle.driver_json.specs.declared.place.Place.TheVariants.{AtKey, AtMember, InMember}

-- ---- numbers and strategies
missing_is_zero : (number_in None ≡ Some 0) × (number_in (Some null) ≡ Some 0)
missing_is_zero = (refl, refl)

reads_number : number_in (Some (number (unsigned 18446744073709551615))) ≡ Some 18446744073709551615
reads_number = refl

refuses_text : (number_in (Some (string (codes "1"))) ≡ None) × (number_in (Some (boolean true)) ≡ None)
refuses_text = (refl, refl)

names_strategy : (strategy_in (Some (string (codes "one-at-a-time"))) ≡ Some OneAtATime) × (strategy_in (Some (string (codes "fast"))) ≡ None) × (strategy_in None ≡ None)
names_strategy = (refl, refl, refl)

-- ---- members
-- {"id":ID,"match":MATCH,"recent_active":true}
abbrev seen : ℕ → Data → Data
seen id matched = object (member (codes "id") (number (unsigned id)) (member (codes "match") matched (member (codes "recent_active") (boolean true) no_members)))

reads_members : progress_in (Some (array (item (seen 3 (number (unsigned 60))) (item (object (member (codes "id") (number (unsigned 5)) no_members)) no_items))))
    ≡ Ok (record { id = 3; matched = 60; recent_active = true } ∷ record { id = 5; matched = 0; recent_active = false } ∷ [])
reads_members = refl

-- the second member is the first that is wrong
refuses_match : progress_in (Some (array (item (seen 3 null) (item (seen 4 (boolean true)) (item (seen 0 null) no_items))))) ≡ Err (NotExpected (InMember 1 Match) expects.Number)
refuses_match = refl

refuses_zero : member_in 7 (seen 0 null) ≡ Err (NotExpected (InMember 7 Id) expects.Id)
refuses_zero = refl

refuses_member : (member_in 7 null ≡ Err (NotExpected (AtMember 7) expects.Member)) × (progress_in (Some (object no_members)) ≡ Err (NotExpected (AtKey Progress) expects.Members))
refuses_member = (refl, refl)

-- ---- what is said of them
says_where : fault_text (NotExpected (AtKey Lead) expects.Number) ≡ codes "lead: expected a number from 0 to 18446744073709551615"
says_where = refl
