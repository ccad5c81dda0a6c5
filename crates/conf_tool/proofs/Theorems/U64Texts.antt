-- That the ids of a configuration that is read are numbers of 64 bits.
use Rattle.std.proofs.Common.{◌≡◌, ℕ, Bool, true, false, List, inl, inr, refl, subst}
use Rattle.std.specs.Prelude.{◌↔◌, Option, Some, None, Ok, Err, ⊤, if◌then◌else◌}
use Rattle.std.proofs.lemmas.Option.{MatchOption-at_some}
use Rattle.std.proofs.lemmas.Result.{IfOk-at_ok}
use Rattle.conf_change.specs.Configuration.{Configuration, is_joint}
use Rattle.conf_change.specs.ConfState.{ConfStateLists, named_by}
use Rattle.conf_change.specs.Outcome.{Outcome, after_leave, enter_outcome}
use Rattle.conf_change.specs.PrintedConfig.{DenotesConfig, config_in}
use Rattle.conf_change.specs.U64Lists.{HasU64Lists}
use Rattle.conf_change.specs.Violation.{unless_violated, valid_of, violation_in}
use Rattle.conf_change.specs.declared.change.Change.{Change}
use Rattle.conf_change.specs.declared.step.Step.TheVariants.{EnterJoint}
use Rattle.conf_change.specs.declared.violation.Violation.{Violation}
use Rattle.conf_session.proofs.Offered.{HasU64Saved, NameU64, after_leave-u64, changes-u64, empty-u64, line-u64, named-u64, numbers-u64, outcome-u64}
use Rattle.plan_input.specs.Changed.{after_changes, left_or_empty, when_left}
use Rattle.plan_input.specs.Input.{current_in, target_in}
use Rattle.plan_input.proofs.Offered.{IsChangedBy, IsReadFrom, IsSavedIn, current_in-read, target_in-read}
use Rattle.conf_tool.proofs.Theorems.JsonIds.{json-u64}

-- what a printed configuration denotes: a law of conf_change
abbrev pub PrintedIsRead : Type 0
PrintedIsRead = (text : List ℕ) (saved : ConfStateLists) → (DenotesConfig text saved) ↔ (config_in text ≡ Some saved)

-- ---- from a saved configuration
printed-u64 : PrintedIsRead → (text : List ℕ) (saved : ConfStateLists) → config_in text ≡ Some saved → HasU64Saved saved
printed-u64 printed text saved is =
    let denotes = (printed text saved).1 is in
    record {
      voters = numbers-u64 denotes.voters saved.voters denotes.parsed_voters;
      voters_outgoing = numbers-u64 denotes.voters_outgoing saved.voters_outgoing denotes.parsed_voters_outgoing;
      learners = numbers-u64 denotes.learners saved.learners denotes.parsed_learners;
      learners_next = numbers-u64 denotes.learners_next saved.learners_next denotes.parsed_learners_next;
    }

saved-u64 : PrintedIsRead → (text : List ℕ) (saved : ConfStateLists) → IsSavedIn text saved → HasU64Saved saved
saved-u64 printed text saved (inl json) = MatchOption-at_some ⊤ HasU64Saved saved json (json-u64 text)
saved-u64 printed text saved (inr (inl line)) = MatchOption-at_some ⊤ HasU64Saved saved line (line-u64 text)
saved-u64 printed text saved (inr (inr config)) = printed-u64 printed text saved config

valid_of-u64 : (saved : ConfStateLists) (c : Configuration) → HasU64Saved saved → valid_of saved ≡ Ok c → HasU64Lists c
valid_of-u64 saved c small e = by (violation_in saved) e
  where
    by : (violation : Option Violation) → unless_violated (named_by saved) violation ≡ Ok c → HasU64Lists c
    by None is = let same : named_by saved ≡ c = cc in subst HasU64Lists same (named-u64 saved small)
    by (Some violation) is = let wrong : ⊥ = cc in absurd wrong

read-u64 : PrintedIsRead → (text : List ℕ) (c : Configuration) → IsReadFrom text c → HasU64Lists c
read-u64 printed text c read = valid_of-u64 read.saved c (saved-u64 printed text read.saved read.denoted) read.made

-- ---- from changes
when_left-u64 : (c : Configuration) → HasU64Lists c → HasU64Lists (when_left c)
when_left-u64 c small = by (is_joint c)
  where
    by : (joint : Bool) → HasU64Lists (if joint then after_leave c else c)
    by true = after_leave-u64 c small
    by false = small

after_changes-u64 : (now : Configuration) (changes : List Change) → HasU64Lists now → NameU64 changes → HasU64Lists (after_changes now changes)
after_changes-u64 now changes small named = by (enter_outcome (when_left now) false changes) refl
  where
    by : (o : Outcome) → enter_outcome (when_left now) false changes ≡ o → HasU64Lists (left_or_empty o)
    by (Ok joint) is = when_left-u64 joint (outcome-u64 (when_left now) joint (EnterJoint false changes) (when_left-u64 now small) named is)
    by (Err why) is = empty-u64

changed-u64 : (now : Configuration) (text : List ℕ) (c : Configuration) → HasU64Lists now → IsChangedBy now text c → HasU64Lists c
changed-u64 now text c small changed = subst HasU64Lists changed.made (after_changes-u64 now changed.changes small (IfOk-at_ok NameU64 changed.denoted (changes-u64 text)))

-- ---- of a pair
pub current_in-u64 : PrintedIsRead → (text : List ℕ) (c : Configuration) → current_in text ≡ Ok c → HasU64Lists c
current_in-u64 printed text c e = read-u64 printed text c (current_in-read text c e)

pub target_in-u64 : PrintedIsRead → (now : Configuration) (text : List ℕ) (c : Configuration) → HasU64Lists now → target_in now text ≡ Ok c → HasU64Lists c
target_in-u64 printed now text c small e = elim (target_in-read now text c e) [
  | inl read ↦ read-u64 printed text c read
  | inr changed ↦ changed-u64 now text c small changed
]
