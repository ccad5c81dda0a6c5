-- What the table of `next` looks at: the configurations before and after the first step of the path, and sets of ids.
use Rattle.std.specs.Prelude.{ℕ, Bool, true, false, not, List, [], ◌∷◌, length, nat_eq, Option, Some, None, nat_lt}
use Rattle.quorum_sets.specs.Ids.{Ids}
use Rattle.quorum_sets.specs.Tolerance.{may_be_down}
use Rattle.conf_change.specs.Configuration.{Configuration, voters_of, member_ids}
use Rattle.conf_change.specs.declared.step.Step.{Step}
use Rattle.plan_output.specs.Stages.{configuration_after_step}
use Rattle.conf_driver.specs.IdSets.{◌∖◌}
use Rattle.conf_driver.specs.declared.situation.Situation as declared
use Rattle.conf_driver.specs.View.{ViewState, heard_from, lacking, up_and_caught_up, voter_ids}

-- what the table looks at: see the type `Situation`, whose value it is
pub record Situation : Type 0 where
  pub before : Configuration
  pub after : Configuration
  pub target : Configuration
  pub has_step : Bool
  pub stalls : Bool
  pub voters : Ids
  pub members : Ids
  pub voters_after : Ids
  pub down : Ids
  pub heard : Ids
  pub up : Ids
  pub running : Ids
  pub retired : Ids
  pub lead : ℕ
  pub is_pending : Bool
  pub lack_pending : Ids
  pub lack_configuration : Ids

-- the values that it refers to
abbrev pub values_of : declared.Situation → Situation
values_of s = record {
  before = s.before.now;
  after = s.after;
  target = s.target.now;
  has_step = s.has_step;
  stalls = s.stalls;
  voters = s.voters;
  members = s.members;
  voters_after = s.voters_after;
  down = s.down.now;
  heard = s.heard;
  up = s.up;
  running = s.running.now;
  retired = s.retired.now;
  lead = s.lead;
  is_pending = s.is_pending;
  lack_pending = s.lack_pending;
  lack_configuration = s.lack_configuration;
}

-- whether there is a step
abbrev pub has_step : List Step → Bool
has_step steps = not (nat_eq (length steps) 0)

-- the configuration after the first step, if there is one
abbrev pub after_first : Configuration → List Step → Configuration
after_first now [] = now
after_first now (step ∷ steps) = configuration_after_step now step

-- how many of these ids may fail while the rest is a quorum of the configuration, or none if they are no quorum
abbrev pub tolerance : Configuration → Ids → Option ℕ
tolerance c ids = may_be_down (voters_of c) (voter_ids c ∖ ids)

-- the first number is smaller; no number is smaller than each number
abbrev pub is_less : Option ℕ → Option ℕ → Bool
is_less first None = false
is_less None (Some second) = true
is_less (Some first) (Some second) = nat_lt first second

-- the situation on the way to a target, of which these are the steps
abbrev pub situation_of : Configuration → Ids → ViewState → List Step → Bool → Situation
situation_of target down view steps stalls =
    let now = view.conf_state in
    let after = after_first now steps in
    let voters = voter_ids now in
    let members = member_ids now in
    record {
      before = now;
      after = after;
      target = target;
      has_step = has_step steps;
      stalls = stalls;
      voters = voters;
      members = members;
      voters_after = voter_ids after;
      down = down;
      heard = heard_from view;
      up = up_and_caught_up down view;
      running = view.running;
      retired = view.retired;
      lead = view.lead;
      is_pending = not (nat_eq view.pending_conf_index 0);
      lack_pending = lacking view view.pending_conf_index (voters ∖ down);
      lack_configuration = lacking view view.conf_index (members ∖ down);
    }
