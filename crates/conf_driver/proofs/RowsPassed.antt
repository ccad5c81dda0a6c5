-- What it means that a row of the table does not answer.
use Rattle.std.proofs.Common.{arith}
use Rattle.std.proofs.Common.{◌≡◌, true, false, not, ◌&&◌, ◌||◌}
use Rattle.std.specs.Prelude.{None}
use Rattle.std.proofs.lemmas.Bool.{not-false}
use Rattle.quorum_sets.specs.Ids.{has, is_empty}
use Rattle.quorum_sets.specs.Voters.{is_quorum}
use Rattle.conf_change.specs.Configuration.{is_joint, member_ids, voters_of}
use Rattle.conf_driver.specs.IdSets.{◌∪◌, ◌∩◌, ◌∖◌, just}
use Rattle.conf_driver.specs.Rows as row
use Rattle.conf_driver.specs.Rows.{if_any, may_stop, wait_for}
use Rattle.conf_driver.specs.Situation.{Situation, is_less, tolerance}
use Rattle.conf_driver.specs.declared.action.Action.TheVariants.{Start, Stop, Stuck, Wait}
use Rattle.conf_driver.specs.declared.action.StuckReason.TheVariants.{Reused}
use Rattle.conf_driver.specs.declared.action.WaitReason.TheVariants.{Behind, Heard}
use Rattle.conf_driver.proofs.RowAnswers.{holds-from_none, if_any-none, none-if, none-unless, when-none}

pub quorum-passed : (s : Situation) → row.quorum_lost s ≡ None → is_quorum (voters_of s.before) (s.voters ∖ s.down) ≡ true
quorum-passed s is = not-false _ (when-none (not (is_quorum (voters_of s.before) (s.voters ∖ s.down))) _ is)

pub heard-passed : (s : Situation) → row.down_is_heard s ≡ None → is_empty (s.down ∩ (s.heard ∩ s.members ∪ just s.lead)) ≡ true
heard-passed s is = if_any-none _ (Wait Heard) is

pub nonvoter-passed : (s : Situation) → row.nonvoter_leads s ≡ None → has s.voters s.lead ≡ true
nonvoter-passed s is = holds-from_none (has s.voters s.lead) _ is

pub pending-passed : (s : Situation) → row.is_pending s ≡ None → s.is_pending ≡ false
pending-passed s is = when-none s.is_pending _ is

pub stalls-passed : (s : Situation) → row.path_stalls s ≡ None → s.stalls ≡ false
stalls-passed s is = when-none s.stalls _ is

pub reused-passed : (s : Situation) → row.id_is_reused s ≡ None → is_empty ((member_ids s.target ∖ s.voters) ∩ s.retired) ≡ true
reused-passed s is = if_any-none _ (Stuck Reused) is

pub started-passed : (s : Situation) → row.not_started s ≡ None → is_empty ((member_ids s.after ∪ s.members) ∩ member_ids s.target ∖ s.voters ∖ s.down ∖ s.running) ≡ true
started-passed s is = if_any-none _ Start is

pub stopped-passed : (s : Situation) → row.not_stopped s ≡ None → may_stop s ≡ true → is_empty (s.running ∖ s.members ∖ member_ids s.target) ≡ true
stopped-passed s is known = let gone = s.running ∖ s.members ∖ member_ids s.target in if_any-none gone Stop (none-if (may_stop s) (if_any gone Stop) is known)

pub leaving-passed : (s : Situation) → row.is_leaving s ≡ None → (s.has_step && s.before.auto_leave) ≡ false
leaving-passed s is = when-none (s.has_step && s.before.auto_leave) _ is

pub successor-passed : (s : Situation) → row.successor_lags s ≡ None → has s.voters_after s.lead ≡ false → is_empty (s.voters ∩ s.voters_after ∖ s.down) ≡ true
successor-passed s is leads_not = grind (arith, if_any-none, none-unless)

pub new_voters-passed : (s : Situation) → row.new_voter_lags s ≡ None → is_empty (s.voters_after ∩ s.members ∖ s.voters ∖ s.down ∖ s.up) ≡ true
new_voters-passed s is = if_any-none _ (wait_for s) is

pub behind-passed : (s : Situation) → row.voter_is_behind s ≡ None → is_empty (s.voters_after ∩ s.members ∩ s.heard ∖ s.down ∖ s.up) ≡ true
behind-passed s is = if_any-none _ (Wait Behind) is

pub quorum_up-passed : (s : Situation) → row.no_quorum_is_up s ≡ None → is_quorum (voters_of s.before) s.up ≡ true
quorum_up-passed s is = not-false _ (when-none (not (is_quorum (voters_of s.before) s.up)) _ is)

pub silent-passed : (s : Situation) → row.voter_is_silent s ≡ None → (is_joint s.after || is_less (tolerance s.after s.up) (tolerance s.before s.up)) ≡ true
    → is_empty (s.voters_after ∖ s.down ∖ s.heard) ≡ true
silent-passed s is worse = grind (arith, if_any-none, none-if)

pub has_step-passed : (s : Situation) → row.at_target s ≡ None → s.has_step ≡ true
has_step-passed s is = not-false _ (when-none (not s.has_step) _ is)
