use Rattle.std.proofs.Common.{inl, inr}
use Rattle.std.proofs.lemmas.Bool.{or_cases, or_left, or_right}
use Rattle.conf_change.specs.Configuration.{is_member}
use Rattle.conf_plan.specs.OnTheWay.{HasMembersOf, HasQuorumsOf, IsAsTolerant}
use Rattle.conf_plan.specs.PathBy.{path_by}
use Rattle.conf_driver.proofs.FirstStep.{first-holds, path-keeps_quorums, path-tolerates}
use Rattle.conf_driver.proofs.Ways.{along, along-can, steps_to}
use Rattle.conf_driver.proofs.laws.ways_keep_promises.Goals as goal

pub returns-clause-tolerance : goal.returns-clause-tolerance
returns-clause-tolerance c strategy target down now after steps valid valid_target path way =
    along (record { shorter = c.next_path_is_shorter.ensures.shorter; has_path = c.next_path_is_shorter.ensures.has_path; valid = c.next_path_is_shorter.ensures.valid })
    (λ a b. IsAsTolerant down a target b) (λ d k of_now of_target. of_now) (λ a b d first more k of_now of_target. more k (first k of_now of_target) of_target) strategy target down valid_target
    (λ before next step rest valid_before path_before is gives.
    let promises = c.paths_keep_promises.ensures.promises strategy down before target valid_before valid_target path_before in
    let leads = c.one_change_each_leads.ensures strategy down before target valid_before valid_target path_before in
    first-holds (λ b x d. IsAsTolerant down before target d) before target next (steps_to strategy target down before) rest step is gives
    (leads.tolerance down (path-tolerates strategy down before target (path_by strategy down before target) promises)))
    now after steps valid path way

pub returns-clause-quorums : goal.returns-clause-quorums
returns-clause-quorums c strategy target down now after steps other valid valid_target path way =
    along (record { shorter = c.next_path_is_shorter.ensures.shorter; has_path = c.next_path_is_shorter.ensures.has_path; valid = c.next_path_is_shorter.ensures.valid })
    (λ a b. HasQuorumsOf a target b) (λ d ids of_now of_target. of_now) (λ a b d first more ids of_now of_target. more ids (first ids of_now of_target) of_target) strategy target down valid_target
    (λ before next step rest valid_before path_before is gives.
    let promises = c.paths_keep_promises.ensures.promises strategy down before target valid_before valid_target path_before in
    let leads = c.one_change_each_leads.ensures strategy down before target valid_before valid_target path_before in
    first-holds (λ b x d. HasQuorumsOf before target d) before target next (steps_to strategy target down before) rest step is gives
    (leads.quorums (path-keeps_quorums strategy down before target (path_by strategy down before target) other promises)))
    now after steps valid path way

pub returns-clause-members : goal.returns-clause-members
returns-clause-members c strategy target down now after steps valid valid_target path way =
    along (record { shorter = c.next_path_is_shorter.ensures.shorter; has_path = c.next_path_is_shorter.ensures.has_path; valid = c.next_path_is_shorter.ensures.valid })
    (λ a b. HasMembersOf a target b) (λ d id member. or_left _ (is_member target id) member)
    (λ a b d first more id member. elim (or_cases (is_member b id) (is_member target id) (more id member)) [
      | inl between ↦ first id between
      | inr there ↦ or_right (is_member a id) _ there
    ]) strategy target down valid_target
    (λ before next step rest valid_before path_before is gives.
    let leads = c.one_change_each_leads.ensures strategy down before target valid_before valid_target path_before in
    first-holds (λ b x d. HasMembersOf before target d) before target next (steps_to strategy target down before) rest step is gives leads.members)
    now after steps valid path way

pub returns-clause-valid : goal.returns-clause-valid
returns-clause-valid c strategy target down now after steps valid valid_target path way =
    (along-can (record { shorter = c.next_path_is_shorter.ensures.shorter; has_path = c.next_path_is_shorter.ensures.has_path; valid = c.next_path_is_shorter.ensures.valid })
    strategy target down now after steps valid valid_target path way).0
