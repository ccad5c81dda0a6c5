use Rattle.driver_json.proofs.ProposedSteps.{conf_change-proposal_json, conf_state-proposal_json}
use Rattle.driver_json.proofs.laws.proposals_are_of_the_step.Goals as goal

pub returns-clause-conf_change : goal.returns-clause-conf_change
returns-clause-conf_change c question step can is =
    let first = c.proposals_are_accepted.ensures.first question.strategy question.target question.down question.view step can is in
    conf_change-proposal_json question step first.rest first.path

pub returns-clause-conf_state : goal.returns-clause-conf_state
returns-clause-conf_state c question step can is =
    let first = c.proposals_are_accepted.ensures.first question.strategy question.target question.down question.view step can is in
    conf_state-proposal_json question step first.rest first.path
