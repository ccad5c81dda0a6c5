use Rattle.driver_json.proofs.answer.answer_to.Goals as goal

pub returns-clause-value : goal.returns-clause-value
returns-clause-value c = rw c.in_ok-question.ensures.question c.answer_of.ensures.value
