-- The text of a plan, read and printed.

pub mod StepFromTokens
pub mod PlanFromLines
pub mod ReadSoFar
pub mod PrintedPlan
pub mod PrintedStep
