pub mod Offered
mod Runs
mod FindingMoves
mod PlannedSteps
mod WorkedExamples
mod BestPlan
mod PlanText
mod OnTheWay
