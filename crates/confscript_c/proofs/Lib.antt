pub mod StepsResult
pub mod PlanLeads
pub mod ChangesRead
pub mod ArraysRead
pub mod RoomCounted
pub mod PartsApplied
pub mod StagesWritten
pub mod StagesStepped
pub mod StagesOfThePlan
mod WorkedExamples
mod MembersRead
mod ActionFound
