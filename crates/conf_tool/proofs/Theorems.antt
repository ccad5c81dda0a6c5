-- What holds of whole outputs.

pub mod JoinedScript
pub mod RewrittenScript
pub mod PairByPair
pub mod BestPlan
pub mod UndoneScript
pub mod PromisedPaths
pub mod U64Paths
pub mod JsonIds
pub mod U64Texts
pub mod PlanScript
pub mod PlanScriptLeads
