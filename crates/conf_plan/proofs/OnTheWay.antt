-- What is kept on the way of a path: quorums, failures that are tolerated, and voters that are no newcomers.

pub mod Quorums
pub mod Newcomers
pub mod ReadyVoters
pub mod LearnersFirst
pub mod OneChange
pub mod OneAtATime
pub mod OrderOfIds
pub mod InTurn
pub mod FewestSingleChanges
pub mod OneAtATimeTolerance
pub mod DownLeaveFirst
pub mod FewLearners
pub mod OneAtATimePath
pub mod EachStrategy
pub mod OneChangeEach
pub mod CatchingUp
pub mod FirstMove
pub mod PartsOfSteps
pub mod ChangeByChange
pub mod NextPath
