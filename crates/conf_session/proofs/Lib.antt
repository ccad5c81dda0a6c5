pub mod Offered
mod CommandReplies
mod ReplyLines
mod ChartLines
mod OutputLines
mod RepliesInLines
mod InputLines
mod SameAnswer
mod U64Ids
mod Kept
mod QuorumValues
mod ReadValues
