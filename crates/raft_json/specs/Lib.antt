pub mod IdsJson
pub mod ConfStateJson
pub mod MemberListJson
pub mod JsonText
pub mod SavedJson
pub mod ConfChangeJson
pub mod ConfChangeRead
pub mod Proposal
