-- The texts of changes, of configurations and of saved configurations, read and written.

pub mod ChangeTokens
pub mod ConfStateLine
pub mod PrintedConfig
pub mod PrintedText
