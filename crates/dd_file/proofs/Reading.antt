-- The next item or line of an input, from the bytes that are buffered.

pub mod NoNewline
pub mod BufferFilled
pub mod BytesTaken
pub mod StateByState
pub mod NoMoreLine
pub mod LinesOfDraft
pub mod DraftAnswers
