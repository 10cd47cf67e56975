mod Backwards
mod Completing
pub mod Counts
pub mod Meeting
pub mod PairTurns
pub mod Paired
pub mod Partners
mod Reading
mod Rise
mod Steps
pub mod Straight
mod Turns
pub mod FreeMarks
mod RecordLows
