pub mod DegreeScan
pub mod Ends
pub mod Marks
pub mod ReachAnswers
pub mod Search
pub mod Sizes
pub mod Tables
