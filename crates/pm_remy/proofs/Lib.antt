pub mod Counts
mod Descent
mod Gathering
pub mod Grafts
pub mod Grown
pub mod GrowthLaws
pub mod Linking
mod Noting
mod Numbering
mod Placing
pub mod Once
pub mod Prunes
pub mod Reading
pub mod Shapes
mod Stacked
mod Stepping
pub mod Ungrown
mod Unwinding
mod Waiting
