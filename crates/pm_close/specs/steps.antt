pub mod Joining
pub mod Levelling
pub mod Twins
pub mod Numbered
