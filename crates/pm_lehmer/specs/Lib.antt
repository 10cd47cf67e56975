pub mod Lehmer
pub mod steps
