pub mod Halved
pub mod Written
