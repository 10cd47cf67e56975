pub mod Faults
pub mod TurnedLetter
