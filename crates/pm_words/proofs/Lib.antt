pub mod Heights
pub mod Records
pub mod Cycle
pub mod PlaneWords
