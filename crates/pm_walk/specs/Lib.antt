pub mod Laws
pub mod Led
pub mod Passing
pub mod Walk
