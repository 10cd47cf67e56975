pub mod FreeLeaves
pub mod Pair
pub mod Pairing
pub mod Turning
pub mod steps
