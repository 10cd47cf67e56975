pub mod Plane
pub mod Region
pub mod Room
pub mod View
pub mod steps
