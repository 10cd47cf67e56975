pub mod EdgesGrown
pub mod EdgesMade
pub mod LoneDarts
pub mod Planes
pub mod Regions
pub mod StemsAdded
pub mod Twins
