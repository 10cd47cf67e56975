pub mod Closed
pub mod Made
pub mod Objects
pub mod PlantedAnew
pub mod SampleLaws
pub mod Samples
pub mod Triangulated
