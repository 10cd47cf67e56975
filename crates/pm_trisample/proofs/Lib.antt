pub mod Chosen
pub mod RunPlanting
pub mod SampleLaws
pub mod Samples
pub mod TriObjects
