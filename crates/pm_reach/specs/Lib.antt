pub mod Census
pub mod CensusLaws
pub mod LayerLaws
pub mod Layers
pub mod steps
