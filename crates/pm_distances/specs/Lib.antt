pub mod AcrossEdges
pub mod Distances
pub mod steps
