pub mod EachDegree
pub mod EdgeKinds
mod FaceSearch
pub mod KeptEdges
pub mod LevelsAlong
pub mod OneApart
pub mod SameLevels
pub mod Walked
pub mod Walks
mod WholeWalk
