mod ClosedMap
pub mod ClosureLemmas
pub mod ClosureStructure
mod EdgeKinds
pub mod Heads
mod JoiningSteps
pub mod KeptDegrees
mod LevelSteps
pub mod LowWords
pub mod NodeVertices
pub mod OneClosing
pub mod OneClosure
mod OnePass
mod PlaneClosure
pub mod PlaneMap
pub mod RootedClosure
mod RotationSteps
pub mod SomeClosure
pub mod TwinLemmas
mod Unclosed
