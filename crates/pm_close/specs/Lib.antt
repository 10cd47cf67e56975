pub mod Closing
pub mod Closure
pub mod Laws
pub mod Level
pub mod NodeDegrees
pub mod Nodes
pub mod steps
