pub mod Closing
pub mod Closure
pub mod ClosureLaws
pub mod WholeClosure
