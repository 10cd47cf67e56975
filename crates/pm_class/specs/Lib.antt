pub mod Behind
pub mod ClassLaws
pub mod OneToOne
pub mod Sampling
pub mod Undoing
pub mod Unsampling
