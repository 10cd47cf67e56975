pub mod Colouring
pub mod DualDegrees
pub mod Medial
pub mod MedialLaws
pub mod steps
