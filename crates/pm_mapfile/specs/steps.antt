pub mod ReadText
pub mod ReadFile
pub mod Refusals
pub mod Rotation
pub mod Lines
pub mod Printed
