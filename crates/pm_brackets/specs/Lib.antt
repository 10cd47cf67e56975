pub mod First
pub mod Node
pub mod Noted
pub mod PlantedAt
pub mod Ring
pub mod Word
pub mod steps
