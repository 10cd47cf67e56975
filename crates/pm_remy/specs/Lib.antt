pub mod Growth
pub mod Laws
pub mod Tree
pub mod Words
pub mod steps
