pub mod Free
pub mod Links
