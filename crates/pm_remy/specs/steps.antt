pub mod Linked
pub mod Noted
pub mod Ungrown
