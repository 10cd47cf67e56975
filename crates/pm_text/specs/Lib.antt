pub mod Broken
pub mod Numeral
pub mod Reading
pub mod Spaced
