pub mod ListLine
pub mod Numbers
pub mod Refusal
pub mod Valid
pub mod steps
