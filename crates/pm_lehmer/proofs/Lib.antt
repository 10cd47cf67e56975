pub mod CountBelow
pub mod Halving
pub mod Ones
pub mod Held
pub mod Arranged
pub mod Ranked
pub mod Rising
pub mod Lowered
