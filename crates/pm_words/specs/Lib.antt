pub mod Word
pub mod Plane
pub mod PlaneCode
pub mod Laws
