mod CountedLists
mod CountedMaps
mod CountedResidues
mod Distinct
mod ListWalk
pub mod NearerFaces
mod NumberSums
pub mod OneCensus
pub mod OneLayers
mod Products
mod SameMap
pub mod SomeCensus
pub mod SomeLayers
pub mod StandingMaps
mod ToldFaces
