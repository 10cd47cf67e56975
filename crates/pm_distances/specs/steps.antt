pub mod DistanceSearch
