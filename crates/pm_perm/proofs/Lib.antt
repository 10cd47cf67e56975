pub mod BothNested
mod Checks
pub mod Contained
pub mod Counts
pub mod Exchanged
pub mod ConnectedEuler
pub mod EvenCounts
pub mod Fences
pub mod FullPairs
pub mod KeyRings
pub mod CycleLists
pub mod Interleaved
pub mod InverseLemmas
pub mod LeaderMaps
mod LeadersWritten
pub mod LeastCases
pub mod LeastLemmas
pub mod Merged
pub mod Nested
pub mod PairCounts
pub mod PartMaps
pub mod PartPairs
mod Parted
pub mod Permutations
pub mod PlacesWritten
pub mod Renumbered
pub mod Repeats
pub mod SameCycle
pub mod Stretches
pub mod Sums
pub mod Walks
