pub mod Balance
pub mod Binomials
pub mod CountedPairs
pub mod FourLetters
pub mod LeafTurns
pub mod Listing
pub mod OneBud
pub mod Own
mod OwnCounts
pub mod OwnEntries
mod PairRules
pub mod PlantedAt
mod Profiles
pub mod Ranked
pub mod Ranking
pub mod Replants
pub mod Rings
mod Spelling
pub mod Subtree
pub mod Tables
mod TreeEdges
pub mod Unique
mod UniqueProfile
pub mod Walk
pub mod Weights
