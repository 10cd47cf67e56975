pub mod DrawnLemmas
pub mod ValidDraws
