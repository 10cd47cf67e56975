pub mod Bipartite
pub mod General
