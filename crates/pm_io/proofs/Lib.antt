pub mod BytesLemmas
pub mod FaultsLemmas
mod Turns
mod Writes
