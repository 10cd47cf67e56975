pub mod BipartiteClass
pub mod DualsOfMaps
pub mod GeneralClass
pub mod NoDarts
