pub mod LineLemmas
pub mod BrokenLemmas
pub mod WholeFiles
pub mod NumeralLemmas
pub mod ReadingLemmas
pub mod WordLemmas
pub mod ReaderLemmas
pub mod LeadingLemmas
