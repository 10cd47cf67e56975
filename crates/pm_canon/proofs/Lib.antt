mod CanonLemmas
pub mod ExistenceLemmas
pub mod KeptLemmas
pub mod ListLemmas
pub mod MeetingLemmas
mod MentionLemmas
mod NamingLemmas
mod NamedLemmas
pub mod WalkLemmas
