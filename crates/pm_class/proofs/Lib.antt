pub mod ExchangedLemmas
pub mod OneToOneLemmas
pub mod UndoingLemmas
pub mod UnnamedLemmas
