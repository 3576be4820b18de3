pub mod TreeLemmas
pub mod AtomLemmas
pub mod MarkLemmas
pub mod RowLemmas
pub mod FlatLemmas
pub mod HandedLemmas
