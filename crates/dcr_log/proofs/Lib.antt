pub mod NameLemmas
pub mod FieldLemmas
pub mod LeftLemmas
pub mod TraceLemmas
pub mod GatheredLemmas
pub mod LoopLemmas
