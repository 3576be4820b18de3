pub mod WireLemmas
pub mod SetFormLemmas
pub mod AnswerLemmas
