pub mod DecisionLemmas
pub mod AskLemmas
pub mod CellLemmas
pub mod RunLemmas
pub mod StoreLemmas
