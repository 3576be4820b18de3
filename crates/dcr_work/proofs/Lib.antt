pub mod SessionLemmas
pub mod WorkerLemmas
pub mod DealingLemmas
pub mod RunLemmas
pub mod OrderLemmas
