pub mod LineLemmas
pub mod FromLemmas
pub mod EachLemmas
pub mod StageLemmas
pub mod RefusalLemmas
pub mod ReadLemmas
pub mod CarriedLemmas
