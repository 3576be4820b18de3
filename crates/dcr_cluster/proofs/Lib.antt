mod PushLemmas
mod EnterLemmas
mod CommitLemmas
mod NeededLemmas
mod GatherLemmas
mod BlockLemmas
pub mod OpeningLemmas
mod OpenLemmas
mod PoppingLemmas
pub mod StoreLemmas
mod ClosingLemmas
