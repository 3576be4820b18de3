pub mod PlacingLemmas
pub mod ServingLemmas
pub mod GatherLemmas
pub mod DeskLemmas
pub mod HistoryLemmas
pub mod TakenLemmas
