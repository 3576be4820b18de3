pub mod JudgeLemmas
pub mod LineLemmas
