pub mod ReplyLemmas
pub mod LineLemmas
pub mod TalkLemmas
pub mod PieceLemmas
pub mod HoldLemmas
