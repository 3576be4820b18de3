pub mod FrameLemmas
pub mod TalkLemmas
