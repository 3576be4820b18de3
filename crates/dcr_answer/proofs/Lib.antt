pub mod ReadingLemmas
pub mod NextLemmas
pub mod TalkedLemmas
pub mod SayLemmas
pub mod GreetedLemmas
