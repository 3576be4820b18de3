pub mod InStepLemmas
pub mod HonestLemmas
pub mod RightLemmas
pub mod ToldLemmas
pub mod TalkLemmas
pub mod HearingLemmas
pub mod AskingLemmas
