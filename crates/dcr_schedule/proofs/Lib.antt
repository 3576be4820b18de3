pub mod PlayingLemmas
pub mod HearingLemmas
pub mod ApartLemmas
