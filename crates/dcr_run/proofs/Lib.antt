pub mod HearingLemmas
mod SitesLemmas
