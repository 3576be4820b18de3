pub mod SiteLemmas
pub mod TogetherLemmas
