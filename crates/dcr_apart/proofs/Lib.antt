pub mod ServedLemmas
pub mod SiteLemmas
