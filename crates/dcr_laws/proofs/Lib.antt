pub mod WaitsLemmas
pub mod TouchesLemmas
pub mod SitesRunLemmas
pub mod ToldLemmas
