pub mod AtSites
pub mod SitesRun
pub mod Laws
