pub mod Engine
pub mod SitesModel
