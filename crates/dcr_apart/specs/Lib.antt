pub mod Served
pub mod SiteAnswer
