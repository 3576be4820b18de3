pub mod Seen
pub mod SiteModel
pub mod Decision
pub mod Together
