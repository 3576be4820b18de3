pub mod DialPorter
pub mod ListenPorter
pub mod SiteLink
