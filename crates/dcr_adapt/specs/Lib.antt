pub mod Each
pub mod Carried
pub mod Stages
pub mod Refusals
