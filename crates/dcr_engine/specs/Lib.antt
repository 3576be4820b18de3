pub mod Laws
pub mod Ran
pub mod Served
