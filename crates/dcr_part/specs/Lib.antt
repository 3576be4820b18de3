pub mod Told
pub mod PartText
pub mod Whole
pub mod Read
pub mod PartOf
pub mod Laws
