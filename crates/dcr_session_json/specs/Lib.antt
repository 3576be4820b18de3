pub mod Written
pub mod Seen
pub mod Shape
pub mod Limits
pub mod Build
pub mod Accepted
pub mod Value
pub mod Laws
