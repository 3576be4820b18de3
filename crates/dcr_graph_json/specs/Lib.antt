pub mod Written
pub mod Seen
pub mod Shape
pub mod Limits
pub mod Build
pub mod Text
pub mod Accepted
pub mod Laws
