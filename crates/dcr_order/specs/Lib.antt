pub mod Acts
pub mod Going
pub mod Giving
pub mod Linked
pub mod Calling
pub mod Orders
pub mod Behind
pub mod Tending
