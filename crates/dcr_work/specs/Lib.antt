pub mod Dealing
pub mod Working
pub mod Order
