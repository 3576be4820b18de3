pub mod Filled
pub mod Porter
