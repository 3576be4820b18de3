pub mod Upward
pub mod Roles
pub mod Deny
pub mod Numbered
pub mod Sets
pub mod PolicyModel
pub mod Laws
