pub mod ClusterId
pub mod CellStands
pub mod Stored
pub mod Keeping
pub mod Laws
pub mod Asking
