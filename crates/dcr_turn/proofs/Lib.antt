mod Covering
pub mod Faults
mod Counting
mod Keeping
mod Visiting
mod Passing
mod GivingOut
mod Rows
pub mod Covered
