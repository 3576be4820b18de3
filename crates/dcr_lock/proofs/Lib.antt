mod Counts
mod Keeping
mod Told
pub mod Standing
mod Opening
mod Ending
