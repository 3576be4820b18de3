pub mod Found
pub mod Kept
pub mod Laws
pub mod Message
pub mod Opening
pub mod Renewing
pub mod Tape
