pub mod Frames
pub mod Talk
pub mod Speaks
pub mod Hearing
pub mod Truth
pub mod Laws
