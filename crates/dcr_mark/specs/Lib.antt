pub mod Standing
pub mod PlainModel
