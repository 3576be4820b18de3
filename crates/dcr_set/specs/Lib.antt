pub mod Least
pub mod EventSet
pub mod Bits
pub mod Kept
pub mod EventSetModel
pub mod EventIterModel
