pub mod Filled
pub mod BlockModel
pub mod Supply
pub mod PoolModel
