pub mod PorterState
pub mod MemPorterModel
