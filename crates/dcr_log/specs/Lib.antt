pub mod Names
pub mod Records
pub mod Traces
pub mod Left
pub mod Gathered
