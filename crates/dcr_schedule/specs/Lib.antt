pub mod Executions
pub mod Playing
pub mod Apart
