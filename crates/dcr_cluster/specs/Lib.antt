pub mod ClusterModel
pub mod Calls
pub mod Entering
pub mod Opening
pub mod Closing
