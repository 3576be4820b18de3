pub mod Each
pub mod Words
pub mod LoadGraph
pub mod LoadCover
pub mod LoadSessions
pub mod Load
