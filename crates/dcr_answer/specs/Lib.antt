pub mod Reading
pub mod Telling
pub mod Answering
pub mod Laws
pub mod Greeted
