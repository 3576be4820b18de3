pub mod Replies
pub mod SceneModel
pub mod Serving
pub mod Talking
pub mod TalkModel
