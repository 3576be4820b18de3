pub mod Greeting
pub mod Hmac
pub mod KeyModel
pub mod KeyText
pub mod Laws
