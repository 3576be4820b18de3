pub mod Size
pub mod SizeLaws
pub mod Facts
pub mod Order
pub mod Members
pub mod Objects
pub mod Texts
