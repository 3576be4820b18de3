pub mod Cutting
pub mod CutterModel
pub mod Lines
