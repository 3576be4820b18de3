pub mod Slots
pub mod JournalValue
pub mod JournalModel
pub mod Answer
pub mod Run
