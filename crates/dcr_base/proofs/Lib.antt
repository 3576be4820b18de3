pub mod CountLemmas
pub mod DiskLemmas
pub mod FileLemmas
pub mod Interruptions
pub mod KnownBytes
