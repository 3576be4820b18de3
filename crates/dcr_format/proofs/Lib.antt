mod Lexed
mod Parsed
pub mod SizeLemmas
pub mod MemberLemmas
pub mod FactLemmas
pub mod OrderLemmas
pub mod ValueLemmas
pub mod PlainLemmas
pub mod Utf8Lemmas
pub mod LineLemmas
pub mod NameLemmas
pub mod EscapeLemmas
pub mod LengthLemmas
pub mod EntryLemmas
mod JsonLemmas
mod StringLemmas
pub mod TextValueLemmas
pub mod StageLemmas
