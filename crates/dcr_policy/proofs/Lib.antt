pub mod ListLemmas
pub mod UpwardLemmas
pub mod NumberedLemmas
pub mod SetsLemmas
pub mod PolicyLemmas
pub mod LawLemmas
