pub mod BitLemmas
pub mod HelloLemmas
pub mod KeyLemmas
pub mod PlaceLemmas
