pub mod CoverLemmas
pub mod MaskLemmas
pub mod PlaceLemmas
pub mod NetworkLemmas
pub mod RowLemmas
pub mod ProjectionLemmas
