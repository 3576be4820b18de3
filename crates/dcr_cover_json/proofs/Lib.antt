pub mod ShapeLemmas
pub mod MeaningLemmas
pub mod FactLemmas
pub mod BuildLemmas
pub mod ValueLemmas
pub mod RoundLemmas
pub mod ReadLemmas
pub mod RefusalLemmas
