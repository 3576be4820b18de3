pub mod CallLemmas
pub mod TextLemmas
pub mod ValueLemmas
pub mod RoundLemmas
