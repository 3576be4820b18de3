mod CountLemmas
pub mod TurnsLemmas
pub mod LegalLemmas
pub mod LawLemmas
mod WorkedLemmas
mod UnbegunLemmas
mod RanLemmas
mod AskedLemmas
mod ServedLemmas
mod NamedLemmas
