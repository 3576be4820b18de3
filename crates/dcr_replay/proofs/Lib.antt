pub mod LinesLemmas
pub mod TrackedLemmas
pub mod CountLemmas
pub mod CutLemmas
pub mod OneLineLemmas
pub mod HeadLemmas
pub mod WitnessLemmas
pub mod NextLemmas
pub mod ReportLemmas
pub mod WrongLemmas
pub mod EndLemmas
pub mod AnsweredLemmas
mod OneLemmas
mod VerdictLemmas
