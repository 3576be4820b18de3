pub mod MadeLemmas
mod AnsweredLemmas
