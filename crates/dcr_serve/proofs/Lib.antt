pub mod Giving
mod ListeningLemmas
