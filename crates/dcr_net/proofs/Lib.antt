pub mod PorterLemmas
