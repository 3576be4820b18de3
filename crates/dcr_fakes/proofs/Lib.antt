pub mod Reading
pub mod ImageLemmas
