pub mod SlotLemmas
pub mod RunLemmas
pub mod SoundLemmas
