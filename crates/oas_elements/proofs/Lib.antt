pub mod Counting
pub mod KeptForms
pub mod LawProofs
pub mod Order
pub mod SameLemmas
pub mod Sealed
pub mod SoundLemmas
