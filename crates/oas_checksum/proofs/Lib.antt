mod CrcLemmas
mod DivisionLemmas
pub mod SigningLemmas
pub mod SummingLemmas
mod WordLemmas
mod LaneLemmas
mod ScheduleLemmas
mod HashingLemmas
