mod LookupLemmas
pub mod CountingLemmas
pub mod NameLemmas
pub mod JsonLemmas
pub mod TextLemmas
