pub mod NumberLemmas
pub mod Steps
pub mod Firsts
pub mod HeldLemmas
pub mod WrittenLemmas
