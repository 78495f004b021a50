pub use Rattle.oas_standard.proofs.HeadLemmas
pub use Rattle.oas_standard.proofs.RealLemmas
pub use Rattle.oas_standard.proofs.WidenedLemmas
pub mod FrontLemmas
pub mod BlockLemmas
pub mod OneLemmas
pub mod StandsLemmas
