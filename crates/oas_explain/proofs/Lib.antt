pub use Rattle.oas_command.proofs.MessageLemmas
mod HearingLemmas
mod FindLemmas
mod TellLemmas
