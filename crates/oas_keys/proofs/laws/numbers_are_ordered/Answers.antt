use Rattle.oas_keys.specs.Laws.NumberLaws.{unsigned_order, signed_order}
use Rattle.oas_keys.proofs.laws.numbers_are_ordered.Goals as goal

pub returns-clause-unsigned : goal.returns-clause-unsigned
returns-clause-unsigned c = unsigned_order

pub returns-clause-signed : goal.returns-clause-signed
returns-clause-signed c = signed_order
