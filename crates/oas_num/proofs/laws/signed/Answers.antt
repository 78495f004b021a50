use Rattle.oas_num.specs.Laws.StyleLaws.{PrefixFree-signed, OneSpelling-signed, IsWithin-signed}
use Rattle.oas_num.proofs.laws.signed.Goals as goal

pub returns : goal.returns
returns c = record { front = PrefixFree-signed; one = OneSpelling-signed; within = IsWithin-signed }
