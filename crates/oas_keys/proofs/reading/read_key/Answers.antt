use Rattle.std.proofs.Common.{◌∷◌, ℕ, ap, sym, ◌∙◌}
use Rattle.oas_keys.proofs.KindLemmas.{rectangle_of}
use Rattle.oas_keys.proofs.reading.read_key.Goals as goal

pub rectangle-requires : goal.rectangle-requires
rectangle-requires c =
    rectangle_of c.requires.0 c.args.key.now c.byte.new.self c.requires.1 c.requires.2
    (sym c.of-left.ensures ∙ c.byte.ensures ∙ ap (λ (b : ℕ). b ∷ c.byte.new.self) c.in-3.is)
