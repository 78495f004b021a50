use Rattle.std.proofs.Common.{◌≡◌, ◌+◌, ◌*◌, ◌∷◌, sym, ◌∙◌}
use Rattle.oas_elements.specs.Element.{turn_count}
use Rattle.oas_keys.specs.Keys.{flip_count}
use Rattle.oas_keys.proofs.cursor.Cursor.turned.Goals as goal

pub returns : goal.returns
returns c turns flip rest is =
    let both : c.byte-byte.result ∷ c.byte-byte.new.self ≡ (1 + (turn_count turns * 2 + flip_count flip)) ∷ rest = sym c.byte-byte.ensures ∙ is in
    let first : c.byte-byte.result ≡ 1 + (turn_count turns * 2 + flip_count flip) = cc in
    let behind : c.byte-byte.new.self ≡ rest = cc in
    (c.turns_of.ensures turns flip first, c.flip_of.ensures turns flip first, behind)
