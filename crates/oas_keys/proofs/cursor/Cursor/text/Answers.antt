use Rattle.std.proofs.Common.{◌≡◌, ◌∷◌, [], ℕ, take, drop, sym, ap, ◌∙◌, arith}
use Rattle.oas_keys.specs.Reading.{text_len}
use Rattle.oas_keys.proofs.PartLemmas.{text_read}
use Rattle.oas_keys.proofs.cursor.Cursor.text.Goals as goal

pub part-text-requires : goal.part-text-requires
part-text-requires c =
    let h = text_read c.args.self.now c.requires.0 c.requires.1 c.requires.2 c.requires.3 in
    omega (arith, h.fits, c.text_len-len.ensures.len ∙ ap text_len c.left.ensures)

pub byte-end-requires : goal.byte-end-requires
byte-end-requires c none =
    let h = text_read c.args.self.now c.requires.0 c.requires.1 c.requires.2 c.requires.3 in
    let e : c.text_len-len.result ≡ text_len c.args.self.now = c.text_len-len.ensures.len ∙ ap text_len c.left.ensures in
    let both : [] ≡ 0 ∷ c.requires.1 = sym none ∙ c.part-text.ensures.rest ∙ ap (λ (n : ℕ). drop n c.args.self.now) e ∙ h.back in
    cc

pub returns : goal.returns
returns c bytes rest some is =
    let h = text_read c.args.self.now bytes rest some is in
    let e : c.text_len-len.result ≡ text_len c.args.self.now = c.text_len-len.ensures.len ∙ ap text_len c.left.ensures in
    let both : c.byte-end.result ∷ c.byte-end.new.self ≡ 0 ∷ rest = sym c.byte-end.ensures ∙ c.part-text.ensures.rest ∙ ap (λ (n : ℕ). drop n c.args.self.now) e ∙ h.back in
    (c.part-text.ensures.part ∙ ap (λ (n : ℕ). take n c.args.self.now) e ∙ h.front, cc)
