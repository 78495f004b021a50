use Rattle.std.proofs.Common.{◌≡◌, ◌∷◌, [], ◌++◌, ◌∙◌, ap, ℕ, List, rules, w64, FitsSigned}
use Rattle.oas_keys.specs.Numbers.{unsigned_key, signed_key}
use Rattle.oas_keys.proofs.PutLemmas.{puts, after_pair, passed}
use Rattle.oas_keys.proofs.geometry.put_path_key.Goals as goal

pub returns-clause-ok : goal.returns-clause-ok
returns-clause-ok c =
    let p : FitsSigned w64 c.args.start = search rules in
    let q : FitsSigned w64 c.args.end = search rules in
    let begun : c.push_reserved.new.self.items ≡ c.args.out.now.items ++ (5 ∷ []) = c.push_reserved.ensures.items ∙ ap (λ (t : List ℕ). t ++ (5 ∷ [])) c.in_ok-reserve.ensures.items in
    let both = c.put_signed_pair.ensures.items ∙ ap (λ (t : List ℕ). c.put_unsigned.new.out.items ++ t) (passed c.args.start c.args.end p q) in
    let ends = after_pair c.put_unsigned.new.out.items c.put_signed_pair.new.out.items _ (signed_key c.args.start) (signed_key c.args.end) _ c.put_points.ensures.items both in
    let half_width = puts _ c.put_unsigned.new.out.items c.put_unsigned_pair.new.out.items (unsigned_key c.args.half_width) _ ends c.put_unsigned.ensures.items in
    let layer = after_pair c.push_reserved.new.self.items c.put_unsigned_pair.new.out.items _ (unsigned_key c.args.layer) (unsigned_key c.args.datatype) _ half_width c.put_unsigned_pair.ensures.items in
    puts _ c.push_reserved.new.self.items c.args.out.now.items (5 ∷ []) _ layer begun
