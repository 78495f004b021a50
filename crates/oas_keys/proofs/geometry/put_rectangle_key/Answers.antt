use Rattle.std.proofs.Common.{◌≡◌, ◌∷◌, [], ◌++◌, ◌∙◌, ap, ℕ, List, rules, w64, FitsSigned}
use Rattle.oas_keys.specs.Numbers.{unsigned_key}
use Rattle.oas_keys.proofs.PutLemmas.{puts, after_pair, passed}
use Rattle.oas_keys.proofs.geometry.put_rectangle_key.Goals as goal

pub returns-clause-ok : goal.returns-clause-ok
returns-clause-ok c =
    let p : FitsSigned w64 c.args.x = search rules in
    let q : FitsSigned w64 c.args.y = search rules in
    let begun : c.push_reserved.new.self.items ≡ c.args.out.now.items ++ (3 ∷ []) = c.push_reserved.ensures.items ∙ ap (λ (t : List ℕ). t ++ (3 ∷ [])) c.in_ok-reserve.ensures.items in
    let place = c.put_signed_pair.ensures.items ∙ ap (λ (t : List ℕ). c.put_unsigned_pair-2.new.out.items ++ t) (passed c.args.x c.args.y p q) in
    let size = after_pair c.put_unsigned_pair.new.out.items c.put_unsigned_pair-2.new.out.items _ (unsigned_key c.args.width) (unsigned_key c.args.height) _ place c.put_unsigned_pair-2.ensures.items in
    let layer = after_pair c.push_reserved.new.self.items c.put_unsigned_pair.new.out.items _ (unsigned_key c.args.layer) (unsigned_key c.args.datatype) _ size c.put_unsigned_pair.ensures.items in
    puts _ c.push_reserved.new.self.items c.args.out.now.items (3 ∷ []) _ layer begun
