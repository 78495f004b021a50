use Rattle.std.proofs.Common.{ap, [], ◌∙◌, sym}
use Rattle.std.proofs.lemmas.List.{append-nil}
use Rattle.oas_keys.specs.Keys.{key_of}
use Rattle.oas_keys.specs.Laws.KeyLaws.{key_order, one_key}
use Rattle.oas_keys.proofs.laws.keys_are_ordered.Goals as goal

pub returns-clause-order : goal.returns-clause-order
returns-clause-order c = key_order

pub returns-clause-equal : goal.returns-clause-equal
returns-clause-equal c a b p q = (
  λ e. let h = one_key a b p q [] [] (append-nil (key_of a) ∙ e ∙ sym (append-nil (key_of b))) in h.0,
  λ e. ap key_of e,
)

pub returns-clause-one : goal.returns-clause-one
returns-clause-one c = one_key
