use Rattle.std.proofs.Common.{◌-◌, ap}
use Rattle.oas_num.specs.Refusals.{number_of}
use Rattle.oas_num.specs.declared.sentences.Reason.{Reason}
use Rattle.oas_num.proofs.SentenceLemmas.{is_at, number_at, name_at}
use Rattle.oas_num.proofs.refusals.Why.reason.Goals as goal

pub returns-clause-number : goal.returns-clause-number
returns-clause-number c =
    let why = c.args.self.now in
    is_at (λ (r : Reason). r.number) c.profile_reasons.result.now _ (number_of why - 1) (c.number.result - 1) _ (number_of why) c.profile_reasons.ensures.numbers
    (ap (λ n. n - 1) c.number.ensures) (number_at why)

pub returns-clause-name : goal.returns-clause-name
returns-clause-name c =
    let why = c.args.self.now in
    is_at (λ (r : Reason). r.name.now) c.profile_reasons.result.now _ (number_of why - 1) (c.number.result - 1) _ _ c.profile_reasons.ensures.names
    (ap (λ n. n - 1) c.number.ensures) (name_at why)
