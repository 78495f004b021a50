use Rattle.std.proofs.Common.{◌^◌, ◌<◌, List, ℕ, None, length, subst}
use Rattle.oas_num.specs.Writing.{Writes}
use Rattle.oas_elements.specs.Contents.{meaning_of}
use Rattle.oas_diff_options.specs.declared.format.TheConstants.{PLAIN}
use Rattle.oas_diff_options.specs.declared.options.Options.{Options}
use Rattle.oas_difference.proofs.Compared.{compared_by_default}
use Rattle.oas_difference.proofs.writing.put_difference.Goals as goal

pub returns-clause-writes : goal.returns-clause-writes
returns-clause-writes g c =
    let options : Options = record { choice = c.all.result; detail = c.args.detail; format = PLAIN; limit = None } in
    subst (λ (text : List ℕ). Writes g.K.Sink.given g.K.Sink.failures c.args.sink.now text c.put_compared.result c.put_compared.new.sink)
    (compared_by_default options c.all.ensures c.args.before.now.profile (meaning_of c.args.before.now) (meaning_of c.args.after.now)) c.put_compared.ensures.writes

pub returns-clause-short : goal.returns-clause-short
returns-clause-short g c =
    let options : Options = record { choice = c.all.result; detail = c.args.detail; format = PLAIN; limit = None } in
    subst (λ (text : List ℕ). length text < 2 ^ 63)
    (compared_by_default options c.all.ensures c.args.before.now.profile (meaning_of c.args.before.now) (meaning_of c.args.after.now)) c.put_compared.ensures.short
