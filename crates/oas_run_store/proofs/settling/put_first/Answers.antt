use Rattle.std.proofs.Common.{◌∷◌, ◌++◌, OnOk, sym, ap, subst}
use Rattle.std.specs.Cmp.Lexicographic.{slice_cmp}
use Rattle.std.specs.Ordering.{nat_cmp}
use Rattle.oas_runs.specs.Blocks.{joined}
use Rattle.oas_runs.specs.Entries.{Entry}
use Rattle.oas_runs.specs.Runs.{SameTotals}
use Rattle.oas_run_store.specs.Parts.{CountsFit}
use Rattle.oas_run_store.specs.Loose.{first_of}
use Rattle.oas_run_store.proofs.LooseLemmas.{none_first}
use Rattle.oas_run_store.proofs.settling.put_first.Goals as goal

pub put_next-requires-clause-fits : goal.put_next-requires-clause-fits
put_next-requires-clause-fits c = subst (λ (p : Entry). CountsFit (slice_cmp nat_cmp) (p ∷ (c.args.summing.now ++ joined c.args.runs.now.items))) (ap first_of c.in-Some.ensures.some) c.requires.fits

pub returns-in-Some-clause-same : goal.returns-in-Some-clause-same
returns-in-Some-clause-same c =
    subst (λ (p : Entry). OnOk c.put_next.result (SameTotals (c.put_next.new.summing ++ joined c.put_next.new.runs.items) (p ∷ (c.args.summing.now ++ joined c.args.runs.now.items))))
    (sym (ap first_of c.in-Some.ensures.some)) c.put_next.ensures.same

pub returns-in-None-clause-same : goal.returns-in-None-clause-same
returns-in-None-clause-same c = none_first c.args.left.now (c.args.summing.now ++ joined c.args.runs.now.items) c.in-None.ensures.none
