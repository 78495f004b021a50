use Rattle.std.proofs.Common.{rules, ◌<◌, ◌≤◌, ◌^◌, List, [], ◌∷◌, ◌++◌, length, arith, ap, ◌∙◌, length-append}
use Rattle.oas_runs.specs.Entries.{Entry, entry_bytes, entries}
use Rattle.oas_runs.specs.Laws.EntryLaws.{IsMore}
use Rattle.oas_runs.proofs.EntryLemmas.{appended}
use Rattle.std.specs.Prelude.{drop}
use Rattle.oas_runs.proofs.block.Block.append.Goals as goal
use Rattle.oas_runs.proofs.block.Block.append.Goals.{In_ok-push_entry}

more : (c : In_ok-push_entry) → IsMore (drop c.self.inside.start c.push_entry.new.bytes.items) (entries (drop c.self.inside.start c.self.inside.bytes.items) ++ (c.args.key.now, c.args.times) ∷ [])
more c =
    let long : length c.args.key.now < 2 ^ 64 = search rules in
    let times : c.args.times < 2 ^ 64 = search rules in
    appended c.self.inside.start c.self.inside.bytes.items c.push_entry.new.bytes.items (c.args.key.now, c.args.times) c.self.invariant.0 c.self.invariant.1 (long, times) c.in_ok-push_entry.ensures.ok

pub invariant_of-self-2 : goal.invariant_of-self-2
invariant_of-self-2 c =
    let within : c.self.inside.start ≤ length c.push_entry.new.bytes.items =
    omega (arith, c.self.invariant.0, ap length c.in_ok-push_entry.ensures.ok, length-append c.self.inside.bytes.items (entry_bytes (c.args.key.now, c.args.times))) in
    (within, (more c).block)

pub returns-clause-ok : goal.returns-clause-ok
returns-clause-ok c = (more c).entries ∙ ap (λ (ps : List Entry). ps ++ (c.args.key.now, c.args.times) ∷ []) c.self.view_is
