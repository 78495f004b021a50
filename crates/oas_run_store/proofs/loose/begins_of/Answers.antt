use Rattle.std.proofs.Common.{rules, ◌≡◌, ◌+◌, ◌∷◌, ◌∙◌, List, ℕ, length, drop, ap, sym, subst, arith, length-drop}
use Rattle.std.specs.List.{All}
use Rattle.std.proofs.lemmas.List.Elements.{All-push}
use Rattle.oas_runs.specs.Entries.{entries, IsBlock}
use Rattle.oas_runs.proofs.EntryLemmas.{later}
use Rattle.oas_run_store.specs.declared.loose.Loose.{Loose}
use Rattle.oas_run_store.specs.Loose.{entries_of, Begins}
use Rattle.oas_run_store.proofs.LooseLemmas.{entry_put, one_begins, first_begun, turn_same}
use Rattle.oas_run_store.proofs.loose.begins_of.Goals as goal

pub loop-entry-preserved : goal.loop-entry-preserved
loop-entry-preserved c =
    let next : drop c.in-Some.entry.end c.after.result.now ≡ drop (c.loop-entry.at + c.in-Some.entry.end) c.args.bytes.now = later c.loop-entry.at c.in-Some.entry.end c.args.bytes.now c.after.result.now c.after.ensures in
    let begin : c.in-Ok.begin ≡ c.loop-entry.at = search rules in
    let a : Loose = record { front = c.front_of-front.result.0; next = c.front_of-front.result.1; at = c.in-Ok.begin } in
    record {
      within = omega (arith, c.loop-entry.invariant.within, ap length c.after.ensures, length-drop c.loop-entry.at c.args.bytes.now, c.in-Some.ensures.within);
      left = subst IsBlock next c.in-Some.ensures.rest;
      begin = subst (λ (all : List Loose). All (Begins c.args.bytes.now) all) (sym c.in_ok-push.ensures.items) (All-push (Begins c.args.bytes.now) c.loop-entry.all.items a c.loop-entry.invariant.begin (one_begins c.args.bytes.now a c.loop-entry.at begin c.loop-entry.invariant.within c.loop-entry.invariant.left));
      same = turn_same (entries_of c.args.bytes.now c.loop-entry.all.items) (entries_of c.args.bytes.now c.push.new.self.items)
          (entries (drop c.loop-entry.at c.args.bytes.now)) (entries (drop (c.loop-entry.at + c.in-Some.entry.end) c.args.bytes.now)) (entries c.args.bytes.now)
          (c.in-Some.entry.key.now, c.in-Some.entry.times)
          (ap entries (sym c.after.ensures) ∙ c.in-Some.ensures.some ∙ ap (λ (bs : List ℕ). (c.in-Some.entry.key.now, c.in-Some.entry.times) ∷ entries bs) next)
          (entry_put c.args.bytes.now c.loop-entry.all.items c.push.new.self.items a (c.in-Some.entry.key.now, c.in-Some.entry.times) c.in_ok-push.ensures.items
          (first_begun c.args.bytes.now c.after.result.now a c.loop-entry.at (c.in-Some.entry.key.now, c.in-Some.entry.times) _ begin c.after.ensures c.in-Some.ensures.some)) c.loop-entry.invariant.same;
    }
