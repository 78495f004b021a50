use Rattle.std.proofs.Common.{rules, ◌≡◌, ◌+◌, ◌<◌, ◌≤◌, drop, refl}
use Rattle.oas_runs.proofs.LastLemmas.{count_stands, recounted_short, recounted_long}
use Rattle.oas_runs.proofs.recount.count_last.Goals as goal

pub returns-then-times-from-clause-ok : goal.returns-then-times-from-clause-ok
returns-then-times-from-clause-ok c =
    let (p, e, _) = c.requires.last in
    let others : c.after.result.now ≡ drop c.args.at c.args.bytes.now.items = search rules in
    let few : c.in-Some.entry.times + c.args.more < 255 = search rules in
    let stands = count_stands c.args.at c.in-Some.entry.end c.in-Some.entry.times c.args.bytes.now.items c.after.result.now c.in-Some.entry.key.now p
    c.requires.within c.requires.block others c.in-Some.ensures.within c.in-Some.ensures.some c.in-Some.ensures.rest e in (
      p,
      e,
      recounted_short c.args.at c.in-Some.entry.end c.in-Some.entry.times c.args.more _ c.args.bytes.now.items c.in-Some.entry.key.now p stands few refl,
    )

pub returns-then-entry-from-clause-ok : goal.returns-then-entry-from-clause-ok
returns-then-entry-from-clause-ok c =
    let (p, e, _) = c.requires.last in
    let others : c.after.result.now ≡ drop c.args.at c.args.bytes.now.items = search rules in
    let many : 255 ≤ c.in-Some.entry.times = search rules in
    let stands = count_stands c.args.at c.in-Some.entry.end c.in-Some.entry.times c.args.bytes.now.items c.after.result.now c.in-Some.entry.key.now p
    c.requires.within c.requires.block others c.in-Some.ensures.within c.in-Some.ensures.some c.in-Some.ensures.rest e in (
      p,
      e,
      recounted_long c.args.at c.in-Some.entry.end c.in-Some.entry.times c.args.more _ c.args.bytes.now.items c.replace_number.new.bytes.items
          c.in-Some.entry.key.now p stands many refl c.replace_number.ensures,
    )
