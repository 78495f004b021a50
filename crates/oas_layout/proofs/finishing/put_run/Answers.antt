use Rattle.std.proofs.Common.{Some, sym, ap, ◌∙◌}
use Rattle.std.specs.Option.{option_copied}
use Rattle.oas_form.specs.References.{cell_by}
use Rattle.oas_layout.proofs.RunLemmas.{nameless, named}
use Rattle.oas_layout.proofs.finishing.put_run.Goals as goal

pub returns-in_default-clause-ok : goal.returns-in_default-clause-ok
returns-in_default-clause-ok g c =
    nameless g.P.KeptBy.profile c.args.names.now.named c.args.strings.now.named c.args.cell c.args.runs.now.items
    (ap (cell_by c.args.names.now.named) (sym c.cell-2.ensures) ∙ sym c.cell_meant.ensures ∙ ap option_copied c.in_default.is)

pub returns-clause-ok : goal.returns-clause-ok
returns-clause-ok g c =
    named g.P.KeptBy.profile c.args.names.now.named c.args.strings.now.named c.args.cell c.args.runs.now.items c.push.new.self.items c.in-Ok.name c.in_ok-run.run'
    (ap (cell_by c.args.names.now.named) (sym c.cell-2.ensures) ∙ sym c.cell_meant.ensures ∙ ap option_copied c.in-Some.is ∙ ap Some (sym c.in-Ok.ensures)) c.as_bytes-bytes.ensures.class
    c.in_ok-run.ensures.run c.in_ok-run.ensures.means c.in_ok-run.ensures.sound c.in_ok-push.ensures.items
