use Rattle.std.proofs.Common.{Ok, Err, refl}
use Rattle.oas_elements.specs.Contents.{Contents, meaning_of}
use Rattle.oas_canon.specs.Listing.{listing}
use Rattle.oas_command.proofs.RunLemmas.{result_after, done, delivers, tells}
use Rattle.oas_command.proofs.runs.show.show_telling.Goals as goal

pub returns-in-Ok : goal.returns-in-Ok
returns-in-Ok g c =
    let layout = c.in-Ok.layout in
    let written = c.write_listing-written.result in
    let wrote = c.write_listing-written.ensures in (
      Ok layout,
      result_after {T = Contents} layout written,
      done {T = Contents} layout written _ c.conclude.ensures.answers,
      c.in-Ok.ensures,
      delivers {T = Contents} layout g.W.Device.calls (λ (l : Contents). listing (meaning_of l)) written c.args.out.now c.write_listing-written.new.writer wrote.written wrote.refused,
      tells {T = Contents} layout g.K.Sink.given g.K.Sink.failures c.args.name.now c.args.told.now written c.conclude.new.told c.conclude.ensures.ends,
    )

pub returns-in-Err : goal.returns-in-Err
returns-in-Err g c = (Err c.in-Err.refusal, Err c.in-Err.refusal, c.refuse.ensures.status, c.in-Err.ensures, (refl, refl), c.refuse.ensures.tells)
