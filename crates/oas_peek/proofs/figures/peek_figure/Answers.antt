use Rattle.oas_peek.proofs.figures.peek_figure.Goals as goal

pub returns-in-Some : goal.returns-in-Some
returns-in-Some c =
    let is = c.in-Some.ensures in
    record { within = is.within; figure = is.once; plain = is.plain; inner = λ e. cc; spelled = is.spelled; shortest = is.shortest }

pub returns : goal.returns
returns c =
    let is = c.in_ok-path.ensures in
    record { within = is.within; figure = is.once; plain = is.plain; inner = λ e. cc; spelled = is.spelled; shortest = is.shortest }
