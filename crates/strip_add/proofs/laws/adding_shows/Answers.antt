use Rattle.strip_add.proofs.LawProofs.{adding_shows, adding_shows_named, added_rise}
use Rattle.strip_add.proofs.laws.adding_shows.Goals as goal

pub returns-clause-shown : goal.returns-clause-shown
returns-clause-shown c = λ def table totals can. adding_shows def table totals can

pub returns-clause-named : goal.returns-clause-named
returns-clause-named c = λ def table totals key row can. adding_shows_named def table totals can key row

pub returns-clause-rise : goal.returns-clause-rise
returns-clause-rise c = λ def table totals can. added_rise def table totals can
