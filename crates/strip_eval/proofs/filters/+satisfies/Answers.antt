use Rattle.strip_eval.proofs.Parts.{asks_not, asks_and_left, asks_and_right, asks_or_left, asks_or_right, of_not, of_and, of_and_no, of_or, of_or_yes}
use Rattle.strip_eval.proofs.filters.+satisfies.Goals as goal

pub satisfies-requires : goal.satisfies-requires
satisfies-requires t c =
    asks_not c.args.rows.now c.args.test.now c.get.result.now t c.decreases c.requires.near c.in-Not.inner c.in-Not.is c.get.ensures

pub satisfies-requires-in-And : goal.satisfies-requires-in-And
satisfies-requires-in-And t c =
    asks_and_left c.args.rows.now c.args.test.now c.get-in-And.result.now t c.decreases c.requires.near c.in-And.left c.in-And.right c.in-And.is c.get-in-And.ensures

pub satisfies-requires-then-satisfies : goal.satisfies-requires-then-satisfies
satisfies-requires-then-satisfies t c =
    asks_and_right c.args.rows.now c.args.test.now c.get-then-satisfies.result.now t c.decreases c.requires.near c.in-And.left c.in-And.right c.in-And.is c.get-then-satisfies.ensures

pub satisfies-requires-in-Or : goal.satisfies-requires-in-Or
satisfies-requires-in-Or t c =
    asks_or_left c.args.rows.now c.args.test.now c.get-in-Or.result.now t c.decreases c.requires.near c.in-Or.left c.in-Or.right c.in-Or.is c.get-in-Or.ensures

pub satisfies-requires-else-satisfies-2 : goal.satisfies-requires-else-satisfies-2
satisfies-requires-else-satisfies-2 t c =
    asks_or_right c.args.rows.now c.args.test.now c.get-else-satisfies-2.result.now t c.decreases c.requires.near c.in-Or.left c.in-Or.right c.in-Or.is c.get-else-satisfies-2.ensures

pub returns-in-Not : goal.returns-in-Not
returns-in-Not t c =
    of_not c.args.rows.now c.args.test.now c.get.result.now c.in-Not.inner c.satisfies.result c.in-Not.is c.get.ensures c.satisfies.ensures

pub returns-then-satisfies : goal.returns-then-satisfies
returns-then-satisfies t c =
    of_and c.args.rows.now c.args.test.now c.get-in-And.result.now c.get-then-satisfies.result.now c.in-And.left c.in-And.right c.satisfies-in-And.result c.satisfies-then-satisfies.result
    c.in-And.is c.get-in-And.ensures c.get-then-satisfies.ensures c.satisfies-in-And.ensures c.if-satisfies.true c.satisfies-then-satisfies.ensures

pub returns-else-satisfies : goal.returns-else-satisfies
returns-else-satisfies t c =
    of_and_no c.args.rows.now c.args.test.now c.get-in-And.result.now c.in-And.left c.in-And.right c.satisfies-in-And.result c.in-And.is c.get-in-And.ensures c.satisfies-in-And.ensures c.if-satisfies.false

pub returns-then-satisfies-2 : goal.returns-then-satisfies-2
returns-then-satisfies-2 t c =
    of_or_yes c.args.rows.now c.args.test.now c.get-in-Or.result.now c.in-Or.left c.in-Or.right c.satisfies-in-Or.result c.in-Or.is c.get-in-Or.ensures c.satisfies-in-Or.ensures c.if-satisfies-2.true

pub returns-else-satisfies-2 : goal.returns-else-satisfies-2
returns-else-satisfies-2 t c =
    of_or c.args.rows.now c.args.test.now c.get-in-Or.result.now c.get-else-satisfies-2.result.now c.in-Or.left c.in-Or.right c.satisfies-in-Or.result c.satisfies-else-satisfies-2.result
    c.in-Or.is c.get-in-Or.ensures c.get-else-satisfies-2.ensures c.satisfies-in-Or.ensures c.if-satisfies-2.false c.satisfies-else-satisfies-2.ensures
