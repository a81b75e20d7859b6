use Rattle.std.proofs.Common.{◌≡◌, ◌+◌, ◌*◌, ◌-◌}
use Rattle.strip_ast.specs.declared.marks.Mark.TheVariants as m
use Rattle.strip_ast.specs.declared.expressions.Op.TheVariants as op
use Rattle.strip_ast.specs.Grammar.{either}
use Rattle.strip_ast.specs.Syntax.{factor, product, sum, test, conj, expression, joins}
use Rattle.strip_parse.specs.Reading.{take, take_inside}
use Rattle.strip_parse.proofs.Loops.{chain_from}
use Rattle.strip_parse.proofs.expressions.+expr.Given as goal

abbrev pub decreases-take_parenthesized : goal.decreases-take_parenthesized
decreases-take_parenthesized l = l.room * 11 + 10

abbrev pub decreases-take_enclosed : goal.decreases-take_enclosed
decreases-take_enclosed l = l.room * 11 + 0

abbrev pub decreases-take_factor : goal.decreases-take_factor
decreases-take_factor l = l.room * 11 + 1

abbrev pub decreases-take_product : goal.decreases-take_product
decreases-take_product l = l.room * 11 + 2

abbrev pub decreases-take_sum : goal.decreases-take_sum
decreases-take_sum l = l.room * 11 + 3

abbrev pub decreases-take_right : goal.decreases-take_right
decreases-take_right l = l.room * 11 + 4

abbrev pub decreases-take_compared : goal.decreases-take_compared
decreases-take_compared l = l.room * 11 + 5

abbrev pub decreases-take_compare : goal.decreases-take_compare
decreases-take_compare l = l.room * 11 + 6

abbrev pub decreases-take_test : goal.decreases-take_test
decreases-take_test l = l.room * 11 + 7

abbrev pub decreases-take_conj : goal.decreases-take_conj
decreases-take_conj l = l.room * 11 + 8

abbrev pub decreases-take_expression : goal.decreases-take_expression
decreases-take_expression l = l.room * 11 + 9

abbrev pub invariant-take_product-loop-turn : goal.invariant-take_product-loop-turn
invariant-take_product-loop-turn l =
    take (take_inside l.fn.room) product l.fn.cursor ≡ chain_from (take_inside l.fn.room) (joins m.Star op.Mul) factor l.left (l._turn-end - l._turn) l.cursor

abbrev pub invariant-take_sum-loop-turn : goal.invariant-take_sum-loop-turn
invariant-take_sum-loop-turn l =
    take (take_inside l.fn.room) sum l.fn.cursor ≡ chain_from (take_inside l.fn.room) (either (joins m.Plus op.Add) (joins m.Minus op.Sub)) product l.left (l._turn-end - l._turn) l.cursor

abbrev pub invariant-take_conj-loop-turn : goal.invariant-take_conj-loop-turn
invariant-take_conj-loop-turn l =
    take (take_inside l.fn.room) conj l.fn.cursor ≡ chain_from (take_inside l.fn.room) (joins m.And op.And) test l.left (l._turn-end - l._turn) l.cursor

abbrev pub invariant-take_expression-loop-turn : goal.invariant-take_expression-loop-turn
invariant-take_expression-loop-turn l =
    take (take_inside l.fn.room) expression l.fn.cursor ≡ chain_from (take_inside l.fn.room) (joins m.Or op.Or) conj l.left (l._turn-end - l._turn) l.cursor
