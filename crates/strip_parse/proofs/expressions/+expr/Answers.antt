use Rattle.std.proofs.Common.{◌-◌, ◌∙◌, ap, sym, refl, subst, Ok, None, arith}
use Rattle.strip_ast.specs.declared.marks.Mark.TheVariants as m
use Rattle.strip_ast.specs.declared.expressions.Op.TheVariants as op
use Rattle.strip_ast.specs.declared.expressions.Expr.{Expr}
use Rattle.strip_ast.specs.Grammar.{either}
use Rattle.strip_ast.specs.Syntax.{factor, product, test, conj, joins}
use Rattle.strip_parse.specs.Reading.{take_inside, Out}
use Rattle.strip_parse.specs.Taking.{IsTaken}
use Rattle.strip_parse.proofs.Loops.{chain_stop, chain_more, enclosed_is, enclosed_deep, compared_stop, compared_next, compared_stopped, comparing_anywhere}
use Rattle.strip_parse.proofs.expressions.+expr.Goals as goal

pub take_product-returns-in_default : goal.take_product-returns-in_default
take_product-returns-in_default t c =
    c.loop-turn.invariant ∙ chain_stop (take_inside c.args.room) (joins m.Star op.Mul) factor refl c.loop-turn.left (c.most-turn-end.result - c.loop-turn._turn) c.loop-turn.cursor c.take_product_op.new.cursor (c.in_ok-op.ensures ∙ ap (λ o. Ok (o, c.take_product_op.new.cursor)) c.in_default.is)

pub take_product-loop-turn-preserved : goal.take_product-loop-turn-preserved
take_product-loop-turn-preserved t c =
    c.loop-turn.invariant ∙ chain_more (take_inside c.args.room) (joins m.Star op.Mul) factor refl c.loop-turn.left c.in_ok-right.right c.in_ok-left-2.left c.in-Some.op c.loop-turn._turn c.most-turn-end.result c.loop-turn.cursor c.take_product_op.new.cursor c.take_factor-in-loop-turn.new.cursor c.loop-turn-test.true (c.in_ok-op.ensures ∙ ap (λ o. Ok (o, c.take_product_op.new.cursor)) c.in-Some.is) c.in_ok-right.ensures c.in_ok-left-2.ensures

pub take_sum-returns-in_default : goal.take_sum-returns-in_default
take_sum-returns-in_default t c =
    c.loop-turn.invariant ∙ chain_stop (take_inside c.args.room) (either (joins m.Plus op.Add) (joins m.Minus op.Sub)) product refl c.loop-turn.left (c.most-turn-end.result - c.loop-turn._turn) c.loop-turn.cursor c.take_sum_op.new.cursor (c.in_ok-op.ensures ∙ ap (λ o. Ok (o, c.take_sum_op.new.cursor)) c.in_default.is)

pub take_sum-loop-turn-preserved : goal.take_sum-loop-turn-preserved
take_sum-loop-turn-preserved t c =
    c.loop-turn.invariant ∙ chain_more (take_inside c.args.room) (either (joins m.Plus op.Add) (joins m.Minus op.Sub)) product refl c.loop-turn.left c.in_ok-right.right c.in_ok-left-2.left c.in-Some.op c.loop-turn._turn c.most-turn-end.result c.loop-turn.cursor c.take_sum_op.new.cursor c.take_product-in-loop-turn.new.cursor c.loop-turn-test.true (c.in_ok-op.ensures ∙ ap (λ o. Ok (o, c.take_sum_op.new.cursor)) c.in-Some.is) c.in_ok-right.ensures c.in_ok-left-2.ensures

pub take_conj-returns-in_default : goal.take_conj-returns-in_default
take_conj-returns-in_default t c =
    c.loop-turn.invariant ∙ chain_stop (take_inside c.args.room) (joins m.And op.And) test refl c.loop-turn.left (c.most-turn-end.result - c.loop-turn._turn) c.loop-turn.cursor c.take_conj_op.new.cursor (c.in_ok-op.ensures ∙ ap (λ o. Ok (o, c.take_conj_op.new.cursor)) c.in_default.is)

pub take_conj-loop-turn-preserved : goal.take_conj-loop-turn-preserved
take_conj-loop-turn-preserved t c =
    c.loop-turn.invariant ∙ chain_more (take_inside c.args.room) (joins m.And op.And) test refl c.loop-turn.left c.in_ok-right.right c.in_ok-left-2.left c.in-Some.op c.loop-turn._turn c.most-turn-end.result c.loop-turn.cursor c.take_conj_op.new.cursor c.take_test-in-loop-turn.new.cursor c.loop-turn-test.true (c.in_ok-op.ensures ∙ ap (λ o. Ok (o, c.take_conj_op.new.cursor)) c.in-Some.is) c.in_ok-right.ensures c.in_ok-left-2.ensures

pub take_expression-returns-in_default : goal.take_expression-returns-in_default
take_expression-returns-in_default t c =
    c.loop-turn.invariant ∙ chain_stop (take_inside c.args.room) (joins m.Or op.Or) conj refl c.loop-turn.left (c.most-turn-end.result - c.loop-turn._turn) c.loop-turn.cursor c.take_expression_op.new.cursor (c.in_ok-op.ensures ∙ ap (λ o. Ok (o, c.take_expression_op.new.cursor)) c.in_default.is)

pub take_expression-loop-turn-preserved : goal.take_expression-loop-turn-preserved
take_expression-loop-turn-preserved t c =
    c.loop-turn.invariant ∙ chain_more (take_inside c.args.room) (joins m.Or op.Or) conj refl c.loop-turn.left c.in_ok-right.right c.in_ok-left-2.left c.in-Some.op c.loop-turn._turn c.most-turn-end.result c.loop-turn.cursor c.take_expression_op.new.cursor c.take_conj-in-loop-turn.new.cursor c.loop-turn-test.true (c.in_ok-op.ensures ∙ ap (λ o. Ok (o, c.take_expression_op.new.cursor)) c.in-Some.is) c.in_ok-right.ensures c.in_ok-left-2.ensures

pub take_enclosed-returns : goal.take_enclosed-returns
take_enclosed-returns t c =
    subst (λ (out : Out Expr). IsTaken out c.take_parenthesized.result c.take_parenthesized.new.cursor) (sym (enclosed_is c.args.room c.args.cursor.now (omega arith) c.requires)) c.take_parenthesized.ensures

pub take_compared-returns-in-Err : goal.take_compared-returns-in-Err
take_compared-returns-in-Err t c =
    compared_stopped (take_inside c.args.room) c.args.left c.args.cursor.now c.take_compare_op.new.cursor None c.in-Err.stop c.in-Err.ensures

pub take_compared-returns-in-Ok-None : goal.take_compared-returns-in-Ok-None
take_compared-returns-in-Ok-None t c =
    compared_stop (take_inside c.args.room) c.args.left c.args.cursor.now c.take_compare_op.new.cursor (comparing_anywhere (take_inside c.args.room) c.args.cursor.now ∙ c.in-Ok-None.ensures ∙ ap (λ o. Ok (o, c.take_compare_op.new.cursor)) c.in-Ok-None.field-0-is)

pub take_compared-returns-in-Ok-Some : goal.take_compared-returns-in-Ok-Some
take_compared-returns-in-Ok-Some t c =
    subst (λ (out : Out Expr). IsTaken out c.take_right.result c.take_right.new.cursor) (sym (compared_next (take_inside c.args.room) c.args.left c.in-Ok-Some.op c.args.cursor.now c.take_compare_op.new.cursor (comparing_anywhere (take_inside c.args.room) c.args.cursor.now ∙ c.in-Ok-Some.ensures ∙ ap (λ o. Ok (o, c.take_compare_op.new.cursor)) c.in-Ok-Some.field-0-is))) c.take_right.ensures

pub take_enclosed-returns-then-room-eq0 : goal.take_enclosed-returns-then-room-eq0
take_enclosed-returns-then-room-eq0 t c = enclosed_deep c.args.room c.args.cursor.now c.if-room-eq0.true c.requires
