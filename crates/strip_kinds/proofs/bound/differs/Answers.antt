use Rattle.std.proofs.Common.{◌≡◌, ◌&&◌, Some, sym, ◌∙◌}
use Rattle.std.specs.List.{list_any}
use Rattle.std.proofs.lemmas.Result.{IfOk-weaker}
use Rattle.strip_kinds.specs.Bound.{differs, is_number, is_other}
use Rattle.strip_kinds.proofs.Others.{differs_nowhere, differs_there}
use Rattle.strip_kinds.proofs.bound.differs.Goals as goal

pub returns-in_default : goal.returns-in_default
returns-in_default c =
    differs_nowhere c.args.setup.now c.functions-functions.result.now c.args.function.now c.args.bindings.now c.args.unique.now
    (sym c.bind_differently.ensures ∙ c.if-bind_differently.false) c.functions-functions.ensures (sym c.function_number.ensures ∙ c.in_default.is)

pub returns : goal.returns
returns c =
    IfOk-weaker c.any_is_other.result
    (λ made. made ≡ list_any (λ rule. is_number (Some c.in-Some.number) rule.function && is_other c.index-functions-number.result c.as_slice.result.now c.args.unique.now rule) c.rules.result.now)
    (λ made. made ≡ differs c.args.setup.now c.args.function.now c.args.bindings.now c.args.unique.now)
    (λ made made_is.
    differs_there c.args.setup.now c.functions-functions.result.now c.rules.result.now c.args.function.now c.args.bindings.now c.as_slice.result.now c.args.unique.now c.in-Some.number c.index-functions-number.result made
    (sym c.bind_differently.ensures ∙ c.if-bind_differently.false) c.functions-functions.ensures c.rules.ensures (c.as_slice.ensures ∙ c.in_ok-bound.ensures)
    (sym c.function_number.ensures ∙ c.in-Some.is) c.index-functions-number.is made_is)
    c.any_is_other.ensures
