use Rattle.std.proofs.Common.{Bool, List, ℕ, option_map, ap, sym, ◌∙◌}
use Rattle.std.specs.List.{list_any}
use Rattle.std.specs.Option.{is_none}
use Rattle.strip_setup.specs.declared.answers.Binding.{Binding}
use Rattle.strip_setup.specs.declared.errors.SetupError.TheVariants.{NotBound}
use Rattle.strip_setup.specs.Catalog.{first}
use Rattle.strip_kinds.specs.Needs.{answer_named}
use Rattle.strip_setup.proofs.Filters.{filter-here, filter-past}
use Rattle.strip_setup.proofs.Firsts.{carried}
use Rattle.strip_kinds.proofs.fits.unbound_in_unique.Goals as goal

-- some query doesn't bind the name
abbrev is_lacked : List Binding → List ℕ → Bool
is_lacked bindings name = list_any (λ binding. is_none (answer_named binding name)) bindings

pub returns-then-lacks : goal.returns-then-lacks
returns-then-lacks c =
    let here = filter-here (is_lacked c.args.bindings.now) c.args.names.now c.loop-name.name-index c.name-item.result c.loop-name-test.true c.name-item.is (sym c.lacks.ensures ∙ c.if-lacks.true) in
    carried _ _ c.refuse_unbound.result (ap (λ names. option_map NotBound (first names)) c.loop-name.invariant ∙ ap (option_map NotBound) here) c.refuse_unbound.ensures

pub loop-name-preserved : goal.loop-name-preserved
loop-name-preserved c =
    c.loop-name.invariant
    ∙ filter-past (is_lacked c.args.bindings.now) c.args.names.now c.loop-name.name-index c.name-item.result c.loop-name-test.true c.name-item.is (sym c.lacks.ensures ∙ c.if-lacks.false)
