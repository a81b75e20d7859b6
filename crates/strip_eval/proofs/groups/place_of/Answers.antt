use Rattle.std.proofs.Common.{rules}
use Rattle.std.proofs.lemmas.Fn.{always_returns_same}
use Rattle.strip_value.specs.Order.{row_cmp}
use Rattle.strip_value.specs.Query.{group_key}
use Rattle.strip_eval.specs.declared.groups.Group.{Group}
use Rattle.strip_eval.proofs.Search.{searched_found, searched_gap}
use Rattle.strip_eval.proofs.groups.place_of.Goals as goal

pub returns-clause-found : goal.returns-clause-found
returns-clause-found c =
    let key = group_key c.args.places.now c.args.rows.now in
    let facts = c.binary_search_by.ensures in
    let by_key = facts.position (λ (group : Group). row_cmp group.key key) (always_returns_same _ _ _ (λ a r g called. (search rules, search rules))) in
    searched_found key c.args.groups.now c.binary_search_by.result facts.bound by_key

pub returns-clause-gap : goal.returns-clause-gap
returns-clause-gap c =
    let key = group_key c.args.places.now c.args.rows.now in
    let facts = c.binary_search_by.ensures in
    let by_key = facts.position (λ (group : Group). row_cmp group.key key) (always_returns_same _ _ _ (λ a r g called. (search rules, search rules))) in
    searched_gap key c.args.groups.now c.binary_search_by.result c.requires.rise facts.bound by_key
