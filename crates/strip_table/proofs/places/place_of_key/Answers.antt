use Rattle.std.proofs.Common.{rules}
use Rattle.std.proofs.lemmas.Fn.{always_returns_same}
use Rattle.strip_value.specs.Order.{row_cmp}
use Rattle.strip_value.specs.Table.{key_of}
use Rattle.strip_table.proofs.Search.{searched_found, searched_gap}
use Rattle.strip_table.proofs.places.place_of_key.Goals as goal

pub returns-clause-found : goal.returns-clause-found
returns-clause-found c =
    let facts = c.binary_search_by.ensures in
    let by_key = facts.position (λ row. row_cmp (key_of c.args.columns.now row) c.args.key.now) (always_returns_same _ _ _ (λ a r g called. (search rules, search rules))) in
    searched_found c.args.columns.now c.args.key.now c.args.rows.now c.binary_search_by.result facts.bound by_key

pub returns-clause-gap : goal.returns-clause-gap
returns-clause-gap c =
    let facts = c.binary_search_by.ensures in
    let by_key = facts.position (λ row. row_cmp (key_of c.args.columns.now row) c.args.key.now) (always_returns_same _ _ _ (λ a r g called. (search rules, search rules))) in
    searched_gap c.args.columns.now c.args.key.now c.args.rows.now c.binary_search_by.result c.requires facts.bound by_key
