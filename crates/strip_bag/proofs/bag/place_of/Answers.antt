use Rattle.std.proofs.Common.{rules}
use Rattle.std.proofs.lemmas.Fn.{always_returns_same}
use Rattle.strip_value.specs.Order.{row_cmp}
use Rattle.strip_bag.specs.declared.bag.Entry.{Entry}
use Rattle.strip_bag.proofs.EntryLaws.{searched_found, searched_gap}
use Rattle.strip_bag.proofs.bag.place_of.Goals as goal

pub returns-clause-found : goal.returns-clause-found
returns-clause-found c =
    let facts = c.binary_search_by.ensures in
    let by_row = facts.position (λ (entry : Entry). row_cmp entry.row c.args.row.now) (always_returns_same _ _ _ (λ a r g called. (search rules, search rules))) in
    searched_found c.args.row.now c.args.entries.now c.binary_search_by.result facts.bound by_row

pub returns-clause-gap : goal.returns-clause-gap
returns-clause-gap c =
    let facts = c.binary_search_by.ensures in
    let by_row = facts.position (λ (entry : Entry). row_cmp entry.row c.args.row.now) (always_returns_same _ _ _ (λ a r g called. (search rules, search rules))) in
    searched_gap c.args.row.now c.args.entries.now c.binary_search_by.result c.requires facts.bound by_row
