-- A query that suits, part by part, whatever its entries may be.
use Rattle.std.proofs.Common.{◌≡◌, Bool, true, not, ◌&&◌, List, length, map, nat_le}
use Rattle.std.specs.List.{list_all}
use Rattle.strip_value.specs.declared.kinds.Kind.{Kind}
use Rattle.strip_value.specs.declared.queries.Input.{Input}
use Rattle.strip_value.specs.declared.queries.Item.{Item}
use Rattle.strip_value.specs.declared.queries.Query.{Query}
use Rattle.strip_value.specs.declared.tables.ColumnDef.{ColumnDef}
use Rattle.strip_names.specs.Grouped.{has_misplaced}
use Rattle.strip_names.specs.Limits.{most_columns}
use Rattle.strip_acts.specs.Suiting.{all_once, kinds_in, most_inputs, suits_filter, suits_group, suits_item, suits_over}
use Rattle.strip_acts.proofs.Naming.{are_both, both_true}

-- the kinds of the columns that a query reads
abbrev pub kinds_read : (Input → List ColumnDef) → Query → List (List Kind)
kinds_read columns query = kinds_in (map columns query.entries)

pub record SuitsOver (may_stand : Input → Bool) (columns : Input → List ColumnDef) (query : Query) : Type 0 where
  pub inputs : list_all may_stand query.entries ≡ true
  pub few : nat_le (length query.entries) (most_inputs query.group) ≡ true
  pub narrow : nat_le (length query.items) most_columns ≡ true
  pub once : all_once (map (λ (item : Item). item.name) query.items) ≡ true
  pub items : list_all (λ (item : Item). suits_item (kinds_read columns query) item.what) query.items ≡ true
  pub filter : suits_filter (kinds_read columns query) query.filter ≡ true
  pub group : suits_group (kinds_read columns query) query.group ≡ true
  pub placed : not (has_misplaced query) ≡ true

module _ (may_stand : Input → Bool) (columns : Input → List ColumnDef) (query : Query) where
  abbrev b0 : Bool
  b0 = list_all may_stand query.entries

  abbrev b1 : Bool
  b1 = nat_le (length query.entries) (most_inputs query.group)

  abbrev b2 : Bool
  b2 = nat_le (length query.items) most_columns

  abbrev b3 : Bool
  b3 = all_once (map (λ (item : Item). item.name) query.items)

  abbrev b4 : Bool
  b4 = list_all (λ (item : Item). suits_item (kinds_read columns query) item.what) query.items

  abbrev b5 : Bool
  b5 = suits_filter (kinds_read columns query) query.filter

  abbrev b6 : Bool
  b6 = suits_group (kinds_read columns query) query.group

  abbrev b7 : Bool
  b7 = not (has_misplaced query)

  pub in_parts : suits_over may_stand columns query ≡ true → SuitsOver may_stand columns query
  in_parts e =
      let p0 = both_true b0 (b1 && (b2 && (b3 && (b4 && (b5 && (b6 && b7)))))) e in
      let p1 = both_true b1 (b2 && (b3 && (b4 && (b5 && (b6 && b7))))) p0.1 in
      let p2 = both_true b2 (b3 && (b4 && (b5 && (b6 && b7)))) p1.1 in
      let p3 = both_true b3 (b4 && (b5 && (b6 && b7))) p2.1 in
      let p4 = both_true b4 (b5 && (b6 && b7)) p3.1 in
      let p5 = both_true b5 (b6 && b7) p4.1 in
      let p6 = both_true b6 b7 p5.1 in
      record { inputs = p0.0; few = p1.0; narrow = p2.0; once = p3.0; items = p4.0; filter = p5.0; group = p6.0; placed = p6.1 }

  pub of_parts : SuitsOver may_stand columns query → suits_over may_stand columns query ≡ true
  of_parts parts =
      are_both b0 (b1 && (b2 && (b3 && (b4 && (b5 && (b6 && b7)))))) parts.inputs
      (are_both b1 (b2 && (b3 && (b4 && (b5 && (b6 && b7))))) parts.few
      (are_both b2 (b3 && (b4 && (b5 && (b6 && b7)))) parts.narrow
      (are_both b3 (b4 && (b5 && (b6 && b7))) parts.once
      (are_both b4 (b5 && (b6 && b7)) parts.items
      (are_both b5 (b6 && b7) parts.filter
      (are_both b6 b7 parts.group parts.placed))))))
