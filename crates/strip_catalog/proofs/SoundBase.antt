-- A table that a statement of the grammar declares and that isn't refused is a base table.
use Rattle.std.proofs.Common.{◌≡◌, ℕ, ◌<◌, ◌≤◌, Bool, true, false, not, ◌&&◌, inl, inr, List, [], ◌∷◌, ◌++◌, length, map, nat_le, Option, Some, None, unwrap_or, refl, sym, ap, ◌∙◌, subst, arith}
use Rattle.std.specs.List.{AllByRecursion}
use Rattle.std.proofs.lemmas.Bool.Decides.{nat_tests}
use Rattle.strip_value.specs.declared.tables.ColumnDef.{ColumnDef}
use Rattle.strip_ast.specs.declared.expressions.Expr.{Expr}
use Rattle.strip_ast.specs.declared.marks.Mark.{Mark}
use Rattle.strip_ast.specs.declared.marks.Mark.TheVariants as m
use Rattle.strip_ast.specs.declared.statements.Statement.TheVariants as st
use Rattle.strip_ast.specs.declared.token_types.Placed.{Placed}
use Rattle.strip_ast.specs.Grammar.{Behind, Each, Grammar, Matches, mark}
use Rattle.strip_ast.specs.Syntax.{Within, called, column, columns, derive, function, maintain, rule, statement, stream, table, ◌▸◌, ◌◂◌}
use Rattle.strip_setup.specs.declared.errors.LimitKind.TheVariants as limit_kind
use Rattle.strip_setup.specs.Catalog.{Catalog, column_number}
use Rattle.strip_setup.specs.Resolve.{most_rows, number_in, table_of}
use Rattle.strip_meaning.specs.First.{IsBase, IsLimit, is_stored}
use Rattle.strip_setup.proofs.Numbers.{column_below}
use Rattle.strip_names.specs.Limits.{limit_if, limit_of_rows, limits, more_than, one_more_than}
use Rattle.strip_catalog.specs.Accepted.{HasText}
use Rattle.strip_catalog.specs.Refusals.{refusal}
use Rattle.strip_catalog.proofs.Causes.{at_most, both_empty, no_cause, none_there}

-- ---- columns of the grammar are `int` or `text`, and there is one at least

abbrev ArePlain : List ColumnDef → Type 0
ArePlain columns = AllByRecursion (λ column. is_stored column.kind ≡ true) columns

-- the columns of a table that is written
record AreColumns (columns : List ColumnDef) : Type 0 where
  plain : ArePlain columns
  some : 0 < length columns

module _ (I : List Placed → Expr → Type 0) where
  -- what stands behind a word, and before one
  behind_mark : {A : Type 0} (a : Mark) (g : Grammar A) (u : List Placed) (x : A) → Matches I (a ▸ g) u x → (w : List Placed) × Matches I g w x
  behind_mark a g u x is = (is.1.1, subst (Matches I g is.1.1) (sym is.2) is.1.4)

  before_mark : {A : Type 0} (a : Mark) (g : Grammar A) (u : List Placed) (x : A) → Matches I (g ◂ a) u x → (w : List Placed) × Matches I g w x
  before_mark a g u x is = (is.1.0, subst (Matches I g is.1.0) (sym is.2) is.1.3)

  column_plain : (u : List Placed) (c : ColumnDef) → Matches I column u c → is_stored c.kind ≡ true
  unfolding column
  column_plain u c is = ap (λ (of : ColumnDef). is_stored of.kind) is.2 ∙ elim is.1.4 [ inl int ↦ ap is_stored int.2 | inr text ↦ ap is_stored text.2 ]

  each_plain : (u : List Placed) (cs : List ColumnDef) → Each (Behind (mark m.Comma) (Matches I column)) u cs → ArePlain cs
  each_plain u [] is = tt
  each_plain u (c ∷ cs) is = (column_plain is.3.1 c is.3.4, each_plain is.1 cs is.4)

  columns_plain : (u : List Placed) (cs : List ColumnDef) (key : List (List ℕ)) → Matches I columns u (cs, key) → AreColumns cs
  unfolding columns
  columns_plain u cs key is =
      let all : ArePlain (is.0.0 ∷ is.0.1.0) = (column_plain is.1.0 is.0.0 is.1.3, each_plain is.1.4.0 is.0.1.0 is.1.4.3) in
      subst AreColumns (sym (ap (λ (of : List ColumnDef × List (List ℕ)). of.0) is.2)) (record { plain = all; some = omega arith })

  table_columns : (u : List Placed) (name : List ℕ) (cs : List ColumnDef) (key : List (List ℕ)) (rows : Option ℕ) → Matches I table u (st.Table name cs key rows) → AreColumns cs
  unfolding table
  table_columns u name cs key rows is =
      let inner = behind_mark m.Open (columns ◂ m.Close) is.1.4.0 is.0.1.0 is.1.4.3 in
      let listed = before_mark m.Close columns inner.0 is.0.1.0 inner.1 in
      let same : cs ≡ is.0.1.0.0 = cc (is.2) in
      subst AreColumns (sym same) (columns_plain listed.0 is.0.1.0.0 is.0.1.0.1 listed.1)

  written_columns : (u : List Placed) (name : List ℕ) (cs : List ColumnDef) (key : List (List ℕ)) (rows : Option ℕ) → Matches I statement u (st.Table name cs key rows) → AreColumns cs
  unfolding statement stream derive function rule maintain called
  written_columns u name cs key rows (inl is) = table_columns u name cs key rows is
  written_columns u name cs key rows (inr (inl is)) = let e = is.2 in cc
  written_columns u name cs key rows (inr (inr (inl is))) = let e = is.2 in cc
  written_columns u name cs key rows (inr (inr (inr (inl is)))) = let e = is.2 in cc
  written_columns u name cs key rows (inr (inr (inr (inr (inl is))))) = let e = is.2 in cc
  written_columns u name cs key rows (inr (inr (inr (inr (inr (inl is)))))) = let e = is.2 in cc
  written_columns u name cs key rows (inr (inr (inr (inr (inr (inr (inl is))))))) = let e = is.2 in cc
  written_columns u name cs key rows (inr (inr (inr (inr (inr (inr (inr (inl is)))))))) = let e = is.2 in cc
  written_columns u name cs key rows (inr (inr (inr (inr (inr (inr (inr (inr is)))))))) = let e = is.2 in cc

are_columns : (name : List ℕ) (cs : List ColumnDef) (key : List (List ℕ)) (rows : Option ℕ) → HasText (st.Table name cs key rows) → AreColumns cs
are_columns name cs key rows (bytes, tokens, cut, (room, is)) = written_columns (Within room) tokens name cs key rows is

-- ---- key columns are there

number_below : (cs : List ColumnDef) (name : List ℕ) → 0 < length cs → number_in cs name < length cs
number_below cs name some = by_number (column_number cs name) refl
  where
    by_number : (o : Option ℕ) → column_number cs name ≡ o → unwrap_or o 0 < length cs
    by_number None e = some
    by_number (Some n) e = column_below cs name n e

key_below : (cs : List ColumnDef) (key : List (List ℕ)) → 0 < length cs → AllByRecursion (λ column. column < length cs) (map (number_in cs) key)
key_below cs [] some = tt
key_below cs (name ∷ key) some = (number_below cs name some, key_below cs key some)

-- ---- limits

limit_there : (rows : Option ℕ) → limit_of_rows rows ≡ [] → IsLimit (Some (unwrap_or rows most_rows))
limit_there None e = (omega arith, omega arith)
limit_there (Some n) e = by_tests (nat_le 1 n) (nat_le n most_rows) refl refl e
  where
    by_tests : (a b : Bool) → nat_le 1 n ≡ a → nat_le n most_rows ≡ b → limit_if (not (a && b)) limit_kind.Rows most_rows ≡ [] → (0 < n) × (n ≤ most_rows)
    by_tests true true low high none = (grind (arith, nat_tests), grind (arith, nat_tests))
    by_tests true false low high none = cc
    by_tests false b low high none = cc

-- ---- a statement that isn't refused

pub table_base : (catalog : Catalog) (name : List ℕ) (cs : List ColumnDef) (key : List (List ℕ)) (rows : Option ℕ) → refusal catalog (st.Table name cs key rows) ≡ None → HasText (st.Table name cs key rows) → IsBase (table_of name cs key rows)
table_base catalog name cs key rows e written =
    let passed = none_there (limits catalog (st.Table name cs key rows)) (no_cause catalog (st.Table name cs key rows) e).1.1.1.0 in
    let behind = both_empty (more_than 16 limit_kind.Columns (length cs)) (limit_of_rows rows) (both_empty (one_more_than 64 limit_kind.Tables (length catalog.tables)) (more_than 16 limit_kind.Columns (length cs) ++ limit_of_rows rows) passed).1 in
    let columns = are_columns name cs key rows written in
    record {
      narrow = at_most 16 (length cs) limit_kind.Columns behind.0;
      plain = columns.plain;
      key = key_below cs key columns.some;
      limit = limit_there rows behind.1;
      stored = refl;
      unkept = refl;
    }
