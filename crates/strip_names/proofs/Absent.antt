-- Names that aren't there, by the parts in which they stand.
use Rattle.std.proofs.Common.{◌≡◌, ◌++◌, ℕ, Bool, true, false, not, ◌||◌, cond, List, [], ◌∷◌, Option, Some, None, option_map, Result, Err, is_none, refl, sym, ap, ◌∙◌, append_assoc, flat_map}
use Rattle.std.specs.List.{list_any, filter_map}
use Rattle.std.specs.Option.{option_map_or}
use Rattle.std.specs.Str.{bytes_eq}
use Rattle.std.proofs.lemmas.List.Concat.{flat_map-append}
use Rattle.strip_value.specs.declared.rules.Function.{Function}
use Rattle.strip_value.specs.declared.tables.ColumnDef.{ColumnDef}
use Rattle.strip_value.specs.declared.tables.TableDef.{TableDef}
use Rattle.strip_ast.specs.declared.deeds.Deed.{Deed}
use Rattle.strip_ast.specs.declared.deeds.Deed.TheVariants as deed
use Rattle.strip_ast.specs.declared.queries.QueryTree.{QueryTree}
use Rattle.strip_ast.specs.declared.rules.BoundTree.{BoundTree}
use Rattle.strip_ast.specs.declared.rules.EventTree.{EventTree}
use Rattle.strip_ast.specs.declared.rules.Manner.{Manner}
use Rattle.strip_ast.specs.declared.statements.Statement.{Statement}
use Rattle.strip_ast.specs.declared.statements.Statement.TheVariants as st
use Rattle.strip_ast.specs.declared.expressions.Expr.{Expr}
use Rattle.strip_ast.specs.declared.expressions.Expr.TheVariants as expr
use Rattle.strip_ast.specs.declared.expressions.Op.{Op}
use Rattle.strip_ast.specs.declared.queries.ItemTree.{ItemTree}
use Rattle.strip_setup.specs.declared.errors.SetupError.{SetupError}
use Rattle.strip_setup.specs.declared.errors.SetupError.TheVariants.{Unknown}
use Rattle.strip_setup.specs.declared.scope.Entry.{Entry}
use Rattle.strip_setup.specs.Catalog.{Catalog, columns_of, first, function_named, has_name, name_if, table_named}
use Rattle.strip_setup.specs.Checks.{Checks}
use Rattle.strip_setup.specs.Parts.{columns_in, item_wholes, total_wholes}
use Rattle.strip_setup.specs.Trees.{Two-is, Not-is}
use Rattle.strip_setup.specs.Queries.{Scope}
use Rattle.strip_setup.specs.Resolve.{in_rule, outside_rules}
use Rattle.strip_names.specs.Unknown.{missing, names_of, unknown, unknown_alias, unknown_column, unknown_in, unknown_in_all, unknown_in_deed, unknown_in_event, unknown_in_query, unknown_names, unknown_table}
use Rattle.strip_setup.proofs.Firsts.{carried, passed-append, refused-append}
use Rattle.strip_names.proofs.Steps.{list_any-filter_map}

-- ---- one name

if_cond : (b : Bool) (name : List ℕ) → cond b (name ∷ []) [] ≡ name_if b name
if_cond true name = refl
if_cond false name = refl

in_front : (b : Bool) (name : List ℕ) (names : List (List ℕ)) → cond b (name ∷ names) names ≡ cond b (name ∷ []) [] ++ names
in_front true name names = refl
in_front false name names = refl

-- one name alone is missing
pub one_missing : (there : List (List ℕ)) (name : List ℕ) → missing there (name ∷ []) ≡ name_if (not (has_name there name)) name
one_missing there name = if_cond (not (has_name there name)) name

has_mapped : (columns : List ColumnDef) (name : List ℕ) → has_name (names_of columns) name ≡ list_any (λ column. bytes_eq column.name name) columns
has_mapped [] name = refl
has_mapped (column ∷ columns) name = ap (λ b. bytes_eq column.name name || b) (has_mapped columns name)

-- no column has the name
pub column_missing : (columns : List ColumnDef) (name : List ℕ) → missing (names_of columns) (name ∷ []) ≡ name_if (not (list_any (λ column. bytes_eq column.name name) columns)) name
column_missing columns name = one_missing (names_of columns) name ∙ ap (λ b. name_if (not b) name) (has_mapped columns name)

-- those that are missing, one by one
pub missing_each : (there names : List (List ℕ)) → missing there names ≡ flat_map (λ name. missing there (name ∷ [])) names
missing_each there [] = refl
missing_each there (name ∷ names) =
    in_front (not (has_name there name)) name (missing there names)
    ∙ ap (λ others. missing there (name ∷ []) ++ others) (missing_each there names)

-- no entry has the alias
pub alias_missing : (entries : List Entry) (alias : List ℕ) → unknown_alias entries (Some alias) ≡ name_if (not (list_any (λ (entry : Entry). option_map_or (λ other. bytes_eq other alias) entry.alias false) entries)) alias
alias_missing entries alias =
    one_missing (filter_map (λ (entry : Entry). entry.alias) entries) alias
    ∙ ap (λ b. name_if (not b) alias) (list_any-filter_map (λ (entry : Entry). entry.alias) (λ other. bytes_eq other alias) entries)

-- ---- expressions

pub unknown_two : (entries : List Entry) (o : Op) (a b : Expr) → unknown_in entries (expr.Two o a b) ≡ unknown_in entries a ++ unknown_in entries b
unknown_two entries o a b = rw (Two-is o a b) (flat_map-append (unknown_column entries) (columns_in a) (columns_in b))

pub unknown_not : (entries : List Entry) (a : Expr) → unknown_in entries (expr.Not a) ≡ unknown_in entries a
unknown_not entries a = rw (Not-is a) refl

-- a refusal of the left part refuses the whole
pub two_refused : (entries : List Entry) (e a b p : Expr) (o : Op) (error : SetupError) → e ≡ expr.Two o a b → p ≡ a → Checks (option_map Unknown (first (unknown_in entries p))) (Err error) → Checks (option_map Unknown (first (unknown_in entries e))) (Err error)
two_refused entries e a b p o error e_is p_is checks =
    let whole : unknown_in entries e ≡ unknown_in entries p ++ unknown_in entries b = rw (e_is, p_is) (unknown_two entries o a b) in
    carried _ _ (Err error) (ap (λ names. option_map Unknown (first names)) whole) (refused-append Unknown (unknown_in entries p) (unknown_in entries b) error checks)

-- where the left part is not refused, the right one decides
pub two_passed : (entries : List Entry) (e a b p q : Expr) (o : Op) (r : Result Unit SetupError) → e ≡ expr.Two o a b → p ≡ a → q ≡ b → option_map Unknown (first (unknown_in entries p)) ≡ None → Checks (option_map Unknown (first (unknown_in entries q))) r → Checks (option_map Unknown (first (unknown_in entries e))) r
two_passed entries e a b p q o r e_is p_is q_is none checks =
    let whole : unknown_in entries e ≡ unknown_in entries p ++ unknown_in entries q = rw (e_is, p_is, q_is) (unknown_two entries o a b) in
    carried _ _ r (ap (λ names. option_map Unknown (first names)) whole) (passed-append Unknown (unknown_in entries p) (unknown_in entries q) r none checks)

-- ---- items

pub unknown_items : (entries : List Entry) (items : List ItemTree) → unknown_in_all entries (item_wholes items) ≡ flat_map (λ item. unknown_in_all entries (total_wholes item.what)) items
unknown_items entries [] = refl
unknown_items entries (item ∷ items) =
    flat_map-append (λ whole. unknown_in entries whole.expr) (total_wholes item.what) (item_wholes items)
    ∙ ap (λ names. unknown_in_all entries (total_wholes item.what) ++ names) (unknown_items entries items)

-- ---- statements

-- an act that asks a query
pub select_checked : (tables : List TableDef) (d : Deed) (query : QueryTree) (scope : Scope) (r : Result Unit SetupError) → d ≡ deed.Select query → scope ≡ outside_rules tables → Checks (option_map Unknown (first (unknown_in_query scope query))) r → Checks (option_map Unknown (first (unknown_in_deed tables d))) r
select_checked tables d query scope r is scope_is checks =
    carried _ _ r (ap (λ of. option_map Unknown (first (unknown_in_deed tables of))) is ∙ ap (λ of. option_map Unknown (first (unknown_in_query of query))) (sym scope_is)) checks

-- a derived table
pub derive_checked : (catalog : Catalog) (s : Statement) (name : List ℕ) (query : QueryTree) (tables : List TableDef) (scope : Scope) (r : Result Unit SetupError) → s ≡ st.Derive name query → tables ≡ catalog.tables → scope ≡ outside_rules tables → Checks (option_map Unknown (first (unknown_in_query scope query))) r → Checks (unknown catalog s) r
derive_checked catalog s name query tables scope r is tables_is scope_is checks =
    carried _ _ r (ap (unknown catalog) is ∙ ap (λ of. option_map Unknown (first (unknown_in_query of query))) (sym (scope_is ∙ ap outside_rules tables_is))) checks

-- the key of a table
pub table_checked : (catalog : Catalog) (s : Statement) (name : List ℕ) (columns : List ColumnDef) (key : List (List ℕ)) (rows : Option ℕ) (cs : List ColumnDef) (ks : List (List ℕ)) (r : Result Unit SetupError) → s ≡ st.Table name columns key rows → cs ≡ columns → ks ≡ key → Checks (option_map Unknown (first (missing (names_of cs) ks))) r → Checks (unknown catalog s) r
table_checked catalog s name columns key rows cs ks r is cs_is ks_is checks =
    carried _ _ r
    (ap (unknown catalog) is ∙ ap (λ of. option_map Unknown (first (missing (names_of of) key))) (sym cs_is) ∙ ap (λ of. option_map Unknown (first (missing (names_of cs) of))) (sym ks_is)) checks

-- what a rule names, but for its function
abbrev pub names_in_rule : List TableDef → List ℕ → List EventTree → List BoundTree → List BoundTree → List (List ℕ)
names_in_rule tables table events conditions evaluate =
    unknown_table tables table
    ++ (flat_map (unknown_in_event (columns_of (table_named tables table))) events
    ++ flat_map (λ bound. unknown_in_query (in_rule tables table) bound.query) (conditions ++ evaluate))

-- a rule, and what its check is given
pub record IsRule (catalog : Catalog) (s : Statement) (name table : List ℕ) (function : List ℕ) (tables : List TableDef) (events : List EventTree) (conditions evaluate : List BoundTree) (functions : List Function) : Type 0 where
  pub manner : Manner
  pub is : s ≡ st.Rule name table events conditions evaluate function manner
  pub tables_are : tables ≡ catalog.tables
  pub functions_are : functions ≡ catalog.functions

pub is_rule : (catalog : Catalog) (s : Statement) (name table function : List ℕ) (manner : Manner) (ev : List EventTree) (co va : List BoundTree) (tables : List TableDef) (events : List EventTree) (conditions evaluate : List BoundTree) (functions : List Function) → s ≡ st.Rule name table ev co va function manner → tables ≡ catalog.tables → events ≡ ev → conditions ≡ co → evaluate ≡ va → functions ≡ catalog.functions → IsRule catalog s name table function tables events conditions evaluate functions
is_rule catalog s name table function manner ev co va tables events conditions evaluate functions is ts es cs vs fs = record {
  manner = manner;
  is =
      is
      ∙ ap (λ of. st.Rule name table of co va function manner) (sym es)
      ∙ ap (λ of. st.Rule name table events of va function manner) (sym cs)
      ∙ ap (λ of. st.Rule name table events conditions of function manner) (sym vs);
  tables_are = ts;
  functions_are = fs;
}

rule_parts : (catalog : Catalog) (s : Statement) (name table function : List ℕ) (tables : List TableDef) (events : List EventTree) (conditions evaluate : List BoundTree) (functions : List Function) → IsRule catalog s name table function tables events conditions evaluate functions → unknown_names catalog s ≡ names_in_rule tables table events conditions evaluate ++ name_if (is_none (function_named functions function)) function
rule_parts catalog s name table function tables events conditions evaluate functions given =
    let front = unknown_table catalog.tables table in
    let middle = flat_map (unknown_in_event (columns_of (table_named catalog.tables table))) events in
    let back = flat_map (λ (bound : BoundTree). unknown_in_query (in_rule catalog.tables table) bound.query) (conditions ++ evaluate) in
    let last = name_if (is_none (function_named catalog.functions function)) function in
    ap (unknown_names catalog) given.is
    ∙ sym (append_assoc front (middle ++ back) last ∙ ap (λ names. front ++ names) (append_assoc middle back last))
    ∙ ap (λ of. names_in_rule of table events conditions evaluate ++ last) (sym given.tables_are)
    ∙ ap (λ of. names_in_rule tables table events conditions evaluate ++ name_if (is_none (function_named of function)) function) (sym given.functions_are)

pub rule_refused : (catalog : Catalog) (s : Statement) (name table function : List ℕ) (tables : List TableDef) (events : List EventTree) (conditions evaluate : List BoundTree) (functions : List Function) (error : SetupError) → IsRule catalog s name table function tables events conditions evaluate functions → Checks (option_map Unknown (first (names_in_rule tables table events conditions evaluate))) (Err error) → Checks (unknown catalog s) (Err error)
rule_refused catalog s name table function tables events conditions evaluate functions error given checks =
    carried _ _ (Err error) (ap (λ names. option_map Unknown (first names)) (rule_parts catalog s name table function tables events conditions evaluate functions given))
    (refused-append Unknown (names_in_rule tables table events conditions evaluate) (name_if (is_none (function_named functions function)) function) error checks)

pub rule_passed : (catalog : Catalog) (s : Statement) (name table function : List ℕ) (tables : List TableDef) (events : List EventTree) (conditions evaluate : List BoundTree) (functions : List Function) (r : Result Unit SetupError) → IsRule catalog s name table function tables events conditions evaluate functions → option_map Unknown (first (names_in_rule tables table events conditions evaluate)) ≡ None → Checks (option_map Unknown (first (name_if (is_none (function_named functions function)) function))) r → Checks (unknown catalog s) r
rule_passed catalog s name table function tables events conditions evaluate functions r given none checks =
    carried _ _ r (ap (λ names. option_map Unknown (first names)) (rule_parts catalog s name table function tables events conditions evaluate functions given))
    (passed-append Unknown (names_in_rule tables table events conditions evaluate) (name_if (is_none (function_named functions function)) function) r none checks)
