-- The query of each derived table suits the tables: it suits those that are there when it is declared, and stays so with each
-- statement.
use Rattle.std.proofs.Common.{◌≡◌, ℕ, zero, suc, List, [], ◌∷◌, ◌++◌, Some, None, sym, ap, ◌∙◌, subst}
use Rattle.std.specs.List.{AllByRecursion}
use Rattle.strip_value.specs.declared.queries.Query.{Query}
use Rattle.strip_value.specs.declared.tables.TableDef.{TableDef}
use Rattle.strip_value.proofs.Lists.{all_append, all_weaker}
use Rattle.strip_ast.specs.declared.statements.Statement.{Statement}
use Rattle.strip_ast.specs.declared.statements.Statement.TheVariants as st
use Rattle.strip_meaning.specs.Contents.{def_at}
use Rattle.strip_setup.specs.Adds.{kept_by_steps, with_statement}
use Rattle.strip_setup.specs.Catalog.{Catalog, table_id}
use Rattle.strip_setup.specs.Maintain.{declared_kept}
use Rattle.strip_setup.specs.Queries.{query_of}
use Rattle.strip_setup.specs.Resolve.{derived_of, outside_rules, table_of}
use Rattle.strip_catalog.specs.Accepted.{AreAccepted, IsWritten, declared}
use Rattle.strip_catalog.specs.Laws.{AsksRightly, QueriesSuit}
use Rattle.strip_catalog.specs.Refusals.{refusal}
use Rattle.strip_catalog.proofs.DeriveSuits.{derive_asks}
use Rattle.strip_catalog.proofs.QueryStays.{HasColumnsOf, kept_has, longer_has, query_still}
use Rattle.strip_catalog.proofs.Sound.{kept_by_function, kept_by_maintain}
use Rattle.strip_catalog.proofs.SoundKept.{AreKept}

still_rightly : (ones others : List TableDef) → HasColumnsOf ones others → (query : Query) → AsksRightly ones query → AsksRightly others query
still_rightly ones others has query asks = record { one = asks.one; grouped = asks.grouped; suits = query_still ones others has query asks.suits }

-- ---- derived tables

-- the query of the table, if it has one, is one that a derived table may have
abbrev IsAsked : List TableDef → TableDef → Type 0
IsAsked tables table = (query : Query) → table.query ≡ Some query → AsksRightly tables query

abbrev AreAsked : List TableDef → Type 0
AreAsked tables = AllByRecursion (IsAsked tables) tables

one_more : (tables : List TableDef) (table : TableDef) → AreAsked tables → IsAsked tables table → AreAsked (tables ++ table ∷ [])
one_more tables table asked here =
    let more = tables ++ table ∷ [] in
    all_append (IsAsked more) tables (table ∷ []) (all_weaker (IsAsked tables) (IsAsked more) still tables asked) (still table here, tt)
  where
    still : (t : TableDef) → IsAsked tables t → IsAsked (tables ++ table ∷ []) t
    still t asks query is = still_rightly tables (tables ++ table ∷ []) (longer_has tables (table ∷ [])) query (asks query is)

-- tables that are kept have the same columns and queries
each_kept : (ones others : List TableDef) → HasColumnsOf ones others → (some changed : List TableDef) → AreKept some changed → AllByRecursion (IsAsked ones) some → AllByRecursion (IsAsked others) changed
each_kept ones others has [] [] kept asked = tt
each_kept ones others has [] (other ∷ changed) kept asked = absurd kept
each_kept ones others has (one ∷ some) [] kept asked = absurd kept
each_kept ones others has (one ∷ some) (other ∷ changed) kept asked = (
  λ query is. still_rightly ones others has query (asked.0 query (sym (ap (λ (t : TableDef). t.query) kept.0.is) ∙ is)),
  each_kept ones others has some changed kept.1 asked.1,
)

all_kept : (ones others : List TableDef) → AreKept ones others → AreAsked ones → AreAsked others
all_kept ones others kept asked = each_kept ones others (kept_has ones others kept) ones others kept asked

-- ---- statements

same_some : (one other : Query) → Some one ≡ Some other → one ≡ other
same_some one other e = cc

with_asked : (catalog : Catalog) (statement : Statement) → refusal catalog statement ≡ None → IsWritten statement → AreAsked catalog.tables → AreAsked (with_statement catalog statement).tables
unfolding with_statement
with_asked catalog (st.Table name columns key rows) e written asked = one_more catalog.tables (table_of name columns key rows) asked (λ query is. cc)
with_asked catalog (st.Stream name table marked) e written asked = asked
with_asked catalog (st.Derive name tree) e written asked =
    let made = query_of (outside_rules catalog.tables) tree in
    one_more catalog.tables (derived_of catalog.tables name tree) asked
    (λ query is. subst (AsksRightly catalog.tables) (same_some made query is) (derive_asks catalog name tree e written))
with_asked catalog (st.Function name steps) e written asked = all_kept catalog.tables (kept_by_steps catalog.tables steps) (kept_by_function catalog.tables steps) asked
with_asked catalog (st.Rule name table events conditions evaluate function manner) e written asked = asked
with_asked catalog (st.Maintain name how manner) e written asked =
    all_kept catalog.tables (declared_kept catalog.tables (table_id catalog.tables name) how) (kept_by_maintain catalog name how manner e) asked
with_asked catalog st.Ready e written asked = asked
with_asked catalog (st.At moment) e written asked = asked
with_asked catalog (st.Deed caller deed) e written asked = asked

all_asked : (statements : List Statement) → AreAccepted statements → AreAsked (declared statements).tables
all_asked [] accepted = tt
all_asked (statement ∷ earlier) accepted = with_asked (declared earlier) statement accepted.2 accepted.1 (all_asked earlier accepted.0)

-- a number that no table has has no query
asked_at : (tables others : List TableDef) (id : ℕ) → AllByRecursion (IsAsked others) tables → IsAsked others (def_at tables id)
asked_at [] others id asked query is = cc
asked_at (table ∷ tables) others zero asked query is = asked.0 query is
asked_at (table ∷ tables) others (suc id) asked query is = asked_at tables others id asked.1 query is

pub derived_suit : QueriesSuit
derived_suit catalog is id query e =
    let asked = subst (λ (c : Catalog). AreAsked c.tables) (sym is.is) (all_asked is.statements is.accepted) in
    asked_at catalog.tables catalog.tables id asked query e
