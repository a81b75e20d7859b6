-- What each rule asks suits the tables: those that are there when it is declared or made, and stays so with each statement.
use Rattle.std.proofs.Common.{◌≡◌, ℕ, zero, suc, true, List, [], ◌∷◌, ◌++◌, length, slice_get, Option, Some, None, is_some, unwrap_or, refl, sym, ap, ◌∙◌, subst, arith}
use Rattle.std.specs.List.{AllByRecursion}
use Rattle.strip_value.specs.declared.queries.Query.{Query}
use Rattle.strip_value.specs.declared.rules.BoundQuery.{BoundQuery}
use Rattle.strip_value.specs.declared.rules.Rule.{Rule}
use Rattle.strip_value.specs.declared.tables.By.{By}
use Rattle.strip_value.specs.declared.tables.TableDef.{TableDef}
use Rattle.strip_value.proofs.Lists.{all_append, all_weaker}
use Rattle.strip_ast.specs.declared.rules.Manner.{Manner as Written}
use Rattle.strip_ast.specs.declared.statements.Statement.{Statement}
use Rattle.strip_ast.specs.declared.statements.Statement.TheVariants as st
use Rattle.strip_meaning.specs.Contents.{def_at}
use Rattle.strip_setup.specs.Adds.{kept_by_steps, with_statement}
use Rattle.strip_setup.specs.Catalog.{Catalog, is_derived, table_id, table_named}
use Rattle.strip_setup.specs.Maintain.{declared_kept, made_rule, manner_of, no_query, query_in}
use Rattle.strip_setup.specs.Resolve.{derived_of, rule_of, table_of}
use Rattle.strip_catalog.specs.Accepted.{AreAccepted, IsDeclared, declared}
use Rattle.strip_catalog.specs.Laws.{AsksInRange, AsksRightly, RulesSuit}
use Rattle.strip_catalog.specs.Refusals.{refusal}
use Rattle.strip_catalog.specs.RuleQueries.{suits_in_rule}
use Rattle.strip_catalog.proofs.Causes.{maintain_derived}
use Rattle.strip_catalog.proofs.MadeAsks.{made_asks}
use Rattle.strip_catalog.proofs.QueryStays.{HasColumnsOf, in_rule_still, kept_has, longer_has}
use Rattle.strip_catalog.proofs.RuleAsks.{rule_asks}
use Rattle.strip_catalog.proofs.Sound.{kept_by_function, kept_by_maintain}
use Rattle.strip_catalog.proofs.SoundFound.{named_at}
use Rattle.strip_catalog.proofs.SuitStays.{derived_suit}

-- ---- tables that have the columns of others

module _ (ones others : List TableDef) (has : HasColumnsOf ones others) where
  rule_still : (rule : Rule) → AsksInRange ones rule → AsksInRange others rule
  rule_still rule asks =
      let few = has.few in
      let there = asks.there in
      let still : (one : BoundQuery) → suits_in_rule ones rule.table one.query ≡ true → suits_in_rule others rule.table one.query ≡ true = λ one suits. in_rule_still ones others has rule.table there one.query suits in
      record {
        there = omega (arith, few, there);
        conditions = all_weaker (λ one. suits_in_rule ones rule.table one.query ≡ true) (λ one. suits_in_rule others rule.table one.query ≡ true) still rule.conditions asks.conditions;
        evaluate = all_weaker (λ one. suits_in_rule ones rule.table one.query ≡ true) (λ one. suits_in_rule others rule.table one.query ≡ true) still rule.evaluate asks.evaluate;
      }

  rules_still : (rules : List Rule) → AllByRecursion (AsksInRange ones) rules → AllByRecursion (AsksInRange others) rules
  rules_still rules asks = all_weaker (AsksInRange ones) (AsksInRange others) rule_still rules asks

-- ---- a rule that is made

module _ (catalog : Catalog) (is : IsDeclared catalog) (name : List ℕ) (how : By) (manner : Written) (e : refusal catalog (st.Maintain name how manner) ≡ None) where
  abbrev kept_table : TableDef
  kept_table = def_at catalog.tables (table_id catalog.tables name)

  derived_there : (o : Option TableDef) → table_named catalog.tables name ≡ o → is_derived o ≡ true → is_some kept_table.query ≡ true
  derived_there None named derived = cc
  derived_there (Some one) named derived = ap (λ (t : TableDef). is_some t.query) (named_at catalog.tables name one named).is ∙ derived

  table_asks : (o : Option Query) → kept_table.query ≡ o → is_some o ≡ true → AsksRightly catalog.tables (query_in kept_table)
  table_asks None same some = cc
  table_asks (Some query) same some =
      subst (AsksRightly catalog.tables) (sym (ap (λ (o : Option Query). unwrap_or o no_query) same)) (derived_suit catalog is (table_id catalog.tables name) query same)

  made_rule_asks : AsksInRange catalog.tables (made_rule how kept_table (length catalog.functions) (manner_of manner))
  made_rule_asks =
      let derived = derived_there (table_named catalog.tables name) refl (maintain_derived catalog name how manner e) in
      made_asks catalog.tables kept_table (table_asks kept_table.query refl derived) (length catalog.functions) (manner_of manner) how

-- ---- statements

abbrev AreInRange : Catalog → Type 0
AreInRange catalog = AllByRecursion (AsksInRange catalog.tables) catalog.rules

with_suiting : (catalog : Catalog) (statement : Statement) → IsDeclared catalog → refusal catalog statement ≡ None → AreInRange catalog → AreInRange (with_statement catalog statement)
unfolding with_statement
with_suiting catalog (st.Table name columns key rows) is e asks =
    let more = table_of name columns key rows ∷ [] in
    rules_still catalog.tables (catalog.tables ++ more) (longer_has catalog.tables more) catalog.rules asks
with_suiting catalog (st.Stream name table marked) is e asks = asks
with_suiting catalog (st.Derive name tree) is e asks =
    let more = derived_of catalog.tables name tree ∷ [] in
    rules_still catalog.tables (catalog.tables ++ more) (longer_has catalog.tables more) catalog.rules asks
with_suiting catalog (st.Function name steps) is e asks =
    let kept = kept_by_steps catalog.tables steps in
    rules_still catalog.tables kept (kept_has catalog.tables kept (kept_by_function catalog.tables steps)) catalog.rules asks
with_suiting catalog (st.Rule name on events conditions evaluate function manner) is e asks =
    all_append (AsksInRange catalog.tables) catalog.rules (rule_of catalog name on events conditions evaluate function manner ∷ []) asks
    (rule_asks catalog name on events conditions evaluate function manner e, tt)
with_suiting catalog (st.Maintain name how manner) is e asks =
    let id = table_id catalog.tables name in
    let kept = declared_kept catalog.tables id how in
    let made = made_rule how (def_at catalog.tables id) (length catalog.functions) (manner_of manner) in
    rules_still catalog.tables kept (kept_has catalog.tables kept (kept_by_maintain catalog name how manner e)) (catalog.rules ++ made ∷ [])
    (all_append (AsksInRange catalog.tables) catalog.rules (made ∷ []) asks (made_rule_asks catalog is name how manner e, tt))
with_suiting catalog st.Ready is e asks = asks
with_suiting catalog (st.At moment) is e asks = asks
with_suiting catalog (st.Deed caller deed) is e asks = asks

all_suiting : (statements : List Statement) → AreAccepted statements → AreInRange (declared statements)
all_suiting [] accepted = tt
all_suiting (statement ∷ earlier) accepted =
    with_suiting (declared earlier) statement (record { statements = earlier; accepted = accepted.0; is = refl }) accepted.2 (all_suiting earlier accepted.0)

rule_at : (tables : List TableDef) (rules : List Rule) (number : ℕ) (rule : Rule) → AllByRecursion (AsksInRange tables) rules → slice_get rules number ≡ Some rule → AsksInRange tables rule
rule_at tables [] number rule asks e = cc
rule_at tables (one ∷ rules) zero rule asks e =
    let same : one ≡ rule = cc in
    subst (AsksInRange tables) same asks.0
rule_at tables (one ∷ rules) (suc number) rule asks e = rule_at tables rules number rule asks.1 e

pub rules_suiting : RulesSuit
rules_suiting catalog is number rule e =
    rule_at catalog.tables catalog.rules number rule (subst AreInRange (sym is.is) (all_suiting is.statements is.accepted)) e
