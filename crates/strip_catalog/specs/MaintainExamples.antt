-- Tables that are to be kept: what is made of them, and what is refused.
use Rattle.std.specs.Prelude.{◌≡◌, true, codes, pos, [], ◌∷◌, Some, None, refl}
use Prim.Native.String.{String}
use Rattle.strip_value.specs.declared.expressions.Calc.TheVariants as calc
use Rattle.strip_value.specs.declared.expressions.Calc.{Calc}
use Rattle.strip_value.specs.declared.expressions.Test.TheVariants as test
use Rattle.strip_value.specs.declared.queries.Input.{Input}
use Rattle.strip_value.specs.declared.queries.Input.TheVariants as input
use Rattle.strip_value.specs.declared.queries.What.TheVariants as what
use Rattle.strip_value.specs.declared.rules.BoundQuery.{BoundQuery}
use Rattle.strip_value.specs.declared.rules.Event.TheVariants as event
use Rattle.strip_value.specs.declared.rules.Step.TheVariants as step
use Rattle.strip_value.specs.declared.tables.By.{By}
use Rattle.strip_value.specs.declared.tables.By.TheVariants as by
use Rattle.strip_value.specs.Trees as tree
use Rattle.strip_ast.specs.declared.rules.Manner.{Manner}
use Rattle.strip_ast.specs.declared.statements.Statement.{Statement}
use Rattle.strip_ast.specs.declared.statements.Statement.TheVariants as st
use Rattle.strip_setup.specs.declared.errors.LimitKind.TheVariants as limit
use Rattle.strip_setup.specs.declared.errors.SetupError.TheVariants.{Exists, Limit, NoCount, NotBound, Unknown}
use Rattle.strip_setup.specs.Adds.{with_statement}
use Rattle.strip_setup.specs.Catalog.{Catalog}
use Rattle.strip_catalog.specs.Examples.{comps_def, declared, parts_def}
use Rattle.strip_catalog.specs.Refusals.{refusal}
use Rattle.strip_catalog.specs.Writing.{add, after, bare, big, column, derive, function, grouped, item, plainly, redo, sum_as, table, txt, unique_on}

-- maintain NAME by HOW MANNER
abbrev maintain : String → By → Manner → Statement
maintain name how manner = st.Maintain (codes name) how manner

-- ---- what is made

-- maintain comps by sum unique on (comp) after 100
abbrev by_sums : Catalog
by_sums = with_statement declared (maintain "comps" by.Sum (record { unique = Some (codes "comp" ∷ []); after = 100 }))

-- the table is kept from now on
pub table_is_kept : by_sums.tables ≡ parts_def ∷ record comps_def { kept = Some by.Sum; declared = true } ∷ []
unfolding with_statement
table_is_kept = refl

-- function keep_comps add delta_comps into comps
pub function_adds :
    by_sums.functions
    ≡ record {
      name = codes "keep_comps";
      steps = step.Add 0 1 ∷ [];
      bound = record { name = codes "delta_comps"; columns = txt "comp" ∷ big "total" ∷ big "n" ∷ [] } ∷ [];
    } ∷ []
unfolding with_statement
function_adds = refl

-- select comp, .. as total, .. as n from FROM, whose rows the bound table takes
abbrev deltas : Calc → Calc → Input → BoundQuery
deltas total n from = record {
  query = record {
    items = record { name = codes "comp"; what = what.Plain (calc.Column 0 0) } ∷ record { name = codes "total"; what = what.Plain total } ∷ record { name = codes "n"; what = what.Plain n } ∷ [];
    entries = from ∷ [];
    filter = test.True;
    group = None;
  };
  bound = Some 0;
}

-- price * weight
abbrev value : Calc
value = tree.Mul (calc.Column 0 2) (calc.Column 0 3)

-- what comes, and what goes
abbrev coming : Input → BoundQuery
coming = deltas (tree.Add (calc.Number (pos 0)) value) (tree.Add (calc.Number (pos 0)) (calc.Number (pos 1)))

abbrev going : Input → BoundQuery
going = deltas (tree.Sub (calc.Number (pos 0)) value) (tree.Sub (calc.Number (pos 0)) (calc.Number (pos 1)))

-- a replaced row goes as it was and comes as it is
pub rule_binds_sums :
    by_sums.rules
    ≡ record {
      name = codes "keep_comps_1";
      table = 0;
      events = event.Inserted ∷ event.Deleted ∷ event.Updated [] ∷ [];
      conditions = [];
      evaluate = coming input.Inserted ∷ going input.Deleted ∷ going input.Old ∷ coming input.New ∷ [];
      function = 0;
      unique = Some (codes "comp" ∷ []);
      after = 100;
    } ∷ []
unfolding with_statement
rule_binds_sums = refl

-- maintain comps by key
abbrev by_keys : Catalog
by_keys = with_statement declared (maintain "comps" by.Key plainly)

-- function keep_comps redo comps by delta_comps
pub function_computes_anew :
    by_keys.functions ≡ record { name = codes "keep_comps"; steps = step.Redo 1 0 ∷ []; bound = record { name = codes "delta_comps"; columns = txt "comp" ∷ [] } ∷ [] } ∷ []
unfolding with_statement
function_computes_anew = refl

-- (select comp from FROM) bind as delta_comps
abbrev keys : Input → BoundQuery
keys from = record {
  query = record { items = record { name = codes "comp"; what = what.Plain (calc.Column 0 0) } ∷ []; entries = from ∷ []; filter = test.True; group = None };
  bound = Some 0;
}

pub rule_binds_keys :
    by_keys.rules
    ≡ record {
      name = codes "keep_comps_1";
      table = 0;
      events = event.Inserted ∷ event.Deleted ∷ event.Updated [] ∷ [];
      conditions = [];
      evaluate = keys input.Inserted ∷ keys input.Deleted ∷ keys input.Old ∷ keys input.New ∷ [];
      function = 0;
      unique = None;
      after = 0;
    } ∷ []
unfolding with_statement
rule_binds_keys = refl

-- ---- what is refused

pub comps_may_be_kept : refusal declared (maintain "comps" by.Sum (unique_on ("comp" ∷ []))) ≡ None
unfolding refusal with_statement
comps_may_be_kept = refl

-- derive d as select symbol, sum(price) as s from parts group by symbol
abbrev without_count : Catalog
without_count =
    with_statement declared (derive "d" (grouped (item (bare "symbol") ∷ sum_as (bare "price") "s" ∷ []) (table "parts" ∷ []) (column "symbol" ∷ [])))

pub sums_need_a_count : refusal without_count (maintain "d" by.Sum plainly) ≡ Some NoCount
unfolding refusal with_statement
sums_need_a_count = refl

pub keys_need_none : refusal without_count (maintain "d" by.Key plainly) ≡ None
unfolding refusal with_statement
keys_need_none = refl

pub unique_on_another_column : refusal declared (maintain "comps" by.Sum (unique_on ("symbol" ∷ []))) ≡ Some (NotBound (codes "symbol"))
unfolding refusal with_statement
unique_on_another_column = refl

-- a total stands among the bound columns by sums, and not by keys
pub unique_on_a_total : refusal declared (maintain "comps" by.Sum (unique_on ("total" ∷ []))) ≡ None
unfolding refusal with_statement
unique_on_a_total = refl

pub unique_on_no_key : refusal declared (maintain "comps" by.Key (unique_on ("total" ∷ []))) ≡ Some (NotBound (codes "total"))
unfolding refusal with_statement
unique_on_no_key = refl

pub unique_on_one_twice : refusal declared (maintain "comps" by.Sum (unique_on ("comp" ∷ "comp" ∷ []))) ≡ Some (Exists (codes "comp"))
unfolding refusal with_statement
unique_on_one_twice = refl

pub base_table_is_not_kept : refusal declared (maintain "parts" by.Sum plainly) ≡ Some (Unknown (codes "parts"))
unfolding refusal with_statement
base_table_is_not_kept = refl

pub too_late : refusal declared (maintain "comps" by.Sum (after 4294967296)) ≡ Some (Limit limit.Delay 4294967295)
unfolding refusal with_statement
too_late = refl

-- the names that are made come before the table's
pub kept_twice : refusal by_sums (maintain "comps" by.Sum plainly) ≡ Some (Exists (codes "keep_comps"))
unfolding refusal with_statement
kept_twice = refl

-- steps of a function keep it already
pub kept_by_a_function :
    refusal (with_statement declared (function "f" (add "b" "comps" ∷ []))) (maintain "comps" by.Sum plainly) ≡ Some (Exists (codes "comps"))
unfolding refusal with_statement
kept_by_a_function = refl

-- and no step keeps it afterwards
pub no_step_keeps_it : refusal by_sums (function "f" (redo "comps" "b" ∷ [])) ≡ Some (Exists (codes "comps"))
unfolding refusal with_statement
no_step_keeps_it = refl
