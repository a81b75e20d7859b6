-- Acts on which the definitions compute: one of each kind that suits a table of stock, and others that don't.
use Rattle.std.specs.Prelude.{◌≡◌, ℕ, zero, suc, ◌^◌, pos, Bool, true, false, codes, List, [], ◌∷◌, Option, Some, None, refl}
use Rattle.std.specs.Fmt.{digits}
use Rattle.strip_value.specs.declared.acts.Act.{Act}
use Rattle.strip_value.specs.declared.acts.Act.TheVariants as act
use Rattle.strip_value.specs.declared.expressions.Calc.{Calc}
use Rattle.strip_value.specs.declared.expressions.Calc.TheVariants as calc
use Rattle.strip_value.specs.declared.expressions.Cmp.TheVariants as cmp
use Rattle.strip_value.specs.declared.expressions.Test.{Test}
use Rattle.strip_value.specs.declared.expressions.Test.TheVariants as test
use Rattle.strip_value.specs.declared.kinds.Kind.TheVariants as kind
use Rattle.strip_value.specs.declared.queries.Input.{Input}
use Rattle.strip_value.specs.declared.queries.Input.TheVariants as input
use Rattle.strip_value.specs.declared.queries.Item.{Item}
use Rattle.strip_value.specs.declared.queries.Place.{Place}
use Rattle.strip_value.specs.declared.queries.Set.{Set}
use Rattle.strip_value.specs.declared.queries.What.{What}
use Rattle.strip_value.specs.declared.queries.What.TheVariants as what
use Rattle.strip_value.specs.declared.tables.TableDef.{TableDef}
use Rattle.strip_value.specs.declared.values.Value.TheVariants as value
use Rattle.strip_value.specs.Trees as tree
use Rattle.strip_ast.specs.declared.deeds.Deed.TheVariants as deed
use Rattle.strip_ast.specs.declared.expressions.Expr.{Number, Column}
use Rattle.strip_ast.specs.declared.expressions.Op.TheVariants as op
use Rattle.strip_ast.specs.declared.queries.Origin.TheVariants as origin
use Rattle.strip_ast.specs.declared.queries.Total.TheVariants as total
use Rattle.strip_ast.specs.Marks.{keyword_of}
use Rattle.strip_setup.specs.Trees.{Two}
use Rattle.strip_acts.specs.Suiting.{suits}
use Rattle.strip_acts.specs.Trees.{tree_of}

-- stock: a symbol, which is a text, a price, which is an int, and a total, which is big
abbrev pub stock : TableDef
stock = record {
  name = codes "stock";
  columns = record { name = codes "symbol"; kind = kind.Text } ∷ record { name = codes "price"; kind = kind.Int } ∷ record { name = codes "total"; kind = kind.Big } ∷ [];
  key = 0 ∷ [];
  limit = None;
  query = None;
  kept = None;
  declared = false;
}

abbrev pub tables : List TableDef
tables = stock ∷ []

abbrev pub symbol : Calc
symbol = calc.Column 0 0

abbrev pub price : Calc
price = calc.Column 0 1

abbrev pub big : Calc
big = calc.Column 0 2

abbrev pub one : Calc
one = calc.Number (pos 1)

-- ---- acts

abbrev pub setting : Calc → Act
setting e = act.Update 0 (record { column = 1; value = e } ∷ []) test.True

abbrev pub deleting : Calc → Calc → Act
deleting a b = act.Delete 0 (test.Compare cmp.Lt a b)

abbrev pub asking : List Item → List Input → Option (List Place) → Act
asking items entries group = act.Select (record { items = items; entries = entries; filter = test.True; group = group })

abbrev pub named : What → Item
named w = record { name = codes "answer"; what = w }

-- ---- acts that suit

pub insert_suits : suits tables (act.Insert 0 ((value.Int (pos 1) ∷ []) ∷ [])) ≡ true
unfolding keyword_of
insert_suits = refl

pub put_suits : suits tables (act.Put 0 (value.Int (pos 1) ∷ [])) ≡ true
unfolding keyword_of
put_suits = refl

pub update_suits : suits tables (setting (tree.Add price one)) ≡ true
unfolding keyword_of
update_suits = refl

pub delete_suits : suits tables (deleting price one) ≡ true
unfolding keyword_of
delete_suits = refl

pub select_suits : suits tables (asking (named (what.Plain symbol) ∷ []) (input.Table 0 ∷ []) None) ≡ true
unfolding digits keyword_of
select_suits = refl

pub total_suits : suits tables (asking (named (what.Sum price) ∷ []) (input.Table 0 ∷ []) (Some (record { entry = 0; column = 0 } ∷ []))) ≡ true
unfolding digits keyword_of
total_suits = refl

pub show_suits : suits tables (act.Show 0) ≡ true
unfolding keyword_of
show_suits = refl

-- ---- acts that don't

pub no_table : suits tables (act.Show 1) ≡ false
no_table = refl

pub no_column : suits tables (deleting (calc.Column 0 3) one) ≡ false
no_column = refl

pub no_rows : suits tables (act.Insert 0 []) ≡ false
unfolding keyword_of
no_rows = refl

pub no_values : suits tables (act.Put 0 []) ≡ false
unfolding keyword_of
no_values = refl

pub too_long : suits tables (act.Put 0 (value.Int (pos (10 ^ 38)) ∷ [])) ≡ false
unfolding keyword_of
too_long = refl

pub set_twice : suits tables (act.Update 0 (record { column = 1; value = one } ∷ record { column = 1; value = one } ∷ []) test.True) ≡ false
set_twice = refl

pub text_and_number : suits tables (deleting symbol one) ≡ false
text_and_number = refl

pub text_in_sum : suits tables (setting (tree.Add symbol one)) ≡ false
text_in_sum = refl

pub too_wide : suits tables (setting (tree.Mul big price)) ≡ false
too_wide = refl

pub text_summed : suits tables (asking (named (what.Sum symbol) ∷ []) (input.Table 0 ∷ []) (Some (record { entry = 0; column = 0 } ∷ []))) ≡ false
text_summed = refl

pub big_summed : suits tables (asking (named (what.Sum big) ∷ []) (input.Table 0 ∷ []) (Some (record { entry = 0; column = 0 } ∷ []))) ≡ false
big_summed = refl

pub no_groups : suits tables (asking (named what.Count ∷ []) (input.Table 0 ∷ []) None) ≡ false
no_groups = refl

pub not_grouped : suits tables (asking (named (what.Plain price) ∷ []) (input.Table 0 ∷ []) (Some (record { entry = 0; column = 0 } ∷ []))) ≡ false
not_grouped = refl

pub named_twice : suits tables (asking (named (what.Plain symbol) ∷ named (what.Plain price) ∷ []) (input.Table 0 ∷ []) None) ≡ false
named_twice = refl

pub no_items : suits tables (asking [] (input.Table 0 ∷ []) None) ≡ false
no_items = refl

pub four_entries : suits tables (asking (named (what.Plain symbol) ∷ []) (input.Table 0 ∷ input.Table 0 ∷ input.Table 0 ∷ input.Table 0 ∷ []) None) ≡ false
four_entries = refl

pub as_it_was : suits tables (asking (named (what.Plain symbol) ∷ []) (input.Before 0 ∷ []) None) ≡ false
as_it_was = refl

-- 1 - (1 - (1 - ..)), so many differences in one another
abbrev pub nested : ℕ → Calc
nested zero = one
nested (suc n) = tree.Sub one (nested n)

pub deep_enough : suits tables (setting (nested 65)) ≡ true
unfolding keyword_of
deep_enough = refl

pub too_deep : suits tables (setting (nested 66)) ≡ false
unfolding keyword_of
too_deep = refl

-- ---- trees

-- select e1.price + 1 as answer from stock as e1
pub select_tree : tree_of tables (asking (named (what.Plain (tree.Add price one)) ∷ []) (input.Table 0 ∷ []) None)
    ≡ deed.Select (record {
      items = record { what = total.Plain (Two op.Add (Column (Some (codes "e1")) (codes "price")) (Number (pos 1))); name = Some (codes "answer") } ∷ [];
      entries = record { origin = origin.Table (codes "stock"); alias = Some (codes "e1") } ∷ [];
      filter = None;
      group = None;
    })
unfolding digits
select_tree = refl

-- delete from stock where price < 1
pub delete_tree : tree_of tables (deleting price one) ≡ deed.Delete (codes "stock") (Some (Two op.Lt (Column None (codes "price")) (Number (pos 1))))
delete_tree = refl
