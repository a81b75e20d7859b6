-- What is made of a table that may be kept by sums, at once, and the statement that says so.
use Rattle.std.proofs.Common.{◌≡◌, ℕ, Bool, true, false, ◌&&◌, ◌==◌, cond, List, length, Option, Some, None, is_none, is_some, nat_le, bytes_eq, unwrap_or, refl, sym, ap, ap₂, ◌∙◌, subst}
use Rattle.std.specs.Option.{option_and_then}
use Rattle.std.proofs.lemmas.Bool.{eqb-true}
use Rattle.std.proofs.lemmas.List.Quantifiers.{position-Some}
use Rattle.std.proofs.lemmas.Slice.Eq.{bytes_eq-Decides}
use Rattle.strip_value.specs.declared.tables.By.TheVariants as by
use Rattle.strip_value.specs.declared.tables.TableDef.{TableDef}
use Rattle.strip_ast.specs.declared.rules.Manner.{Manner}
use Rattle.strip_meaning.specs.Contents.{def_at}
use Rattle.strip_meaning.specs.Effect.{no_table}
use Rattle.strip_setup.specs.Catalog.{Catalog, table_id, table_number}
use Rattle.strip_setup.specs.Maintain.{manner_of, query_in}
use Rattle.strip_catalog.specs.declared.made.Made.{Made}
use Rattle.strip_catalog.specs.First.{at_once, first_made, has_first_form, if_free, is_first, is_taken}
use Rattle.strip_catalog.specs.Made.{generated, statement_of}
use Rattle.strip_catalog.proofs.SoundFound.{both_true}
use Rattle.strip_script.specs.Built.{is_at_once}
use Rattle.strip_script.specs.Stages.{maintain_by_sums}
use Rattle.strip_script.proofs.BuiltKept.{IsKeepable}

-- ---- at once

no_unique : (unique : Option (List (List ℕ))) → is_none unique ≡ true → unique ≡ None
no_unique None none = refl
no_unique (Some names) none = cc

-- each commit makes an action of its own, due at once
pub manner_at_once : (manner : Manner) → is_at_once manner ≡ true → manner_of manner ≡ at_once
manner_at_once manner e =
    let both = both_true (is_none manner.unique) (manner.after == 0) e in
    ap₂ (λ unique after. manner_of (record { unique = unique; after = after })) (no_unique manner.unique both.0) (eqb-true manner.after 0 both.1)

-- ---- what is made

-- it is made of the table of the name, which has the first form
record IsMadeOf (catalog : Catalog) (name : List ℕ) (made : Made) : Type 0 where
  id : ℕ
  number : table_number catalog.tables name ≡ Some id
  form : has_first_form (def_at catalog.tables id) ≡ true
  is : made ≡ generated catalog by.Sum at_once id

module _ (catalog : Catalog) (name : List ℕ) where
  made_of : (made : Made) → first_made catalog name ≡ Some made → IsMadeOf catalog name made
  made_of made e = by_number (table_number catalog.tables name) refl e
    where
      if_taken : (b : Bool) (one : Made) → cond b None (Some one) ≡ Some made → made ≡ one
      if_taken true one same = cc
      if_taken false one same = cc

      by_form : (id : ℕ) (b : Bool) → table_number catalog.tables name ≡ Some id → has_first_form (def_at catalog.tables id) ≡ b → cond b (if_free catalog (generated catalog by.Sum at_once id)) None ≡ Some made → IsMadeOf catalog name made
      by_form id true number form same =
          let one = generated catalog by.Sum at_once id in
          record { id = id; number = number; form = form; is = if_taken (is_taken catalog one) one same }
      by_form id false number form same = cc

      by_number : (o : Option ℕ) → table_number catalog.tables name ≡ o
          → option_and_then (λ id. cond (has_first_form (def_at catalog.tables id)) (if_free catalog (generated catalog by.Sum at_once id)) None) o ≡ Some made
          → IsMadeOf catalog name made
      by_number None number same = cc
      by_number (Some id) number same = by_form id (has_first_form (def_at catalog.tables id)) number refl same

  -- the statement of what is made
  pub made_statement : (made : Made) → first_made catalog name ≡ Some made → statement_of catalog made ≡ maintain_by_sums name
  made_statement made e =
      let of = made_of made e in
      let found = position-Some (λ (table : TableDef). bytes_eq table.name name) catalog.tables of.id no_table.def of.number in
      let named = (bytes_eq-Decides (def_at catalog.tables of.id).name name).0 found.1 in
      ap (statement_of catalog) of.is ∙ ap (λ n. maintain_by_sums n) named

  keepable_of : (made : Made) → IsMadeOf catalog name made → IsKeepable catalog.tables (table_id catalog.tables name)
  keepable_of made of =
      let table = def_at catalog.tables of.id in
      let asked = both_true (is_some table.query) (is_first (query_in table) && (is_none table.kept && nat_le (length table.name) 32)) of.form in
      let rest = both_true (is_first (query_in table)) (is_none table.kept && nat_le (length table.name) 32) asked.1 in
      let there = (position-Some (λ (def : TableDef). bytes_eq def.name name) catalog.tables of.id no_table.def of.number).0 in
      subst (IsKeepable catalog.tables) (sym (ap (λ (o : Option ℕ). unwrap_or o 0) of.number))
      (record { there = there; first = rest.0; unkept = (both_true (is_none table.kept) (nat_le (length table.name) 32) rest.1).0 })

  -- its table may be kept
  pub keepable : is_some (first_made catalog name) ≡ true → IsKeepable catalog.tables (table_id catalog.tables name)
  keepable some = by_made (first_made catalog name) refl some
    where
      by_made : (o : Option Made) → first_made catalog name ≡ o → is_some o ≡ true → IsKeepable catalog.tables (table_id catalog.tables name)
      by_made None e there = cc
      by_made (Some made) e there = keepable_of made (made_of made e)
