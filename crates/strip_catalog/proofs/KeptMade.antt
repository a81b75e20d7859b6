-- A derived table that is to be kept: the function and the rule that are made of it keep it alone, and the others as before.
use Rattle.std.proofs.Common.{◌≡◌, ℕ, zero, suc, ◌+◌, ◌<◌, ◌⊎◌, inl, inr, true, false, ◌==◌, List, [], ◌∷◌, ◌++◌, length, set, slice_get, Some, is_some, refl, sym, ap, ◌∙◌, subst, arith, length-append}
use Rattle.std.proofs.lemmas.Bool.Decides.{eqb_tells}
use Rattle.std.proofs.lemmas.List.{get_or-set_other, get_or-set_same, length-set}
use Rattle.std.proofs.lemmas.Option.{slice_get_within}
use Rattle.strip_value.specs.declared.rules.Function.{Function}
use Rattle.strip_value.specs.declared.rules.Rule.{Rule}
use Rattle.strip_value.specs.declared.tables.By.{By}
use Rattle.strip_value.specs.declared.tables.By.TheVariants as by
use Rattle.strip_value.specs.declared.tables.TableDef.{TableDef}
use Rattle.strip_meaning.specs.Contents.{def_at}
use Rattle.strip_meaning.specs.Effect.{no_table}
use Rattle.strip_meaning.specs.Maintained.{Manner}
use Rattle.strip_setup.specs.Catalog.{Catalog}
use Rattle.strip_setup.specs.Maintain.{made_function, made_rule, with_kept}
use Rattle.strip_catalog.specs.Laws.{IsKeptAlone, keeps_table}
use Rattle.strip_catalog.proofs.AtNumbers.{get_before, get_last, get_one_more}
use Rattle.strip_catalog.proofs.KeptStays.{Keeps, Stays, alone_stays, made_keeps_alone, not_both}

-- that the table is kept makes no difference to them
made_function_kept : (how how_kept : By) (table : TableDef) (id : ℕ) → made_function how table id ≡ made_function how (record table { kept = Some how_kept; declared = true }) id
made_function_kept by.Sum how_kept table id = refl
made_function_kept by.Key how_kept table id = refl

made_rule_kept : (how how_kept : By) (table : TableDef) (function : ℕ) (manner : Manner) → made_rule how table function manner ≡ made_rule how (record table { kept = Some how_kept; declared = true }) function manner
made_rule_kept by.Sum how_kept table function manner = refl
made_rule_kept by.Key how_kept table function manner = refl

made_rule_function : (how : By) (table : TableDef) (function : ℕ) (manner : Manner) → (made_rule how table function manner).function ≡ function
made_rule_function by.Sum table function manner = refl
made_rule_function by.Key table function manner = refl

kept_set : (tables : List TableDef) (k : ℕ) (t : TableDef) (id : ℕ) → is_some t.kept ≡ true → is_some (def_at tables id).kept ≡ true → is_some (def_at (set tables k t) id).kept ≡ true
kept_set [] k t id is e = cc
kept_set (one ∷ tables) zero t zero is e = is
kept_set (one ∷ tables) zero t (suc id) is e = e
kept_set (one ∷ tables) (suc k) t zero is e = e
kept_set (one ∷ tables) (suc k) t (suc id) is e = kept_set tables k t id is e

module _ (catalog : Catalog) (id : ℕ) (how : By) (manner : Manner) (there : id < length catalog.tables) (unkept : is_some (def_at catalog.tables id).kept ≡ false) (keeps : Keeps catalog) where
  abbrev table : TableDef
  table = def_at catalog.tables id

  abbrev kept_table : TableDef
  kept_table = record table { kept = Some how; declared = true }

  abbrev its_function : Function
  its_function = made_function how table id

  abbrev its_rule : Rule
  its_rule = made_rule how table (length catalog.functions) manner

  abbrev kept_so : Catalog
  kept_so = with_kept catalog id how manner

  table_is : def_at kept_so.tables id ≡ kept_table
  table_is = get_or-set_same catalog.tables id kept_table no_table.def there

  -- the made rule executes the made function
  executes : (r : Rule) → r ≡ its_rule → r.function ≡ length catalog.functions
  executes r is = ap (λ (of : Rule). of.function) is ∙ made_rule_function how table (length catalog.functions) manner

  -- ---- another table

  stays_made : (other : ℕ) → (other ≡ id → ⊥) → Stays catalog kept_so other
  stays_made other apart = record {
    table = get_or-set_other catalog.tables id other kept_table no_table.def apart;
    function = λ n f at keeping. get_before catalog.functions (its_function ∷ []) n f at;
    function_before = λ n f at keeping. by_function n f keeping (get_one_more catalog.functions its_function n f at);
    rule = λ n r at. get_before catalog.rules (its_rule ∷ []) n r at;
    rule_before = λ n r f at executed keeping. by_rule n r f executed (get_one_more catalog.rules its_rule n r at);
  }
    where
      by_function : (n : ℕ) (f : Function) → keeps_table f other ≡ true → (slice_get catalog.functions n ≡ Some f) ⊎ ((n ≡ length catalog.functions) × (f ≡ its_function)) → (g : Function) × (slice_get catalog.functions n ≡ Some g) × (keeps_table g other ≡ true)
      by_function n f keeping (inl at) = (f, at, keeping)
      by_function n f keeping (inr last) = absurd (apart (sym (made_keeps_alone how table id other (subst (λ (g : Function). keeps_table g other ≡ true) last.1 keeping))))

      by_rule : (n : ℕ) (r : Rule) (f : Function) → slice_get catalog.functions r.function ≡ Some f → (slice_get catalog.rules n ≡ Some r) ⊎ ((n ≡ length catalog.rules) × (r ≡ its_rule)) → slice_get catalog.rules n ≡ Some r
      by_rule n r f executed (inl at) = at
      by_rule n r f executed (inr last) =
          let number = executes r last.1 in
          let within = slice_get_within catalog.functions r.function f executed in
          absurd (omega (arith, number, within))

  -- ---- the table itself

  alone_made : IsKeptAlone kept_so id
  alone_made = record {
    how = how;
    manner = manner;
    function = length catalog.functions;
    rule = length catalog.rules;
    kept = ap (λ (t : TableDef). t.kept) table_is;
    is_function = get_last catalog.functions its_function ∙ ap Some (made_function_kept how how table id) ∙ ap (λ (t : TableDef). Some (made_function how t id)) (sym table_is);
    is_rule =
        get_last catalog.rules its_rule
        ∙ ap Some (made_rule_kept how how table (length catalog.functions) manner)
        ∙ ap (λ (t : TableDef). Some (made_rule how t (length catalog.functions) manner)) (sym table_is);
    no_other_function = λ n f at keeping. by_function n f keeping (get_one_more catalog.functions its_function n f at);
    no_other_rule = λ n r at is. by_rule n r is (get_one_more catalog.rules its_rule n r at);
  }
    where
      by_function : (n : ℕ) (f : Function) → keeps_table f id ≡ true → (slice_get catalog.functions n ≡ Some f) ⊎ ((n ≡ length catalog.functions) × (f ≡ its_function)) → n ≡ length catalog.functions
      by_function n f keeping (inl at) = absurd (not_both (is_some table.kept) (keeps.steps n f id at keeping) unkept)
      by_function n f keeping (inr last) = last.0

      by_rule : (n : ℕ) (r : Rule) → r.function ≡ length catalog.functions → (slice_get catalog.rules n ≡ Some r) ⊎ ((n ≡ length catalog.rules) × (r ≡ its_rule)) → n ≡ length catalog.rules
      by_rule n r is (inl at) = let below = keeps.rules n r at in absurd (omega (arith, is, below))
      by_rule n r is (inr last) = last.0

  pub with_made : Keeps kept_so
  with_made = record {
    steps = λ n f other at keeping. by_function n f other keeping (get_one_more catalog.functions its_function n f at);
    rules = λ n r at. by_rule n r (get_one_more catalog.rules its_rule n r at);
    alone = λ other lt declared. by_number other lt declared (eqb_tells other id);
  }
    where
      by_function : (n : ℕ) (f : Function) (other : ℕ) → keeps_table f other ≡ true → (slice_get catalog.functions n ≡ Some f) ⊎ ((n ≡ length catalog.functions) × (f ≡ its_function)) → is_some (def_at kept_so.tables other).kept ≡ true
      by_function n f other keeping (inl at) = kept_set catalog.tables id kept_table other refl (keeps.steps n f other at keeping)
      by_function n f other keeping (inr last) =
          let same = made_keeps_alone how table id other (subst (λ (g : Function). keeps_table g other ≡ true) last.1 keeping) in
          subst (λ m. is_some (def_at kept_so.tables m).kept ≡ true) same (ap (λ (t : TableDef). is_some t.kept) table_is)

      one_longer : length (catalog.functions ++ its_function ∷ []) ≡ length catalog.functions + 1
      one_longer = length-append catalog.functions (its_function ∷ [])

      by_rule : (n : ℕ) (r : Rule) → (slice_get catalog.rules n ≡ Some r) ⊎ ((n ≡ length catalog.rules) × (r ≡ its_rule)) → r.function < length (catalog.functions ++ its_function ∷ [])
      by_rule n r (inl at) = let below = keeps.rules n r at in omega (arith, one_longer, below)
      by_rule n r (inr last) = let number = executes r last.1 in omega (arith, one_longer, number)

      by_number : (other : ℕ) → other < length kept_so.tables → (def_at kept_so.tables other).declared ≡ true → ((other == id ≡ true) × (other ≡ id)) ⊎ ((other == id ≡ false) × (other ≡ id → ⊥)) → IsKeptAlone kept_so other
      by_number other lt declared (inl same) = subst (IsKeptAlone kept_so) (sym same.1) alone_made
      by_number other lt declared (inr apart) =
          let stays = stays_made other apart.1 in
          let within = subst (λ len. other < len) (length-set catalog.tables id kept_table) lt in
          alone_stays catalog kept_so other stays (keeps.alone other within (ap (λ (t : TableDef). t.declared) (sym stays.table) ∙ declared))
