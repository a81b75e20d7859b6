-- Which acts can be written, of those that suit otherwise, told from the acts themselves.
use Rattle.std.proofs.Common.{◌≡◌, ℕ, Bool, true, false, ◌&&◌, List, map, refl, sym, ap, ap₂, ◌∙◌}
use Rattle.std.specs.List.{list_all}
use Rattle.strip_value.specs.declared.acts.Act.{Act}
use Rattle.strip_value.specs.declared.acts.Act.TheVariants as act
use Rattle.strip_value.specs.declared.expressions.Test.{Test}
use Rattle.strip_value.specs.declared.kinds.Kind.{Kind}
use Rattle.strip_value.specs.declared.queries.Set.{Set}
use Rattle.strip_value.specs.declared.tables.TableDef.{TableDef}
use Rattle.strip_meaning.specs.Contents.{def_at}
use Rattle.strip_setup.specs.declared.scope.Entry.{Entry}
use Rattle.strip_acts.specs.Laws.{AreNamed}
use Rattle.strip_acts.specs.Shapes.{is_short, is_short_calc}
use Rattle.strip_acts.specs.Suiting.{has_column, is_sound, is_there, suits, suits_filter, suits_value}
use Rattle.strip_acts.specs.Trees.{bare_entry, set_tree, tree_of}
use Rattle.strip_acts.specs.Writable.{are_listed, is_set, is_written}
use Rattle.strip_acts.proofs.Tests.{both, listed_same, told, under}
use Rattle.strip_acts.proofs.Parts.{own_kinds, suits_set, update_suits}
use Rattle.strip_acts.proofs.Readable.{AreReadable, own_readable, table_named}
use Rattle.strip_acts.proofs.ShortQueries.{query_short}
use Rattle.strip_acts.proofs.ShortTruths.{filter_short}
use Rattle.strip_acts.proofs.ShortValues.{set_short}

-- a set whose column is there can be written where its value is short
one_set : (entries : List Entry) (kinds : List (List Kind)) → AreReadable entries kinds → (s : Set) → suits_set kinds s ≡ true
    → is_set (set_tree entries s) ≡ is_short_calc s.value
one_set entries kinds readable s suits =
    let parts = both (has_column kinds 0 s.column) (suits_value kinds s.value) suits in
    told _ _ _ (readable.each 0 s.column parts.0).name (set_short entries kinds readable s.value parts.1)

sets_short : (entries : List Entry) (kinds : List (List Kind)) → AreReadable entries kinds → (sets : List Set)
    → list_all (suits_set kinds) sets ≡ true
    → are_listed is_set (map (set_tree entries) sets) ≡ are_listed (λ s. is_short_calc s.value) sets
sets_short entries kinds readable sets suit =
    listed_same (suits_set kinds) (λ (s : Set). is_short_calc s.value) is_set (set_tree entries) sets
    (one_set entries kinds readable) suit

update_short : (tables : List TableDef) (id : ℕ) (sets : List Set) (filter : Test) → AreNamed tables
    → is_sound tables (act.Update id sets filter) ≡ true
    → is_written (tree_of tables (act.Update id sets filter)) ≡ is_short (act.Update id sets filter)
update_short tables id sets filter named sound =
    let parts = update_suits tables id sets filter sound in
    let entries = bare_entry (def_at tables id) in
    let readable = own_readable tables id named parts.there in
    told _ _ _ (table_named tables id named parts.there)
    (ap₂ (λ a b. a && b) (sets_short entries (own_kinds tables id) readable sets parts.valued)
    (filter_short entries (own_kinds tables id) readable filter parts.kept))

delete_short : (tables : List TableDef) (id : ℕ) (filter : Test) → AreNamed tables
    → is_sound tables (act.Delete id filter) ≡ true
    → is_written (tree_of tables (act.Delete id filter)) ≡ is_short (act.Delete id filter)
delete_short tables id filter named sound =
    let parts = both (is_there tables id) (suits_filter (own_kinds tables id) filter) sound in
    let readable = own_readable tables id named parts.0 in
    told _ _ _ (table_named tables id named parts.0)
    (filter_short (bare_entry (def_at tables id)) (own_kinds tables id) readable filter parts.1)

-- an act that is sound has a text exactly where it is short
pub written_is_short : (tables : List TableDef) (one : Act) → AreNamed tables → is_sound tables one ≡ true
    → is_written (tree_of tables one) ≡ is_short one
written_is_short tables (act.Insert id rows) named sound = told _ _ _ (table_named tables id named sound) refl
written_is_short tables (act.Put id row) named sound = told _ _ _ (table_named tables id named sound) refl
written_is_short tables (act.Update id sets filter) named sound = update_short tables id sets filter named sound
written_is_short tables (act.Delete id filter) named sound = delete_short tables id filter named sound
written_is_short tables (act.Select query) named sound = query_short tables query named sound
written_is_short tables (act.Show id) named sound = table_named tables id named sound

-- so that it is sound and short is that it suits
pub suits_is : (tables : List TableDef) (one : Act) → AreNamed tables → suits tables one ≡ (is_sound tables one && is_short one)
suits_is tables one named =
    under (is_sound tables one) (is_written (tree_of tables one)) (is_short one) (written_is_short tables one named)

-- what the two tests tell

pub suits_then : (tables : List TableDef) (one : Act) (x y : Bool) → AreNamed tables → x ≡ is_sound tables one → x ≡ true
    → y ≡ is_short one → y ≡ suits tables one
suits_then tables one x y named x_is passed y_is =
    y_is ∙ sym (suits_is tables one named ∙ ap (λ b. b && is_short one) (sym x_is ∙ passed))

pub suits_else : (tables : List TableDef) (one : Act) (x : Bool) → AreNamed tables → x ≡ is_sound tables one → x ≡ false
    → x ≡ suits tables one
suits_else tables one x named x_is failed =
    failed ∙ sym (suits_is tables one named ∙ ap (λ b. b && is_short one) (sym x_is ∙ failed))
