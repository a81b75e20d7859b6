-- Tables stay sound when one more is added behind them, and when steps or a rule keep some of them.
use Rattle.std.proofs.Common.{◌≡◌, ℕ, zero, suc, ◌<◌, inl, inr, List, [], ◌∷◌, ◌++◌, length, None, refl, sym, ap, ◌∙◌, subst, arith, length-append}
use Rattle.std.specs.List.{AllByRecursion}
use Rattle.std.proofs.Math.ListN.{get_or-append}
use Rattle.strip_value.specs.declared.tables.TableDef.{TableDef}
use Rattle.strip_meaning.specs.Contents.{def_at}
use Rattle.strip_meaning.specs.Effect.{no_table}
use Rattle.strip_meaning.specs.First.{IsBase}
use Rattle.strip_meaning.specs.First.{IsFirst, Suits, first_def}
use Rattle.strip_catalog.specs.Laws.{IsDerivedTable, IsTableOf}

-- ---- one more table

pub def_before : (tables : List TableDef) (more : List TableDef) (id : ℕ) → id < length tables → def_at (tables ++ more) id ≡ def_at tables id
def_before tables more id lt = get_or-append tables more no_table.def id lt

first_before : (tables : List TableDef) (more : List TableDef) (def : TableDef) → IsFirst tables def → IsFirst (tables ++ more) def
first_before tables more def is =
    let len = length-append tables more in
    let there : is.form.source < length (tables ++ more) = omega (arith, len, is.there) in
    let same = sym (def_before tables more is.form.source is.there) in
    record {
      form = is.form;
      kind = is.kind;
      there = there;
      base = subst IsBase same is.base;
      suits = subst (λ (table : TableDef). Suits table.columns is.form is.kind) same is.suits;
      differ = is.differ;
      is = is.is;
    }

pub sound_before : (tables : List TableDef) (more : List TableDef) (def : TableDef) → IsTableOf tables def → IsTableOf (tables ++ more) def
sound_before tables more def (inl base) = inl base
sound_before tables more def (inr derived) =
    inr (record { derived = derived.derived; narrow = derived.narrow; key = derived.key; unlimited = derived.unlimited; first = λ e. first_before tables more def (derived.first e) })

-- ---- tables that are kept

-- the same table, which may be kept; that of no query isn't declared to be
pub record IsKept (one other : TableDef) : Type 0 where
  pub is : other ≡ record one { kept = other.kept; declared = other.declared }
  pub base : one.query ≡ None → other.declared ≡ one.declared

-- the same of lists of tables
abbrev pub AreKept : List TableDef → List TableDef → Type 0
AreKept [] [] = Unit {0}
AreKept (one ∷ ones) (other ∷ others) = IsKept one other × AreKept ones others
AreKept _ _ = ⊥

pub kept_itself : (table : TableDef) → IsKept table table
kept_itself table = record { is = refl; base = λ e. refl }

pub all_itself : (tables : List TableDef) → AreKept tables tables
all_itself [] = tt
all_itself (table ∷ tables) = (kept_itself table, all_itself tables)

pub kept_length : (ones others : List TableDef) → AreKept ones others → length others ≡ length ones
kept_length [] [] kept = refl
kept_length [] (other ∷ others) kept = absurd kept
kept_length (one ∷ ones) [] kept = absurd kept
kept_length (one ∷ ones) (other ∷ others) kept = ap suc (kept_length ones others kept.1)

pub kept_at : (ones others : List TableDef) (id : ℕ) → AreKept ones others → IsKept (def_at ones id) (def_at others id)
kept_at [] [] id kept = kept_itself no_table.def
kept_at [] (other ∷ others) id kept = absurd kept
kept_at (one ∷ ones) [] id kept = absurd kept
kept_at (one ∷ ones) (other ∷ others) zero kept = kept.0
kept_at (one ∷ ones) (other ∷ others) (suc id) kept = kept_at ones others id kept.1

base_kept : (one other : TableDef) → IsKept one other → IsBase one → IsBase other
base_kept one other kept base =
    subst IsBase (sym kept.is) (record { narrow = base.narrow; plain = base.plain; key = base.key; limit = base.limit; stored = base.stored; unkept = kept.base base.stored ∙ base.unkept })

first_kept : (ones others : List TableDef) (one other : TableDef) → AreKept ones others → IsKept one other → IsFirst ones one → IsFirst others other
first_kept ones others one other all kept is =
    let source = kept_at ones others is.form.source all in
    let len = kept_length ones others all in
    let there : is.form.source < length others = omega (arith, len, is.there) in
    record {
      form = is.form;
      kind = is.kind;
      there = there;
      base = base_kept (def_at ones is.form.source) (def_at others is.form.source) source is.base;
      suits = subst (λ columns. Suits columns is.form is.kind) (sym (ap (λ (table : TableDef). table.columns) source.is)) is.suits;
      differ = is.differ;
      is =
          kept.is
          ∙ ap (λ (table : TableDef). record table { kept = other.kept; declared = other.declared }) is.is
          ∙ ap (λ name. first_def name is.form is.kind other.kept other.declared) (sym (ap (λ (table : TableDef). table.name) kept.is));
    }

derived_kept : (ones others : List TableDef) (one other : TableDef) → AreKept ones others → IsKept one other → IsDerivedTable ones one → IsDerivedTable others other
derived_kept ones others one other all kept derived =
    subst (IsDerivedTable others) (sym kept.is) (record {
      derived = derived.derived;
      narrow = derived.narrow;
      key = derived.key;
      unlimited = derived.unlimited;
      first = λ e. subst (IsFirst others) kept.is (first_kept ones others one other all kept (derived.first e));
    })

sound_kept : (ones others : List TableDef) (one other : TableDef) → AreKept ones others → IsKept one other → IsTableOf ones one → IsTableOf others other
sound_kept ones others one other all kept (inl base) = inl (base_kept one other kept base)
sound_kept ones others one other all kept (inr derived) = inr (derived_kept ones others one other all kept derived)

each_kept : (ones others some changed : List TableDef) → AreKept ones others → AreKept some changed → AllByRecursion (IsTableOf ones) some → AllByRecursion (IsTableOf others) changed
each_kept ones others [] [] all kept sound = tt
each_kept ones others [] (other ∷ changed) all kept sound = absurd kept
each_kept ones others (one ∷ some) [] all kept sound = absurd kept
each_kept ones others (one ∷ some) (other ∷ changed) all kept sound = (sound_kept ones others one other all kept.0 sound.0, each_kept ones others some changed all kept.1 sound.1)

pub all_kept : (ones others : List TableDef) → AreKept ones others → AllByRecursion (IsTableOf ones) ones → AllByRecursion (IsTableOf others) others
all_kept ones others kept sound = each_kept ones others ones others kept kept sound
