-- What the calls of a catalog do.
use Rattle.std.specs.Prelude.{◌≡◌, List, [], ◌∷◌, ◌++◌, Some, None, Result, Ok, Err, true, false}
use Rattle.strip_value.specs.declared.tables.TableDef.{TableDef}
use Rattle.strip_value.specs.declared.acts.Act.{Act}
use Rattle.strip_ast.specs.declared.deeds.Deed.{Deed}
use Rattle.strip_ast.specs.declared.statements.Statement.{Statement}
use Rattle.strip_ast.specs.declared.statements.Statement.TheVariants as st
use Rattle.strip_setup.specs.declared.errors.SetupError.{SetupError}
use Rattle.strip_setup.specs.declared.errors.SetupError.TheVariants.{Closed, Memory}
use Rattle.strip_catalog.specs.declared.additions.Addition.{Addition}
use Rattle.strip_catalog.specs.declared.additions.Addition.TheVariants as addition
use Rattle.strip_setup.specs.Adds.{with_statement}
use Rattle.strip_setup.specs.Catalog.{Catalog}
use Rattle.strip_setup.specs.Maintain.{declared_kept}
use Rattle.strip_value.specs.declared.rules.Function.{Function}
use Rattle.strip_catalog.specs.declared.made.Made.{Made}
use Rattle.strip_catalog.specs.Made.{how_of}
use Rattle.strip_setup.specs.Resolve.{act_of}
use Rattle.strip_catalog.specs.Refusals.{refusal}

-- a statement that declares a table, a derived table, a stream, a function or a rule
abbrev pub IsDeclaration : Statement → Type 0
IsDeclaration (st.Table name columns key limit) = Unit {0}
IsDeclaration (st.Stream name table marked) = Unit {0}
IsDeclaration (st.Derive name query) = Unit {0}
IsDeclaration (st.Function name steps) = Unit {0}
IsDeclaration (st.Rule name table events conditions evaluate function manner) = Unit {0}
IsDeclaration _ = ⊥

-- the statement is refused exactly where it has a cause, and then nothing changes; else it is declared. Memory may be
-- wanting at any point, and then nothing changes
abbrev pub Adds : Catalog → Statement → Catalog → Result Unit SetupError → Type 0
Adds old statement new (Ok _) = (refusal old statement ≡ None) × (new ≡ with_statement old statement)
Adds old statement new (Err Memory) = new ≡ old
Adds old statement new (Err error) = (refusal old statement ≡ Some error) × (new ≡ old)

-- setup is over; where it was over before, that is refused and nothing changes
abbrev pub BecomesReady : Catalog → Catalog → Result Unit SetupError → Type 0
BecomesReady old new (Ok _) = (old.closed ≡ false) × (new ≡ record old { closed = true })
BecomesReady old new (Err error) = (error ≡ Closed) × (old.closed ≡ true) × (new ≡ old)

-- ---- acts

-- the act is refused exactly where it has a cause; else it is what it stands for. Memory may be wanting at any point
abbrev pub Resolves : Catalog → Deed → Result Act SetupError → Type 0
Resolves catalog d (Ok made) = (refusal catalog (st.Deed None d) ≡ None) × (made ≡ act_of catalog.tables d)
Resolves catalog d (Err Memory) = Unit {0}
Resolves catalog d (Err error) = refusal catalog (st.Deed None d) ≡ Some error

-- ---- what a statement adds

-- the catalog with an addition
abbrev pub with_addition : Catalog → Addition → Catalog
with_addition catalog (addition.Table table) = record catalog { tables = catalog.tables ++ table ∷ [] }
with_addition catalog (addition.Stream stream) = record catalog { streams = catalog.streams ++ stream ∷ [] }
with_addition catalog (addition.Function tables function) = record catalog { tables = tables; functions = catalog.functions ++ function ∷ [] }
with_addition catalog (addition.Rule functions rule) = record catalog { functions = functions; rules = catalog.rules ++ rule ∷ [] }
with_addition catalog (addition.Kept tables functions rule) = record catalog { tables = tables; functions = functions; rules = catalog.rules ++ rule ∷ [] }

-- it is what the statement declares
abbrev pub IsAdded : Catalog → Statement → Addition → Type 0
IsAdded catalog statement one = with_statement catalog statement ≡ with_addition catalog one

-- it is added, or where memory is wanting nothing changes
abbrev pub Installs : Catalog → Addition → Catalog → Result Unit SetupError → Type 0
Installs old one new (Ok _) = new ≡ with_addition old one
Installs old one new (Err error) = (error ≡ Memory) × (new ≡ old)

-- a table that is kept from now on, with its function and its rule
abbrev pub AddsKept : List TableDef → List Function → Made → Addition → Type 0
AddsKept tables functions made (addition.Kept kept with rule) =
    (kept ≡ declared_kept tables made.table (how_of made.function)) × (with ≡ functions ++ made.function ∷ []) × (rule ≡ made.rule)
AddsKept tables functions made _ = ⊥
