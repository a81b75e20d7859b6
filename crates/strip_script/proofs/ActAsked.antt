-- The tables that an accepted act names are there, and a query suits them.
use Rattle.std.proofs.Common.{◌≡◌, ℕ, ◌<◌, true, List, [], length, Option, Some, None, is_none, refl}
use Rattle.strip_value.specs.declared.tables.TableDef.{TableDef}
use Rattle.strip_ast.specs.declared.deeds.Deed.{Deed}
use Rattle.strip_ast.specs.declared.deeds.Deed.TheVariants as deed
use Rattle.strip_ast.specs.declared.queries.QueryTree.{QueryTree}
use Rattle.strip_ast.specs.declared.statements.Statement.TheVariants as st
use Rattle.strip_setup.specs.Catalog.{Catalog, name_if, table_id, table_named}
use Rattle.strip_setup.specs.Queries.{query_of}
use Rattle.strip_setup.specs.Resolve.{act_of, outside_rules}
use Rattle.strip_acts.specs.Laws.{IsAccepted}
use Rattle.strip_acts.specs.Suiting.{suits_query}
use Rattle.strip_acts.proofs.Asked.{query_suits}
use Rattle.strip_catalog.specs.Refusals.{refusal}
use Rattle.strip_catalog.proofs.Accepting.{accepted}
use Rattle.strip_catalog.proofs.SoundFound.{named_at}
use Rattle.strip_engine.specs.Asked.{IsAsked}
use Rattle.strip_script.specs.Stages.{IsActing}

-- a name that isn't unknown stands for a table that is there
known_there : (tables : List TableDef) (name : List ℕ) → name_if (is_none (table_named tables name)) name ≡ [] → table_id tables name < length tables
known_there tables name known = by_name (table_named tables name) refl known
  where
    by_name : (o : Option TableDef) → table_named tables name ≡ o → name_if (is_none o) name ≡ [] → table_id tables name < length tables
    by_name None is none = cc
    by_name (Some table) is none = (named_at tables name table is).there

-- an accepted query suits the tables
suits_accepted : (tables : List TableDef) (tree : QueryTree) → IsAccepted tables (deed.Select tree) → suits_query tables (query_of (outside_rules tables) tree) ≡ true
suits_accepted tables tree accepted =
    query_suits tables tree (record {
      once = accepted.once;
      known = accepted.known;
      within = accepted.within;
      kinds = accepted.kinds;
      narrow = accepted.narrow;
      placed = accepted.placed;
    })

pub act_asked : (catalog : Catalog) (d : Deed) → IsActing d → refusal catalog (st.Deed None d) ≡ None → IsAsked catalog.tables (act_of catalog.tables d)
act_asked catalog (deed.Put table row) acts none = known_there catalog.tables table (accepted catalog (deed.Put table row) none).known
act_asked catalog (deed.Select tree) acts none = suits_accepted catalog.tables tree (accepted catalog (deed.Select tree) none)
act_asked catalog (deed.Show table) acts none = known_there catalog.tables table (accepted catalog (deed.Show table) none).known
act_asked catalog _ acts none = absurd acts
