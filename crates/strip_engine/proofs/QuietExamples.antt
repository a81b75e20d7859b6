-- A small history on which the law of quiet tables can be seen: three rows are put, their changes are bound at the commit, and
-- the action is started and finished.
use Rattle.std.proofs.Common.{◌≡◌, ℕ, zero, suc, true, false, List, [], ◌∷◌, Some, None, inl, inr, pos, codes, refl, arith}
use Rattle.strip_value.specs.declared.actions.ActionId.{ActionId}
use Rattle.strip_value.specs.declared.actions.KeyOf.TheVariants.{Plain}
use Rattle.strip_value.specs.declared.acts.Act.TheVariants.{Put}
use Rattle.strip_value.specs.declared.acts.Reply.TheVariants.{Count}
use Rattle.strip_value.specs.declared.kinds.Kind.TheVariants as kind
use Rattle.strip_value.specs.declared.tables.By.TheVariants as by
use Rattle.strip_value.specs.declared.tables.TableDef.{TableDef}
use Rattle.strip_value.specs.declared.values.Value.{Value}
use Rattle.strip_value.specs.declared.values.Value.TheVariants.{Int}
use Rattle.strip_value.specs.Query.{mean, mean_now}
use Rattle.strip_meaning.specs.Actions.{is_quiet}
use Rattle.strip_meaning.specs.Effect.{effect, table_at}
use Rattle.strip_meaning.specs.Firing.{fired}
use Rattle.strip_model.specs.declared.entries.Entry.{Entry}
use Rattle.strip_model.specs.declared.entries.Entry.TheVariants.{Begin, Did, Commit, Start, Finish}
use Rattle.strip_model.specs.History.{base}
use Rattle.strip_model.specs.Derived.{Fixed, beginning, happened, tables}
use Rattle.strip_model.specs.Legal.{Begins, Finishes, Legal, Starts}
use Rattle.strip_meaning.specs.First.{Form, IsBase, IsFirst, first_def}
use Rattle.strip_engine.specs.Quiet.{IsQuiet, query_rows}
use Rattle.strip_meaning.specs.Contents.{def_at}
use Rattle.strip_engine.specs.Built.{IsBuilt, functions_of, is_among, rules_of}

-- numbers and their colours, by number
abbrev numbers : TableDef
numbers = record {
  name = codes "numbers";
  columns = record { name = codes "number"; kind = kind.Int } ∷ record { name = codes "colour"; kind = kind.Int } ∷ [];
  key = 0 ∷ [];
  limit = Some 4;
  query = None;
  kept = None;
  declared = false;
}

-- their sum and how many there are, by colour
abbrev by_colour : Form
by_colour = record { source = 0; group = 1; value = 0; group_name = codes "colour"; sum_name = codes "sum"; count_name = codes "count" }

abbrev colours : TableDef
colours = first_def (codes "colours") by_colour kind.Int (Some by.Sum) true

abbrev defs : List TableDef
defs = numbers ∷ colours ∷ []

numbers_base : IsBase numbers
numbers_base = record {
  narrow = omega arith;
  plain = (refl, (refl, tt));
  key = (omega arith, tt);
  limit = (omega arith, omega arith);
  stored = refl;
  unkept = refl;
}

colours_first : IsFirst defs colours
colours_first = record {
  form = by_colour;
  kind = kind.Int;
  there = omega arith;
  base = numbers_base;
  suits = record {
    group_there = omega arith;
    value_there = omega arith;
    group_kind = refl;
    value_kind = refl;
  };
  differ = record { sum = refl; count = refl; totals = refl };
  is = refl;
}

abbrev small : Fixed
small = record { defs = defs; rules = rules_of defs 0 (1 ∷ []); functions = functions_of defs (1 ∷ []); most = 9 }

-- the second table is the one that is kept
kept_once : (id : ℕ) → (def_at defs id).declared ≡ true → is_among (1 ∷ []) id ≡ true
kept_once zero declared = cc
kept_once (suc zero) declared = refl
kept_once (suc (suc id)) declared = cc

pub built : IsBuilt small
built = record {
  few = omega arith;
  each = (inl numbers_base, (inr (inl colours_first), tt));
  kept = (record { there = omega arith; first = colours_first; declared = refl }, tt);
  once = refl;
  all = kept_once;
  functions = refl;
  rules = refl;
}

abbrev put : ℕ → ℕ → Entry
put number colour = Did 0 1 (Put 0 (Int (pos number) ∷ Int (pos colour) ∷ [])) (Count 1)

abbrev committed : List Entry
committed = Commit 0 1 0 ∷ put 7 1 ∷ put 2 2 ∷ put 5 1 ∷ Begin 0 1 (0 ∷ []) [] ∷ []

-- the action of all rows that the rule bound at the entry of this place
abbrev action : ActionId
action = record { function = 0; key = Plain 4 0 }

abbrev finished : List Entry
finished = Finish 0 1 ∷ Start 0 1 0 action 0 3 ∷ committed

abbrev row : ℕ → ℕ → ℕ → List Value
row colour sum count = Int (pos colour) ∷ Int (pos sum) ∷ Int (pos count) ∷ []

-- all of it may happen so
begins : Begins 2 [] 0 1 (0 ∷ []) []
begins = record {
  next = refl;
  alone = refl;
  write_rises = (omega arith, omega arith, tt);
  read_rises = tt;
  apart = refl;
  free = refl;
}

starts : Starts small committed 1 0 action 0 3
unfolding effect fired mean
starts = record {
  number_next = refl;
  early = omega arith;
  later = omega arith;
  first = record {
    place = 4;
    moment = 0;
    rule = 0;
    table = 0;
    key = [];
    row = row 1 5 1;
    action = action;
  };
  is_next = refl;
  named = refl;
  due_then = refl;
  counted = refl;
}

finishes : Finishes small (Start 0 1 0 action 0 3 ∷ committed) 0 1
unfolding effect fired mean
finishes = record {
  job = record { number = 1; caller = 0; action = action };
  is_running = refl;
  called = refl;
  free = refl;
}

pub legal : Legal small finished
unfolding effect fired mean
legal = (
  finishes,
  (starts, ((refl, omega arith, omega arith, omega arith), ((refl, omega arith, refl), ((refl, omega arith, refl), ((refl, omega arith, refl), (begins, tt)))))),
)

-- behind the commit an action waits, and the table is empty still
pub waits : is_quiet small.rules (happened small committed) ≡ false
unfolding effect fired mean
waits = refl

pub empty_still : (table_at (tables small committed) 1).rows ≡ []
unfolding effect fired mean
empty_still = refl

-- behind the finish all is quiet, and the table has the rows of its query
pub quiet : IsQuiet small finished
unfolding effect fired mean
quiet = refl

pub table_rows : (table_at (tables small finished) 1).rows ≡ row 1 12 2 ∷ row 2 2 1 ∷ []
unfolding effect fired mean
table_rows = refl

pub its_query : query_rows colours (base (beginning small) finished) ≡ row 1 12 2 ∷ row 2 2 1 ∷ []
unfolding effect fired mean mean_now
its_query = refl
