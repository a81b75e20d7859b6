-- Small histories on which the definitions compute.
use Rattle.std.specs.Prelude.{◌≡◌, List, [], ◌∷◌, Some, None, codes, pos, false, refl}
use Rattle.std.specs.Fmt.{digits}
use Rattle.strip_value.specs.declared.actions.KeyOf.TheVariants.{Plain, Unique}
use Rattle.strip_value.specs.declared.acts.Act.TheVariants.{Put}
use Rattle.strip_value.specs.declared.acts.ActError.TheVariants.{Full}
use Rattle.strip_value.specs.declared.acts.Reply.TheVariants.{Rows, Count, Refused}
use Rattle.strip_value.specs.declared.kinds.Kind.TheVariants as kind
use Rattle.strip_value.specs.declared.tables.TableDef.{TableDef}
use Rattle.strip_value.specs.declared.values.Value.{Value}
use Rattle.strip_value.specs.declared.values.Value.TheVariants.{Int}
use Rattle.strip_value.specs.Print.{tuple_text}
use Rattle.strip_meaning.specs.Effect.{effect}
use Rattle.strip_model.specs.declared.entries.Entry.{Entry}
use Rattle.strip_model.specs.declared.entries.Entry.TheVariants.{Begin, Did, Commit, Undo}
use Rattle.strip_model.specs.History.{base, live, begins}
use Rattle.strip_model.specs.Derived.{Fixed, beginning}
use Rattle.strip_model.specs.Legal.{reply_of}
use Rattle.strip_model.specs.Says.{says, to_begin, opened}
use Rattle.strip_model.specs.Texts.{line_of_reply, line_of_job, line_of_empty}

-- a table of numbers that takes one row
abbrev narrow : TableDef
narrow = record {
  name = codes "t";
  columns = record { name = codes "a"; kind = kind.Int } ∷ [];
  key = 0 ∷ [];
  limit = Some 1;
  query = None;
  kept = None;
  declared = false;
}

-- no rule stands on it
abbrev alone : Fixed
alone = record { defs = narrow ∷ []; rules = []; functions = []; most = 10 }

abbrev one : List Value
one = Int (pos 1) ∷ []

abbrev two : List Value
two = Int (pos 2) ∷ []

-- a put, committed; then a put that is refused, undone
abbrev committed : List Entry
committed = Commit 0 1 0 ∷ Did 0 1 (Put 0 one) (Count 1) ∷ Begin 0 1 (0 ∷ []) [] ∷ []

abbrev refused : List Entry
refused = Undo 0 2 ∷ Did 0 2 (Put 0 two) (Refused (Full 0 1)) ∷ Begin 0 2 (0 ∷ []) [] ∷ committed

-- the committed row stands, and the refused one doesn't
pub base_rows : base (beginning alone) refused ≡ record { def = narrow; rows = one ∷ [] } ∷ []
unfolding effect
base_rows = refl

pub none_live : live refused ≡ []
none_live = refl

pub two_begins : begins refused ≡ 2
two_begins = refl

-- the reply that the refused put must have
pub full_reply : reply_of alone (Begin 0 2 (0 ∷ []) [] ∷ committed) 2 (Put 0 two) ≡ Refused (Full 0 1)
unfolding effect
full_reply = refl

-- what the engine says to the next begin, which names a table twice
pub next_begin : says alone refused (to_begin 0 (0 ∷ 0 ∷ []) (0 ∷ [])) ≡ record { answer = opened 3; entry = Some (Begin 0 3 (0 ∷ []) []) }
next_begin = refl

-- the texts
pub full_text : line_of_reply (narrow ∷ []) (Refused (Full 0 1)) ≡ codes "refused Full t 1\n"
unfolding line_of_reply digits
full_text = refl

pub rows_of_two : line_of_reply (narrow ∷ []) (Rows (one ∷ two ∷ [])) ≡ codes "rows 2\n(1)\n(2)\n"
unfolding line_of_reply tuple_text digits
rows_of_two = refl

pub job_line : line_of_job (codes "f") 7 (Unique one 5) 200 4 ≡ codes "job 7 f (1) due 200 rows 4\n"
unfolding line_of_job tuple_text digits
job_line = refl

pub plain_line : line_of_job (codes "keep_d") 2 (Plain 3 1) 0 2 ≡ codes "job 2 keep_d plain due 0 rows 2\n"
unfolding line_of_job digits
plain_line = refl

pub empty_line : line_of_empty ≡ codes "empty\n"
unfolding line_of_empty
empty_line = refl
