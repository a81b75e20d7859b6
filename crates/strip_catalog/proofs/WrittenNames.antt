-- Tables that are declared by statements of a text have names of the grammar, and so have their columns. A derived one reads some
-- table.
use Rattle.std.proofs.Common.{◌≡◌, ℕ, zero, suc, ◌+◌, ◌<◌, ◌≤◌, Bool, true, false, ◌&&◌, nat_lt, inl, inr, List, [], ◌∷◌, ◌++◌, length, map, codes, decimal, Option, Some, None, unwrap_or, refl, sym, ap, ◌∙◌, subst, arith}
use Rattle.std.specs.Fmt.{digits}
use Rattle.std.specs.List.{AllByRecursion, enumerate_from}
use Rattle.std.proofs.lemmas.Bool.Decides.{nat_tests}
use Rattle.strip_value.specs.declared.tables.ColumnDef.{ColumnDef}
use Rattle.strip_value.specs.declared.tables.TableDef.{TableDef}
use Rattle.strip_value.proofs.Lists.{all_left, all_right}
use Rattle.strip_ast.specs.declared.expressions.Expr.{Expr, Number, Text, Column}
use Rattle.strip_ast.specs.declared.expressions.Expr.TheVariants as expr
use Rattle.strip_ast.specs.declared.expressions.Op.{Op}
use Rattle.strip_ast.specs.declared.expressions.Op.TheVariants as op
use Rattle.strip_ast.specs.declared.marks.Mark.{Mark}
use Rattle.strip_ast.specs.declared.marks.Mark.TheVariants as m
use Rattle.strip_ast.specs.declared.queries.ItemTree.{ItemTree}
use Rattle.strip_ast.specs.declared.queries.QueryTree.{QueryTree}
use Rattle.strip_ast.specs.declared.queries.Total.{Total}
use Rattle.strip_ast.specs.declared.queries.Total.TheVariants as total_
use Rattle.strip_ast.specs.declared.statements.Statement.TheVariants as st
use Rattle.strip_ast.specs.declared.token_types.Placed.{Placed}
use Rattle.strip_ast.specs.declared.token_types.Token.{Token}
use Rattle.strip_ast.specs.declared.token_types.Token.TheVariants as token
use Rattle.strip_ast.specs.Grammar as grammar
use Rattle.strip_ast.specs.Grammar.{Behind, Each, Grammar, Matches, either, many, takes}
use Rattle.strip_ast.specs.Marks.{keyword_of}
use Rattle.strip_ast.specs.Syntax.{Within, a_name, atom, called, chain, col_of, column, columns, compare, compared, conj, derive, dotted, entry, expression, factor, function, item, joined, joins, listed, maintain, optional, product, query, rest, rule, statement, stream, sum, table, test, total, totalled, whole, ◌▸◌, ◌◂◌}
use Rattle.strip_ast.specs.Tokens.{is_grammar_name}
use Rattle.strip_ast.proofs.SoundTokens.{SoundToken, SoundTokens, sound_placed, tokens_sound}
use Rattle.strip_setup.specs.declared.scope.Entry.{Entry}
use Rattle.strip_setup.specs.Queries.{answer_of, as_columns, entries_of, own_name}
use Rattle.strip_setup.specs.Resolve.{derived_of, outside_rules}
use Rattle.strip_setup.specs.Trees.{Two, Not}
use Rattle.strip_catalog.specs.Accepted.{HasText}
use Rattle.strip_catalog.proofs.SoundFound.{both_true}

-- a name of the grammar
abbrev pub IsName : List ℕ → Type 0
IsName name = is_grammar_name name ≡ true

abbrev pub AreNamedColumns : List ColumnDef → Type 0
AreNamedColumns columns = AllByRecursion (λ column. IsName column.name) columns

-- an expression that is one column alone names it so
abbrev pub NamesColumn : Expr → Type 0
NamesColumn (Column of name) = IsName name
NamesColumn _ = Unit {0}

abbrev pub NamesItem : Option (List ℕ) → Type 0
NamesItem None = Unit {0}
NamesItem (Some name) = IsName name

abbrev pub NamesTotal : Total → Type 0
NamesTotal (total_.Plain e) = NamesColumn e
NamesTotal _ = Unit {0}

-- an item's name, and the column that it is, if it is one
abbrev pub IsNamedItem : ItemTree → Type 0
IsNamedItem item = NamesItem item.name × NamesTotal item.what

abbrev pub AreNamedItems : List ItemTree → Type 0
AreNamedItems items = AllByRecursion IsNamedItem items

-- a table that is written so
pub record NamesTable (name : List ℕ) (columns : List ColumnDef) : Type 0 where
  pub own : IsName name
  pub each : AreNamedColumns columns

pub record NamesDerived (name : List ℕ) (query : QueryTree) : Type 0 where
  pub own : IsName name
  pub each : AreNamedItems query.items
  pub reads : 1 ≤ length query.entries

-- ---- tokens that bytes are cut into

left_sound : (u v w : List Placed) → u ≡ v ++ w → SoundTokens u → SoundTokens v
left_sound u v w split sound = all_left sound_placed v w (subst SoundTokens split sound)

right_sound : (u v w : List Placed) → u ≡ v ++ w → SoundTokens u → SoundTokens w
right_sound u v w split sound = all_right sound_placed v w (subst SoundTokens split sound)

name_taken : (x : Token) (a : List ℕ) → takes grammar.name x ≡ Some a → SoundToken x → IsName a
name_taken (token.Mark b) a taken sound = cc
name_taken (token.Name b) a taken sound =
    let same : b ≡ a = cc in
    subst IsName same sound
name_taken (token.Number n) a taken sound = cc
name_taken (token.Text t) a taken sound = cc

-- ---- what is matched

module _ (I : List Placed → Expr → Type 0) where
  -- what is read of tokens that bytes are cut into is so
  abbrev Keeps : {A : Type 0} → Grammar A → (A → Type 0) → Type 0
  Keeps {A} g P = (u : List Placed) (a : A) → SoundTokens u → Matches I g u a → P a

  keeps_name : Keeps a_name IsName
  keeps_name u a sound (p, split, taken) = name_taken p.token a taken (subst SoundTokens split sound).0

  keeps_behind : {A : Type 0} (w : Mark) (g : Grammar A) (P : A → Type 0) → Keeps g P → Keeps (w ▸ g) P
  keeps_behind w g P kept u a sound (c, (v, x, split, one, is), same) =
      subst P (sym same) (kept x c.1 (right_sound u v x split sound) is)

  keeps_before : {A : Type 0} (w : Mark) (g : Grammar A) (P : A → Type 0) → Keeps g P → Keeps (g ◂ w) P
  keeps_before w g P kept u a sound (c, (v, x, split, is, one), same) =
      subst P (sym same) (kept v c.0 (left_sound u v x split sound) is)

  keeps_each : {A : Type 0} (g : Grammar A) (P : A → Type 0) → Keeps g P → Keeps (many g) (λ as_. AllByRecursion P as_)
  keeps_each g P kept u [] sound is = tt
  keeps_each g P kept u (a ∷ as_) sound (v, w, split, is, more) =
      (kept v a (left_sound u v w split sound) is, keeps_each g P kept w as_ (right_sound u v w split sound) more)

  keeps_listed : {A : Type 0} (g : Grammar A) (P : A → Type 0) → Keeps g P → Keeps (listed g) (λ as_. AllByRecursion P as_)
  keeps_listed g P kept u as_ sound (c, (v, w, split, is, more), same) =
      subst (λ xs. AllByRecursion P xs) (sym same)
      (kept v c.0 (left_sound u v w split sound) is, keeps_each (m.Comma ▸ g) P (keeps_behind m.Comma g P kept) w c.1 (right_sound u v w split sound) more)

  keeps_optional : (g : Grammar (List ℕ)) → Keeps g IsName → Keeps (optional g) NamesItem
  keeps_optional g kept u o sound (inl (a, is, same)) = subst NamesItem (sym same) (kept u a sound is)
  keeps_optional g kept u o sound (inr (nil, same)) = subst NamesItem (sym same) tt

  -- ---- columns

  keeps_column : Keeps column (λ c. IsName c.name)
  unfolding column
  keeps_column u c sound (p, (v, w, split, is, kind), same) =
      subst (λ (of : ColumnDef). IsName of.name) (sym same) (keeps_name v p.0 (left_sound u v w split sound) is)

  each_column : (u : List Placed) (cs : List ColumnDef) → SoundTokens u → Each (Behind (grammar.mark m.Comma) (Matches I column)) u cs → AreNamedColumns cs
  each_column u [] sound is = tt
  each_column u (c ∷ cs) sound (v, w, split, (p, x, first, some, is), more) =
      let before = left_sound u v w split sound in
      (keeps_column x c (subst SoundTokens first before).1 is, each_column w cs (right_sound u v w split sound) more)

  keeps_columns : Keeps columns (λ c. AreNamedColumns c.0)
  unfolding columns
  keeps_columns u c sound (p, (v, w, split, is, (x, y, apart, more, key)), same) =
      subst (λ (of : List ColumnDef × List (List ℕ)). AreNamedColumns of.0) (sym same)
      (keeps_column v p.0 (left_sound u v w split sound) is, each_column x p.1.0 (left_sound w x y apart (right_sound u v w split sound)) more)

  table_named : (u : List Placed) (name : List ℕ) (cs : List ColumnDef) (key : List (List ℕ)) (rows : Option ℕ) → SoundTokens u → Matches I table u (st.Table name cs key rows) → NamesTable name cs
  unfolding table
  table_named u name cs key rows sound (p, (v, w, split, is, (x, y, apart, inner, limit)), same) =
      let own = keeps_behind m.Table a_name IsName keeps_name v p.0 (left_sound u v w split sound) is in
      let each = keeps_behind m.Open (columns ◂ m.Close) (λ c. AreNamedColumns c.0) (keeps_before m.Close columns (λ c. AreNamedColumns c.0) keeps_columns) x p.1.0 (left_sound w x y apart (right_sound u v w split sound)) inner in
      let same_name : name ≡ p.0 = cc (same) in
      let same_columns : cs ≡ p.1.0.0 = cc (same) in
      record { own = subst IsName (sym same_name) own; each = subst AreNamedColumns (sym same_columns) each }

  written_table : (u : List Placed) (name : List ℕ) (cs : List ColumnDef) (key : List (List ℕ)) (rows : Option ℕ) → SoundTokens u → Matches I statement u (st.Table name cs key rows) → NamesTable name cs
  unfolding statement stream derive function rule maintain called
  written_table u name cs key rows sound (inl is) = table_named u name cs key rows sound is
  written_table u name cs key rows sound (inr (inl is)) = let e = is.2 in cc
  written_table u name cs key rows sound (inr (inr (inl is))) = let e = is.2 in cc
  written_table u name cs key rows sound (inr (inr (inr (inl is)))) = let e = is.2 in cc
  written_table u name cs key rows sound (inr (inr (inr (inr (inl is))))) = let e = is.2 in cc
  written_table u name cs key rows sound (inr (inr (inr (inr (inr (inl is)))))) = let e = is.2 in cc
  written_table u name cs key rows sound (inr (inr (inr (inr (inr (inr (inl is))))))) = let e = is.2 in cc
  written_table u name cs key rows sound (inr (inr (inr (inr (inr (inr (inr (inl is)))))))) = let e = is.2 in cc
  written_table u name cs key rows sound (inr (inr (inr (inr (inr (inr (inr (inr is)))))))) = let e = is.2 in cc

  -- ---- expressions: what joins two of them is no column

  joined_named : (e : Expr) (more : List (Op × Expr)) → NamesColumn e → NamesColumn (joined e more)
  joined_named e [] named = named
  joined_named e (next ∷ more) named = joined_named (expr.Two next.0 e next.1) more tt

  keeps_chain : (o : Grammar Op) (g : Grammar Expr) → Keeps g NamesColumn → Keeps (chain o g) NamesColumn
  keeps_chain o g kept u e sound (c, (v, w, split, is, more), same) =
      subst NamesColumn (sym same) (joined_named c.0 c.1 (kept v c.0 (left_sound u v w split sound) is))

  keeps_dotted : Keeps dotted (λ c. NamesColumn (col_of expr.Column c))
  unfolding dotted
  keeps_dotted u (one, None) sound (v, w, split, is, more) = keeps_name v one (left_sound u v w split sound) is
  keeps_dotted u (one, Some two) sound (v, w, split, is, inl (a, behind, same)) =
      let there : two ≡ a = cc in
      subst IsName (sym there) (keeps_behind m.Dot a_name IsName keeps_name w a (right_sound u v w split sound) behind)
  keeps_dotted u (one, Some two) sound (v, w, split, is, inr (nil, same)) = cc

  keeps_atom : Keeps atom NamesColumn
  unfolding atom
  keeps_atom u e sound (inl (c, is, same)) = subst NamesColumn (sym same) tt
  keeps_atom u e sound (inr (inl (n, is, same))) = subst NamesColumn (sym same) tt
  keeps_atom u e sound (inr (inr (inl (t, is, same)))) = subst NamesColumn (sym same) tt
  keeps_atom u e sound (inr (inr (inr (c, is, same)))) = subst NamesColumn (sym same) (keeps_dotted u c sound is)

  module _ (inside : (u : List Placed) (e : Expr) → SoundTokens u → I u e → NamesColumn e) where
    keeps_factor : Keeps factor NamesColumn
    unfolding factor
    keeps_factor u e sound (inl is) = keeps_atom u e sound is
    keeps_factor u e sound (inr (p, v, split, some, (x, y, apart, is, closed))) =
        inside x e (left_sound v x y apart (subst SoundTokens split sound).1) is

    keeps_product : Keeps product NamesColumn
    unfolding product
    keeps_product u e sound is = keeps_chain (joins m.Star op.Mul) factor keeps_factor u e sound is

    keeps_sum : Keeps sum NamesColumn
    unfolding sum
    keeps_sum u e sound is = keeps_chain (either (joins m.Plus op.Add) (joins m.Minus op.Sub)) product keeps_product u e sound is

    compared_named : (e : Expr) (more : Option (Op × Expr)) → NamesColumn e → NamesColumn (compared (e, more))
    compared_named e None named = named
    compared_named e (Some next) named = tt

    keeps_compare : Keeps compare NamesColumn
    unfolding compare
    keeps_compare u e sound (c, (v, w, split, is, more), same) =
        subst NamesColumn (sym same) (compared_named c.0 c.1 (keeps_sum v c.0 (left_sound u v w split sound) is))

    keeps_test : Keeps test NamesColumn
    unfolding test
    keeps_test u e sound (inl (c, is, same)) = subst NamesColumn (sym same) tt
    keeps_test u e sound (inr is) = keeps_compare u e sound is

    keeps_conj : Keeps conj NamesColumn
    unfolding conj
    keeps_conj u e sound is = keeps_chain (joins m.And op.And) test keeps_test u e sound is

    keeps_expression : Keeps expression NamesColumn
    unfolding expression
    keeps_expression u e sound is = keeps_chain (joins m.Or op.Or) conj keeps_conj u e sound is

    keeps_whole : Keeps whole NamesColumn
    unfolding whole
    keeps_whole u e sound is = keeps_expression u e sound is

    -- ---- items

    keeps_item : Keeps item IsNamedItem
    unfolding item
    keeps_item u i sound (c, (v, w, split, is, named), same) =
        subst IsNamedItem (sym same)
        (keeps_optional (m.As ▸ a_name) (keeps_behind m.As a_name IsName keeps_name) w c.1 (right_sound u v w split sound) named, keeps_whole v c.0 (left_sound u v w split sound) is)

    keeps_totalled : Keeps totalled NamesTotal
    unfolding totalled
    keeps_totalled u t sound (inl (c, is, same)) = subst NamesTotal (sym same) tt
    keeps_totalled u t sound (inr (c, is, same)) = subst NamesTotal (sym same) tt

    keeps_total : Keeps total IsNamedItem
    unfolding total
    keeps_total u i sound (inl (c, (v, w, split, is, named), same)) =
        subst IsNamedItem (sym same)
        (keeps_optional (m.As ▸ a_name) (keeps_behind m.As a_name IsName keeps_name) w c.1 (right_sound u v w split sound) named, keeps_totalled v c.0 (left_sound u v w split sound) is)
    keeps_total u i sound (inr is) = keeps_item u i sound is

    -- a list of the grammar isn't empty
    keeps_some : {A : Type 0} (g : Grammar A) → Keeps (listed g) (λ as_. 1 ≤ length as_)
    keeps_some g u as_ sound (c, is, same) =
        let long = ap length same in
        omega (arith, long)

    abbrev IsNamedQuery : QueryTree → Type 0
    IsNamedQuery q = AreNamedItems q.items × (1 ≤ length q.entries)

    keeps_query : Keeps query IsNamedQuery
    unfolding query rest
    keeps_query u q sound (c, (v, w, split, is, (x, y, apart, (s, t, cut, read, only), group)), same) =
        let those = left_sound w x y apart (right_sound u v w split sound) in
        subst IsNamedQuery (sym same) (
          keeps_behind m.Select (listed total) AreNamedItems (keeps_listed total IsNamedItem keeps_total) v c.0 (left_sound u v w split sound) is,
          keeps_behind m.From (listed entry) (λ as_. 1 ≤ length as_) (keeps_some entry) s c.1.0.0 (left_sound x s t cut those) read,
        )

    derive_named : (u : List Placed) (name : List ℕ) (q : QueryTree) → SoundTokens u → Matches I derive u (st.Derive name q) → NamesDerived name q
    unfolding derive
    derive_named u name q sound (p, (v, w, split, is, asked), same) =
        let own = keeps_behind m.Derive a_name IsName keeps_name v p.0 (left_sound u v w split sound) is in
        let asks = keeps_behind m.As query IsNamedQuery keeps_query w p.1 (right_sound u v w split sound) asked in
        let same_name : name ≡ p.0 = cc (same) in
        let same_query : q ≡ p.1 = cc (same) in
        let query_asks = subst IsNamedQuery (sym same_query) asks in
        record { own = subst IsName (sym same_name) own; each = query_asks.0; reads = query_asks.1 }

    written_derive : (u : List Placed) (name : List ℕ) (q : QueryTree) → SoundTokens u → Matches I statement u (st.Derive name q) → NamesDerived name q
    unfolding statement table stream function rule maintain called
    written_derive u name q sound (inl is) = let e = is.2 in cc
    written_derive u name q sound (inr (inl is)) = let e = is.2 in cc
    written_derive u name q sound (inr (inr (inl is))) = derive_named u name q sound is
    written_derive u name q sound (inr (inr (inr (inl is)))) = let e = is.2 in cc
    written_derive u name q sound (inr (inr (inr (inr (inl is))))) = let e = is.2 in cc
    written_derive u name q sound (inr (inr (inr (inr (inr (inl is)))))) = let e = is.2 in cc
    written_derive u name q sound (inr (inr (inr (inr (inr (inr (inl is))))))) = let e = is.2 in cc
    written_derive u name q sound (inr (inr (inr (inr (inr (inr (inr (inl is)))))))) = let e = is.2 in cc
    written_derive u name q sound (inr (inr (inr (inr (inr (inr (inr (inr is)))))))) = let e = is.2 in cc

-- the same within so many parentheses
within_named : (room : ℕ) (u : List Placed) (e : Expr) → SoundTokens u → Within room u e → NamesColumn e
within_named zero u e sound is = absurd is
within_named (suc room) u e sound is = keeps_expression (Within room) (within_named room) u e sound is

-- ---- statements of a text

pub text_table : (name : List ℕ) (cs : List ColumnDef) (key : List (List ℕ)) (rows : Option ℕ) → HasText (st.Table name cs key rows) → NamesTable name cs
text_table name cs key rows (bytes, tokens, cut, (room, is)) = written_table (Within room) tokens name cs key rows (tokens_sound bytes tokens cut) is

pub text_derive : (name : List ℕ) (q : QueryTree) → HasText (st.Derive name q) → NamesDerived name q
text_derive name q (bytes, tokens, cut, (room, is)) = written_derive (Within room) (within_named room) tokens name q (tokens_sound bytes tokens cut) is

-- ---- the columns of a derived table

-- a test that numbers below a bound pass
abbrev all_below : (ℕ → Bool) → ℕ → Bool
all_below p zero = true
all_below p (suc n) = p n && all_below p n

below_all : (p : ℕ → Bool) (most n : ℕ) → all_below p most ≡ true → n < most → p n ≡ true
below_all p zero n all lt =
    let none : ⊥ = omega (arith, lt) in
    absurd none
below_all p (suc most) n all lt =
    let parts = both_true (p most) (all_below p most) all in
    by_test parts.0 (below_all p most n parts.1) (nat_lt n most) refl
  where
    by_test : p most ≡ true → (n < most → p n ≡ true) → (b : Bool) → nat_lt n most ≡ b → p n ≡ true
    by_test last below true is =
        let less : n < most = grind (arith, nat_tests) in
        below less
    by_test last below false is =
        let same : n ≡ most = grind (arith, nat_tests) in
        ap p same ∙ last

-- `item_1` to `item_16` are names of the grammar
items_all : all_below (λ n. is_grammar_name (codes "item_" ++ decimal n)) 17 ≡ true
unfolding keyword_of digits
items_all = refl

item_named : (i : ℕ) → i < 17 → IsName (codes "item_" ++ decimal i)
item_named i lt = below_all (λ n. is_grammar_name (codes "item_" ++ decimal n)) 17 i items_all lt

-- the name of an item
own_named : (i : ℕ) (what : Total) → i < 17 → NamesTotal what → IsName (own_name i what)
own_named i (total_.Plain (Column of name)) lt named = named
own_named i (total_.Plain (Number n)) lt named = item_named i lt
own_named i (total_.Plain (Text t)) lt named = item_named i lt
own_named i (total_.Plain (Two o a b)) lt named = item_named i lt
own_named i (total_.Plain (Not a)) lt named = item_named i lt
own_named i (total_.Sum e) lt named = item_named i lt
own_named i total_.Count lt named = item_named i lt

name_named : (i : ℕ) (o : Option (List ℕ)) (what : Total) → i < 17 → NamesItem o → NamesTotal what → IsName (unwrap_or o (own_name i what))
name_named i None what lt named whats = own_named i what lt whats
name_named i (Some name) what lt named whats = named

items_named : (entries : List Entry) (i : ℕ) (items : List ItemTree) → i + length items ≤ 17 → AreNamedItems items → AreNamedColumns (as_columns (map (answer_of entries) (enumerate_from i items)))
items_named entries i [] few named = tt
items_named entries i (one ∷ items) few named =
    (name_named i one.name one.what (omega (arith, few)) named.0.0 named.0.1, items_named entries (i + 1) items (omega (arith, few)) named.1)

pub derived_columns : (tables : List TableDef) (name : List ℕ) (q : QueryTree) → length q.items ≤ 16 → AreNamedItems q.items → AreNamedColumns (derived_of tables name q).columns
derived_columns tables name q few named = items_named (entries_of (outside_rules tables) q) 1 q.items (omega (arith, few)) named
