-- Worked rows: the answers to whole scripts.
use Rattle.std.specs.Prelude.{◌≡◌, true, false, [], codes, refl}
use Rattle.std.specs.Fmt.{digits}
use Rattle.std.specs.Str.{is_utf8, chars}
use Rattle.std.specs.Char.{encode_utf8}
use Rattle.strip_value.specs.Pieces.{pieces}
use Rattle.strip_value.specs.Print.{tuple_text}
use Rattle.strip_value.specs.Query.{mean, mean_now}
use Rattle.strip_ast.specs.Marks.{keyword_of, symbol_of}
use Rattle.strip_ast.specs.Tokens.{token_at, tokens_of}
use Rattle.strip_meaning.specs.Effect.{effect}
use Rattle.strip_meaning.specs.Firing.{fired}
use Rattle.strip_model.specs.Texts.{line_of_reply, line_of_spent, line_of_job, line_of_empty, line_of_finished, line_of_not_running}
use Rattle.strip_ast.specs.Faults.{fault_text}
use Rattle.strip_ast.specs.Syntax.{names, column, columns, table, stream, step as grammar_step, function, dotted, col, atom, factor, product, sum, comparing, compare, test, conj, expression, whole, item, totalled, total, source, entry, filter, rest, query, plain, derive, enclosed_names, event, bound, unique, manner, trigger, effect as effect_of_rule, rule, maintain, a_value, row, set, insert, put, update, delete, act, begin, show, deed, called, statement}
use Rattle.strip_parse.specs.Reading.{take_inside}
use Rattle.strip_parse.specs.Parsed.{reading, parsed}
use Rattle.strip_setup.specs.Adds.{with_statement}
use Rattle.strip_setup.specs.Texts.{error_text}
use Rattle.strip_catalog.specs.Refusals.{refusal}
use Rattle.strip_script.specs.Script.{step, answer, is_refused}

pub nothing : answer 10 [] ≡ []
unfolding pieces answer
nothing = refl

pub nothing_is_refused : is_refused 10 [] ≡ false
unfolding pieces is_refused
nothing_is_refused = refl

-- a put replaces the row of its key
pub stocks :
    answer 10 (codes "table stocks (symbol text, price int, key symbol); ready; put stocks ('IBM', 100); put stocks ('IBM', 101); show stocks;")
    ≡ codes "ok\nok\ncount 1\ncount 1\nrows 1\n('IBM', 101)\n"
unfolding pieces tuple_text keyword_of symbol_of token_at tokens_of names column columns table stream grammar_step function dotted col atom factor product sum comparing compare test conj expression whole item totalled total source entry filter rest query plain derive enclosed_names event bound unique manner trigger effect_of_rule rule maintain a_value row set insert put update delete act begin show deed called statement take_inside reading parsed refusal with_statement effect line_of_reply fault_text error_text step digits is_utf8 chars encode_utf8 answer
stocks = refl

-- bytes that are no statement change nothing
pub no_statement :
    answer 10 (codes "table t (a int, key a); ready; put t (1); put t (1); drop t; show t;")
    ≡ codes "ok\nok\ncount 1\ncount 1\nrefused Parse 1 Unexpected\nrows 1\n(1)\n"
unfolding pieces tuple_text keyword_of symbol_of token_at tokens_of names column columns table stream grammar_step function dotted col atom factor product sum comparing compare test conj expression whole item totalled total source entry filter rest query plain derive enclosed_names event bound unique manner trigger effect_of_rule rule maintain a_value row set insert put update delete act begin show deed called statement take_inside reading parsed refusal with_statement effect line_of_reply fault_text error_text step digits is_utf8 chars encode_utf8 answer
no_statement = refl

-- a last piece without its `;` is refused unread
pub unended :
    answer 10 (codes "table t (a int, key a); ready; show t")
    ≡ codes "ok\nok\nrefused Unended\n"
unfolding pieces tuple_text keyword_of symbol_of token_at tokens_of names column columns table stream grammar_step function dotted col atom factor product sum comparing compare test conj expression whole item totalled total source entry filter rest query plain derive enclosed_names event bound unique manner trigger effect_of_rule rule maintain a_value row set insert put update delete act begin show deed called statement take_inside reading parsed refusal with_statement effect line_of_reply fault_text error_text step digits is_utf8 chars encode_utf8 answer
unended = refl

-- each statement has its place before or behind `ready`
pub out_of_turn :
    answer 10 (codes "selec x; show pending; table t (a int, key a); put t (1); ready; table u (a int, key a); ready; show u; put t (1);")
    ≡ codes "refused Parse 0 Unexpected\nrefused NotReady\nok\nrefused NotReady\nok\nrefused Closed\nrefused Closed\nrefused Unknown u\ncount 1\n"
unfolding pieces tuple_text keyword_of symbol_of token_at tokens_of names column columns table stream grammar_step function dotted col atom factor product sum comparing compare test conj expression whole item totalled total source entry filter rest query plain derive enclosed_names event bound unique manner trigger effect_of_rule rule maintain a_value row set insert put update delete act begin show deed called statement take_inside reading parsed refusal with_statement effect line_of_reply fault_text error_text step digits is_utf8 chars encode_utf8 answer
out_of_turn = refl

-- what isn't built yet changes nothing, also where the catalog would refuse it
pub not_built :
    answer 10 (codes "function f redo d by b; maintain t by key; at 5; ready; at 5; commit; put t (1); run; as 1 show t;")
    ≡ codes "refused NotBuilt\nrefused NotBuilt\nrefused NotReady\nok\nrefused NotBuilt\nrefused NotBuilt\nrefused NotBuilt\nrefused NotBuilt\nrefused NotBuilt\n"
unfolding pieces tuple_text keyword_of symbol_of token_at tokens_of names column columns table stream grammar_step function dotted col atom factor product sum comparing compare test conj expression whole item totalled total source entry filter rest query plain derive enclosed_names event bound unique manner trigger effect_of_rule rule maintain a_value row set insert put update delete act begin show deed called statement take_inside reading parsed refusal with_statement effect line_of_reply fault_text error_text step digits is_utf8 chars encode_utf8 answer
not_built = refl

-- a query is answered by the rows that it means, in their order, a repeated row as often as it occurs
pub a_query :
    answer 10 (codes "table t (id int, g int, key id); ready; put t (1, 8); put t (2, 7); put t (3, 7); select g from t; select x from t;")
    ≡ codes "ok\nok\ncount 1\ncount 1\ncount 1\nrows 3\n(7)\n(7)\n(8)\nrefused Unknown x\n"
unfolding pieces tuple_text keyword_of symbol_of token_at tokens_of names column columns table stream grammar_step function dotted col atom factor product sum comparing compare test conj expression whole item totalled total source entry filter rest query plain derive enclosed_names event bound unique manner trigger effect_of_rule rule maintain a_value row set insert put update delete act begin show deed called statement take_inside reading parsed refusal with_statement mean mean_now effect line_of_reply fault_text error_text step digits is_utf8 chars encode_utf8 answer
a_query = refl

-- groups have a row each, by rising key
pub a_grouped_query :
    answer 10 (codes "table t (id int, g int, v int, key id); ready; put t (1, 7, 5); put t (2, 7, 6); put t (3, 8, 1); select g, sum(v) as s, count(*) as n from t group by g;")
    ≡ codes "ok\nok\ncount 1\ncount 1\ncount 1\nrows 2\n(7, 11, 2)\n(8, 1, 1)\n"
unfolding pieces tuple_text keyword_of symbol_of token_at tokens_of names column columns table stream grammar_step function dotted col atom factor product sum comparing compare test conj expression whole item totalled total source entry filter rest query plain derive enclosed_names event bound unique manner trigger effect_of_rule rule maintain a_value row set insert put update delete act begin show deed called statement take_inside reading parsed refusal with_statement mean mean_now effect line_of_reply fault_text error_text step digits is_utf8 chars encode_utf8 answer
a_grouped_query = refl

-- rows stand in the order of the key's columns, which may be another than that of the columns
pub two_keys :
    answer 10 (codes "table t (a int, b int, key b, a); ready; put t (1, 2); put t (2, -1); show t;")
    ≡ codes "ok\nok\ncount 1\ncount 1\nrows 2\n(2, -1)\n(1, 2)\n"
unfolding pieces tuple_text keyword_of symbol_of token_at tokens_of names column columns table stream grammar_step function dotted col atom factor product sum comparing compare test conj expression whole item totalled total source entry filter rest query plain derive enclosed_names event bound unique manner trigger effect_of_rule rule maintain a_value row set insert put update delete act begin show deed called statement take_inside reading parsed refusal with_statement effect line_of_reply fault_text error_text step digits is_utf8 chars encode_utf8 answer
two_keys = refl

-- a put of a row that isn't of the table's columns isn't built yet
pub no_fit :
    answer 10 (codes "table t (a int, key a); ready; put t ('1'); put t (2147483648); put t (1, 2); show t;")
    ≡ codes "ok\nok\nrefused NotBuilt\nrefused NotBuilt\nrefused NotBuilt\nrows 0\n"
unfolding pieces tuple_text keyword_of symbol_of token_at tokens_of names column columns table stream grammar_step function dotted col atom factor product sum comparing compare test conj expression whole item totalled total source entry filter rest query plain derive enclosed_names event bound unique manner trigger effect_of_rule rule maintain a_value row set insert put update delete act begin show deed called statement take_inside reading parsed refusal with_statement effect line_of_reply fault_text error_text step digits is_utf8 chars encode_utf8 answer
no_fit = refl

-- a table needs a key among its columns, which differ, and a name of its own
pub no_tables :
    answer 10 (codes "table t (a int); table t (a int, key b); table t (a int, a int, key a); table t (a int, key a) limit 5; table t (a int, key a);")
    ≡ codes "refused NoKey\nrefused Unknown b\nrefused Exists a\nok\nrefused Exists t\n"
unfolding pieces tuple_text keyword_of symbol_of token_at tokens_of names column columns table stream grammar_step function dotted col atom factor product sum comparing compare test conj expression whole item totalled total source entry filter rest query plain derive enclosed_names event bound unique manner trigger effect_of_rule rule maintain a_value row set insert put update delete act begin show deed called statement take_inside reading parsed refusal with_statement effect line_of_reply fault_text error_text step digits is_utf8 chars encode_utf8 answer
no_tables = refl

-- a row of a group, and another in its place; each commit makes an action, and the second one is finished first
pub kept_by_sums :
    answer 10 (codes "table t (id int, g int, v int, key id); derive d as select g, sum(v) as s, count(*) as n from t group by g; maintain d by sum; ready; put t (1, 7, 5); put t (1, 7, 6); show d; start; start; start; finish 2; show d; finish 1; show d; finish 1;")
    ≡ codes "ok\nok\nok\nok\ncount 1\ncount 1\nrows 0\njob 1 keep_d plain due 0 rows 1\njob 2 keep_d plain due 0 rows 2\nempty\nfinished 2\nrows 1\n(7, 1, 0)\nfinished 1\nrows 1\n(7, 6, 1)\nrefused NotRunning 1\n"
unfolding pieces tuple_text keyword_of symbol_of token_at tokens_of names column columns table stream grammar_step function dotted col atom factor product sum comparing compare test conj expression whole item totalled total source entry filter rest query plain derive enclosed_names event bound unique manner trigger effect_of_rule rule maintain a_value row set insert put update delete act begin show deed called statement take_inside reading parsed refusal with_statement mean effect fired line_of_reply line_of_spent line_of_job line_of_empty line_of_finished line_of_not_running fault_text error_text step digits is_utf8 chars encode_utf8 answer
kept_by_sums = refl

-- where rules may bind one row, a second one is too many
pub one_row_bound :
    answer 1 (codes "table t (id int, g int, v int, key id); derive d as select g, sum(v) as s, count(*) as n from t group by g; maintain d by sum; ready; put t (1, 7, 5); put t (2, 7, 6); show t;")
    ≡ codes "ok\nok\nok\nok\ncount 1\nrefused Spent 2\nrows 1\n(1, 7, 5)\n"
unfolding pieces tuple_text keyword_of symbol_of token_at tokens_of names column columns table stream grammar_step function dotted col atom factor product sum comparing compare test conj expression whole item totalled total source entry filter rest query plain derive enclosed_names event bound unique manner trigger effect_of_rule rule maintain a_value row set insert put update delete act begin show deed called statement take_inside reading parsed refusal with_statement mean effect fired line_of_reply line_of_spent line_of_job line_of_empty line_of_finished line_of_not_running fault_text error_text step digits is_utf8 chars encode_utf8 answer
one_row_bound = refl

-- two tables that are kept, the later one first: its actions come first
pub two_kept :
    answer 10 (codes "table t (id int, g int, v int, key id); derive d as select g, sum(v) as s, count(*) as n from t group by g; derive e as select v, sum(g) as s, count(*) as n from t group by v; maintain e by sum; maintain d by sum; ready; put t (1, 7, 5); start; start; finish 2; show e; show d; finish 1; show e;")
    ≡ codes "ok\nok\nok\nok\nok\nok\ncount 1\njob 1 keep_e plain due 0 rows 1\njob 2 keep_d plain due 0 rows 1\nfinished 2\nrows 0\nrows 1\n(7, 5, 1)\nfinished 1\nrows 1\n(5, 7, 1)\n"
unfolding pieces tuple_text keyword_of symbol_of token_at tokens_of names column columns table stream grammar_step function dotted col atom factor product sum comparing compare test conj expression whole item totalled total source entry filter rest query plain derive enclosed_names event bound unique manner trigger effect_of_rule rule maintain a_value row set insert put update delete act begin show deed called statement take_inside reading parsed refusal with_statement mean effect fired line_of_reply line_of_spent line_of_job line_of_empty line_of_finished line_of_not_running fault_text error_text step digits is_utf8 chars encode_utf8 answer
two_kept = refl

-- a derived table that isn't to be kept stays empty, and no row is put into it
pub not_kept :
    answer 10 (codes "table t (id int, g text, v int, key id); derive d as select g, sum(v) as s, count(*) as n from t group by g; ready; put t (1, 'a', 5); start; put d ('a', 5, 1); show d;")
    ≡ codes "ok\nok\nok\ncount 1\nempty\nrefused NotBuilt\nrows 0\n"
unfolding pieces tuple_text keyword_of symbol_of token_at tokens_of names column columns table stream grammar_step function dotted col atom factor product sum comparing compare test conj expression whole item totalled total source entry filter rest query plain derive enclosed_names event bound unique manner trigger effect_of_rule rule maintain a_value row set insert put update delete act begin show deed called statement take_inside reading parsed refusal with_statement mean effect fired line_of_reply line_of_spent line_of_job line_of_empty line_of_finished line_of_not_running fault_text error_text step digits is_utf8 chars encode_utf8 answer
not_kept = refl

-- a derived table has a name of its own and sums numbers that are there; only such a one is kept, and once
pub no_derived :
    answer 10 (codes "table t (id int, g text, v int, key id); derive t as select g, sum(v) as s, count(*) as n from t group by g; derive d as select v, sum(g) as s, count(*) as n from t group by v; derive d as select g, sum(x) as s, count(*) as n from t group by g; derive d as select g, sum(v) as s, count(*) as n from t group by g; maintain t by sum; maintain d by sum; maintain d by sum;")
    ≡ codes "ok\nrefused Exists t\nrefused KindMismatch g\nrefused Unknown x\nok\nrefused NotBuilt\nok\nrefused NotBuilt\n"
unfolding pieces tuple_text keyword_of symbol_of token_at tokens_of names column columns table stream grammar_step function dotted col atom factor product sum comparing compare test conj expression whole item totalled total source entry filter rest query plain derive enclosed_names event bound unique manner trigger effect_of_rule rule maintain a_value row set insert put update delete act begin show deed called statement take_inside reading parsed refusal with_statement mean effect fired line_of_reply line_of_spent line_of_job line_of_empty line_of_finished line_of_not_running fault_text error_text step digits is_utf8 chars encode_utf8 answer
no_derived = refl

pub one_is_refused : is_refused 10 (codes "table t (a int, key a); ready; drop t;") ≡ true
unfolding pieces tuple_text keyword_of symbol_of token_at tokens_of names column columns table stream grammar_step function dotted col atom factor product sum comparing compare test conj expression whole item totalled total source entry filter rest query plain derive enclosed_names event bound unique manner trigger effect_of_rule rule maintain a_value row set insert put update delete act begin show deed called statement take_inside reading parsed refusal with_statement effect line_of_reply fault_text error_text step digits is_utf8 chars encode_utf8 is_refused
one_is_refused = refl

pub a_setup_statement_is_refused : is_refused 10 (codes "table t (a int); ready;") ≡ true
unfolding pieces tuple_text keyword_of symbol_of token_at tokens_of names column columns table stream grammar_step function dotted col atom factor product sum comparing compare test conj expression whole item totalled total source entry filter rest query plain derive enclosed_names event bound unique manner trigger effect_of_rule rule maintain a_value row set insert put update delete act begin show deed called statement take_inside reading parsed refusal with_statement effect line_of_reply fault_text error_text step digits is_utf8 chars encode_utf8 is_refused
a_setup_statement_is_refused = refl

pub none_is_refused : is_refused 10 (codes "table t (a int, key a); ready; put t (1); show t;") ≡ false
unfolding pieces tuple_text keyword_of symbol_of token_at tokens_of names column columns table stream grammar_step function dotted col atom factor product sum comparing compare test conj expression whole item totalled total source entry filter rest query plain derive enclosed_names event bound unique manner trigger effect_of_rule rule maintain a_value row set insert put update delete act begin show deed called statement take_inside reading parsed refusal with_statement effect line_of_reply fault_text error_text step digits is_utf8 chars encode_utf8 is_refused
none_is_refused = refl
