-- What is said of the parts of expressions on the way through them.
use Rattle.std.specs.Prelude.{ℕ, List, [], ◌∷◌, ◌++◌, map, filter, flat_map, nat_le, Option}
use Rattle.strip_value.specs.declared.kinds.Kind.{Kind}
use Rattle.strip_value.specs.Bounds.{magnitude_of}
use Rattle.strip_ast.specs.declared.expressions.Expr.{Expr}
use Rattle.strip_setup.specs.declared.scope.Entry.{Entry}
use Rattle.strip_kinds.specs.Mismatch.{first_column, is_mismatched}
use Rattle.strip_setup.specs.Parts.{Part, Whole}
use Rattle.strip_setup.specs.Queries.{calc_of}
use Rattle.strip_setup.specs.Trees.{Two, Not}
use Rattle.strip_kinds.specs.Width.{bounded_in, is_computed, least_wide}

-- the first columns of those parts that are mismatched
abbrev pub mismatched_parts : List Entry → List Part → List (Option (List ℕ))
mismatched_parts entries ps = map (λ part. first_column part.expr) (filter (is_mismatched entries) ps)

-- ---- magnitudes

-- the parts of an expression, itself among them, in the same order
abbrev pub part_exprs : Expr → List Expr
part_exprs (Two o a b) = part_exprs a ++ (part_exprs b ++ Two o a b ∷ [])
part_exprs (Not a) = part_exprs a ++ Not a ∷ []
part_exprs e = e ∷ []

-- the magnitudes of these that are too wide
abbrev pub wide_exprs : List (List Kind) → List Entry → List Expr → List ℕ
wide_exprs kinds entries es = filter (nat_le least_wide) (map (λ e. magnitude_of kinds (calc_of entries e)) es)

-- those of the computed ones of these
abbrev pub wide_computed : List (List Kind) → List Entry → List Expr → List ℕ
wide_computed kinds entries es = wide_exprs kinds entries (filter is_computed es)

-- those of what is bounded in these wholes
abbrev pub wide_wholes : List (List Kind) → List Entry → List Whole → List ℕ
wide_wholes kinds entries wholes = filter (nat_le least_wide) (flat_map (λ whole. map (λ e. magnitude_of kinds (calc_of entries e)) (bounded_in whole)) wholes)
