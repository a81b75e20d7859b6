-- Worked rows: what the pieces of short texts are, and what is still to come in the middle of one.
use Rattle.std.specs.Prelude.{◌≡◌, ◌++◌, true, false, [], ◌∷◌, codes, refl}
use Rattle.strip_value.specs.declared.pieces.Piece.TheVariants.{Statement, Rest}
use Rattle.strip_value.specs.Pieces.{pieces}
use Rattle.strip_lines.specs.Reading.{Reading, whole_statements, coming, ended}

pub nothing : pieces [] ≡ []
unfolding pieces
nothing = refl

pub blanks_alone : pieces (codes " " ++ (9 ∷ 13 ∷ 10 ∷ [])) ≡ []
unfolding pieces
blanks_alone = refl

pub two_and_a_rest : pieces (codes "a; b;c ") ≡ Statement (codes "a") ∷ Statement (codes " b") ∷ Rest (codes "c ") ∷ []
unfolding pieces
two_and_a_rest = refl

pub blanks_at_the_end : pieces (codes "a;  ") ≡ Statement (codes "a") ∷ []
unfolding pieces
blanks_at_the_end = refl

pub empty_statements : pieces (codes "; ;;") ≡ Statement [] ∷ Statement (codes " ") ∷ Statement [] ∷ []
unfolding pieces
empty_statements = refl

pub inside_quotes : pieces (codes "p 'a;b';c;") ≡ Statement (codes "p 'a;b'") ∷ Statement (codes "c") ∷ []
unfolding pieces
inside_quotes = refl

pub doubled_quotes : pieces (codes "'it''s;';x") ≡ Statement (codes "'it''s;'") ∷ Rest (codes "x") ∷ []
unfolding pieces
doubled_quotes = refl

pub quotes_left_open : pieces (codes "a;'b;c;") ≡ Statement (codes "a") ∷ Rest (codes "'b;c;") ∷ []
unfolding pieces
quotes_left_open = refl

pub whole_ones_alone : whole_statements (codes "a; b;c ") ≡ Statement (codes "a") ∷ Statement (codes " b") ∷ []
unfolding whole_statements
whole_ones_alone = refl

-- `'b` has begun four bytes into the source, and `;` and `c` wait behind it
abbrev inside : Reading
inside = record {
  limit = 100;
  taken = 8;
  begun = record { from = 4; bytes = codes "'b"; quoted = true };
  waiting = codes ";c";
  done = false;
}

pub go_on_inside_quotes : coming inside (codes "';d") ≡ Statement (codes "'b;c'") ∷ Rest (codes "d") ∷ []
unfolding coming
go_on_inside_quotes = refl

pub none_is_whole_yet : ended inside [] ≡ []
unfolding ended
none_is_whole_yet = refl

pub one_is_whole : ended inside (codes "';d") ≡ Statement (codes "'b;c'") ∷ []
unfolding ended
one_is_whole = refl

pub nothing_after_the_end : coming (record inside { done = true }) (codes "a;b;") ≡ []
unfolding coming
nothing_after_the_end = refl
