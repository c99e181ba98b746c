-- The rows are computed.
use Rattle.std.proofs.Common.{◌≡◌, true, refl}
use Rattle.typing_rows.specs.Words.{bodies_told}
use Rattle.typing_rows.specs.Statements.{valid, incomplete, undeclared, no_lvalues, bad_operands, bad_assignments, no_functions, wrong_counts, no_members, no_scalars, bad_constants, bad_returns, misplaced, RowsOfStatements}

valid_is : bodies_told 0 valid ≡ true
valid_is = refl

incomplete_is : bodies_told 13 incomplete ≡ true
incomplete_is = refl

undeclared_is : bodies_told 15 undeclared ≡ true
undeclared_is = refl

no_lvalues_is : bodies_told 17 no_lvalues ≡ true
no_lvalues_is = refl

bad_operands_is : bodies_told 18 bad_operands ≡ true
bad_operands_is = refl

bad_assignments_is : bodies_told 19 bad_assignments ≡ true
bad_assignments_is = refl

no_functions_is : bodies_told 20 no_functions ≡ true
no_functions_is = refl

wrong_counts_is : bodies_told 21 wrong_counts ≡ true
wrong_counts_is = refl

no_members_is : bodies_told 22 no_members ≡ true
no_members_is = refl

no_scalars_is : bodies_told 23 no_scalars ≡ true
no_scalars_is = refl

bad_constants_is : bodies_told 24 bad_constants ≡ true
bad_constants_is = refl

bad_returns_is : bodies_told 25 bad_returns ≡ true
bad_returns_is = refl

misplaced_is : bodies_told 26 misplaced ≡ true
misplaced_is = refl

pub rows_of_statements : RowsOfStatements
rows_of_statements = record {
  valid_told = valid_is;
  incomplete_told = incomplete_is;
  undeclared_told = undeclared_is;
  no_lvalues_told = no_lvalues_is;
  bad_operands_told = bad_operands_is;
  bad_assignments_told = bad_assignments_is;
  no_functions_told = no_functions_is;
  wrong_counts_told = wrong_counts_is;
  no_members_told = no_members_is;
  no_scalars_told = no_scalars_is;
  bad_constants_told = bad_constants_is;
  bad_returns_told = bad_returns_is;
  misplaced_told = misplaced_is;
}
