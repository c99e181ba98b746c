-- The rows are computed.
use Rattle.std.proofs.Common.{◌≡◌, true, refl}
use Rattle.typing_rows.specs.Words.{files_told}
use Rattle.typing_rows.specs.Declarations.{valid, incomplete, ambiguous, undeclared, redeclared, no_lvalues, bad_operands, bad_assignments, no_functions, no_members, bad_constants, bad_returns, misplaced, too_many_items, RowsOfDeclarations}

valid_is : files_told 0 valid ≡ true
valid_is = refl

incomplete_is : files_told 13 incomplete ≡ true
incomplete_is = refl

ambiguous_is : files_told 14 ambiguous ≡ true
ambiguous_is = refl

undeclared_is : files_told 15 undeclared ≡ true
undeclared_is = refl

redeclared_is : files_told 16 redeclared ≡ true
redeclared_is = refl

no_lvalues_is : files_told 17 no_lvalues ≡ true
no_lvalues_is = refl

bad_operands_is : files_told 18 bad_operands ≡ true
bad_operands_is = refl

bad_assignments_is : files_told 19 bad_assignments ≡ true
bad_assignments_is = refl

no_functions_is : files_told 20 no_functions ≡ true
no_functions_is = refl

no_members_is : files_told 22 no_members ≡ true
no_members_is = refl

bad_constants_is : files_told 24 bad_constants ≡ true
bad_constants_is = refl

bad_returns_is : files_told 25 bad_returns ≡ true
bad_returns_is = refl

misplaced_is : files_told 26 misplaced ≡ true
misplaced_is = refl

too_many_items_is : files_told 28 too_many_items ≡ true
too_many_items_is = refl

pub rows_of_declarations : RowsOfDeclarations
rows_of_declarations = record {
  valid_told = valid_is;
  incomplete_told = incomplete_is;
  ambiguous_told = ambiguous_is;
  undeclared_told = undeclared_is;
  redeclared_told = redeclared_is;
  no_lvalues_told = no_lvalues_is;
  bad_operands_told = bad_operands_is;
  bad_assignments_told = bad_assignments_is;
  no_functions_told = no_functions_is;
  no_members_told = no_members_is;
  bad_constants_told = bad_constants_is;
  bad_returns_told = bad_returns_is;
  misplaced_told = misplaced_is;
  too_many_items_told = too_many_items_is;
}
