-- A file of the form: its tokens, the types of its nodes and its symbols.
use Rattle.std.specs.Prelude.{◌≡◌, ℕ, true, false, List, [], ◌∷◌, None, codes}
use Rattle.p9_first.specs.declared.tree.CBinary.TheVariants as operator
use Rattle.p9_first.specs.declared.tree.SpecWord.TheVariants as word
use Rattle.p9_first.specs.declared.tree.Kind.{Kind}
use Rattle.p9_first.specs.declared.tree.Kind.TheVariants as kind
use Rattle.p9_first.specs.Trees.{node, none, Syntax, SyntaxRow, row}
use Rattle.p9_first.specs.Tokens.{Token, Word, Number, Text, Mark, End, file_tokens}
use Rattle.p9_first.specs.Types.{TypeTree, Void, Char, Int, Array, Function, Meant, Nothing, Outer, Static}
use Rattle.p9_first.specs.Types as types
use Rattle.p9_first.specs.Form.{IsFile}
use Rattle.p9_first.specs.Typing.{Judged, Has, judged_file, exits_type}
use Rattle.p9_first.specs.Modules.{source_from, symbol_names}

abbrev pub leaf : Kind → (at : ℕ) → Syntax
leaf k at = node k at none

abbrev pub declared_seven : Syntax
declared_seven =
    node (kind.Declaration (record { words = word.Int ∷ [] }) (true ∷ [])) 0
    (row (leaf (kind.DeclName (codes "x")) 1 ∷ leaf (kind.Number 7 false false) 3 ∷ []))

abbrev pub adds_one : Syntax
adds_one =
    node kind.Expression 11
    (row (node (kind.Assign None) 11
    (row (leaf (kind.Name (codes "x")) 11
    ∷ node (kind.Binary operator.Add) 13 (row (leaf (kind.Name (codes "x")) 13 ∷ leaf (kind.Number 1 false false) 15 ∷ []))
    ∷ []))
    ∷ []))

abbrev pub exits_with_a : Syntax
exits_with_a =
    node kind.Expression 17
    (row (node kind.Call 17 (row (leaf (kind.Name (codes "exits")) 17 ∷ leaf (kind.Text (codes "a" ∷ [])) 19 ∷ [])) ∷ []))

-- int x = 7; void main(void){ x = x + 1; exits("a"); }
abbrev pub small_file : SyntaxRow
small_file =
    row (declared_seven
    ∷ node (kind.Function (record { words = word.Void ∷ [] })) 5
    (row (node (kind.Params true true) 6 (row (leaf (kind.DeclName (codes "main")) 6 ∷ []))
    ∷ node kind.Block 10 (row (adds_one ∷ exits_with_a ∷ []))
    ∷ []))
    ∷ [])

abbrev pub small_tokens : List Token
small_tokens =
    Word (codes "int") ∷ Word (codes "x") ∷ Mark (codes "=") ∷ Number 7 false false ∷ Mark (codes ";")
    ∷ Word (codes "void") ∷ Word (codes "main") ∷ Mark (codes "(") ∷ Word (codes "void") ∷ Mark (codes ")") ∷ Mark (codes "{")
    ∷ Word (codes "x") ∷ Mark (codes "=") ∷ Word (codes "x") ∷ Mark (codes "+") ∷ Number 1 false false ∷ Mark (codes ";")
    ∷ Word (codes "exits") ∷ Mark (codes "(") ∷ Text (codes "a") ∷ Mark (codes ")") ∷ Mark (codes ";")
    ∷ Mark (codes "}") ∷ End ∷ []

-- of the declaration's nodes, then those of `main`
abbrev pub small_types : List Judged
small_types =
    Has Int (Outer (codes "x")) ∷ Has Int Nothing ∷ Has Void Nothing
    ∷ Has (Function Void types.none) (Outer (codes "main")) ∷ Has (Function Void types.none) Nothing
    ∷ Has Int (Outer (codes "x")) ∷ Has Int (Outer (codes "x")) ∷ Has Int Nothing ∷ Has Int Nothing ∷ Has Int Nothing ∷ Has Void Nothing
    ∷ Has exits_type (Outer (codes "exits")) ∷ Has (Array Char 2) (Static 0) ∷ Has Void Nothing ∷ Has Void Nothing
    ∷ Has Void Nothing ∷ Has Void Nothing ∷ []

pub record SmallFile : Type 0 where
  pub file : IsFile small_file
  pub written : file_tokens small_file ≡ small_tokens
  pub types : judged_file small_file ≡ small_types
  pub symbols : symbol_names (source_from small_file) ≡ codes "exits" ∷ codes "x" ∷ codes "main" ∷ []
