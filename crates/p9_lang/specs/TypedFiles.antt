-- Files that are typed: what their nodes stand for, their symbols, and what their initialisers write.
use Rattle.std.specs.Prelude.{◌≡◌, ℕ, Bool, true, false, List, [], ◌∷◌, ◌++◌, Some, None, Result, Ok, Err, map, filter, codes}
use Rattle.p9_lang.specs.declared.tree.CBinary.TheVariants as operator
use Rattle.p9_lang.specs.declared.tree.CUnary.TheVariants as unary
use Rattle.p9_lang.specs.declared.tree.EntryBy.TheVariants as by
use Rattle.p9_lang.specs.declared.tree.SpecWord.TheVariants as word
use Rattle.p9_lang.specs.declared.tree.Kind.TheVariants as kind
use Rattle.p9_lang.specs.Trees.{SyntaxRow, row}
use Rattle.p9_lang.specs.ExampleTrees.{leaf, tree, declaration, function, member, parameter, named_type, named, used, number, text, binary}
use Rattle.p9_lang.specs.Types.{TypeTree, Void, Char, Int, Pointer, Array, Function, TypeRow, Meant, Nothing, Outer, Static, Auto, EnumValue, TypeName}
use Rattle.p9_lang.specs.Types as types
use Rattle.p9_lang.specs.Rules.{Broken}
use Rattle.p9_lang.specs.Scopes.{exits_type}
use Rattle.p9_lang.specs.Modules.{Source}
use Rattle.p9_lang.specs.Files.{Typing, typed_file, module_of}
use Rattle.p9_lang.specs.Initialisers.{OuterBase, Content, Word, AddressOf, Bytes, Write, BrokenItem, NotConstant, TooManyItems, all_writes, initialiser_entries}
use Rattle.p9_lang.specs.Symbols.{Way, Only, Tentative, Initial, Body, Declaration, declarations, declarations_of, SymbolKind, DeclaredOnly, Used, Code, Data, Common, symbols}

-- TYPES AND MEANINGS

-- int x = 7; void main(void) { x = x + 1; exits("a"); }
abbrev pub small_file : SyntaxRow
small_file =
    row (declaration (word.Int ∷ []) (true ∷ []) (named (codes "x") ∷ number 7 ∷ [])
    ∷ function (word.Void ∷ [])
    (tree (kind.Params true true) (named (codes "main") ∷ [])
    ∷ tree kind.Block
    (tree kind.Expression
    (tree (kind.Assign None) (used (codes "x") ∷ binary operator.Add (used (codes "x") ∷ number 1 ∷ []) ∷ [])
    ∷ [])
    ∷ tree kind.Expression (tree kind.Call (used (codes "exits") ∷ text (codes "a" ∷ []) ∷ []) ∷ [])
    ∷ [])
    ∷ [])
    ∷ [])

-- int f(int a, char *) { int b; static char c[sizeof "x"]; { int d; } enum { E = 3 } e; typedef char T; return a; }
abbrev pub numbered_file : SyntaxRow
numbered_file =
    row (function (word.Int ∷ [])
    (tree (kind.Params true false)
    (named (codes "f")
    ∷ parameter (word.Int ∷ []) (named (codes "a") ∷ [])
    ∷ parameter (word.Char ∷ []) (leaf (kind.Star ([])) ∷ [])
    ∷ [])
    ∷ tree kind.Block
    (declaration (word.Int ∷ []) (false ∷ []) (named (codes "b") ∷ [])
    ∷ declaration (word.Static ∷ word.Char ∷ []) (false ∷ [])
    (tree (kind.Brackets true true)
    (named (codes "c")
    ∷ tree kind.SizeofValue (text (codes "x" ∷ []) ∷ [])
    ∷ [])
    ∷ [])
    ∷ tree kind.Block (declaration (word.Int ∷ []) (false ∷ []) (named (codes "d") ∷ []) ∷ [])
    ∷ declaration (word.Enum ([]) (Some 1) false ∷ []) (false ∷ [])
    (tree (kind.EnumConst (codes "E") true) (number 3 ∷ [])
    ∷ named (codes "e")
    ∷ [])
    ∷ declaration (word.Typedef ∷ word.Char ∷ []) (false ∷ []) (named (codes "T") ∷ [])
    ∷ tree kind.Return (used (codes "a") ∷ [])
    ∷ [])
    ∷ [])
    ∷ [])

abbrev pub stands_for_something : Meant → Bool
stands_for_something Nothing = false
stands_for_something means = true

abbrev pub meanings_in : Result Typing Broken → List Meant
meanings_in (Ok t) = filter stands_for_something t.means
meanings_in (Err broken) = []

-- what the nodes of a file stand for, in their order, without those that stand for nothing
abbrev pub meanings : SyntaxRow → List Meant
meanings items = meanings_in (typed_file items [])

-- SYMBOLS

-- extern int u; int x = 7, z; static int g(void); int h(void); static int k(void) { return h(); } void main(void) { static int s; x = u; write(1, "ab", k()); }
abbrev pub symbol_file : SyntaxRow
symbol_file =
    row (declaration (word.Extern ∷ word.Int ∷ []) (false ∷ []) (named (codes "u") ∷ [])
    ∷ declaration (word.Int ∷ []) (true ∷ false ∷ []) (named (codes "x") ∷ number 7 ∷ named (codes "z") ∷ [])
    ∷ declaration (word.Static ∷ word.Int ∷ []) (false ∷ [])
    (tree (kind.Params true true) (named (codes "g") ∷ [])
    ∷ [])
    ∷ declaration (word.Int ∷ []) (false ∷ []) (tree (kind.Params true true) (named (codes "h") ∷ []) ∷ [])
    ∷ function (word.Static ∷ word.Int ∷ [])
    (tree (kind.Params true true) (named (codes "k") ∷ [])
    ∷ tree kind.Block (tree kind.Return (tree kind.Call (used (codes "h") ∷ []) ∷ []) ∷ [])
    ∷ [])
    ∷ function (word.Void ∷ [])
    (tree (kind.Params true true) (named (codes "main") ∷ [])
    ∷ tree kind.Block
    (declaration (word.Static ∷ word.Int ∷ []) (false ∷ []) (named (codes "s") ∷ [])
    ∷ tree kind.Expression (tree (kind.Assign None) (used (codes "x") ∷ used (codes "u") ∷ []) ∷ [])
    ∷ tree kind.Expression
    (tree kind.Call
    (used (codes "write")
    ∷ number 1
    ∷ text (codes "ab" ∷ [])
    ∷ tree kind.Call (used (codes "k") ∷ [])
    ∷ [])
    ∷ [])
    ∷ [])
    ∷ [])
    ∷ [])

-- what a symbol is, in a word
abbrev pub kind_word : SymbolKind → List ℕ
kind_word DeclaredOnly = codes "declared"
kind_word Used = codes "used"
kind_word (Code item) = codes "code"
kind_word (Data first) = codes "data"
kind_word Common = codes "common"

pub record Listed : Type 0 where
  pub name : List ℕ
  pub is_local : Bool
  pub kind : List ℕ

abbrev pub listed : (is_local : Bool) → (name kind : List ℕ) → Listed
listed is_local name kind = record { name = name; is_local = is_local; kind = kind }

abbrev pub listing_of : Result Source Broken → List Listed
listing_of (Ok source) = map (λ s. listed s.is_local s.name (kind_word s.kind)) (symbols source)
listing_of (Err broken) = []

abbrev pub listing : SyntaxRow → List Listed
listing items = listing_of (module_of items [])

-- INITIALISERS

-- int t[] = { [2] = 5, 6 };
abbrev pub indexed : SyntaxRow
indexed =
    row (declaration (word.Int ∷ []) (true ∷ [])
    (tree (kind.Brackets true false) (named (codes "t") ∷ [])
    ∷ tree (kind.InitList false)
    (tree (kind.Entry by.Index true) (number 2 ∷ number 5 ∷ [])
    ∷ tree (kind.Entry by.Nothing false) (number 6 ∷ [])
    ∷ [])
    ∷ [])
    ∷ [])

-- struct S { char c[4]; struct S *next; } s = { "ab", &s };
abbrev pub linked : SyntaxRow
linked =
    row (declaration (word.Tag false (codes "S") (Some 2) ∷ []) (true ∷ [])
    (member (word.Char ∷ []) (tree (kind.Brackets true true) (named (codes "c") ∷ number 4 ∷ []) ∷ [])
    ∷ member (word.Tag false (codes "S") None ∷ []) (tree (kind.Star ([])) (named (codes "next") ∷ []) ∷ [])
    ∷ named (codes "s")
    ∷ tree (kind.InitList false)
    (tree (kind.Entry by.Nothing false) (text (codes "ab" ∷ []) ∷ [])
    ∷ tree (kind.Entry by.Nothing false) (tree (kind.Unary unary.Address) (used (codes "s") ∷ []) ∷ [])
    ∷ [])
    ∷ [])
    ∷ [])

-- int x, *p = &x + 2;
abbrev pub moved_address : SyntaxRow
moved_address =
    row (declaration (word.Int ∷ []) (false ∷ true ∷ [])
    (named (codes "x")
    ∷ tree (kind.Star ([])) (named (codes "p") ∷ [])
    ∷ binary operator.Add (tree (kind.Unary unary.Address) (used (codes "x") ∷ []) ∷ number 2 ∷ [])
    ∷ [])
    ∷ [])

-- char c = 300;
abbrev pub narrowed_number : SyntaxRow
narrowed_number =
    row (declaration (word.Char ∷ []) (true ∷ []) (named (codes "c") ∷ number 300 ∷ []) ∷ [])

-- int y, x = y;
abbrev pub not_constant : SyntaxRow
not_constant =
    row (declaration (word.Int ∷ []) (false ∷ true ∷ []) (named (codes "y") ∷ named (codes "x") ∷ used (codes "y") ∷ [])
    ∷ [])

-- int *p = (int*)0 + 1;
abbrev pub null_moved : SyntaxRow
null_moved =
    row (declaration (word.Int ∷ []) (true ∷ [])
    (tree (kind.Star ([])) (named (codes "p") ∷ [])
    ∷ binary operator.Add
    (tree kind.Cast (named_type (word.Int ∷ []) (leaf (kind.Star ([])) ∷ []) ∷ number 0 ∷ [])
    ∷ number 1
    ∷ [])
    ∷ [])
    ∷ [])

-- char w[2] = "abc";
abbrev pub long_text : SyntaxRow
long_text =
    row (declaration (word.Char ∷ []) (true ∷ [])
    (tree (kind.Brackets true true) (named (codes "w") ∷ number 2 ∷ [])
    ∷ text (codes "abc" ∷ [])
    ∷ [])
    ∷ [])

-- int t[2] = { 1, 2, 3 };
abbrev pub past_the_end : SyntaxRow
past_the_end =
    row (declaration (word.Int ∷ []) (true ∷ [])
    (tree (kind.Brackets true true) (named (codes "t") ∷ number 2 ∷ [])
    ∷ tree (kind.InitList false)
    (tree (kind.Entry by.Nothing false) (number 1 ∷ [])
    ∷ tree (kind.Entry by.Nothing false) (number 2 ∷ [])
    ∷ tree (kind.Entry by.Nothing false) (number 3 ∷ [])
    ∷ [])
    ∷ [])
    ∷ [])

abbrev pub initial_writes : Source → List Declaration → Result (List Write) BrokenItem
initial_writes source [] = Ok []
initial_writes source (d ∷ ds) = by d.way (initial_writes source ds)
  where
    by : Way → Result (List Write) BrokenItem → Result (List Write) BrokenItem
    by Only others = others
    by Tentative others = others
    by (Initial value) others = all_writes source.tags (initialiser_entries source.tags d.type value)
    by (Body item) others = others

abbrev pub writes_in : List ℕ → Result Source Broken → Result (List Write) BrokenItem
writes_in x (Ok source) = initial_writes source (declarations_of x (declarations source.items))
writes_in x (Err broken) = Ok []

-- what the initialiser of a file's object writes first into it
abbrev pub writes : List ℕ → SyntaxRow → Result (List Write) BrokenItem
writes x items = writes_in x (module_of items [])

abbrev pub at : (offset : ℕ) → TypeTree → Content → Write
at offset type content = record { offset = offset; type = type; content = content }

abbrev pub small_types : List TypeTree
small_types =
    Int ∷ Int ∷ Void ∷ Function Void types.none ∷ Function Void types.none ∷ Int ∷ Int ∷ Int ∷ Int ∷ Int ∷ Void
    ∷ exits_type ∷ Array Char 2 ∷ Void ∷ Void ∷ Void ∷ Void ∷ []

abbrev pub types_in : Result Typing Broken → List TypeTree
types_in (Ok t) = t.types
types_in (Err broken) = []

pub record TypedFiles : Type 0 where
  -- of the declaration's nodes, then those of `main`
  pub small : types_in (typed_file small_file []) ≡ small_types
  -- the text has number 1, behind the static
  pub numbered : meanings numbered_file
      ≡ Outer (codes "f") ∷ Auto 0 ∷ Auto 2 ∷ Static 0 ∷ Static 1 ∷ Auto 3 ∷ EnumValue 3 ∷ Auto 4 ∷ TypeName Char ∷ Auto 0 ∷ []
  -- a static function without a body is no symbol
  pub symbols_listed : listing symbol_file
      ≡ listed false (codes "write") (codes "used") ∷ listed false (codes "u") (codes "used") ∷ listed false (codes "x") (codes "data")
      ∷ listed false (codes "z") (codes "common") ∷ listed false (codes "h") (codes "used") ∷ listed true (codes "k") (codes "code")
      ∷ listed false (codes "main") (codes "code") ∷ listed true (codes ".0") (codes "common") ∷ listed true (codes ".1") (codes "data") ∷ []
  pub indexed_writes : writes (codes "t") indexed ≡ Ok (at 8 Int (Word 5) ∷ at 12 Int (Word 6) ∷ [])
  pub linked_writes : writes (codes "s") linked
      ≡ Ok (at 0 (Array Char 4) (Bytes (codes "ab" ++ 0 ∷ [])) ∷ at 4 (Pointer (types.Tagged 0)) (AddressOf (OuterBase (codes "s")) 0) ∷ [])
  pub moved_writes : writes (codes "p") moved_address ≡ Ok (at 0 (Pointer Int) (AddressOf (OuterBase (codes "x")) 8) ∷ [])
  pub narrowed_writes : writes (codes "c") narrowed_number ≡ Ok (at 0 Char (Word 44) ∷ [])
  pub not_constant_told : writes (codes "x") not_constant ≡ Err (record { number = 2; rule = NotConstant })
  pub null_moved_told : writes (codes "p") null_moved ≡ Err (record { number = 7; rule = NotConstant })
  pub long_text_told : writes (codes "w") long_text ≡ Err (record { number = 3; rule = TooManyItems })
  pub past_told : writes (codes "t") past_the_end ≡ Err (record { number = 8; rule = TooManyItems })
