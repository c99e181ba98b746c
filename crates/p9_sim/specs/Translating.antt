-- When the bytes of an object translate a module of C.
use Rattle.std.specs.Prelude.{◌≡◌, ◌≢◌, ◌⊎◌, ◌<◌, ℕ, zero, suc, Option, Some, None, IsSome, if◌then◌else◌, List, [], ◌∷◌, length, map, flat_map, slice_get, Contains}
use Rattle.p9_abs.specs.declared.instructions.TextDef.{TextDef}
use Rattle.p9_abs.specs.declared.modules.DataPiece.{DataPiece}
use Rattle.p9_abs.specs.declared.modules.DataPiece.TheVariants.{Raw, Address}
use Rattle.p9_abs.specs.declared.modules.Body as body
use Rattle.p9_abs.specs.declared.modules.Body.TheVariants.{Declared, Used, Text, Data, Common}
use Rattle.p9_abs.specs.declared.modules.Symbol as abs
use Rattle.p9_abs.specs.declared.modules.AModule.{AModule}
use Rattle.p9_abs.specs.Modules.{pieces_size, named_by_operand, named_by_piece, operands_of, pieces_of}
use Rattle.p9_abs.specs.Programs.{IsCodeAddress}
use Rattle.p9_object.specs.Fields.{spelling}
use Rattle.p9_object.specs.Laws.{IsObject}
use Rattle.p9_lang.specs.Types.{Tags}
use Rattle.p9_lang.specs.Layout.{size_of}
use Rattle.p9_lang.specs.Modules.{Source}
use Rattle.p9_lang.specs.Symbols as symbols
use Rattle.p9_lang.specs.Symbols.{Symbol, SymbolKind}
use Rattle.p9_sig.specs.Texts.{signature_text}
use Rattle.p9_cmean.specs.Cells.{FunctionName, Pointer, Into, ToFunction, Cell, Unset, Byte}
use Rattle.p9_cmean.specs.Access.{pointer_cells}
use Rattle.p9_cmean.specs.Declarations.{definition_of}
use Rattle.p9_cmean.specs.Joins.{Join}
use Rattle.p9_cmean.specs.Union.{Union, union_of, function_named}
use Rattle.p9_cmean.specs.FirstContents.{named_pointer, first_cells}
use Rattle.p9_cmean.specs.CRun.{callee, NoCallee, functions_of}
use Rattle.p9_sim.specs.Memory.{Ground, word_of}
use Rattle.p9_sim.specs.Playing.{AllSteps}
use Rattle.p9_sim.specs.Functions.{FnOk}

-- SYMBOLS: the object has those of the module, in their order

-- declared only, used, code of a function that has its parts, data, and data without a first content;
-- data have their sizes
abbrev pub SameKind : (size : ℕ) → SymbolKind → body.Body → Type 0
SameKind size symbols.DeclaredOnly Declared = Unit {0}
SameKind size symbols.Used Used = Unit {0}
SameKind size (symbols.Code item) (Text def) = IsSome (definition_of item)
SameKind size (symbols.Data first) (Data pieces) = pieces_size pieces ≡ size
SameKind size symbols.Common (Common bytes) = bytes ≡ size
SameKind size kind what = ⊥

-- a local symbol has no signature
abbrev pub signature_of : Tags → Symbol → Option (List ℕ)
signature_of tags a = if a.is_local then Some [] else signature_text tags a.type

pub record SameSymbol (tags : Tags) (a : Symbol) (b : abs.Symbol) : Type 0 where
  pub name : b.name ≡ a.name
  pub linkage : b.local ≡ a.is_local
  pub signature : signature_of tags a ≡ Some b.sig
  pub kind : SameKind (size_of tags a.type) a.kind b.body

-- no instruction and no piece of data names a symbol that is only declared
abbrev pub Names : (k : ℕ) → body.Body → Type 0
Names k what = Contains (map named_by_operand (operands_of what)) (Some k) ⊎ Contains (map named_by_piece (pieces_of what)) (Some k)

-- DATA

abbrev pub symbol_name : Option abs.Symbol → List ℕ
symbol_name None = []
symbol_name (Some symbol) = symbol.name

-- the cells of an address that was moved by an offset: a function's that was moved is nothing in C
abbrev pub address_cells : Pointer → (offset : ℕ) → List Cell
address_cells (Into object at) offset = pointer_cells (Into object at)
address_cells (ToFunction function) zero = pointer_cells (ToFunction function)
address_cells (ToFunction function) (suc n) = Unset ∷ Unset ∷ Unset ∷ Unset ∷ []

-- the cells that a piece of data stands for, in a program where this is module `owner`
abbrev pub piece_cells : Union → (owner : ℕ) → AModule → DataPiece → List Cell
piece_cells union owner out (Raw bytes) = map Byte bytes
piece_cells union owner out (Address symbol offset) = address_cells (named_pointer union owner (symbol_name (slice_get out.symbols symbol)) offset) offset

abbrev pub pieces_cells : Union → (owner : ℕ) → AModule → List DataPiece → List Cell
pieces_cells union owner out pieces = flat_map (piece_cells union owner out) pieces

-- PLACINGS

-- Functions have addresses of their own, which are those of code and lie before the data.
pub record IsGround (g : Ground) (union : Union) : Type 0 where
  pub code : (f : FunctionName) → callee union f ≢ NoCallee → IsCodeAddress (g.function f) × (g.function f < g.data_start)
  pub own : (f h : FunctionName) → callee union f ≢ NoCallee → callee union h ≢ NoCallee → g.function f ≡ g.function h → f ≡ h

-- the module's symbols have the addresses of what their names stand for in C
abbrev pub Agrees : Ground → (symbol : ℕ → ℕ) → Union → (owner : ℕ) → AModule → Type 0
Agrees g symbol union owner out =
    (k : ℕ) (b : abs.Symbol) → slice_get out.symbols k ≡ Some b → word_of g (map Some g.statics) (named_pointer union owner b.name 0) ≡ Some (symbol k)

-- TRANSLATIONS

-- With whatever modules these join: data has the module's first contents, and the code of each
-- function is right under every placing.
pub record IsTranslation (source : Source) (out : AModule) : Type 0 where
  pub count : length out.symbols ≡ length (symbols.symbols source)
  pub same : (k : ℕ) (a : Symbol) (b : abs.Symbol) → slice_get (symbols.symbols source) k ≡ Some a → slice_get out.symbols k ≡ Some b → SameSymbol source.tags a b
  -- whatever their linkage, no two have one name
  pub distinct : (j k : ℕ) (a b : abs.Symbol) → slice_get out.symbols j ≡ Some a → slice_get out.symbols k ≡ Some b → a.name ≡ b.name → j ≡ k
  pub defined : (j k : ℕ) (a b : abs.Symbol) → slice_get out.symbols j ≡ Some a → slice_get out.symbols k ≡ Some b → Names k a.body → b.body ≢ Declared
  pub contents : (modules : List Source) (owner k : ℕ) (a : Symbol) (b : abs.Symbol) (pieces : List DataPiece)
      → Join modules → slice_get modules owner ≡ Some source → slice_get (symbols.symbols source) k ≡ Some a → slice_get out.symbols k ≡ Some b → b.body ≡ Data pieces
      → pieces_cells (union_of modules) owner out pieces ≡ first_cells (union_of modules) (record { owner = owner; tags = source.tags; symbol = a })
  pub functions : (modules : List Source) (owner k : ℕ) (b : abs.Symbol) (def : TextDef) (g : Ground) (symbol : ℕ → ℕ)
      → Join modules → slice_get modules owner ≡ Some source → slice_get out.symbols k ≡ Some b → b.body ≡ Text def
      → IsGround g (union_of modules) → Agrees g symbol (union_of modules) owner out
      → (let name : FunctionName = function_named (union_of modules) owner b.name in
      FnOk AllSteps g symbol def ((functions_of (union_of modules)).need name) (functions_of (union_of modules)).body name)

-- the bytes are the spelling of an object that is a translation
abbrev pub Translates : Source → (bytes : List ℕ) → Type 0
Translates source bytes = (out : AModule) × IsObject out × (bytes ≡ spelling out) × IsTranslation source out
