-- In every program that a module is part of, its names stand for the same in the source and in the trees.
use Rattle.std.proofs.Common.{◌≡◌, ℕ, suc, ◌+◌, ◌==◌, Bool, true, false, if◌then◌else◌, List, [], ◌∷◌, slice_get, option_map, Option, Some, None, refl, sym, ap, ◌∙◌, subst, add-zero, arith}
use Rattle.std.proofs.lemmas.Bool.{eqb-true}
use Rattle.p9_base.specs.Words.{word_sum}
use Rattle.p9_lang.specs.Names.{same_name}
use Rattle.p9_lang.specs.Types.{TypeTree, Function, Tags}
use Rattle.p9_lang.specs.Conversions.{is_function}
use Rattle.p9_lang.specs.Modules.{Source}
use Rattle.p9_lang.specs.Symbols.{Symbol, SymbolKind, symbols}
use Rattle.p9_cmean.specs.Cells.{FunctionName, Pointer, ToFunction}
use Rattle.p9_cmean.specs.Access.{with_offset}
use Rattle.p9_cmean.specs.Union.{Union, union_of, number_from, object_number, static_number, function_named, has_number}
use Rattle.p9_cmean.specs.FirstContents.{into}
use Rattle.p9_cmean.specs.Expressions.{outer_pointer}
use Rattle.p9_cmean.specs.CRun.{surroundings, start_of}
use Rattle.p9_tree.specs.TRun.{symbol_pointer, symbols_at, environment}
use Rattle.p9_lower.specs.Names.{has_no_number, is_outer_symbol, is_static_symbol}
use Rattle.p9_lower.specs.Keeping.{is_function_at, Agree}
use Rattle.p9_lower.proofs.Truths.{left_true, right_true}

-- FOUND SYMBOLS

pub record Found {A : Type 0} (passes : A → Bool) (xs : List A) (k : ℕ) : Type 0 where
  pub it : A
  pub stands : slice_get xs k ≡ Some it
  pub fits : passes it ≡ true

-- a number found, counted from another
found_from : {A : Type 0} (passes : A → Bool) (xs : List A) (i k : ℕ) → number_from i passes xs ≡ Some k → (j : ℕ) × (k ≡ i + j) × Found passes xs j
found_from passes [] i k e = cc
found_from passes (x ∷ xs) i k e = by (passes x) refl e (λ h. found_from passes xs (suc i) k h)
  where
    by : (b : Bool) → passes x ≡ b → (if b then Some i else number_from (suc i) passes xs) ≡ Some k
        → (number_from (suc i) passes xs ≡ Some k → (j : ℕ) × (k ≡ suc i + j) × Found passes xs j) → (j : ℕ) × (k ≡ i + j) × Found passes (x ∷ xs) j
    by true p e next = let f : i ≡ k = cc in (0, sym f ∙ sym (add-zero i), record { it = x; stands = refl; fits = p })
    by false p e next =
        let r = next e in
        (suc r.0, r.1 ∙ omega arith, record { it = r.2.it; stands = r.2.stands; fits = r.2.fits })

pub found : {A : Type 0} (passes : A → Bool) (xs : List A) (k : ℕ) → number_from 0 passes xs ≡ Some k → Found passes xs k
found passes xs k e =
    let r = found_from passes xs 0 k e in
    let f : r.0 ≡ k = omega (arith, r.1) in
    subst (Found passes xs) f r.2

pub names_are : (x y : List ℕ) → same_name x y ≡ true → x ≡ y
names_are [] [] e = refl
names_are [] (y ∷ ys) e = cc
names_are (x ∷ xs) [] e = cc
names_are (x ∷ xs) (y ∷ ys) e =
    ap (λ k. k ∷ xs) (eqb-true x y (left_true (x == y) (same_name xs ys) e)) ∙ ap (λ l. y ∷ l) (names_are xs ys (right_true (x == y) (same_name xs ys) e))

pub no_number : (o : Option ℕ) → has_no_number o ≡ true → o ≡ None
no_number None e = refl
no_number (Some n) e = cc

pub a_number : (n : ℕ) (o : Option ℕ) → has_number n o ≡ true → o ≡ Some n
a_number n None e = cc
a_number n (Some m) e = ap (λ k. Some k) (eqb-true m n e)

-- whether a found symbol is a function
at_symbol : (xs : List Symbol) (k : ℕ) (s : Symbol) (b : Bool) → slice_get xs k ≡ Some s → is_function_at xs (Some k) ≡ Some b → is_function s.type ≡ b
at_symbol xs k s b e h = let f : option_map (λ t. is_function t.type) (Some s) ≡ Some b = subst (λ o. option_map (λ t. is_function t.type) o ≡ Some b) e h in cc

-- POINTERS

start_is : (o : Option ℕ) → into o 0 ≡ start_of o
start_is None = refl
start_is (Some n) = refl

abbrev pub a_symbol : (name : List ℕ) (static : Option ℕ) (is_local : Bool) (type : TypeTree) (kind : SymbolKind) → Symbol
a_symbol name static is_local type kind = record { name = name; static = static; is_local = is_local; type = type; kind = kind }

outer_fields : (program : Union) (owner : ℕ) (tags : Tags) (type : TypeTree) (name : List ℕ) (name' : List ℕ) (static : Option ℕ) (l : Bool) (type' : TypeTree) (kd : SymbolKind)
    → is_function type' ≡ is_function type → static ≡ None → name ≡ name'
    → symbol_pointer program owner (Some (a_symbol name' static l type' kd)) 0 ≡ outer_pointer (surroundings program owner tags) type name
outer_fields program owner tags type name name' (Some n) l type' kd f c e = cc
outer_fields program owner tags (Function r ps) name name' None l type' kd f c e =
    ap (λ b. if b then Some (ToFunction (function_named program owner name')) else into (object_number program owner name') 0) f
    ∙ ap (λ n. Some (ToFunction (function_named program owner n))) (sym e)
outer_fields program owner tags type name name' None l type' kd f c e =
    ap (λ b. if b then Some (ToFunction (function_named program owner name')) else into (object_number program owner name') 0) f
    ∙ start_is (object_number program owner name') ∙ ap (λ n. start_of (object_number program owner n)) (sym e)

static_fields : (program : Union) (owner number : ℕ) (name : List ℕ) (static : Option ℕ) (l : Bool) (type : TypeTree) (kd : SymbolKind)
    → is_function type ≡ false → static ≡ Some number
    → symbol_pointer program owner (Some (a_symbol name static l type kd)) 0 ≡ start_of (static_number program owner number)
static_fields program owner number name None l type kd f c = cc
static_fields program owner number name (Some n) l type kd f c =
    let e : n ≡ number = cc in
    ap (λ b. if b then Some (ToFunction (function_named program owner name)) else into (static_number program owner n) 0) f
    ∙ start_is (static_number program owner n) ∙ ap (λ k. start_of (static_number program owner k)) e

into_moves : (o : Option ℕ) (offset bytes : ℕ) → into o (word_sum offset bytes) ≡ option_map (with_offset (λ start. word_sum start bytes)) (into o offset)
into_moves None offset bytes = refl
into_moves (Some n) offset bytes = refl

either_moves : (b : Bool) (f : Pointer) (g : FunctionName) (o : Option ℕ) (offset bytes : ℕ) → f ≡ ToFunction g
    → (if b then Some f else into o (word_sum offset bytes)) ≡ option_map (with_offset (λ start. word_sum start bytes)) (if b then Some f else into o offset)
either_moves true f g o offset bytes e = subst (λ p. Some p ≡ option_map (with_offset (λ start. word_sum start bytes)) (Some p)) (sym e) refl
either_moves false f g o offset bytes e = into_moves o offset bytes

fields_move : (program : Union) (owner : ℕ) (name : List ℕ) (static : Option ℕ) (l : Bool) (type : TypeTree) (kd : SymbolKind) (offset bytes : ℕ)
    → symbol_pointer program owner (Some (a_symbol name static l type kd)) (word_sum offset bytes)
    ≡ option_map (with_offset (λ start. word_sum start bytes)) (symbol_pointer program owner (Some (a_symbol name static l type kd)) offset)
fields_move program owner name None l type kd offset bytes =
    either_moves (is_function type) (ToFunction (function_named program owner name)) (function_named program owner name) (object_number program owner name) offset bytes refl
fields_move program owner name (Some n) l type kd offset bytes =
    either_moves (is_function type) (ToFunction (function_named program owner name)) (function_named program owner name) (static_number program owner n) offset bytes refl

symbol_moves : (program : Union) (owner : ℕ) (s : Option Symbol) (offset bytes : ℕ)
    → symbol_pointer program owner s (word_sum offset bytes) ≡ option_map (with_offset (λ start. word_sum start bytes)) (symbol_pointer program owner s offset)
symbol_moves program owner None offset bytes = refl
symbol_moves program owner (Some s) offset bytes = fields_move program owner s.name s.static s.is_local s.type s.kind offset bytes

-- which symbol a number is in a module
symbol_here : (modules : List Source) (owner : ℕ) (m : Source) (k : ℕ) (s : Symbol) → slice_get modules owner ≡ Some m → slice_get (symbols m) k ≡ Some s
    → slice_get (symbols_at (slice_get modules owner)) k ≡ Some s
symbol_here modules owner m k s e h = ap (λ o. slice_get (symbols_at o) k) e ∙ h

pub names_agree : (modules : List Source) (owner : ℕ) (m : Source) → slice_get modules owner ≡ Some m
    → Agree (symbols m) (surroundings (union_of modules) owner m.tags) (environment (union_of modules) owner)
names_agree modules owner m e = record {
  outer = λ name type k i h.
      let f : Found (is_outer_symbol name) (symbols m) k = found (is_outer_symbol name) (symbols m) k i in
      ap (λ o. symbol_pointer (union_of modules) owner o 0) (symbol_here modules owner m k f.it e f.stands)
      ∙ outer_fields (union_of modules) owner m.tags type name f.it.name f.it.static f.it.is_local f.it.type f.it.kind
      (at_symbol (symbols m) k f.it (is_function type) f.stands h)
      (no_number f.it.static (left_true (has_no_number f.it.static) (same_name name f.it.name) f.fits))
      (names_are name f.it.name (right_true (has_no_number f.it.static) (same_name name f.it.name) f.fits));
  static = λ number k i h.
      let f : Found (is_static_symbol number) (symbols m) k = found (is_static_symbol number) (symbols m) k i in
      ap (λ o. symbol_pointer (union_of modules) owner o 0) (symbol_here modules owner m k f.it e f.stands)
      ∙ static_fields (union_of modules) owner number f.it.name f.it.static f.it.is_local f.it.type f.it.kind
      (at_symbol (symbols m) k f.it false f.stands h) (a_number number f.it.static f.fits);
  moved = λ k offset bytes. symbol_moves (union_of modules) owner (slice_get (symbols_at (slice_get modules owner)) k) offset bytes;
  automatics = refl;
}
