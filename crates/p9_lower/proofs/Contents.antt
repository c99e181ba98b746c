-- The first contents of a module's objects.
use Rattle.std.proofs.Common.{◌≡◌, ◌<◌, ◌≤◌, ℕ, zero, suc, ◌+◌, ◌/◌, ◌%◌, ◌==◌, ◌&&◌, ◌||◌, nat_lt, Bool, true, false, not, if◌then◌else◌, List, [], ◌∷◌, ◌++◌, map, length, Option, Some, None, refl, sym, ap, ◌∙◌, subst, arith}
use Rattle.std.proofs.lemmas.Bool.Decides.{nat_tests}
use Rattle.p9_base.specs.Numbers.{sign_extended}
use Rattle.p9_base.specs.Words.{low16}
use Rattle.p9_lang.specs.Types.{TypeTree, Char, UChar, Short, UShort, Int, UInt, Long, ULong, Tags}
use Rattle.p9_lang.specs.Layout.{size_of}
use Rattle.p9_lang.specs.Conversions.{is_integer}
use Rattle.p9_lang.specs.Constants.{narrowed}
use Rattle.p9_cmean.specs.Cells.{Cell, Byte}
use Rattle.p9_cmean.specs.Access.{number_cells}
use Rattle.std.proofs.Common.{Result, Ok, Err, slice_get}
use Rattle.std.proofs.Common.{replicate}
use Rattle.std.proofs.lemmas.List.{length-map, length-replicate}
use Rattle.std.proofs.lemmas.Bool.{eqb-true, not-true}
use Rattle.p9_lang.specs.Names.{same_name}
use Rattle.p9_lang.specs.Conversions.{is_pointer}
use Rattle.p9_lang.specs.Initialisers.{Base, OuterBase, StaticBase, ItemRule, NotConstant, TooManyItems, BrokenItem}
use Rattle.p9_lang.specs.Initialisers as source
use Rattle.p9_lang.specs.Modules.{Source}
use Rattle.p9_lang.specs.Symbols.{Symbol, SymbolKind, DeclaredOnly, Used, Code, Data, Common, symbols}
use Rattle.p9_cmean.specs.Cells.{Pointer}
use Rattle.p9_cmean.specs.Union.{Union, union_of, static_number}
use Rattle.p9_cmean.specs.FirstContents.{into, named_pointer, base_pointer, address_cells, with_entry}
use Rattle.p9_cmean.specs.FirstContents as first
use Rattle.p9_tree.specs.Trees.{Const, Addr}
use Rattle.p9_tree.specs.Modules.{Entry}
use Rattle.p9_tree.specs.Contents as typed
use Rattle.p9_tree.specs.Means.{ContentsMean, InitialisersMean, data_symbols}
use Rattle.p9_lower.specs.Names.{has_no_number, is_outer_symbol, is_static_symbol}
use Rattle.p9_lower.specs.Modules.{setting_of, base_symbol, entry, byte_entries, fixed_address, content_entries, write_entries, broken_entry, first_entries, initialisers_from}
use Rattle.p9_lower.specs.Premises.{are_bytes, is_empty, is_found, lies_inside, content_is_sound, writes_are_sound, first_is_sound, firsts_are_sound}
use Rattle.p9_lower.specs.Laws.{ContentsMeanSame}
use Rattle.p9_lower.proofs.Agreeing.{Found, found, names_are, no_number, a_number}
use Rattle.p9_lower.proofs.Bytes.{entry_length, next_byte}

-- NUMBERS: a store takes the low bytes

low_byte : (w : ℕ) (c : Bool) → (if c then w % 256 else w % 256 + 4294967040) / 1 % 256 ≡ w / 1 % 256
low_byte w true = omega arith
low_byte w false = omega arith

low_bytes : (w : ℕ) (c : Bool) → (if c then w % 65536 else w % 65536 + 4294901760) / 1 % 256 ≡ w / 1 % 256
low_bytes w true = omega arith
low_bytes w false = omega arith

high_byte : (w : ℕ) (c : Bool) → (if c then w % 65536 else w % 65536 + 4294901760) / 256 % 256 ≡ w / 256 % 256
high_byte w true = omega arith
high_byte w false = omega arith

pub stored_low : (tags : Tags) (type : TypeTree) (w : ℕ) → is_integer type ≡ true → number_cells (size_of tags type) (narrowed type w) ≡ number_cells (size_of tags type) w
stored_low tags Char w h = ap (λ n. Byte n ∷ []) (low_byte w (nat_lt (w % 256) 128))
stored_low tags UChar w h = ap (λ n. Byte n ∷ []) (low_byte w true)
stored_low tags Short w h = ap (λ n. Byte n ∷ (Byte (sign_extended 16 w / 1 % 256) ∷ [])) (high_byte w (nat_lt (w % 65536) 32768)) ∙ ap (λ n. Byte (w / 256 % 256) ∷ (Byte n ∷ [])) (low_bytes w (nat_lt (w % 65536) 32768))
stored_low tags UShort w h = ap (λ n. Byte n ∷ (Byte (low16 w / 1 % 256) ∷ [])) (high_byte w true) ∙ ap (λ n. Byte (w / 256 % 256) ∷ (Byte n ∷ [])) (low_bytes w true)
stored_low tags Int w h = refl
stored_low tags UInt w h = refl
stored_low tags Long w h = refl
stored_low tags ULong w h = refl
stored_low tags type w h = cc

byte_is : (b : ℕ) (c : Bool) → b < 256 → (if c then b % 256 else b % 256 + 4294967040) / 1 % 256 ≡ b
byte_is b true h = omega arith
byte_is b false h = omega arith

pub byte_cells : (b : ℕ) → nat_lt b 256 ≡ true → number_cells 1 (narrowed Char b) ≡ Byte b ∷ []
byte_cells b h =
    let g : b < 256 = grind (arith, nat_tests) in
    ap (λ n. Byte n ∷ []) (byte_is b (nat_lt (b % 256) 128) g)

-- WRITES: those of the entries that are made of a write

abbrev pub typed_write : (offset : ℕ) → TypeTree → typed.Content → typed.Write
typed_write offset type content = record { offset = offset; type = type; content = content }

abbrev pub byte_writes : (offset : ℕ) → List ℕ → List typed.Write
byte_writes offset [] = []
byte_writes offset (byte ∷ bytes) = typed_write offset Char (typed.Word (narrowed Char byte)) ∷ byte_writes (suc offset) bytes

one_write : (e : Entry) (es : List Entry) (w : typed.Write) (ws : List typed.Write) → typed.entry_write e ≡ Ok w → typed.writes_of es ≡ Ok ws → typed.writes_of (e ∷ es) ≡ Ok (w ∷ ws)
one_write e es w ws h g = ap (λ r. typed.with_write r (typed.writes_of es)) h ∙ ap (λ r. typed.with_write (Ok w) r) g

bytes_give : (offset : ℕ) (bytes : List ℕ) (es : List Entry) (ws : List typed.Write) → typed.writes_of es ≡ Ok ws
    → typed.writes_of (byte_entries offset bytes ++ es) ≡ Ok (byte_writes offset bytes ++ ws)
bytes_give offset [] es ws h = h
bytes_give offset (b ∷ bs) es ws h =
    one_write (entry offset Char (Const b)) (byte_entries (suc offset) bs ++ es) (typed_write offset Char (typed.Word (narrowed Char b))) (byte_writes (suc offset) bs ++ ws)
    refl (bytes_give (suc offset) bs es ws h)

writes_append : (program : Union) (owner : ℕ) (all : List Symbol) (tags : Tags) (xs ys : List typed.Write) (cells : List Cell)
    → typed.with_writes program owner all tags (xs ++ ys) cells ≡ typed.with_writes program owner all tags ys (typed.with_writes program owner all tags xs cells)
writes_append program owner all tags [] ys cells = refl
writes_append program owner all tags (x ∷ xs) ys cells =
    writes_append program owner all tags xs ys (with_entry x.offset (typed.content_cells program owner all (size_of tags x.type) x.content) cells)

-- the bytes of a string
both_left : (a b : Bool) → (a && b) ≡ true → a ≡ true
both_left true b e = refl
both_left false b e = cc

both_right : (a b : Bool) → (a && b) ≡ true → b ≡ true
both_right true b e = e
both_right false b e = cc

bytes_written : (program : Union) (owner : ℕ) (all : List Symbol) (tags : Tags) (offset byte : ℕ) (bytes : List ℕ) (cells : List Cell)
    → are_bytes (byte ∷ bytes) ≡ true → offset + suc (length bytes) ≤ length cells
    → typed.with_writes program owner all tags (byte_writes offset (byte ∷ bytes)) cells ≡ with_entry offset (map Byte (byte ∷ bytes)) cells
bytes_written program owner all tags offset byte [] cells h g =
    ap (λ l. with_entry offset l cells) (byte_cells byte (both_left (nat_lt byte 256) true h))
bytes_written program owner all tags offset byte (next ∷ bytes) cells h g =
    let first : number_cells 1 (narrowed Char byte) ≡ Byte byte ∷ [] = byte_cells byte (both_left (nat_lt byte 256) (are_bytes (next ∷ bytes)) h) in
    let kept : length (with_entry offset (Byte byte ∷ []) cells) ≡ length cells = entry_length offset (Byte byte ∷ []) cells (omega arith) in
    let l : length (map Byte (next ∷ bytes)) ≡ suc (length bytes) = length-map (next ∷ bytes) Byte in
    let n : suc offset ≡ offset + 1 = omega arith in
    ap (λ c. typed.with_writes program owner all tags (byte_writes (suc offset) (next ∷ bytes)) (with_entry offset c cells)) first
    ∙ bytes_written program owner all tags (suc offset) next bytes (with_entry offset (Byte byte ∷ []) cells) (both_right (nat_lt byte 256) (are_bytes (next ∷ bytes)) h) (omega arith)
    ∙ ap (λ k. with_entry k (map Byte (next ∷ bytes)) (with_entry offset (Byte byte ∷ []) cells)) n
    ∙ next_byte offset byte (map Byte (next ∷ bytes)) cells (omega arith) (omega arith)

-- ADDRESSES

first_fields : (program : Union) (owner : ℕ) (name name' : List ℕ) (static : Option ℕ) (l : Bool) (type : TypeTree) (kd : SymbolKind) (offset : ℕ)
    → static ≡ None → name ≡ name'
    → typed.first_pointer program owner (Some (record { name = name'; static = static; is_local = l; type = type; kind = kd })) offset ≡ Some (named_pointer program owner name offset)
first_fields program owner name name' None l type kd offset c e = ap (λ n. Some (named_pointer program owner n offset)) (sym e)
first_fields program owner name name' (Some n) l type kd offset c e = cc

static_first : (program : Union) (owner number : ℕ) (name : List ℕ) (static : Option ℕ) (l : Bool) (type : TypeTree) (kd : SymbolKind) (offset : ℕ)
    → static ≡ Some number
    → typed.first_pointer program owner (Some (record { name = name; static = static; is_local = l; type = type; kind = kd })) offset ≡ into (static_number program owner number) offset
static_first program owner number name None l type kd offset c = cc
static_first program owner number name (Some n) l type kd offset c = let e : n ≡ number = cc in ap (λ k. into (static_number program owner k) offset) e

base_first : (program : Union) (owner : ℕ) (m : Source) (base : Base) (k offset : ℕ) → base_symbol (setting_of m) base ≡ Some k
    → typed.first_pointer program owner (slice_get (symbols m) k) offset ≡ base_pointer program owner base offset
base_first program owner m (OuterBase name) k offset e =
    let f : Found (is_outer_symbol name) (symbols m) k = found (is_outer_symbol name) (symbols m) k e in
    ap (λ o. typed.first_pointer program owner o offset) f.stands
    ∙ first_fields program owner name f.it.name f.it.static f.it.is_local f.it.type f.it.kind offset
    (no_number f.it.static (both_left (has_no_number f.it.static) (same_name name f.it.name) f.fits))
    (names_are name f.it.name (both_right (has_no_number f.it.static) (same_name name f.it.name) f.fits))
base_first program owner m (StaticBase number) k offset e =
    let f : Found (is_static_symbol number) (symbols m) k = found (is_static_symbol number) (symbols m) k e in
    ap (λ o. typed.first_pointer program owner o offset) f.stands
    ∙ static_first program owner number f.it.name f.it.static f.it.is_local f.it.type f.it.kind offset (a_number number f.it.static f.fits)

-- ONE WRITE: its entries give writes, which leave the same cells

inside_is : (size offset length : ℕ) → lies_inside size offset length ≡ true → offset + length ≤ size
inside_is size offset length h = grind (arith, nat_tests)

numbers_long : (size n : ℕ) → length (number_cells size n) ≡ size
numbers_long zero n = refl
numbers_long (suc size) n = ap (λ k. suc k) (numbers_long size n)

pub record Written (m : Source) (program : Union) (owner size : ℕ) (w : source.Write) : Type 0 where
  pub writes : List typed.Write
  pub give : (es : List Entry) (ws : List typed.Write) → typed.writes_of es ≡ Ok ws
      → typed.writes_of (content_entries (setting_of m) w.offset w.type w.content ++ es) ≡ Ok (writes ++ ws)
  pub leave : (cells : List Cell) → length cells ≡ size
      → typed.with_writes program owner (symbols m) m.tags writes cells ≡ with_entry w.offset (first.content_cells program owner (size_of m.tags w.type) w.content) cells
  pub inside : w.offset + length (first.content_cells program owner (size_of m.tags w.type) w.content) ≤ size

address_long : (o : Option Pointer) → length (address_cells o) ≡ 4
address_long None = refl
address_long (Some p) = refl

word_by : (m : Source) (program : Union) (owner size offset : ℕ) (type : TypeTree) (word : ℕ) (integer : Bool) → is_integer type ≡ integer → (integer || (word == 0)) ≡ true
    → offset + size_of m.tags type ≤ size → Written m program owner size (record { offset = offset; type = type; content = source.Word word })
word_by m program owner size offset type word true e h i = record {
  writes = typed_write offset type (typed.Word (narrowed type word)) ∷ [];
  give = λ es ws g. one_write (entry offset type (Const word)) es (typed_write offset type (typed.Word (narrowed type word))) ws
      (ap (λ b. typed.written (entry offset type (Const word)) (if b then Some (typed.Word (narrowed type word)) else (if word == 0 then Some (typed.Word 0) else None))) e) g;
  leave = λ cells l. ap (λ c. with_entry offset c cells) (stored_low m.tags type word e);
  inside = subst (λ n. offset + n ≤ size) (sym (numbers_long (size_of m.tags type) word)) i;
}
word_by m program owner size offset type word false e h i =
    let z : word ≡ 0 = eqb-true word 0 h in
    record {
      writes = typed_write offset type (typed.Word 0) ∷ [];
      give = λ es ws g. one_write (entry offset type (Const word)) es (typed_write offset type (typed.Word 0)) ws
          (ap (λ b. typed.written (entry offset type (Const word)) (if b then Some (typed.Word (narrowed type word)) else (if word == 0 then Some (typed.Word 0) else None))) e
          ∙ ap (λ b. typed.written (entry offset type (Const word)) (if b then Some (typed.Word 0) else None)) h) g;
      leave = λ cells l. ap (λ n. with_entry offset (number_cells (size_of m.tags type) n) cells) (sym z);
      inside = subst (λ n. offset + n ≤ size) (sym (numbers_long (size_of m.tags type) word)) i;
    }

address_by : (m : Source) (program : Union) (owner size offset : ℕ) (type : TypeTree) (base : Base) (moved : ℕ) (o : Option ℕ) → base_symbol (setting_of m) base ≡ o
    → is_pointer type ≡ true → is_found o ≡ true → offset + 4 ≤ size → Written m program owner size (record { offset = offset; type = type; content = source.AddressOf base moved })
address_by m program owner size offset type base moved None e p f i = cc
address_by m program owner size offset type base moved (Some k) e p f i = record {
  writes = typed_write offset type (typed.AddressOf k moved) ∷ [];
  give = λ es ws g. one_write (entry offset type (fixed_address (base_symbol (setting_of m) base) moved)) es (typed_write offset type (typed.AddressOf k moved)) ws
      (ap (λ o. typed.entry_write (entry offset type (fixed_address o moved))) e
      ∙ ap (λ b. typed.written (entry offset type (Addr k moved)) (if b then Some (typed.AddressOf k moved) else None)) p) g;
  leave = λ cells l. ap (λ q. with_entry offset (address_cells q) cells) (base_first program owner m base k moved e);
  inside = subst (λ n. offset + n ≤ size) (sym (address_long (base_pointer program owner base moved))) i;
}

string_by : (m : Source) (program : Union) (owner size offset : ℕ) (type : TypeTree) (bytes : List ℕ) → are_bytes bytes ≡ true → is_empty bytes ≡ false
    → offset + length bytes ≤ size → Written m program owner size (record { offset = offset; type = type; content = source.Bytes bytes })
string_by m program owner size offset type [] h f i = cc
string_by m program owner size offset type (b ∷ bs) h f i = record {
  writes = byte_writes offset (b ∷ bs);
  give = λ es ws g. bytes_give offset (b ∷ bs) es ws g;
  leave = λ cells l. bytes_written program owner (symbols m) m.tags offset b bs cells h (omega arith);
  inside = subst (λ n. offset + n ≤ size) (sym (length-map (b ∷ bs) Byte)) i;
}

one_written : (m : Source) (program : Union) (owner size offset : ℕ) (type : TypeTree) (content : source.Content) → content_is_sound (setting_of m) size offset type content ≡ true
    → Written m program owner size (record { offset = offset; type = type; content = content })
one_written m program owner size offset type (source.Word word) h =
    word_by m program owner size offset type word (is_integer type) refl (both_left (is_integer type || (word == 0)) (lies_inside size offset (size_of m.tags type)) h)
    (inside_is size offset (size_of m.tags type) (both_right (is_integer type || (word == 0)) (lies_inside size offset (size_of m.tags type)) h))
one_written m program owner size offset type (source.AddressOf base moved) h =
    let g : (is_found (base_symbol (setting_of m) base) && lies_inside size offset 4) ≡ true =
    both_right (is_pointer type) (is_found (base_symbol (setting_of m) base) && lies_inside size offset 4) h in
    address_by m program owner size offset type base moved (base_symbol (setting_of m) base) refl
    (both_left (is_pointer type) (is_found (base_symbol (setting_of m) base) && lies_inside size offset 4) h)
    (both_left (is_found (base_symbol (setting_of m) base)) (lies_inside size offset 4) g)
    (inside_is size offset 4 (both_right (is_found (base_symbol (setting_of m) base)) (lies_inside size offset 4) g))
one_written m program owner size offset type (source.Bytes bytes) h =
    let g : (not (is_empty bytes) && lies_inside size offset (length bytes)) ≡ true = both_right (are_bytes bytes) (not (is_empty bytes) && lies_inside size offset (length bytes)) h in
    string_by m program owner size offset type bytes (both_left (are_bytes bytes) (not (is_empty bytes) && lies_inside size offset (length bytes)) h)
    (not-true (is_empty bytes) (both_left (not (is_empty bytes)) (lies_inside size offset (length bytes)) g))
    (inside_is size offset (length bytes) (both_right (not (is_empty bytes)) (lies_inside size offset (length bytes)) g))

-- ALL WRITES

pub record AllWritten (m : Source) (program : Union) (owner size : ℕ) (ws : List source.Write) : Type 0 where
  pub writes : List typed.Write
  pub give : typed.writes_of (write_entries (setting_of m) ws) ≡ Ok writes
  pub leave : (cells : List Cell) → length cells ≡ size
      → typed.with_writes program owner (symbols m) m.tags writes cells ≡ first.with_writes program owner m.tags ws cells

all_written : (m : Source) (program : Union) (owner size : ℕ) (ws : List source.Write) → writes_are_sound (setting_of m) size ws ≡ true → AllWritten m program owner size ws
all_written m program owner size [] h = record { writes = []; give = refl; leave = λ cells l. refl }
all_written m program owner size (w ∷ ws) h =
    let a : Written m program owner size w = one_written m program owner size w.offset w.type w.content
    (both_left (content_is_sound (setting_of m) size w.offset w.type w.content) (writes_are_sound (setting_of m) size ws) h) in
    let b : AllWritten m program owner size ws = all_written m program owner size ws
    (both_right (content_is_sound (setting_of m) size w.offset w.type w.content) (writes_are_sound (setting_of m) size ws) h) in
    record {
      writes = a.writes ++ b.writes;
      give = a.give (write_entries (setting_of m) ws) b.writes b.give;
      leave = λ cells l.
          writes_append program owner (symbols m) m.tags a.writes b.writes cells
          ∙ ap (λ c. typed.with_writes program owner (symbols m) m.tags b.writes c) (a.leave cells l)
          ∙ b.leave (with_entry w.offset (first.content_cells program owner (size_of m.tags w.type) w.content) cells)
          (entry_length w.offset (first.content_cells program owner (size_of m.tags w.type) w.content) cells (subst (λ n. w.offset + length (first.content_cells program owner (size_of m.tags w.type) w.content) ≤ n) (sym l) a.inside) ∙ l);
    }

-- INITIALISERS

zeros_long : (n : ℕ) → length (replicate n (Byte 0)) ≡ n
zeros_long n = length-replicate n (Byte 0)

broken_by : (number : ℕ) (rule : ItemRule) → typed.writes_of (broken_entry (record { number = number; rule = rule }) ∷ []) ≡ Err (record { number = number; rule = rule })
broken_by number NotConstant = refl
broken_by number TooManyItems = refl

contents_by : (m : Source) (program : Union) (owner : ℕ) (name : List ℕ) (static : Option ℕ) (l : Bool) (type : TypeTree) (f : Result (List source.Write) BrokenItem)
    → first_is_sound (setting_of m) (size_of m.tags type) f ≡ true
    → ContentsMean program owner (symbols m) m.tags (record { name = name; static = static; is_local = l; type = type; kind = Data f }) f (typed.writes_of (first_entries (setting_of m) f))
contents_by m program owner name static l type (Err broken) h = broken_by broken.number broken.rule
contents_by m program owner name static l type (Ok ws) h =
    let a : AllWritten m program owner (size_of m.tags type) ws = all_written m program owner (size_of m.tags type) ws h in
    subst (λ r. ContentsMean program owner (symbols m) m.tags (record { name = name; static = static; is_local = l; type = type; kind = Data (Ok ws) }) (Ok ws) r) (sym a.give)
    (a.leave (replicate (size_of m.tags type) (Byte 0)) (zeros_long (size_of m.tags type)))

module _ (m : Source) (program : Union) (owner : ℕ) where
  symbol_by : (name : List ℕ) (static : Option ℕ) (l : Bool) (type : TypeTree) (kd : SymbolKind) (ss : List Symbol) (k : ℕ)
      → firsts_are_sound (setting_of m) (data_symbols (record { name = name; static = static; is_local = l; type = type; kind = kd } ∷ ss)) ≡ true
      → (firsts_are_sound (setting_of m) (data_symbols ss) ≡ true → InitialisersMean program owner (symbols m) m.tags (data_symbols ss) (initialisers_from (setting_of m) (suc k) ss))
      → InitialisersMean program owner (symbols m) m.tags (data_symbols (record { name = name; static = static; is_local = l; type = type; kind = kd } ∷ ss))
      (initialisers_from (setting_of m) k (record { name = name; static = static; is_local = l; type = type; kind = kd } ∷ ss))
  symbol_by name static l type DeclaredOnly ss k h g = g h
  symbol_by name static l type Used ss k h g = g h
  symbol_by name static l type (Code item) ss k h g = g h
  symbol_by name static l type (Data f) ss k h g = (
    contents_by m program owner name static l type f (both_left (first_is_sound (setting_of m) (size_of m.tags type) f) (firsts_are_sound (setting_of m) (data_symbols ss)) h),
    g (both_right (first_is_sound (setting_of m) (size_of m.tags type) f) (firsts_are_sound (setting_of m) (data_symbols ss)) h),
  )
  symbol_by name static l type Common ss k h g = g h

  initialisers_mean : (ss : List Symbol) (k : ℕ) → firsts_are_sound (setting_of m) (data_symbols ss) ≡ true
      → InitialisersMean program owner (symbols m) m.tags (data_symbols ss) (initialisers_from (setting_of m) k ss)
  initialisers_mean [] k h = tt
  initialisers_mean (s ∷ ss) k h = symbol_by s.name s.static s.is_local s.type s.kind ss k h (λ g. initialisers_mean ss (suc k) g)

pub contents_mean_same : ContentsMeanSame
contents_mean_same m h modules owner here = initialisers_mean m (union_of modules) owner (symbols m) 0 h
