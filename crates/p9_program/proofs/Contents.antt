-- The first contents of objects stand where the objects have their places.
use Rattle.std.proofs.Common.{◌≡◌, ◌≤◌, ◌<◌, ◌⊎◌, inl, inr, ℕ, zero, suc, ◌+◌, ◌*◌, ◌/◌, ◌^◌, true, Some, List, [], ◌∷◌, map, length, slice_get, slice_index, refl, sym, ap, ◌∙◌, subst, arith}
use Rattle.std.specs.Prelude.{flat_map, replicate, All}
use Rattle.std.proofs.lemmas.Bool.{true≢false}
use Rattle.std.proofs.lemmas.List.{get_or_append_left, get_or-append-add, length-append}
use Rattle.std.proofs.lemmas.List.Elements.{All-head, All-tail}
use Rattle.p9_base.specs.Numbers.{word_bytes}
use Rattle.p9_base.specs.Words.{word_sum}
use Rattle.p9_base.specs.Core.{Core, read_byte}
use Rattle.p9_abs.specs.declared.modules.Body.TheVariants.{Data, Common}
use Rattle.p9_abs.specs.declared.modules.DataPiece.{DataPiece}
use Rattle.p9_abs.specs.declared.modules.DataPiece.TheVariants.{Raw, Address}
use Rattle.p9_abs.specs.declared.modules.Def.{Def}
use Rattle.p9_abs.specs.declared.modules.Symbol as abs
use Rattle.p9_abs.specs.declared.modules.AModule.{AModule}
use Rattle.p9_abs.specs.Modules.{pieces_of, named_by_piece}
use Rattle.p9_abs.specs.Validity.{IsWithin, NamesWithin}
use Rattle.p9_abs.specs.Names.{symbol_at}
use Rattle.p9_abs.specs.BuiltIn.{linked}
use Rattle.p9_abs.specs.Programs.{space_of, piece_bytes, Placing, IsPlacing}
use Rattle.p9_lang.specs.Layout.{size_of}
use Rattle.p9_lang.specs.Modules.{Source}
use Rattle.p9_lang.specs.Symbols as symbols
use Rattle.p9_lang.specs.Symbols.{SymbolKind}
use Rattle.p9_cmean.specs.Cells.{FunctionName, Pointer, Into, ToFunction, Cell, Byte}
use Rattle.p9_cmean.specs.Access.{pointer_cells}
use Rattle.p9_cmean.specs.Joins.{Join}
use Rattle.p9_cmean.specs.Union.{Union, Entry, is_common, union_of}
use Rattle.p9_cmean.specs.FirstContents.{named_pointer, first_cells}
use Rattle.p9_sim.specs.Memory.{Map, Ground, word_of, moved_address, StandsPart, StandCells}
use Rattle.p9_sim.specs.Translating.{symbol_name, address_cells, piece_cells, pieces_cells}
use Rattle.p9_systems.proofs.Cells.{stands-append}
use Rattle.p9_program.specs.Linking.{AreTranslations, object_address, ground_of}
use Rattle.p9_program.specs.Whole.{IsBelow, first_map}
use Rattle.p9_program.proofs.Lists.{get-some, get-first, get-map}
use Rattle.p9_program.proofs.Routines.{all-at}
use Rattle.p9_program.proofs.Objects.{IsMade, made-body, stands-linked}
use Rattle.p9_program.proofs.Data.{numbered, HasPlace}
use Rattle.p9_program.proofs.Names.{NamedIs, AnObject, AFunction, named-is, made-place}
use Rattle.p9_program.proofs.Memory as memory
use Rattle.p9_program.proofs.Memory.{pieces-length, data-space, data-bytes, common-bytes}

pub numbers-stand : (g : Ground) (m : Map) (byte : ℕ → ℕ) (xs : List ℕ) (a : ℕ) → ((j : ℕ) → j < length xs → byte (a + j) ≡ slice_index xs j) → StandCells g m (map Byte xs) byte a
numbers-stand g m byte [] a h = tt
numbers-stand g m byte (b ∷ xs) a h =
    let z : a + 0 ≡ a = omega arith in (
      sym (ap byte (sym z) ∙ h 0 (omega arith)),
      numbers-stand g m byte xs (a + 1) (λ j l. let q : a + 1 + j ≡ a + suc j = omega arith in ap byte q ∙ h (suc j) (omega (arith, l))),
    )

zeros-stand : (g : Ground) (m : Map) (byte : ℕ → ℕ) (n a : ℕ) → ((j : ℕ) → j < n → byte (a + j) ≡ 0) → StandCells g m (replicate n (Byte 0)) byte a
zeros-stand g m byte zero a h = tt
zeros-stand g m byte (suc n) a h =
    let z : a + 0 ≡ a = omega arith in
    (sym (ap byte (sym z) ∙ h 0 (omega arith)), zeros-stand g m byte n (a + 1) (λ j l. let q : a + 1 + j ≡ a + suc j = omega arith in ap byte q ∙ h (suc j) (omega (arith, l))))

-- four bytes that are those of a word stand for the parts of a pointer with this word
pub pointer-stands : (g : Ground) (m : Map) (byte : ℕ → ℕ) (pointer : Pointer) (word a : ℕ) → word_of g m pointer ≡ Some word → ((j : ℕ) → j < 4 → byte (a + j) ≡ slice_index (word_bytes word) j)
    → StandCells g m (pointer_cells pointer) byte a
pointer-stands g m byte pointer word a is h =
    let p0 : a + 0 ≡ a = omega arith in
    let p1 : a + 1 ≡ a + 1 = refl in
    let p2 : a + 2 ≡ a + 1 + 1 = omega arith in
    let p3 : a + 3 ≡ a + 1 + 1 + 1 = omega arith in
    (part 0 a p0 (omega arith), (part 1 (a + 1) p1 (omega arith), (part 2 (a + 1 + 1) p2 (omega arith), (part 3 (a + 1 + 1 + 1) p3 (omega arith), tt))))
  where
    part : (j b : ℕ) → a + j ≡ b → j < 4 → StandsPart g m j pointer (byte b)
    part j b e l = record { word = word; is = is; part = sym (ap byte (sym e) ∙ h j l) }

module _ (modules : List Source) (outs : List AModule) (tr : AreTranslations modules outs) (join : Join modules) (p : Placing) (placing : IsPlacing outs p) where
  abbrev g : Ground
  g = ground_of modules outs p

  abbrev m : Map
  m = first_map modules outs p

  abbrev union : Union
  union = union_of modules

  pub static-first : (n start : ℕ) → (let g : Ground = ground_of modules outs p in slice_get g.statics n ≡ Some start) → slice_get (first_map modules outs p) n ≡ Some (Some start)
  static-first n start h = get-first (let g : Ground = ground_of modules outs p in map Some g.statics) _ n (Some start) (get-map Some (let g : Ground = ground_of modules outs p in g.statics) n start h)

  module _ (owner : ℕ) (out : AModule) (is_out : slice_get outs owner ≡ Some out) (byte : ℕ → ℕ) where
    abbrev address : ℕ → ℕ
    address = memory.symbols outs p owner

    address-stands : (symbol offset start : ℕ) → symbol < length out.symbols → ((i : ℕ) → i < 4 → byte (start + i) ≡ slice_index (word_bytes (word_sum (address symbol) offset)) i)
        → StandCells (ground_of modules outs p) (first_map modules outs p) (piece_cells (union_of modules) owner out (Address symbol offset)) byte start
    address-stands symbol offset start within bytes = by (get-some out.symbols symbol within)
      where
        by : (b : abs.Symbol) × (slice_get out.symbols symbol ≡ Some b) → StandCells (ground_of modules outs p) (first_map modules outs p) (piece_cells (union_of modules) owner out (Address symbol offset)) byte start
        by q = go (named-is modules outs tr join p placing owner out is_out symbol q.0 q.1)
          where
            name : named_pointer (union_of modules) owner (symbol_name (slice_get out.symbols symbol)) offset ≡ named_pointer (union_of modules) owner q.0.name offset
            name = ap (λ o. named_pointer (union_of modules) owner (symbol_name o) offset) q.1

            put : (x : Pointer) → named_pointer (union_of modules) owner q.0.name offset ≡ x → StandCells (ground_of modules outs p) (first_map modules outs p) (address_cells x offset) byte start
                → StandCells (ground_of modules outs p) (first_map modules outs p) (piece_cells (union_of modules) owner out (Address symbol offset)) byte start
            put x e h = subst (λ i. StandCells (ground_of modules outs p) (first_map modules outs p) (address_cells i offset) byte start) (sym (name ∙ e)) h

            function : (x : FunctionName) → (let g : Ground = ground_of modules outs p in g.function x ≡ address symbol) → address symbol < 2 ^ 32 → (o : ℕ) → offset ≡ o
                → StandCells (ground_of modules outs p) (first_map modules outs p) (address_cells (ToFunction x) o) byte start
            function x same small zero e =
                let w : word_sum (address symbol) offset ≡ address symbol = omega (arith, small, e) in
                pointer-stands (ground_of modules outs p) (first_map modules outs p) byte (ToFunction x) (address symbol) start (ap Some same) (λ i l. bytes i l ∙ ap (λ v. slice_index (word_bytes v) i) w)
            function x same small (suc o) e = (tt, (tt, (tt, (tt, tt))))

            go : NamedIs modules outs tr join p placing owner q.0.name (address symbol) → StandCells (ground_of modules outs p) (first_map modules outs p) (piece_cells (union_of modules) owner out (Address symbol offset)) byte start
            go (AnObject n st pointer static same low) =
                put (Into n offset) (pointer offset)
                (pointer-stands (ground_of modules outs p) (first_map modules outs p) byte (Into n offset) (word_sum (address symbol) offset) start
                (ap (λ o. moved_address o offset) (static-first n st static) ∙ ap (λ v. Some (word_sum v offset)) same) bytes)
            go (AFunction x pointer same small) = put (ToFunction x) (pointer offset) (function x same small offset refl)

    piece-stands : (q : DataPiece) (start : ℕ) → IsWithin (length out.symbols) (named_by_piece q) → ((i : ℕ) → i < length (piece_bytes address q) → byte (start + i) ≡ slice_index (piece_bytes address q) i)
        → StandCells (ground_of modules outs p) (first_map modules outs p) (piece_cells (union_of modules) owner out q) byte start
    piece-stands (Raw bytes) start within h = numbers-stand (ground_of modules outs p) (first_map modules outs p) byte bytes start h
    piece-stands (Address symbol offset) start within h = address-stands symbol offset start within h

    map-length : (xs : List ℕ) → length (map Byte xs) ≡ length xs
    map-length [] = refl
    map-length (x ∷ xs) = ap suc (map-length xs)

    address-length : (x : Pointer) (o : ℕ) → length (address_cells x o) ≡ 4
    address-length (Into n k) o = refl
    address-length (ToFunction f) zero = refl
    address-length (ToFunction f) (suc o) = refl

    piece-length : (q : DataPiece) → length (piece_cells (union_of modules) owner out q) ≡ length (piece_bytes address q)
    piece-length (Raw bytes) = map-length bytes
    piece-length (Address symbol offset) = address-length (named_pointer (union_of modules) owner (symbol_name (slice_get out.symbols symbol)) offset) offset

    pub pieces-stand : (pieces : List DataPiece) (start : ℕ) → All (λ q. IsWithin (length out.symbols) (named_by_piece q)) pieces
        → ((i : ℕ) → i < length (flat_map (piece_bytes (memory.symbols outs p owner)) pieces) → byte (start + i) ≡ slice_index (flat_map (piece_bytes (memory.symbols outs p owner)) pieces) i)
        → StandCells (ground_of modules outs p) (first_map modules outs p) (pieces_cells (union_of modules) owner out pieces) byte start
    pieces-stand [] start within h = tt
    pieces-stand (q ∷ pieces) start within h =
        let l = length-append (piece_bytes address q) (flat_map (piece_bytes address) pieces) in
        let n = piece-length q in
        stands-append (ground_of modules outs p) (first_map modules outs p) byte (piece_cells (union_of modules) owner out q) (pieces_cells (union_of modules) owner out pieces) start
        (piece-stands q start (All-head (λ x. IsWithin (length out.symbols) (named_by_piece x)) q pieces within) (λ i k. h i (omega (arith, k, l)) ∙ get_or_append_left (piece_bytes address q) (flat_map (piece_bytes address) pieces) 0 i k))
        (pieces-stand pieces (start + length (piece_cells (union_of modules) owner out q)) (All-tail (λ x. IsWithin (length out.symbols) (named_by_piece x)) q pieces within)
        (λ i k. let e : start + length (piece_cells (union_of modules) owner out q) + i ≡ start + (length (piece_bytes address q) + i) = omega (arith, n) in
        ap byte e ∙ (h (length (piece_bytes address q) + i) (omega (arith, k, l)) ∙ get_or-append-add (piece_bytes address q) (flat_map (piece_bytes address) pieces) i 0)))

    pub cells-length : (pieces : List DataPiece) → length (pieces_cells (union_of modules) owner out pieces) ≡ length (flat_map (piece_bytes (memory.symbols outs p owner)) pieces)
    cells-length [] = refl
    cells-length (q ∷ pieces) =
        let a = length-append (piece_cells (union_of modules) owner out q) (pieces_cells (union_of modules) owner out pieces) in
        let b = length-append (piece_bytes address q) (flat_map (piece_bytes address) pieces) in
        let n = piece-length q in let r = cells-length pieces in omega (arith, a, b, n, r)

  -- AN OBJECT OF A MODULE

  module _ (below : List ℕ) (is_below : IsBelow p below) where
    abbrev core : Core
    core = memory.core outs p placing below is_below

    pub record Filled (e : Entry) (d : Def) (s : abs.Symbol) : Type 0 where
      pub size : length (first_cells (union_of modules) e) ≤ space_of (record { def = d; symbol = s })
      pub cells : StandCells (ground_of modules outs p) (first_map modules outs p) (first_cells (union_of modules) e) (read_byte (memory.core outs p placing below is_below)) (object_address outs p (Some (record { def = d; symbol = s })))

    kind-common : (k : SymbolKind) → is_common k ≡ true → k ≡ symbols.Common
    kind-common symbols.Common h = refl
    kind-common symbols.DeclaredOnly h = absurd (true≢false (sym h))
    kind-common symbols.Used h = absurd (true≢false (sym h))
    kind-common (symbols.Code item) h = absurd (true≢false (sym h))
    kind-common (symbols.Data first) h = absurd (true≢false (sym h))

    replicate-length : (n : ℕ) → length (replicate {A = Cell} n (Byte 0)) ≡ n
    replicate-length zero = refl
    replicate-length (suc n) = ap suc (replicate-length n)

    pub made-filled : (n : ℕ) (e : Entry) → (k : IsMade modules outs tr join n e) → Filled e k.it.def k.it.symbol
    made-filled n e k = by (made-body modules outs tr join n e k)
      where
        at : symbol_at (linked outs) k.it.def ≡ Some k.it.symbol
        at = stands-linked modules outs tr join k.place e k.it k.stands

        place : HasPlace outs k.it.def k.it.symbol
        place = made-place modules outs tr join p placing n e k

        with_pieces : (pieces : List DataPiece) → k.it.symbol.body ≡ Data pieces → Filled e k.it.def k.it.symbol
        with_pieces pieces b =
            let t = tr.each k.it.def.«module» k.stands.source k.stands.out k.stands.is_source k.stands.is_out in
            let same : pieces_cells (union_of modules) k.it.def.«module» k.stands.out pieces ≡ first_cells (union_of modules) e =
            t.contents modules k.it.def.«module» k.it.def.symbol e.symbol k.it.symbol pieces join k.stands.is_source k.stands.in_source k.stands.in_out b
            ∙ (ap (λ o. first_cells (union_of modules) (record { owner = o; tags = k.stands.source.tags; symbol = e.symbol })) (sym k.stands.owner)
            ∙ ap (λ o. first_cells (union_of modules) (record { owner = e.owner; tags = o; symbol = e.symbol })) (sym k.stands.tags)) in
            let within = all-at (λ q. NamesWithin (length k.stands.out.symbols) q.body) k.stands.out.symbols k.it.def.symbol k.it.symbol (tr.objects k.it.def.«module» k.stands.out k.stands.is_out).valid.numbers k.stands.in_out in
            let pieces_within : All (λ q. IsWithin (length k.stands.out.symbols) (named_by_piece q)) pieces = subst (λ z. All (λ q. IsWithin (length k.stands.out.symbols) (named_by_piece q)) (pieces_of z)) b within.1 in
            let len = cells-length k.it.def.«module» k.stands.out k.stands.is_out (read_byte core) pieces in
            let pl = pieces-length (memory.symbols outs p k.it.def.«module») pieces in
            let sp = data-space k.it.def k.it.symbol pieces b in
            record {
              size = subst (λ c. length c ≤ space_of (record { def = k.it.def; symbol = k.it.symbol })) same (omega (arith, len, pl, sp));
              cells = subst (λ c. StandCells (ground_of modules outs p) (first_map modules outs p) c (read_byte core) (object_address outs p (Some (record { def = k.it.def; symbol = k.it.symbol })))) same
                  (pieces-stand k.it.def.«module» k.stands.out k.stands.is_out (read_byte core) pieces (object_address outs p (Some (numbered k.it.def k.it.symbol))) pieces_within
                  (λ i l. data-bytes outs p placing below is_below k.it.def k.it.symbol pieces at b place i (omega (arith, l, pl))));
            }

        with_zeros : is_common e.symbol.kind ≡ true → k.it.symbol.body ≡ Common (size_of k.stands.source.tags e.symbol.type) → Filled e k.it.def k.it.symbol
        with_zeros c b =
            let size : ℕ = size_of k.stands.source.tags e.symbol.type in
            let same : replicate size (Byte 0) ≡ first_cells (union_of modules) e =
            ap (λ o. replicate (size_of o e.symbol.type) (Byte 0)) (sym k.stands.tags) ∙ sym (ap (λ z. first_cells (union_of modules) (record e { symbol = record e.symbol { kind = z } })) (kind-common e.symbol.kind c)) in
            let l = replicate-length size in
            let sp : space_of (numbered k.it.def k.it.symbol) ≡ (size + 3) / 4 * 4 = ap (λ z. space_of (numbered k.it.def (record k.it.symbol { body = z }))) b in
            record {
              size = subst (λ q. length q ≤ space_of (record { def = k.it.def; symbol = k.it.symbol })) same (omega (arith, l, sp));
              cells = subst (λ q. StandCells (ground_of modules outs p) (first_map modules outs p) q (read_byte core) (object_address outs p (Some (record { def = k.it.def; symbol = k.it.symbol })))) same
                  (zeros-stand (ground_of modules outs p) (first_map modules outs p) (read_byte core) size (object_address outs p (Some (numbered k.it.def k.it.symbol)))
                  (λ i h. common-bytes outs p placing below is_below k.it.def k.it.symbol size at b place i h));
            }

        by : ((pieces : List DataPiece) × (k.it.symbol.body ≡ Data pieces)) ⊎ ((is_common e.symbol.kind ≡ true) × (k.it.symbol.body ≡ Common (size_of k.stands.source.tags e.symbol.type))) → Filled e k.it.def k.it.symbol
        by (inl h) = with_pieces h.0 h.1
        by (inr h) = with_zeros h.0 h.1
