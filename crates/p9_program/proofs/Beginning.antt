-- Before the first instruction the first objects of C stand in the data.
use Rattle.std.proofs.Common.{◌≡◌, ◌≢◌, ◌≤◌, ◌<◌, ◌⊎◌, inl, inr, ℕ, zero, suc, ◌+◌, ◌*◌, ◌/◌, ◌^◌, Option, Some, None, List, [], ◌∷◌, map, length, slice_get, slice_index, refl, sym, ap, ◌∙◌, subst, arith}
use Rattle.std.specs.Prelude.{flat_map, option_and_then, codes}
use Rattle.std.proofs.lemmas.List.{length-append}
use Rattle.p9_base.specs.Numbers.{word_bytes}
use Rattle.p9_base.specs.Words.{word_sum}
use Rattle.p9_base.specs.Core.{Core, read_byte}
use Rattle.p9_base.specs.Holding.{AreBytes}
use Rattle.p9_abs.specs.declared.modules.Body.TheVariants.{Data}
use Rattle.p9_abs.specs.declared.modules.DataPiece.{DataPiece}
use Rattle.p9_abs.specs.declared.modules.DataPiece.TheVariants.{Raw, Address}
use Rattle.p9_abs.specs.declared.modules.Def.{Def}
use Rattle.p9_abs.specs.declared.modules.Symbol as abs
use Rattle.p9_abs.specs.declared.modules.AModule.{AModule}
use Rattle.p9_abs.specs.Modules.{pieces_size}
use Rattle.p9_abs.specs.Names.{symbol_at}
use Rattle.p9_abs.specs.BuiltIn.{builtin_symbols, local_symbol, linked}
use Rattle.p9_abs.specs.Programs.{records, stands_for, data_objects, space_of, piece_bytes, Placing, IsPlacing, address_of_definition, start_state}
use Rattle.p9_lang.specs.Modules.{Source}
use Rattle.p9_cmean.specs.Cells.{Into, Object}
use Rattle.p9_cmean.specs.Access.{number_cells, pointer_cells}
use Rattle.p9_cmean.specs.Automatics.{live_object}
use Rattle.p9_cmean.specs.Joins.{Join}
use Rattle.p9_cmean.specs.Union.{Union, Entry, union_of, entries_from}
use Rattle.p9_cmean.specs.FirstContents.{first_cells, first_objects, start_objects, program_name_number}
use Rattle.p9_sim.specs.Memory.{Map, HasAddress, Ground, word_of, moved_address, StandCells, Owner}
use Rattle.p9_start.specs.Starting.{exit_bytes, StandsFirst}
use Rattle.p9_systems.proofs.Cells.{same-or-not, stands-append}
use Rattle.p9_program.specs.Linking.{AreTranslations, object_address, makers_of, ground_of}
use Rattle.p9_program.specs.Whole.{builtin_address, first_map, IsBelow, ProgramsBegin}
use Rattle.p9_program.proofs.Lists.{order, some-same, none-some, get-some, get-first, get-second, get-right, get-either, get-map, get-map-back, get-within}
use Rattle.p9_program.proofs.Positions.{InOuts, records-back, places-differ}
use Rattle.p9_program.proofs.Joined.{linked-builtin}
use Rattle.p9_program.proofs.Objects.{makers-count, makers-rise, made-of, stands-linked}
use Rattle.p9_program.proofs.Laying.{offset-apart}
use Rattle.p9_program.proofs.Data.{numbered, HasPlace, data-place, has-space, place-address, data-address, IsInData, in-data}
use Rattle.p9_program.proofs.Names.{made-place, made-static}
use Rattle.p9_program.proofs.Memory as memory
use Rattle.p9_program.proofs.Memory.{zero-length, data-space, low-is, data-bytes}
use Rattle.p9_program.proofs.Contents.{numbers-stand, pointer-stands, static-first, made-filled}
use Rattle.p9_program.proofs.Words.{start-words}

-- which definition an object's is
data Which (modules : List Source) (outs : List AModule) (count number : ℕ) (d : Def) : Type 0 where
  OfModule : (place : ℕ) (s : abs.Symbol) → slice_get (makers_of modules) number ≡ Some place → slice_get (records outs) place ≡ Some (numbered d s) → Which modules outs count number d
  OfArguments : d ≡ record { «module» = length outs; symbol = 1 } → number ≡ count → Which modules outs count number d
  OfName : d ≡ record { «module» = length outs; symbol = 7 } → number ≡ count + 2 → Which modules outs count number d

-- the object stands at a place of its own
record Spot (modules : List Source) (outs : List AModule) (p : Placing) (objects : List Object) (m : Map) (g : Ground) (core : Core) (count number start : ℕ) : Type 0 where
  d : Def
  s : abs.Symbol
  at : symbol_at (linked outs) d ≡ Some s
  place : HasPlace outs d s
  is : start ≡ object_address outs p (Some (numbered d s))
  which : Which modules outs count number d
  size : (object : Object) → slice_get objects number ≡ Some object → length object.cells ≤ space_of (numbered d s)
  cells : (object : Object) → slice_get objects number ≡ Some object → StandCells g m object.cells (read_byte core) start

-- the built-in module's data
record IsBuiltin (outs : List AModule) (p : Placing) (k : ℕ) (pieces : List DataPiece) : Type 0 where
  s : abs.Symbol
  at : symbol_at (linked outs) (record { «module» = length outs; symbol = k }) ≡ Some s
  body : s.body ≡ Data pieces
  place : HasPlace outs (record { «module» = length outs; symbol = k }) s
  address : builtin_address outs p k ≡ object_address outs p (Some (numbered (record { «module» = length outs; symbol = k }) s))

module _ (modules : List Source) (outs : List AModule) (tr : AreTranslations modules outs) (join : Join modules) (p : Placing) (placing : IsPlacing outs p) (below : List ℕ) (is_below : IsBelow p below) where
  abbrev g : Ground
  g = ground_of modules outs p

  abbrev m : Map
  m = first_map modules outs p

  abbrev union : Union
  union = union_of modules

  abbrev core : Core
  core = memory.core outs p placing below is_below

  abbrev count : ℕ
  count = length union.objects

  abbrev objects : List Object
  objects = first_objects union

  builtin-of : (k : ℕ) (word : List ℕ) (pieces : List DataPiece) → slice_get builtin_symbols k ≡ Some (local_symbol word (Data pieces)) → IsBuiltin outs p k pieces
  builtin-of k word pieces e =
      let d : Def = record { «module» = length outs; symbol = k } in
      let s : abs.Symbol = local_symbol word (Data pieces) in
      let at = linked-builtin outs k s e in
      record {
        s = s;
        at = at;
        body = refl;
        place = data-place outs d s pieces at refl;
        address = ap (λ o. address_of_definition outs p (option_and_then (stands_for (linked outs) d) o)) at ∙ data-address outs p placing d s at (λ def h. cc);
      }

  arguments : IsBuiltin outs p 1 (Address 7 0 ∷ Raw (0 ∷ 0 ∷ 0 ∷ 0 ∷ []) ∷ [])
  arguments = builtin-of 1 (codes "_argv") (Address 7 0 ∷ Raw (0 ∷ 0 ∷ 0 ∷ 0 ∷ []) ∷ []) refl

  text : IsBuiltin outs p 3 (Raw (109 ∷ 97 ∷ 105 ∷ 110 ∷ 0 ∷ []) ∷ [])
  text = builtin-of 3 (codes "_end") (Raw (109 ∷ 97 ∷ 105 ∷ 110 ∷ 0 ∷ []) ∷ []) refl

  program : IsBuiltin outs p 7 (Raw (118 ∷ 46 ∷ 111 ∷ 117 ∷ 116 ∷ 0 ∷ []) ∷ [])
  program = builtin-of 7 (codes "_vout") (Raw (118 ∷ 46 ∷ 111 ∷ 117 ∷ 116 ∷ 0 ∷ []) ∷ []) refl

  -- its bytes
  builtin-bytes : (k : ℕ) (pieces : List DataPiece) (b : IsBuiltin outs p k pieces) (i : ℕ) → i < pieces_size pieces
      → read_byte core (builtin_address outs p k + i) ≡ slice_index (flat_map (piece_bytes (memory.symbols outs p (length outs))) pieces) i
  builtin-bytes k pieces b i l =
      ap (λ a. read_byte core (a + i)) b.address ∙ data-bytes outs p placing below is_below (record { «module» = length outs; symbol = k }) b.s pieces b.at b.body b.place i l

  builtin-space : (k : ℕ) (pieces : List DataPiece) (b : IsBuiltin outs p k pieces) → space_of (numbered (record { «module» = length outs; symbol = k }) b.s) ≡ (pieces_size pieces + 3) / 4 * 4
  builtin-space k pieces b = data-space (record { «module» = length outs; symbol = k }) b.s pieces b.body

  -- NUMBERS

  statics-count : length g.statics ≡ count
  statics-count = map-count _ (makers_of modules) ∙ makers-count (entries_from 0 modules) [] 0 (entries_from 0 modules)
    where
      map-count : (f : ℕ → ℕ) (xs : List ℕ) → length (map f xs) ≡ length xs
      map-count f [] = refl
      map-count f (x ∷ xs) = ap suc (map-count f xs)

  some-count : (xs : List ℕ) → length (map Some xs) ≡ length xs
  some-count [] = refl
  some-count (x ∷ xs) = ap suc (some-count xs)

  front-count : length (map Some g.statics) ≡ count
  front-count = some-count g.statics ∙ statics-count

  live-count : (es : List Entry) → length (map (λ entry. live_object (first_cells union entry)) es) ≡ length es
  live-count [] = refl
  live-count (e ∷ es) = ap suc (live-count es)

  -- the addresses behind those of the modules' objects
  last-address : (u : ℕ) (o : Option ℕ) → slice_get (Some (builtin_address outs p 1) ∷ None ∷ Some (builtin_address outs p 7) ∷ []) u ≡ Some o → slice_get m (count + u) ≡ Some o
  last-address u o h = let c = front-count in let z : count + u ≡ length (map Some g.statics) + u = omega (arith, c) in ap (slice_get m) z ∙ get-second (map Some g.statics) _ u o h

  last-object : (u : ℕ) (o : Object) → slice_get objects (count + u) ≡ Some o → slice_get (start_objects union) u ≡ Some o
  last-object u o h =
      let c = live-count union.objects in
      let z : count + u ≡ length (map (λ entry. live_object (first_cells union entry)) union.objects) + u = omega (arith, c) in
      sym (get-right (map (λ entry. live_object (first_cells union entry)) union.objects) (start_objects union) u) ∙ (ap (slice_get objects) (sym z) ∙ h)

  first-object : (n : ℕ) (e : Entry) (o : Object) → slice_get union.objects n ≡ Some e → slice_get objects n ≡ Some o → o ≡ live_object (first_cells union e)
  first-object n e o h k =
      some-same o (live_object (first_cells union e)) (sym k ∙ get-first (map (λ entry. live_object (first_cells union entry)) union.objects) (start_objects union) n (live_object (first_cells union e)) (get-map (λ entry. live_object (first_cells union entry)) union.objects n e h))

  -- SPOTS

  abbrev SpotOf : (number start : ℕ) → Type 0
  SpotOf number start = Spot modules outs p objects m g core count number start

  of-module : (n start : ℕ) → slice_get g.statics n ≡ Some start → SpotOf n start
  of-module n start h =
      let c = statics-count in
      let l = get-within g.statics n start h in
      let e = get-some union.objects n (omega (arith, l, c)) in
      let k = made-of modules outs tr join n e.0 e.1 in
      let f = made-filled modules outs tr join p placing below is_below n e.0 k in
      let z : start ≡ object_address outs p (Some k.it) = some-same start (object_address outs p (Some k.it)) (sym h ∙ made-static modules outs tr join p placing n e.0 k) in
      record {
        d = k.it.def;
        s = k.it.symbol;
        at = stands-linked modules outs tr join k.place e.0 k.it k.stands;
        place = made-place modules outs tr join p placing n e.0 k;
        is = z;
        which = OfModule k.place k.it.symbol k.numbered k.stands.is_record;
        size = λ o i. (let w = first-object n e.0 o e.1 i in subst (λ q. length q.cells ≤ space_of k.it) (sym w) f.size);
        cells = λ o i. (let w = first-object n e.0 o e.1 i in subst (λ q. StandCells g m q.cells (read_byte core) start) (sym w) (subst (StandCells g m (first_cells union e.0) (read_byte core)) (sym z) f.cells));
      }

  byte-at : (k : ℕ) (pieces : List DataPiece) (b : IsBuiltin outs p k pieces) (start i v : ℕ) → start ≡ builtin_address outs p k → i < pieces_size pieces → slice_index (flat_map (piece_bytes (memory.symbols outs p (length outs))) pieces) i ≡ v → read_byte core (start + i) ≡ v
  byte-at k pieces b start i v z l e = ap (λ a. read_byte core (a + i)) z ∙ (builtin-bytes k pieces b i l ∙ e)

  program-word : word_of g m (Into (program_name_number union) 0) ≡ Some (word_sum (builtin_address outs p 7) 0)
  program-word = ap (λ o. moved_address o 0) (last-address 2 (Some (builtin_address outs p 7)) refl)

  of-arguments : (start : ℕ) → start ≡ builtin_address outs p 1 → SpotOf (count + 0) start
  of-arguments start z =
      record {
        d = record { «module» = length outs; symbol = 1 };
        s = arguments.s;
        at = arguments.at;
        place = arguments.place;
        is = z ∙ arguments.address;
        which = OfArguments refl (omega arith);
        size = λ o i. (let w = some-same _ o (last-object 0 o i) in let sp = builtin-space 1 _ arguments in subst (λ q. length q.cells ≤ space_of (numbered (record { «module» = length outs; symbol = 1 }) arguments.s)) w (omega (arith, sp)));
        cells = λ o i. (let w = some-same _ o (last-object 0 o i) in subst (λ q. StandCells g m q.cells (read_byte core) start) w
            (stands-append g m (read_byte core) (pointer_cells (Into (program_name_number union) 0)) (number_cells 4 0) start
            (pointer-stands g m (read_byte core) (Into (program_name_number union) 0) (word_sum (builtin_address outs p 7) 0) start program-word
            (λ j l. word-byte j l))
            zero-cells));
      }
    where
      word-byte : (j : ℕ) → j < 4 → read_byte core (start + j) ≡ slice_index (word_bytes (word_sum (builtin_address outs p 7) 0)) j
      word-byte j l = byte-at 1 _ arguments start j _ z (omega (arith, l)) (front j l)
        where
          front : (j : ℕ) → j < 4 → slice_index (flat_map (piece_bytes (memory.symbols outs p (length outs))) (Address 7 0 ∷ Raw (0 ∷ 0 ∷ 0 ∷ 0 ∷ []) ∷ [])) j ≡ slice_index (word_bytes (word_sum (builtin_address outs p 7) 0)) j
          front zero l = refl
          front (suc zero) l = refl
          front (suc (suc zero)) l = refl
          front (suc (suc (suc zero))) l = refl
          front (suc (suc (suc (suc j)))) l = absurd (omega (arith, l))

      zero-byte : (j : ℕ) (a : ℕ) → start + (4 + j) ≡ a → j < 4 → 0 ≡ read_byte core a
      zero-byte j a e l = sym (ap (read_byte core) (sym e) ∙ byte-at 1 _ arguments start (4 + j) 0 z (omega (arith, l)) (back j l))
        where
          back : (j : ℕ) → j < 4 → slice_index (flat_map (piece_bytes (memory.symbols outs p (length outs))) (Address 7 0 ∷ Raw (0 ∷ 0 ∷ 0 ∷ 0 ∷ []) ∷ [])) (4 + j) ≡ 0
          back zero l = refl
          back (suc zero) l = refl
          back (suc (suc zero)) l = refl
          back (suc (suc (suc zero))) l = refl
          back (suc (suc (suc (suc j)))) l = absurd (omega (arith, l))

      zero-cells : StandCells g m (number_cells 4 0) (read_byte core) (start + 4)
      zero-cells = (zero-byte 0 (start + 4) (omega arith) (omega arith), (zero-byte 1 (start + 4 + 1) (omega arith) (omega arith), (zero-byte 2 (start + 4 + 1 + 1) (omega arith) (omega arith), (zero-byte 3 (start + 4 + 1 + 1 + 1) (omega arith) (omega arith), tt))))

  of-name : (start : ℕ) → start ≡ builtin_address outs p 7 → SpotOf (count + 2) start
  of-name start z =
      record {
        d = record { «module» = length outs; symbol = 7 };
        s = program.s;
        at = program.at;
        place = program.place;
        is = z ∙ program.address;
        which = OfName refl refl;
        size = λ o i. (let w = some-same _ o (last-object 2 o i) in let sp = builtin-space 7 _ program in subst (λ q. length q.cells ≤ space_of (numbered (record { «module» = length outs; symbol = 7 }) program.s)) w (omega (arith, sp)));
        cells = λ o i. (let w = some-same _ o (last-object 2 o i) in subst (λ q. StandCells g m q.cells (read_byte core) start) w
            (numbers-stand g m (read_byte core) (118 ∷ 46 ∷ 111 ∷ 117 ∷ 116 ∷ 0 ∷ []) start (λ j l. byte-at 7 _ program start j _ z (omega (arith, l)) refl)));
      }

  spot-of : (number start : ℕ) → HasAddress m number start → SpotOf number start
  spot-of number start h = by (get-either (map Some g.statics) (Some (builtin_address outs p 1) ∷ None ∷ Some (builtin_address outs p 7) ∷ []) number (Some start) h)
    where
      last : (u : ℕ) → number ≡ length (map Some g.statics) + u → slice_get (Some (builtin_address outs p 1) ∷ None ∷ Some (builtin_address outs p 7) ∷ []) u ≡ Some (Some start) → SpotOf number start
      last zero z e = let c = front-count in let y : count + 0 ≡ number = omega (arith, z, c) in
          subst (λ n. SpotOf n start) y (of-arguments start (sym (some-same (builtin_address outs p 1) start (some-same (Some (builtin_address outs p 1)) (Some start) e))))
      last (suc zero) z e = absurd (none-some start (some-same None (Some start) e))
      last (suc (suc zero)) z e = let c = front-count in let y : count + 2 ≡ number = omega (arith, z, c) in
          subst (λ n. SpotOf n start) y (of-name start (sym (some-same (builtin_address outs p 7) start (some-same (Some (builtin_address outs p 7)) (Some start) e))))
      last (suc (suc (suc u))) z e = absurd (none-some (Some start) e)

      by : (slice_get (map Some g.statics) number ≡ Some (Some start)) ⊎ ((u : ℕ) × (number ≡ length (map Some g.statics) + u) × (slice_get (Some (builtin_address outs p 1) ∷ None ∷ Some (builtin_address outs p 7) ∷ []) u ≡ Some (Some start))) → SpotOf number start
      by (inl e) = let q = get-map-back Some g.statics number (Some start) e in of-module number start (q.1 ∙ ap Some (some-same q.0 start q.2))
      by (inr e) = last e.0 e.1 e.2

  -- APART

  module-less : (d : Def) (s : abs.Symbol) (place : ℕ) → slice_get (records outs) place ≡ Some (numbered d s) → d.«module» < length outs
  module-less d s place h = by (records-back 0 outs place (numbered d s) h)
    where
      by : InOuts 0 outs place (numbered d s) → d.«module» < length outs
      by q = let l = get-within outs q.unit q.out q.is_out in let o = q.owner in omega (arith, l, o)

  makers-one : (n k x y : ℕ) → slice_get (makers_of modules) n ≡ Some x → slice_get (makers_of modules) k ≡ Some y → x ≡ y → n ≡ k
  makers-one n k x y h i z = by (order n k)
    where
      by : (n < k) ⊎ ((n ≡ k) ⊎ (k < n)) → n ≡ k
      by (inl l) = absurd (let r = makers-rise (entries_from 0 modules) [] 0 (entries_from 0 modules) n k x y h i l in omega (arith, r, z))
      by (inr (inl e)) = e
      by (inr (inr l)) = absurd (let r = makers-rise (entries_from 0 modules) [] 0 (entries_from 0 modules) k n y x i h l in omega (arith, r, z))

  one-number : (n k : ℕ) (d e : Def) → Which modules outs count n d → Which modules outs count k e → d ≡ e → n ≡ k
  one-number n k d e (OfModule x s a b) (OfModule y q i j) z = makers-one n k x y a i (places-differ outs x y (numbered d s) (numbered e q) b j z)
  one-number n k d e (OfModule x s a b) (OfArguments i j) z = absurd (let l = module-less d s x b in let y : d.«module» ≡ length outs = ap (λ v. v.«module») (z ∙ i) in omega (arith, l, y))
  one-number n k d e (OfModule x s a b) (OfName i j) z = absurd (let l = module-less d s x b in let y : d.«module» ≡ length outs = ap (λ v. v.«module») (z ∙ i) in omega (arith, l, y))
  one-number n k d e (OfArguments i j) (OfModule y q a b) z = absurd (let l = module-less e q y b in let w : e.«module» ≡ length outs = ap (λ v. v.«module») (sym z ∙ i) in omega (arith, l, w))
  one-number n k d e (OfName i j) (OfModule y q a b) z = absurd (let l = module-less e q y b in let w : e.«module» ≡ length outs = ap (λ v. v.«module») (sym z ∙ i) in omega (arith, l, w))
  one-number n k d e (OfArguments i j) (OfArguments a b) z = j ∙ sym b
  one-number n k d e (OfName i j) (OfName a b) z = j ∙ sym b
  one-number n k d e (OfArguments i j) (OfName a b) z = absurd (let w : 1 ≡ 7 = ap (λ v. v.symbol) (sym i ∙ (z ∙ a)) in omega (arith, w))
  one-number n k d e (OfName i j) (OfArguments a b) z = absurd (let w : 7 ≡ 1 = ap (λ v. v.symbol) (sym i ∙ (z ∙ a)) in omega (arith, w))

  not-text : (n : ℕ) (d : Def) → Which modules outs count n d → d ≡ record { «module» = length outs; symbol = 3 } → ⊥
  not-text n d (OfModule x s a b) z = let l = module-less d s x b in let y : d.«module» ≡ length outs = ap (λ v. v.«module») z in omega (arith, l, y)
  not-text n d (OfArguments i j) z = let w : 1 ≡ 3 = ap (λ v. v.symbol) (sym i ∙ z) in omega (arith, w)
  not-text n d (OfName i j) z = let w : 7 ≡ 3 = ap (λ v. v.symbol) (sym i ∙ z) in omega (arith, w)

  -- two definitions' places
  apart : (d e : Def) (s q : abs.Symbol) (a : HasPlace outs d s) (b : HasPlace outs e q) → symbol_at (linked outs) d ≡ Some s → symbol_at (linked outs) e ≡ Some q → (d ≡ e → ⊥)
      → (object_address outs p (Some (numbered d s)) + space_of (numbered d s) ≤ object_address outs p (Some (numbered e q)))
      ⊎ (object_address outs p (Some (numbered e q)) + space_of (numbered e q) ≤ object_address outs p (Some (numbered d s)))
  apart d e s q a b f h differ = by (offset-apart 0 (data_objects (linked outs)) d e a.offset b.offset (space_of (numbered d s)) (space_of (numbered e q)) differ (has-space outs d s f) (has-space outs e q h) a.is b.is)
    where
      by : (a.offset + space_of (numbered d s) ≤ b.offset) ⊎ (b.offset + space_of (numbered e q) ≤ a.offset)
          → (object_address outs p (Some (numbered d s)) + space_of (numbered d s) ≤ object_address outs p (Some (numbered e q)))
          ⊎ (object_address outs p (Some (numbered e q)) + space_of (numbered e q) ≤ object_address outs p (Some (numbered d s)))
      by (inl l) = let x = place-address outs p placing d s a in let y = place-address outs p placing e q b in inl (omega (arith, l, x, y))
      by (inr l) = let x = place-address outs p placing d s a in let y = place-address outs p placing e q b in inr (omega (arith, l, x, y))

  record Owned (byte number : ℕ) : Type 0 where
    start : ℕ
    spot : SpotOf number start
    low : start ≤ byte
    high : byte < start + space_of (numbered spot.d spot.s)

  owned : (byte : ℕ) (w : Owner m objects byte) → Owned byte w.number
  owned byte w =
      let q = spot-of w.number w.start w.placed in
      let sz = q.size w.object w.is_object in let i = w.inside in let z = w.is in
      record { start = w.start; spot = q; low = omega (arith, z); high = omega (arith, z, i, sz) }

  disjoint-by : (byte n k : ℕ) → Owned byte n → Owned byte k → (n ≡ k → ⊥) → ⊥
  disjoint-by byte n k a b differ =
      by (apart a.spot.d b.spot.d a.spot.s b.spot.s a.spot.place b.spot.place a.spot.at b.spot.at (λ z. differ (one-number n k a.spot.d b.spot.d a.spot.which b.spot.which z)))
    where
      by : (object_address outs p (Some (numbered a.spot.d a.spot.s)) + space_of (numbered a.spot.d a.spot.s) ≤ object_address outs p (Some (numbered b.spot.d b.spot.s)))
          ⊎ (object_address outs p (Some (numbered b.spot.d b.spot.s)) + space_of (numbered b.spot.d b.spot.s) ≤ object_address outs p (Some (numbered a.spot.d a.spot.s))) → ⊥
      by (inl l) = let x = a.spot.is in let y = b.spot.is in let h = a.high in let i = b.low in omega (arith, l, x, y, h, i)
      by (inr l) = let x = a.spot.is in let y = b.spot.is in let h = b.high in let i = a.low in omega (arith, l, x, y, h, i)

  data-of : (number start : ℕ) → (q : SpotOf number start) → IsInData outs p placing q.d q.s (object_address outs p (Some (numbered q.d q.s)))
  data-of number start q = in-data outs p placing q.d q.s q.place

  text-data : IsInData outs p placing (record { «module» = length outs; symbol = 3 }) text.s (object_address outs p (Some (numbered (record { «module» = length outs; symbol = 3 }) text.s)))
  text-data = in-data outs p placing (record { «module» = length outs; symbol = 3 }) text.s text.place

  pub begins : (input : List ℕ) → AreBytes input → StandsFirst g m union (builtin_address outs p 1) (builtin_address outs p 3) input (start_state outs p below input)
  begins input bytes =
      let room = placing.room in let pg = placing.page in let bh = placing.behind in
      let low = low-is outs p placing below is_below in
      let ta = text.address in let td0 = text-data.low in let td1 = text-data.high in let td2 = text-data.four in
      let sp3 = builtin-space 3 _ text in
      record {
        count = (let a = live-count union.objects in let b = front-count in let c = length-append (map Some g.statics) (Some (builtin_address outs p 1) ∷ None ∷ Some (builtin_address outs p 7) ∷ []) in
            let e = length-append (map (λ entry. live_object (first_cells union entry)) union.objects) (start_objects union) in omega (arith, a, b, c, e));
        statics = λ object start h. static-first modules outs tr join p placing object start h;
        fourfold = λ object start h. (let q = spot-of object start h in let z = q.is in let f = (data-of object start q).four in omega (arith, z, f));
        cells = λ number start object is placed. (let q = spot-of number start placed in q.cells object is);
        in_data = λ byte w. (let q = owned byte w in let z = q.spot.is in let d0 = (data-of w.number q.start q.spot).low in let d1 = (data-of w.number q.start q.spot).high in let l = q.low in let h = q.high in
            (omega (arith, z, d0, l), omega (arith, z, d1, h, low)));
        disjoint = λ byte a b. one byte a b (same-or-not a.number b.number);
        has_arguments = (let z : count + 0 ≡ count = omega arith in ap (slice_get m) (sym z) ∙ last-address 0 (Some (builtin_address outs p 1)) refl);
        has_no_text = (let z : count + 1 ≡ suc count = omega arith in ap (slice_get m) (sym z) ∙ last-address 1 None refl);
        text_bytes = λ i l. byte-at 3 _ text (builtin_address outs p 3) i _ refl (omega (arith, l)) refl;
        text_in_data = (omega (arith, ta, td0), omega (arith, ta, td1, sp3, low));
        text_fourfold = omega (arith, ta, td2);
        text_apart = λ byte w l h. text-apart byte (owned byte w) l h;
        stack = refl;
        base = refl;
        output = refl;
        input_is = refl;
        words = start-words modules outs tr p placing below is_below;
        bytes = bytes;
        laid = record { text = omega arith; gap = omega (arith, bh); data_and_bss = omega (arith, low); above = omega (arith, low, room); stack_size = zero-length (2 ^ 24) };
        data_start = refl;
        behind = omega (arith, bh, pg);
        gap = omega (arith, low, room);
        order = refl;
        running = refl;
      }
    where
      one : (byte : ℕ) (a b : Owner m objects byte) → (a.number ≡ b.number) ⊎ (a.number ≢ b.number) → a.number ≡ b.number
      one byte a b (inl e) = e
      one byte a b (inr n) = absurd (disjoint-by byte a.number b.number (owned byte a) (owned byte b) n)

      text-apart : (byte : ℕ) {n : ℕ} → Owned byte n → builtin_address outs p 3 ≤ byte → byte < builtin_address outs p 3 + length exit_bytes → ⊥
      text-apart byte {n} q l h =
          by (apart q.spot.d (record { «module» = length outs; symbol = 3 }) q.spot.s text.s q.spot.place text.place q.spot.at text.at (not-text n q.spot.d q.spot.which))
        where
          by : (object_address outs p (Some (numbered q.spot.d q.spot.s)) + space_of (numbered q.spot.d q.spot.s) ≤ object_address outs p (Some (numbered (record { «module» = length outs; symbol = 3 }) text.s)))
              ⊎ (object_address outs p (Some (numbered (record { «module» = length outs; symbol = 3 }) text.s)) + space_of (numbered (record { «module» = length outs; symbol = 3 }) text.s) ≤ object_address outs p (Some (numbered q.spot.d q.spot.s))) → ⊥
          by (inl k) = let z = q.spot.is in let hi = q.high in let ta = text.address in omega (arith, k, z, hi, ta, l)
          by (inr k) = let z = q.spot.is in let lo = q.low in let ta = text.address in let sp = builtin-space 3 _ text in omega (arith, k, z, lo, ta, h, sp)

pub programs_begin : ProgramsBegin
programs_begin modules outs p join tr placing below input is_below bytes = begins modules outs tr join p placing below is_below input bytes
