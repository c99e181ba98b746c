-- How many bytes the parts of an executable have.
use Rattle.std.proofs.Common.{ℕ, ◌+◌, ◌-◌, ◌*◌, ◌/◌, ◌≡◌, ◌≤◌, Bool, true, false, List, [], ◌∷◌, ◌++◌, length, sum_by, replicate, cond, refl, sym, ap, ◌∙◌, arith, length-append}
use Rattle.std.specs.Prelude.{flat_map, filter, unwrap_or}
use Rattle.std.proofs.lemmas.List.{length-replicate}
use Rattle.std.proofs.lemmas.List.Sums.{sum_by-cons}
use Rattle.p9_base.specs.Numbers.{word_bytes}
use Rattle.p9_abs.specs.declared.modules.Body.{Body}
use Rattle.p9_abs.specs.declared.modules.Body.TheVariants.{Declared, Used, Text, Data, Common}
use Rattle.p9_abs.specs.declared.modules.AModule.{AModule}
use Rattle.p9_abs.specs.declared.modules.Def.{Def}
use Rattle.p9_abs.specs.declared.modules.Symbol.{Symbol}
use Rattle.p9_abs.specs.Modules.{size_of, pieces_of, pieces_size, rounded}
use Rattle.p9_abs.specs.BuiltIn.{linked}
use Rattle.p9_abs.specs.Programs.{Numbered, Placing, addresses_of, is_data, space_of, records, piece_bytes, object_bytes, zero_bytes, init_bytes, init_size}
use Rattle.p9_r3k.specs.declared.lines.Line.{Line}
use Rattle.p9_r3k.specs.Table.{word_of}
use Rattle.p9_image.specs.Text.{patched, text_from, text_bytes}
use Rattle.p9_data.proofs.Collecting.{pieces-length}
use Rattle.p9_aout.specs.declared.format.AoutSym.{AoutSym}
use Rattle.p9_aout.specs.Symbols.{type_byte, entry_bytes, symbol_bytes}

-- Text

text-from-length : (tables : List (List ℕ)) (n : ℕ) (lines : List Line) → length (text_from tables n lines) ≡ 4 * length lines
text-from-length tables n [] = refl
text-from-length tables n (line ∷ rest) =
    length-append (word_bytes (word_of (patched tables n line))) (text_from tables (n + 1) rest)
    ∙ omega (arith, text-from-length tables (n + 1) rest)

pub text-length : (tables : List (List ℕ)) (lines : List Line) → length (text_bytes tables lines) ≡ 4 * length lines
text-length tables lines = text-from-length tables 0 lines

-- Data

zeros-length : (n : ℕ) → length (zero_bytes n) ≡ n
unfolding zero_bytes
zeros-length n = length-replicate n 0

rounded-up : (n : ℕ) → n ≤ rounded n
rounded-up n = omega arith

object-length : (address : ℕ → ℕ → ℕ) (r : Numbered) → is_data r ≡ true → length (object_bytes address r) ≡ space_of r
object-length address r h = by r.symbol.body refl
  where
    by : (b : Body) → r.symbol.body ≡ b → length (object_bytes address r) ≡ space_of r
    by (Data pieces) e =
        length-append (flat_map (piece_bytes (address r.def.«module»)) (pieces_of r.symbol.body)) (zero_bytes (space_of r - unwrap_or (size_of r.symbol.body) 0))
        ∙ ap (λ n. length (flat_map (piece_bytes (address r.def.«module»)) (pieces_of r.symbol.body)) + n) (zeros-length (space_of r - unwrap_or (size_of r.symbol.body) 0))
        ∙ omega (
          arith,
          pieces-length (address r.def.«module») (pieces_of r.symbol.body),
          ap (λ b. pieces_size (pieces_of b)) e,
          ap (λ b. unwrap_or (size_of b) 0) e,
          rounded-up (unwrap_or (size_of r.symbol.body) 0),
        )
    by Declared e = absurd (let z : true ≡ false = sym h ∙ ap (λ b. is_data (record r { symbol = record r.symbol { body = b } })) e in cc)
    by Used e = absurd (let z : true ≡ false = sym h ∙ ap (λ b. is_data (record r { symbol = record r.symbol { body = b } })) e in cc)
    by (Text def) e = absurd (let z : true ≡ false = sym h ∙ ap (λ b. is_data (record r { symbol = record r.symbol { body = b } })) e in cc)
    by (Common size) e = absurd (let z : true ≡ false = sym h ∙ ap (λ b. is_data (record r { symbol = record r.symbol { body = b } })) e in cc)

objects-length : (address : ℕ → ℕ → ℕ) (rs : List Numbered) → length (flat_map (object_bytes address) (filter is_data rs)) ≡ sum_by space_of (filter is_data rs)
objects-length address [] = refl
objects-length address (r ∷ rs) = by (is_data r) refl (objects-length address rs)
  where
    by : (b : Bool) → is_data r ≡ b → length (flat_map (object_bytes address) (filter is_data rs)) ≡ sum_by space_of (filter is_data rs) →
        length (flat_map (object_bytes address) (cond b (r ∷ filter is_data rs) (filter is_data rs))) ≡ sum_by space_of (cond b (r ∷ filter is_data rs) (filter is_data rs))
    by true h later =
        length-append (object_bytes address r) (flat_map (object_bytes address) (filter is_data rs))
        ∙ omega (arith, object-length address r h, later, sum_by-cons space_of r (filter is_data rs))
    by false h later = later

pub init-length : (modules : List AModule) (p : Placing) → length (init_bytes modules p) ≡ init_size (linked modules)
init-length modules p = objects-length (addresses_of modules p).symbol (records (linked modules))

-- Symbols

entry-length : (s : AoutSym) → length (entry_bytes s) ≡ 6 + length s.name
entry-length s =
    length-append (word_bytes s.value) (type_byte s.letter ∷ (s.name ++ 0 ∷ []))
    ∙ omega (arith, length-append s.name (0 ∷ []))

pub entries-length : (s : AoutSym) (rest : List AoutSym) → length (symbol_bytes (s ∷ rest)) ≡ 6 + length s.name + length (symbol_bytes rest)
entries-length s rest = length-append (entry_bytes s) (symbol_bytes rest) ∙ ap (λ n. n + length (symbol_bytes rest)) (entry-length s)
