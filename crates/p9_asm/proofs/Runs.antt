-- Bytes in front of pieces.
use Rattle.std.proofs.Common.{◌≡◌, ℕ, suc, ◌+◌, ◌-◌, ◌<◌, ◌≤◌, arith, List, [], ◌∷◌, ◌++◌, refl, sym, ap, ◌∙◌, append_assoc}
use Rattle.p9_abs.specs.declared.modules.DataPiece.{DataPiece}
use Rattle.p9_abs.specs.declared.modules.DataPiece.TheVariants as piece
use Rattle.p9_statement.specs.declared.operands.SymbolName.{SymbolName}
use Rattle.p9_asm.specs.Files.{File}
use Rattle.p9_asm.specs.Data.{standing, raw_in_front, in_front, flushed, bytes_in_front, pieces_from}

pub one_more : (bytes : List ℕ) (b : ℕ) (pieces : List DataPiece) → bytes_in_front (bytes ++ b ∷ []) pieces ≡ bytes_in_front bytes (raw_in_front b pieces)
one_more [] b pieces = refl
one_more (x ∷ bytes) b pieces = ap (raw_in_front x) (one_more bytes b pieces)

-- in front of nothing
pub at_end : (bytes : List ℕ) → bytes_in_front bytes [] ≡ flushed bytes
at_end [] = refl
at_end (b ∷ []) = refl
at_end (b ∷ c ∷ bytes) = ap (raw_in_front b) (at_end (c ∷ bytes))

-- in front of an address
pub at_address : (bytes : List ℕ) (n o : ℕ) (rest : List DataPiece) → bytes_in_front bytes (piece.Address n o ∷ rest) ≡ flushed bytes ++ piece.Address n o ∷ rest
at_address [] n o rest = refl
at_address (b ∷ []) n o rest = refl
at_address (b ∷ c ∷ bytes) n o rest = ap (raw_in_front b) (at_address (c ∷ bytes) n o rest)

pub add_byte : (raw new : List ℕ) (done : List DataPiece) (b : ℕ) (ps : List DataPiece) → new ≡ raw ++ b ∷ [] → done ++ bytes_in_front new ps ≡ done ++ bytes_in_front raw (raw_in_front b ps)
add_byte raw new done b ps e = ap (λ r. done ++ bytes_in_front r ps) e ∙ ap (λ ps. done ++ ps) (one_more raw b ps)

pub add_address : (raw : List ℕ) (done all : List DataPiece) (n o : ℕ) (ps : List DataPiece) → all ≡ (done ++ flushed raw) ++ piece.Address n o ∷ [] → all ++ ps ≡ done ++ bytes_in_front raw (piece.Address n o ∷ ps)
add_address raw done all n o ps e =
    rw (e, at_address raw n o ps)
    (append_assoc (done ++ flushed raw) (piece.Address n o ∷ []) ps ∙ append_assoc done (flushed raw) (piece.Address n o ∷ ps))

pub place_turn : (file : File) (s : SymbolName) (place size : ℕ) (done more all : List DataPiece) (raw next : List ℕ) → place < size → ((ps : List DataPiece) → more ++ bytes_in_front next ps ≡ done ++ bytes_in_front raw (in_front file (standing file s place) ps)) → done ++ bytes_in_front raw (pieces_from file s place (size - place)) ≡ all → more ++ bytes_in_front next (pieces_from file s (place + 1) (size - (place + 1))) ≡ all
place_turn file s place size done more all raw next lt step h =
    let e : size - place ≡ suc (size - (place + 1)) = omega (arith, lt) in
    step (pieces_from file s (place + 1) (size - (place + 1))) ∙ (rw e at h)

pub place_end : (file : File) (s : SymbolName) (place size : ℕ) (done all : List DataPiece) (raw : List ℕ) → size ≤ place → done ++ bytes_in_front raw (pieces_from file s place (size - place)) ≡ all → done ++ flushed raw ≡ all
place_end file s place size done all raw le h =
    let e : size - place ≡ 0 = omega (arith, le) in
    ap (λ ps. done ++ ps) (sym (at_end raw)) ∙ (rw e at h)

pub add_start : (raw fresh taken : List ℕ) (done all : List DataPiece) (n m o : ℕ) (ps : List DataPiece) → fresh ≡ [] → taken ≡ raw → n ≡ m → all ≡ (done ++ flushed taken) ++ piece.Address n o ∷ [] → all ++ bytes_in_front fresh ps ≡ done ++ bytes_in_front raw (piece.Address m o ∷ ps)
add_start raw fresh taken done all n m o ps none same number e =
    let h : all ≡ (done ++ flushed raw) ++ piece.Address n o ∷ [] = e ∙ ap (λ r. (done ++ flushed r) ++ piece.Address n o ∷ []) same in
    ap (λ r. all ++ bytes_in_front r ps) none ∙ (add_address raw done all n o ps h ∙ ap (λ k. done ++ bytes_in_front raw (piece.Address k o ∷ ps)) number)
