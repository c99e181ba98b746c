-- What one more piece of data adds.
use Rattle.std.proofs.Common.{◌≡◌, ◌≢◌, ℕ, ◌+◌, ◌%◌, ◌↔◌, true, false, List, [], ◌∷◌}
use Rattle.p9_abs.specs.declared.modules.DataPiece.{DataPiece}
use Rattle.p9_abs.specs.declared.modules.DataPiece.TheVariants.{Raw, Address}
use Rattle.p9_abs.specs.Modules.{piece_size}
use Rattle.p9_abs.specs.Validity.{NoRawNeighbours, AddressesAligned}
use Rattle.p9_obj.specs.Rules.{is_raw, begins_raw}

-- a raw piece before a raw one
pub neighbours_together : (p : DataPiece) (after : List DataPiece) → is_raw p ≡ true → begins_raw after ≡ true → NoRawNeighbours (p ∷ after) → ⊥
neighbours_together (Raw b) [] r n h = cc
neighbours_together (Raw b) (Raw c ∷ after) r n h = h
neighbours_together (Raw b) (Address s o ∷ after) r n h = cc
neighbours_together (Address s o) after r n h = cc

-- a piece that isn't raw before any
pub neighbours_address : (p : DataPiece) (after : List DataPiece) → is_raw p ≡ false → NoRawNeighbours (p ∷ after) ↔ NoRawNeighbours after
neighbours_address (Raw b) after n = cc
neighbours_address (Address s o) after n = (λ h. h, λ h. h)

-- any piece before one that isn't raw
pub neighbours_before_address : (p : DataPiece) (after : List DataPiece) → begins_raw after ≡ false → NoRawNeighbours (p ∷ after) ↔ NoRawNeighbours after
neighbours_before_address (Raw b) [] n = (λ h. tt, λ h. tt)
neighbours_before_address (Raw b) (Raw c ∷ after) n = cc
neighbours_before_address (Raw b) (Address s o ∷ after) n = (λ h. h, λ h. h)
neighbours_before_address (Address s o) after n = (λ h. h, λ h. h)

-- a raw piece stands anywhere
pub aligned_raw : (place : ℕ) (p : DataPiece) (after : List DataPiece) → is_raw p ≡ true → AddressesAligned place (p ∷ after) ↔ AddressesAligned (place + piece_size p) after
aligned_raw place (Raw b) after r = (λ h. h, λ h. h)
aligned_raw place (Address s o) after r = cc

-- any piece at a multiple of 4
pub aligned_here : (place : ℕ) (p : DataPiece) (after : List DataPiece) → place % 4 ≡ 0 → AddressesAligned place (p ∷ after) ↔ AddressesAligned (place + piece_size p) after
aligned_here place (Raw b) after r = (λ h. h, λ h. h)
aligned_here place (Address s o) after r = (λ h. h.1, λ h. (r, h))

-- an address elsewhere
pub misaligned : (place : ℕ) (p : DataPiece) (after : List DataPiece) → place % 4 ≢ 0 → is_raw p ≡ false → AddressesAligned place (p ∷ after) → ⊥
misaligned place (Raw b) after n r h = cc
misaligned place (Address s o) after n r h = n h.0
