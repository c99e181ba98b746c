-- Rooms and pieces that are filled and put a part at a time.
use Rattle.std.proofs.Common.{◌≡◌, ◌≤◌, ◌<◌, ℕ, ◌+◌, ◌-◌, List, [], ◌++◌, length, take, drop, Option, Some, None, IfSome, sym, ◌∙◌, ap, subst, arith, append_assoc, append-nil, length-append, length-drop, min}
use Rattle.std.proofs.lemmas.List.{take-append-drop, drop-drop, take_rest, length-take-le, drop-append-le}
use Rattle.std.proofs.Math.Seq.{take-append-add, take-append_seam, drop-append_seam}
use Rattle.std.proofs.Math.ListN.{drop_of_length-le}
use Rattle.p9_base.specs.Outside.{Takes, Puts}
use Rattle.p9_base.specs.declared.outside.Took as took
use Rattle.p9_base.specs.declared.outside.Put as put
use Rattle.p9_base.specs.Core.{over}
use Rattle.p9_base.specs.Streams.{HasTaken, Fills}
use Rattle.p9_base.specs.Streams.{FillsPart}
use borrow.Rule.Slice.PartMut.{put_mid}

pub take_on : (d n : ℕ) (bytes : List ℕ) → d ≤ length bytes → take d bytes ++ take n (drop d bytes) ≡ take (d + n) bytes
take_on d n bytes h =
    let e : length (take d bytes) ≡ d = length-take-le d bytes h in
    let P : ℕ → Type 0 = λ m. take (m + n) (take d bytes ++ drop d bytes) ≡ take d bytes ++ take n (drop d bytes) in
    let a : take (d + n) (take d bytes ++ drop d bytes) ≡ take d bytes ++ take n (drop d bytes) =
    subst P e (take-append-add (take d bytes) (drop d bytes) n) in
    sym a ∙ ap (take (d + n)) (take-append-drop d bytes)

seam : (d : ℕ) (s t : List ℕ) → d ≤ length s → (take d (take d s ++ t) ≡ take d s) × (drop d (take d s ++ t) ≡ t)
seam d s t h =
    let e : length (take d s) ≡ d = length-take-le d s h in
    let P : ℕ → Type 0 = λ m. (take m (take d s ++ t) ≡ take d s) × (drop m (take d s ++ t) ≡ t) in
    subst P e (take-append_seam (take d s) t, drop-append_seam (take d s) t)

pub none_after : (room : List ℕ) (d : ℕ) → drop (length room - d) (drop d room) ≡ []
none_after room d = drop_of_length-le (drop d room) (omega (arith, length-drop d room))

-- a part of a room is filled behind d bytes that were taken
put_on : (d n : ℕ) (s room room0 new : List ℕ) → d ≤ length s → room ≡ take d s ++ drop d room0 →
    new ≡ take n (drop d s) ++ drop n (take (length room - d) (drop d room)) →
    put_mid d (length room - d) room new ≡ take (d + n) s ++ drop (d + n) room0
put_on d n s room room0 new h e1 e2 =
    let r1 : take d room ≡ take d s = ap (take d) e1 ∙ (seam d s (drop d room0) h).0 in
    let r2 : drop d room ≡ drop d room0 = ap (drop d) e1 ∙ (seam d s (drop d room0) h).1 in
    let z : drop (length room - d) (drop d room) ≡ [] = none_after room d in
    let t : take (length room - d) (drop d room) ≡ drop d room0 = take_rest room d ∙ r2 in
    let f : drop n (drop d room0) ≡ drop (d + n) room0 = drop-drop n d room0 in
    let w : new ≡ take n (drop d s) ++ drop (d + n) room0 = rw (← f, ← t) e2 in
    let g : take d s ++ take n (drop d s) ≡ take (d + n) s = take_on d n s h in
    rw (r1, z, w, ← g) (simp (append_assoc, append-nil))

-- so many more bytes are taken
pub took_more : (d n : ℕ) (left now later : Option (List ℕ)) (room0 room filled : List ℕ) → d ≤ length room →
    IfSome left (λ bytes. HasTaken d bytes now room0 room) →
    Takes now later (take (length room - d) (drop d room)) filled (took.TheVariants.Got n) →
    IfSome left (λ bytes. HasTaken (d + n) bytes later room0 (put_mid d (length room - d) room filled))
took_more d n None now later room0 room filled h t a = tt
took_more d n (Some bytes) now later room0 room filled h t a =
    let P : Option (List ℕ) → Type 0 = λ x. Takes x later (take (length room - d) (drop d room)) filled (took.TheVariants.Got n) in
    let r = subst P t.1 a in (
      omega (arith, r.2.0, t.0, length-drop d bytes),
      r.2.1 ∙ ap Some (drop-drop n d bytes),
      put_on d n bytes room room0 filled t.0 t.2 r.2.2,
    )

-- the room keeps its length
pub length_on : (d : ℕ) (room filled : List ℕ) → length filled ≡ length (take (length room - d) (drop d room)) → d ≤ length room →
    length (put_mid d (length room - d) room filled) ≡ length room
length_on d room filled e h =
    rw (none_after room d, append-nil) (simp (length-append, length-take-le) (omega (arith, e, ap length (take_rest room d), length-drop d room, length-take-le d room h)))

pub within_on : (d n : ℕ) (left later : Option (List ℕ)) (room filled : List ℕ) → d ≤ length room →
    length filled ≡ length (take (length room - d) (drop d room)) →
    Takes left later (take (length room - d) (drop d room)) filled (took.TheVariants.Got n) →
    d + n ≤ length (put_mid d (length room - d) room filled)
within_on d n left later room filled h e a =
    omega (arith, length_on d room filled e h, a.1, ap length (take_rest room d), length-drop d room)

-- so many more bytes are put
pub put_more : (d n : ℕ) (sofar now later : Option (List ℕ)) (piece : List ℕ) → d ≤ length piece →
    IfSome sofar (λ bytes. now ≡ Some (bytes ++ take d piece)) →
    Puts now later (take (length piece - d) (drop d piece)) (put.TheVariants.Wrote n) →
    IfSome sofar (λ bytes. later ≡ Some (bytes ++ take (d + n) piece))
put_more d n None now later piece h t a = tt
put_more d n (Some bytes) now later piece h t a =
    let P : Option (List ℕ) → Type 0 = λ x. Puts x later (take (length piece - d) (drop d piece)) (put.TheVariants.Wrote n) in
    let r = subst P t a in
    rw (take_rest piece d) at r.2 ∙ ap Some (append_assoc bytes (take d piece) (take n (drop d piece)) ∙ ap (λ (x : List ℕ). bytes ++ x) (take_on d n piece h))

pub within_piece : (d n : ℕ) (sofar later : Option (List ℕ)) (piece : List ℕ) → d ≤ length piece →
    Puts sofar later (take (length piece - d) (drop d piece)) (put.TheVariants.Wrote n) → d + n ≤ length piece
within_piece d n sofar later piece h a = omega (arith, a.1, ap length (take_rest piece d), length-drop d piece)

-- A room in a list of bytes

-- what a room holds after a fill is written over the bytes
pub put_over : (i n m : ℕ) (bytes filled l : List ℕ) → i + n ≤ length bytes → m ≤ n → m ≤ length l →
    filled ≡ take m l ++ drop m (take n (drop i bytes)) →
    put_mid i n bytes filled ≡ over bytes i (take m l)
put_over i n m bytes filled l h1 h2 h3 e =
    let t : take n (drop i bytes) ++ drop n (drop i bytes) ≡ drop i bytes = take-append-drop n (drop i bytes) in
    let f : length (take n (drop i bytes)) ≡ n = length-take-le n (drop i bytes) (omega (arith, length-drop i bytes)) in
    let k : m ≤ length (take n (drop i bytes)) = omega arith in
    let g : drop m (take n (drop i bytes)) ++ drop n (drop i bytes) ≡ drop (i + m) bytes =
    sym (drop-append-le m (take n (drop i bytes)) (drop n (drop i bytes)) k) ∙ (ap (drop m) t ∙ drop-drop m i bytes) in
    let q : length (take m l) ≡ m = length-take-le m l h3 in
    rw (e, q, ← g) (simp append_assoc)

pub fills_part : (i n : ℕ) (left later : Option (List ℕ)) (bytes filled : List ℕ) (r : Option ℕ) → i + n ≤ length bytes →
    Fills left later (take n (drop i bytes)) filled r → FillsPart left later bytes (put_mid i n bytes filled) i n r
fills_part i n None later bytes filled None h f = tt
fills_part i n None later bytes filled (Some m) h f = tt
fills_part i n (Some l) later bytes filled (Some m) h f =
    let e : length (take n (drop i bytes)) ≡ n = length-take-le n (drop i bytes) (omega (arith, length-drop i bytes)) in
    let a : m ≡ min n (length l) = rw e at f.0 in
    (a, f.1.1, put_over i n m bytes filled l h (omega arith) f.1.0 f.1.2)
fills_part i n (Some l) later bytes filled None h f =
    let e : length (take n (drop i bytes)) ≡ n = length-take-le n (drop i bytes) (omega (arith, length-drop i bytes)) in
    let a : f.0 < n = rw e at f.1 in
    (f.0, a, f.2.0, f.2.1, put_over i n f.0 bytes filled l h (omega arith) f.2.0 f.2.2)
