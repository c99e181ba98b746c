-- What each system call leaves.
use Rattle.std.proofs.Common.{ℕ, ◌≡◌, List, ◌++◌, length, take, drop, min, Option, true, false, refl, subst}
use Rattle.p9_base.specs.declared.halt.Asked.{Asked}
use Rattle.p9_base.specs.declared.halt.Asked.TheVariants as asks
use Rattle.p9_base.specs.declared.halt.HaltCause.{HaltCause}
use Rattle.p9_base.specs.declared.halt.Ending.TheVariants.{Exited}
use Rattle.p9_r3k.specs.Memory.{Core, with_bytes, bytes_from}
use Rattle.p9_r3k.specs.Machine.{state, called, answered, advanced, halted}
use Rattle.p9_vi.specs.declared.stop.Stepped.TheVariants.{Done, ReadFault, WriteFault}
use Rattle.p9_base.specs.Streams.{Told}
use Rattle.p9_vi.specs.Steps.{Reads, PutsPiece, Calls}

pub read_done : (at size n : ℕ) (l s : List ℕ) (request : Asked) (old new : Core) → request ≡ asks.Read at size →
    n ≡ min size (length l) → new ≡ answered (with_bytes old at (take n l)) n →
    state new (drop n l) s ≡ called request (state old l s)
unfolding state
read_done at size n l s request old new e0 e1 e2 = rw (e0, e2, e1) refl

pub write_done : (at size : ℕ) (l s : List ℕ) (request : Asked) (old new : Core) → request ≡ asks.Write at size →
    new ≡ answered old size → state new l (s ++ bytes_from old at size) ≡ called request (state old l s)
unfolding state
write_done at size l s request old new e0 e1 = rw (e0, e1) refl

-- The objects tell what they have

pub read_told : (left later out : Option (List ℕ)) (request : Asked) (old new : Core) (at size : ℕ) → request ≡ asks.Read at size →
    Reads left later old new at size true → Told (Calls Done request old new) left later out out
read_told left later out request old new at size e reads = λ l s e1 e2.
    let P : Option (List ℕ) → Type 0 = λ x. Reads x later old new at size true in
    let r = subst P e1 reads in
    (drop r.0 l, s, r.2, e2, read_done at size r.0 l s request old new e r.1 r.3)

pub read_failed : (left later out : Option (List ℕ)) (request : Asked) (old new : Core) (at size : ℕ) → request ≡ asks.Read at size →
    Reads left later old new at size false → Told (Calls ReadFault request old new) left later out out
read_failed left later out request old new at size e reads = λ l s e1 e2.
    let P : Option (List ℕ) → Type 0 = λ x. Reads x later old new at size false in
    let r = subst P e1 reads in (
      drop r.0 l,
      s,
      r.3,
      e2,
      (record { room = at; size = size; reads = e; taken = r.0; in_room = r.1; in_left = r.2; new_is = r.4; later_is = refl }, refl),
    )

pub write_told : (left out now : Option (List ℕ)) (request : Asked) (old new : Core) (at size : ℕ) → request ≡ asks.Write at size →
    PutsPiece out now old at size true → new ≡ answered old size → Told (Calls Done request old new) left left out now
write_told left out now request old new at size e puts after = λ l s e1 e2.
    let P : Option (List ℕ) → Type 0 = λ x. PutsPiece x now old at size true in
    let r = subst P e2 puts in
    (l, s ++ bytes_from old at size, e1, r, write_done at size l s request old new e after)

pub write_failed : (left out now : Option (List ℕ)) (request : Asked) (old new : Core) (at size : ℕ) → request ≡ asks.Write at size →
    PutsPiece out now old at size false → new ≡ old → Told (Calls WriteFault request old new) left left out now
write_failed left out now request old new at size e puts after = λ l s e1 e2.
    let P : Option (List ℕ) → Type 0 = λ x. PutsPiece x now old at size false in
    let r = subst P e2 puts in (
      l,
      s ++ take r.0 (bytes_from old at size),
      e1,
      r.2,
      (record { piece = at; size = size; writes = e; put = r.0; in_piece = r.1; later_is = refl }, after, refl),
    )

pub exits_told : (left out : Option (List ℕ)) (request : Asked) (old mid new : Core) (at size : ℕ) → request ≡ asks.Exits at size →
    mid ≡ advanced old false → new ≡ record mid { ending = Exited at size } → Told (Calls Done request old new) left left out out
unfolding state
exits_told left out request old mid new at size e0 e1 e2 = λ l s h1 h2. (l, s, h1, h2, rw (e0, e2, e1) refl)

pub refused_told : (left out : Option (List ℕ)) (request : Asked) (old new : Core) → request ≡ asks.Refused →
    new ≡ answered old 4294967295 → Told (Calls Done request old new) left left out out
unfolding state
refused_told left out request old new e0 e1 = λ l s h1 h2. (l, s, h1, h2, rw (e0, e1) refl)

pub stop_told : (left out : Option (List ℕ)) (request : Asked) (old new : Core) (cause : HaltCause) → request ≡ asks.Stop cause →
    new ≡ halted old cause → Told (Calls Done request old new) left left out out
unfolding state
stop_told left out request old new cause e0 e1 = λ l s h1 h2. (l, s, h1, h2, rw (e0, e1) refl)
