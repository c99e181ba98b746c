-- What is known of a line that moves behind another.
use Rattle.std.proofs.Common.{◌==◌, ◌≡◌, ◌||◌, ◌&&◌, Bool, true, false, not, refl, List, [], ◌∷◌}
use Rattle.p9_r3k.specs.declared.inst.Inst.{Inst}
use Rattle.p9_r3k.specs.Effects.{reads, reads_pair, writes_pair}
use Rattle.p9_r3k.specs.Uses.{written, loads, stores, is_system_call, delays}
use Rattle.p9_slot.specs.declared.blocks.Block.{Block}
use Rattle.p9_slot.specs.declared.blocks.Block.TheVariants.{Single, Exchanged}
use Rattle.p9_slot.specs.Blocks.{is_noop, breaks, stays, follows_write, depend, may_move}

-- Tests

pub both : (a b : Bool) → (a && b) ≡ true → (a ≡ true) × (b ≡ true)
both true b h = (refl, h)
both false b h = absurd (let z : false ≡ true = h in cc)

pub neither : (a b : Bool) → (a || b) ≡ false → (a ≡ false) × (b ≡ false)
neither false b h = (refl, h)
neither true b h = absurd (let z : true ≡ false = h in cc)

pub is_not : (a : Bool) → not a ≡ true → a ≡ false
is_not false h = refl
is_not true h = absurd (let z : false ≡ true = h in cc)

-- An instruction c that moves behind b

pub record Moves (c b : Inst) : Type 0 where
  pub delayed : delays b ≡ true
  pub quick : delays c ≡ false
  pub no_call : is_system_call c ≡ false
  pub no_reader : reads_pair c ≡ false
  pub no_writer : writes_pair c ≡ false
  -- b neither reads nor writes what c writes, and c doesn't read what b writes
  pub not_read : (not (written c == 0) && reads b (written c)) ≡ false
  pub not_written : (not (written c == 0) && (written b == written c)) ≡ false
  pub not_read_back : (not (written b == 0) && reads c (written b)) ≡ false
  pub memory : (loads b && stores c) ≡ false

split : (x y z : Bool) → (x && (y || z)) ≡ false → ((x && y) ≡ false) × ((x && z) ≡ false)
split false y z h = (refl, refl)
split true y z h = neither y z h

pub moves_by : (c b : Inst) → may_move c b ≡ true → Moves c b
moves_by c b h =
    let h1 : (delays b ≡ true) × ((not (stays c) && (not (depend c b) && not (loads b && stores c))) ≡ true) =
    both (delays b) (not (stays c) && (not (depend c b) && not (loads b && stores c))) h in
    let h2 : (not (stays c) ≡ true) × ((not (depend c b) && not (loads b && stores c)) ≡ true) =
    both (not (stays c)) (not (depend c b) && not (loads b && stores c)) h1.1 in
    let h3 : (not (depend c b) ≡ true) × (not (loads b && stores c) ≡ true) = both (not (depend c b)) (not (loads b && stores c)) h2.1 in
    let s1 : (delays c ≡ false) × ((is_system_call c || (breaks c || (is_noop c || (reads_pair c || writes_pair c)))) ≡ false) =
    neither (delays c) (is_system_call c || (breaks c || (is_noop c || (reads_pair c || writes_pair c)))) (is_not (stays c) h2.0) in
    let s2 : (is_system_call c ≡ false) × ((breaks c || (is_noop c || (reads_pair c || writes_pair c))) ≡ false) =
    neither (is_system_call c) (breaks c || (is_noop c || (reads_pair c || writes_pair c))) s1.1 in
    let s3 : (breaks c ≡ false) × ((is_noop c || (reads_pair c || writes_pair c)) ≡ false) =
    neither (breaks c) (is_noop c || (reads_pair c || writes_pair c)) s2.1 in
    let s4 : (is_noop c ≡ false) × ((reads_pair c || writes_pair c) ≡ false) = neither (is_noop c) (reads_pair c || writes_pair c) s3.1 in
    let s5 : (reads_pair c ≡ false) × (writes_pair c ≡ false) = neither (reads_pair c) (writes_pair c) s4.1 in
    let d1 : (follows_write c b ≡ false) × ((not (written b == 0) && reads c (written b)) ≡ false) =
    neither (follows_write c b) (not (written b == 0) && reads c (written b)) (is_not (depend c b) h3.0) in
    let d2 : ((not (written c == 0) && reads b (written c)) ≡ false) × ((not (written c == 0) && (written b == written c)) ≡ false) =
    split (not (written c == 0)) (reads b (written c)) (written b == written c) d1.0 in
    record {
      delayed = h1.0;
      quick = s1.0;
      no_call = s2.0;
      no_reader = s5.0;
      no_writer = s5.1;
      not_read = d2.0;
      not_written = d2.1;
      not_read_back = d1.1;
      memory = is_not (loads b && stores c) h3.1;
    }

-- each line that has moved might
abbrev pub AllMove : List Block → Type 0
AllMove [] = Unit {0}
AllMove (Single line target ∷ rest) = AllMove rest
AllMove (Exchanged line lead ∷ rest) = (may_move line.inst lead.inst ≡ true) × AllMove rest
