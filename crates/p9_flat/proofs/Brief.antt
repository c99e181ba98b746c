-- Pieces of code that go on for no longer than their length before a turn.
use Rattle.std.proofs.Common.{◌≡◌, ◌≤◌, ℕ, zero, suc, ◌+◌, Bool, List, [], ◌∷◌, ◌++◌, length, Option, Some, None, slice_get, refl, sym, subst, arith, length-append}
use Rattle.p9_flat.specs.declared.op.Op.{Op}
use Rattle.p9_flat.specs.declared.op.Op.TheVariants as op
use Rattle.p9_flat.specs.Code.{lacks, lacks_of, choice_code}
use Rattle.p9_flat.specs.Ending.{next_places, turn_places, AllOf, Behind, Within, Short}
use Rattle.p9_flat.specs.Flat.{HasAt}
use Rattle.p9_flat.proofs.Playing.{has_first, has_second}

-- for up to so many turns
abbrev pub UpTo : List Op → (bound k n pc : ℕ) → Type 0
UpTo code bound k n pc = (turns : ℕ) → turns ≤ k → Short code bound turns n pc

all_more : (P Q : ℕ → Type 0) → ((q : ℕ) → P q → Q q) → (xs : List ℕ) → AllOf P xs → AllOf Q xs
all_more P Q h [] a = tt
all_more P Q h (x ∷ xs) a = (h x a.0, all_more P Q h xs a.1)

behind_more : (P Q turned : ℕ → Type 0) → ((q : ℕ) → P q → Q q) → (pc : ℕ) (o : Option Op) → Behind P turned pc o → Behind Q turned pc o
behind_more P Q turned h pc None a = tt
behind_more P Q turned h pc (Some o) a = (all_more P Q h (next_places o pc) a.0, a.1)

within_more : (turned : ℕ → Type 0) (code : List Op) (m n : ℕ) → m ≤ n → (pc : ℕ) → Within turned code m pc → Within turned code n pc
within_more turned code zero n le pc h = absurd h
within_more turned code (suc m) zero le pc h = absurd (omega (arith, le))
within_more turned code (suc m) (suc n) le pc h =
    behind_more (Within turned code m) (Within turned code n) turned (λ q. within_more turned code m n (omega (arith, le)) q) pc (slice_get code pc) h

pub brief_more : (code : List Op) (bound k m n pc : ℕ) → m ≤ n → UpTo code bound k m pc → UpTo code bound k n pc
brief_more code bound k m n pc le h zero less = within_more (λ q. Unit {0}) code m n le pc (h zero less)
brief_more code bound k m n pc le h (suc turns) less = within_more (Short code bound turns bound) code m n le pc (h (suc turns) less)

all_at : (code : List Op) (bound k n : ℕ) (xs : List ℕ) → AllOf (UpTo code bound k n) xs → (turns : ℕ) → turns ≤ k → AllOf (Short code bound turns n) xs
all_at code bound k n [] a turns less = tt
all_at code bound k n (x ∷ xs) a turns less = (a.0 turns less, all_at code bound k n xs a.1 turns less)

no_turns : (P : ℕ → Type 0) (xs : List ℕ) → xs ≡ [] → AllOf P xs
no_turns P xs e = subst (λ l. AllOf P l) (sym e) tt

-- one operation that is no turn
pub brief_step : (code : List Op) (bound k n pc : ℕ) (o : Op) → slice_get code pc ≡ Some o → turn_places o pc ≡ []
    → AllOf (UpTo code bound k n) (next_places o pc) → UpTo code bound k (suc n) pc
brief_step code bound k n pc o there straight h zero less =
    subst (λ r. Behind (Within (λ q. Unit {0}) code n) (λ q. Unit {0}) pc r) (sym there)
    (all_at code bound k n (next_places o pc) h zero less, no_turns (λ q. Unit {0}) (turn_places o pc) straight)
brief_step code bound k n pc o there straight h (suc turns) less =
    subst (λ r. Behind (Within (Short code bound turns bound) code n) (Short code bound turns bound) pc r) (sym there)
    (all_at code bound k n (next_places o pc) h (suc turns) less, no_turns (Short code bound turns bound) (turn_places o pc) straight)

-- a turn, with fewer turns behind it
pub turn_short : (code : List Op) (bound n pc turns : ℕ) → slice_get code pc ≡ Some op.Turn → Short code bound turns bound (suc pc) → Short code bound (suc turns) (suc n) pc
turn_short code bound n pc turns there h =
    subst (λ r. Behind (Within (Short code bound turns bound) code n) (Short code bound turns bound) pc r) (sym there) (tt, (h, tt))

pub turn_short_now : (code : List Op) (bound n pc : ℕ) → slice_get code pc ≡ Some op.Turn → Short code bound zero (suc n) pc
turn_short_now code bound n pc there =
    subst (λ r. Behind (Within (λ q. Unit {0}) code n) (λ q. Unit {0}) pc r) (sym there) (tt, (tt, tt))

-- PIECES

-- A piece is brief if what stands behind it is.
pub record Brief (code : List Op) (bound pc : ℕ) (piece : List Op) : Type 0 where
  pub brief : HasAt code pc piece → (k n : ℕ) → UpTo code bound k n (pc + length piece) → UpTo code bound k (length piece + n) pc

pub brief_seq : {code : List Op} {bound pc : ℕ} {first rest : List Op} → Brief code bound pc first → Brief code bound (pc + length first) rest → Brief code bound pc (first ++ rest)
brief_seq {code} {bound} {pc} {first} {rest} one two = record {
  brief = λ h k n s.
      let l = length-append first rest in
      let m : ℕ = pc + length first in
      brief_more code bound k (length first + (length rest + n)) (length (first ++ rest) + n) pc (omega (arith, l))
      (one.brief (has_first code pc first rest h) k (length rest + n)
      (two.brief (has_second code pc first rest m refl h) k n (subst (λ j. UpTo code bound k n j) (omega (arith, l)) s)));
}

pub brief_none : {code : List Op} {bound pc : ℕ} → Brief code bound pc []
brief_none {code} {bound} {pc} = record {
  brief = λ h k n s.
      let none : List Op = [] in
      let here : pc + length none ≡ pc = omega arith in
      brief_more code bound k n (length none + n) pc (omega arith) (subst (λ j. UpTo code bound k n j) here s);
}

-- an operation behind which the next one follows
pub plain : {code : List Op} {bound pc : ℕ} {o : Op} {rest : List Op} → next_places o pc ≡ suc pc ∷ [] → turn_places o pc ≡ []
    → Brief code bound (suc pc) rest → Brief code bound pc (o ∷ rest)
plain {code} {bound} {pc} {o} {rest} next straight later = record {
  brief = λ h k n s.
      let there : pc + length (o ∷ rest) ≡ suc pc + length rest = omega arith in
      brief_more code bound k (suc (length rest + n)) (length (o ∷ rest) + n) pc (omega arith)
      (brief_step code bound k (length rest + n) pc o h.0 straight
      (subst (λ l. AllOf (UpTo code bound k (length rest + n)) l) (sym next)
      (later.brief h.1 k n (subst (λ j. UpTo code bound k n j) there s), tt)));
}

pub single : {code : List Op} {bound pc : ℕ} {o : Op} → next_places o pc ≡ suc pc ∷ [] → turn_places o pc ≡ [] → Brief code bound pc (o ∷ [])
single next straight = plain next straight brief_none

-- one behind which nothing follows
pub stopping : {code : List Op} {bound pc : ℕ} {o : Op} → next_places o pc ≡ [] → turn_places o pc ≡ [] → Brief code bound pc (o ∷ [])
stopping {code} {bound} {pc} {o} next straight = record {
  brief = λ h k n s.
      brief_more code bound k (suc n) (length (o ∷ []) + n) pc (omega arith)
      (brief_step code bound k n pc o h.0 straight (subst (λ l. AllOf (UpTo code bound k n) l) (sym next) tt));
}

pub lacks_brief : {code : List Op} {bound pc here : ℕ} → Brief code bound pc (lacks here)
lacks_brief = stopping refl refl

pub lacks_of_brief : {code : List Op} {bound pc here : ℕ} → Brief code bound pc (lacks_of here)
lacks_of_brief = plain refl refl lacks_brief

pub choice_brief : (code : List Op) (bound : ℕ) (o : Option Bool) (pc here : ℕ) (first second : ℕ → List Op)
    → ((n : ℕ) → Brief code bound n (first n)) → ((n : ℕ) → Brief code bound n (second n)) → Brief code bound pc (choice_code o here pc first second)
choice_brief code bound None pc here first second one two = lacks_of_brief
choice_brief code bound (Some of_pointer) pc here first second one two = record {
  brief = λ h k n s.
      let a : List Op = first (suc pc) in
      let z : ℕ = suc (suc (pc + length a)) in
      let b : List Op = second z in
      let jump : Op = op.Jump (z + length b) in
      let l = length-append a (jump ∷ b) in
      let tail = has_second code (suc pc) a (jump ∷ b) (suc (pc + length a)) (omega arith) h.1 in
      let end : UpTo code bound k n (z + length b) = subst (λ j. UpTo code bound k n j) (omega (arith, l)) s in
      let far : ℕ = length a + suc (length b + n) in
      let leap : UpTo code bound k (suc (length b + n)) (suc pc + length a) =
      subst (λ j. UpTo code bound k (suc (length b + n)) j) (omega arith)
      (brief_more code bound k (suc n) (suc (length b + n)) (suc (pc + length a)) (omega arith)
      (brief_step code bound k n (suc (pc + length a)) jump tail.0 refl (end, tt))) in
      brief_more code bound k (suc far) (length (choice_code (Some of_pointer) here pc first second) + n) pc (omega (arith, l))
      (brief_step code bound k far pc (op.Branch of_pointer here z) h.0 refl (
        (one (suc pc)).brief (has_first code (suc pc) a (jump ∷ b) h.1) k (suc (length b + n)) leap,
        (brief_more code bound k (length b + n) far z (omega arith) ((two z).brief tail.1 k n end), tt),
      ));
}
