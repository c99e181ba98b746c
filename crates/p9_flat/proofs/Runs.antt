-- Pieces of code that run what plays do.
use Rattle.std.proofs.Common.{◌≡◌, ℕ, suc, ◌+◌, List, [], ◌∷◌, ◌++◌, length, Some, slice_get, refl, sym, subst, arith, length-append}
use Rattle.p9_cmean.specs.declared.Cause.TheVariants as cause
use Rattle.p9_cmean.specs.Cells.{Value, Word, Address, Missing, State}
use Rattle.p9_cmean.specs.Places.{used}
use Rattle.p9_cmean.specs.Plays.{Play, Done, NoMeaning, bind}
use Rattle.p9_cmean.proofs.Plays.{bind_assoc}
use Rattle.p9_flat.specs.declared.op.Op.{Op}
use Rattle.p9_flat.specs.declared.op.Op.TheVariants as op
use Rattle.p9_flat.specs.Flat.{HasAt}
use Rattle.p9_flat.specs.Code.{lacks, lacks_of}
use Rattle.p9_flat.specs.Step.{Names, Own, Frame, frame, Next, stepped, step, Plays}
use Rattle.p9_flat.proofs.Playing.{has_first, has_second, IsSimple, by_next, by_lacks, by_unknown, by_fails, by_simple}

-- what stays the same while a call runs: what numbers name, all code, and the values of the calls that wait
pub record World : Type 0 where
  pub names : Names
  pub all : List Op
  pub below : List Value

abbrev pub PlaysIn : World → Play Value → Frame → State → Type 0
PlaysIn w p f s = Plays w.names w.all w.below p f s

-- where a piece lands: by the place behind it and what it gives, how the rest of the play must be played
abbrev pub Landing : Type 0 → Type 1
Landing A = ℕ → A → Play Value → State → Type 0

-- A piece that stands from a place on, entered with this stack, runs what a play does, if the rest of the play is
-- played where the piece lands.
pub record Runs (A : Type 0) (w : World) (own : Own) (pc : ℕ) (code : List Op) (stack : List Value) (f : State → Play A) (lands : Landing A) : Type 0 where
  pub runs : HasAt w.all pc code → (fin : ℕ) → fin ≡ pc + length code → (s : State) (k : A → State → Play Value)
      → ((x : A) (t : State) → lands fin x (k x t) t) → PlaysIn w (bind (f s) k) (frame pc stack own) s

-- it lands behind itself, with this stack
pub record Straight (A : Type 0) (w : World) (own : Own) (after : A → List Value) (fin : ℕ) (x : A) (p : Play Value) (t : State) : Type 0 where
  pub plays : PlaysIn w p (frame fin (after x) own) t

-- so with its value on this stack
abbrev pub Pushes : World → Own → List Value → Landing Value
Pushes w own stack = Straight Value w own (λ v. v ∷ stack)

-- one piece and then the next
pub seq : {A B : Type 0} {w : World} {own : Own} {pc : ℕ} {first rest : List Op} {stack : List Value} {f : State → Play A} {mid : A → List Value}
    {g : A → State → Play B} {lands : Landing B}
    → Runs A w own pc first stack f (Straight A w own mid) → ((x : A) → Runs B w own (pc + length first) rest (mid x) (g x) lands)
    → Runs B w own pc (first ++ rest) stack (λ s. bind (f s) g) lands
seq {A} {B} {w} {own} {pc} {first} {rest} {stack} {f} {mid} {g} {lands} runs next = record {
  runs = λ h fin e s k go.
      subst (λ p. PlaysIn w p (frame pc stack own) s) (sym (bind_assoc (f s) g k))
      (runs.runs (has_first w.all pc first rest h) (pc + length first) refl s (λ x t. bind (g x t) k)
      (λ x t. record {
        plays = (next x).runs (has_second w.all pc first rest (pc + length first) refl h) fin
            (let l = length-append first rest in omega (arith, e, l)) t k go;
      }));
}

-- no operation
pub empty : {A : Type 0} {w : World} {own : Own} {pc : ℕ} {after : A → List Value} (x : A)
    → Runs A w own pc [] (after x) (λ s. Done x s) (Straight A w own after)
empty {A} {w} {own} {pc} {after} x = record {
  runs = λ h fin e s k go.
      subst (λ m. PlaysIn w (k x s) (frame m (after x) own) s) (omega (arith, e)) (go x s).plays;
}

-- one operation that only changes the stack, and then the rest
pub moving : {B : Type 0} {w : World} {own : Own} {pc : ℕ} {o : Op} {rest : List Op} {stack : List Value} (after : List Value) {g : State → Play B} {lands : Landing B}
    → ((s : State) → step w.names o (frame pc stack own) s ≡ Next (frame (suc pc) after own) s)
    → Runs B w own (suc pc) rest after g lands
    → Runs B w own pc (o ∷ rest) stack g lands
moving {B} {w} {own} {pc} {o} {rest} {stack} after {g} {lands} is next = record {
  runs = λ h fin e s k go.
      by_next w.names w.all w.below (bind (g s) k) (frame pc stack own) (frame (suc pc) after own) s s o h.0 (is s)
      (next.runs h.1 fin (omega (arith, e)) s k go);
}

-- one simple operation
pub simple : {w : World} {own : Own} {pc : ℕ} {o : Op} {stack : List Value} (rest : List Value) {f : State → Play Value}
    → ((s : State) → IsSimple (f s)) → ((s : State) → step w.names o (frame pc stack own) s ≡ stepped (f s) (frame pc rest own))
    → Runs Value w own pc (o ∷ []) stack f (Pushes w own rest)
simple {w} {own} {pc} {o} {stack} rest {f} i is = record {
  runs = λ h fin e s k go.
      by_simple w.names w.all w.below (f s) k (frame pc stack own) (frame pc rest own) s o (i s) h.0 (is s)
      (λ v t. subst (λ m. PlaysIn w (k v t) (frame m (v ∷ rest) own) t) (omega (arith, e)) (go v t).plays);
}

-- what has no meaning
pub lacking : {A : Type 0} {w : World} {own : Own} {pc here : ℕ} {stack : List Value} {lands : Landing A}
    → Runs A w own pc (lacks here) stack (λ s. NoMeaning (record { «module» = own.owner; node = here }) s) lands
lacking {A} {w} {own} {pc} {here} {stack} {lands} = record {
  runs = λ h fin e s k go.
      by_lacks w.names w.all w.below (record { «module» = own.owner; node = here }) (frame pc stack own) s s (op.NoMeaning here) h.0 refl;
}

-- what has no number
pub unnumbered : {A : Type 0} {w : World} {own : Own} {pc : ℕ} {stack : List Value} {f : State → Play A} {lands : Landing A}
    → Runs A w own pc (op.Unnumbered ∷ []) stack f lands
unnumbered {A} {w} {own} {pc} {stack} {f} {lands} = record {
  runs = λ h fin e s k go.
      by_unknown w.names w.all w.below (bind (f s) k) (frame pc stack own) s op.Unnumbered h.0 refl;
}

-- the use of a value
pub using : {B : Type 0} {w : World} {own : Own} {pc : ℕ} {rest : List Op} {stack : List Value} (v : Value) {g : Value → State → Play B} {lands : Landing B}
    → ((x : Value) → Runs B w own (suc pc) rest (x ∷ stack) (g x) lands)
    → Runs B w own pc (op.Use ∷ rest) (v ∷ stack) (λ s. used v s (λ x. g x s)) lands
using {B} {w} {own} {pc} {rest} {stack} (Word n) {g} {lands} next = record {
  runs = λ h fin e s k go.
      by_next w.names w.all w.below (bind (g (Word n) s) k) (frame pc (Word n ∷ stack) own) (frame (suc pc) (Word n ∷ stack) own) s s op.Use h.0 refl
      ((next (Word n)).runs h.1 fin (omega (arith, e)) s k go);
}
using {B} {w} {own} {pc} {rest} {stack} (Address p) {g} {lands} next = record {
  runs = λ h fin e s k go.
      by_next w.names w.all w.below (bind (g (Address p) s) k) (frame pc (Address p ∷ stack) own) (frame (suc pc) (Address p ∷ stack) own) s s op.Use h.0 refl
      ((next (Address p)).runs h.1 fin (omega (arith, e)) s k go);
}
using {B} {w} {own} {pc} {rest} {stack} (Missing call) {g} {lands} next = record {
  runs = λ h fin e s k go.
      by_fails w.names w.all w.below cause.NoValue call (frame pc (Missing call ∷ stack) own) s s op.Use h.0 refl;
}

pub lacking_of : {A : Type 0} {w : World} {own : Own} {pc here : ℕ} {stack : List Value} (v : Value) {lands : Landing A}
    → Runs A w own pc (lacks_of here) (v ∷ stack) (λ s. used v s (λ x. NoMeaning (record { «module» = own.owner; node = here }) s)) lands
lacking_of v = using v (λ x. lacking)

-- a play that is equal
pub along : {A : Type 0} {w : World} {own : Own} {pc : ℕ} {code : List Op} {stack : List Value} {f : State → Play A} (g : State → Play A) {lands : Landing A}
    → ((s : State) → f s ≡ g s) → Runs A w own pc code stack g lands → Runs A w own pc code stack f lands
along {A} {w} {own} {pc} {code} {stack} {f} g {lands} same runs = record {
  runs = λ h fin e s k go.
      subst (λ p. PlaysIn w (bind p k) (frame pc stack own) s) (sym (same s)) (runs.runs h fin e s k go);
}

-- one piece and then the next, which knows more of what the first one gives
pub record StraightWhere (A : Type 0) (w : World) (own : Own) (known : A → Type 0) (after : A → List Value) (fin : ℕ) (x : A) (p : Play Value) (t : State) : Type 0 where
  pub plays : known x → PlaysIn w p (frame fin (after x) own) t

pub seq_where : {A B : Type 0} {w : World} {own : Own} {pc : ℕ} {first rest : List Op} {stack : List Value} {f : State → Play A} (known : A → Type 0) (mid : A → List Value)
    {g : A → State → Play B} {lands : Landing B}
    → Runs A w own pc first stack f (StraightWhere A w own known mid)
    → ((x : A) → known x → Runs B w own (pc + length first) rest (mid x) (g x) lands)
    → Runs B w own pc (first ++ rest) stack (λ s. bind (f s) g) lands
seq_where {A} {B} {w} {own} {pc} {first} {rest} {stack} {f} known mid {g} {lands} runs next = record {
  runs = λ h fin e s k go.
      subst (λ p. PlaysIn w p (frame pc stack own) s) (sym (bind_assoc (f s) g k))
      (runs.runs (has_first w.all pc first rest h) (pc + length first) refl s (λ x t. bind (g x t) k)
      (λ x t. record {
        plays = λ i. (next x i).runs (has_second w.all pc first rest (pc + length first) refl h) fin
            (let l = length-append first rest in omega (arith, e, l)) t k go;
      }));
}

-- a jump
pub by_jump : (w : World) (own : Own) (p : Play Value) (pc to : ℕ) (stack : List Value) (t : State)
    → slice_get w.all pc ≡ Some (op.Jump to) → PlaysIn w p (frame to stack own) t → PlaysIn w p (frame pc stack own) t
by_jump w own p pc to stack t there h = by_next w.names w.all w.below p (frame pc stack own) (frame to stack own) t t (op.Jump to) there refl h
