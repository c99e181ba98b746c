-- The code of names pushes the addresses of what they stand for.
use Rattle.std.proofs.Common.{◌≡◌, ℕ, suc, ◌+◌, ◌==◌, Bool, true, false, if◌then◌else◌, List, [], ◌∷◌, ◌++◌, length, Option, Some, None, slice_get, refl, ap, subst}
use Rattle.p9_lang.specs.Types.{TypeTree, Meant, Outer, Static, Auto, EnumValue, TypeName}
use Rattle.p9_lang.specs.Types as types
use Rattle.p9_lang.specs.Modules.{Label}
use Rattle.p9_cmean.specs.declared.Place.{Place}
use Rattle.p9_cmean.specs.Cells.{FunctionName, Pointer, Into, ToFunction, Value, Word, Address, State}
use Rattle.p9_cmean.specs.Plays.{Play, Done, NoMeaning, bind}
use Rattle.p9_cmean.specs.Places.{or_no_meaning}
use Rattle.p9_cmean.specs.Automatics.{Living, living_object}
use Rattle.p9_cmean.specs.Expressions.{Surroundings, at, outer_pointer, pointer_to, address_of_name, value_of_name, read_at}
use Rattle.p9_flat.specs.Code.{read_code, Numbers, named_function_code, Slot, Setting, slot_of, slot_code, pointer_code, meant_code, name_code, named_code}
use Rattle.p9_flat.specs.Laws.{AreNamed}
use Rattle.p9_flat.specs.Step.{Own, Next, frame, pushed_automatic}
use Rattle.p9_flat.proofs.Runs.{World, Runs, Pushes, seq, empty, moving, lacking, unnumbered, along}
use Rattle.p9_flat.proofs.Accesses.{place_of, reading}

-- The automatics in scope are those that are alive, each with its object at its number.
abbrev pub Fits : List Slot → List Living → (automatics : List ℕ) → Type 0
Fits [] [] automatics = Unit {0}
Fits [] (l ∷ ls) automatics = ⊥
Fits (c ∷ cs) [] automatics = ⊥
Fits (c ∷ cs) (l ∷ ls) automatics =
    (c.automatic ≡ l.automatic) × (slice_get automatics c.number ≡ Some l.object) × Fits cs ls automatics

abbrev pub SlotIs : (automatics : List ℕ) → Option ℕ → Option Pointer → Type 0
SlotIs automatics None pointer = pointer ≡ None
SlotIs automatics (Some number) pointer =
    (object : ℕ) × (slice_get automatics number ≡ Some object) × (pointer ≡ Some (Into object 0))

slot_by : (automatics : List ℕ) (b : Bool) (number object : ℕ) (slot : Option ℕ) (pointer : Option Pointer)
    → slice_get automatics number ≡ Some object → SlotIs automatics slot pointer
    → SlotIs automatics (if b then Some number else slot) (if b then Some (Into object 0) else pointer)
slot_by automatics true number object slot pointer there others = (object, there, refl)
slot_by automatics false number object slot pointer there others = others

pub slot_is : (scope : List Slot) (living : List Living) (automatics : List ℕ) → Fits scope living automatics → (n : ℕ)
    → SlotIs automatics (slot_of scope n) (living_object living n)
slot_is [] [] automatics h n = refl
slot_is [] (l ∷ ls) automatics h n = absurd h
slot_is (c ∷ cs) [] automatics h n = absurd h
slot_is (c ∷ cs) (l ∷ ls) automatics h n =
    subst (λ m. SlotIs automatics (slot_of (c ∷ cs) n) (if m == n then Some (Into l.object 0) else living_object ls n)) h.0
    (slot_by automatics (c.automatic == n) c.number l.object (slot_of cs n) (living_object ls n) h.1 (slot_is cs ls automatics h.2 n))

-- what belongs to a call of a function of the module
abbrev pub own_of : Surroundings → (automatics : List ℕ) → (call : Place) → Own
own_of around automatics call = record { automatics = automatics; call = call; owner = around.owner }

abbrev pub with_living : Surroundings → List Living → Surroundings
with_living around living = record around { automatics = living }

abbrev pub address_or : Place → Option Pointer → State → Play Value
address_or place pointer s = or_no_meaning place s pointer (λ p. Done (Address p) s)

module _ (w : World) (numbers : Numbers) (around : Surroundings) (named : AreNamed w.names numbers around) (scope : List Slot) (alive : ℕ)
    (living : List Living) (automatics : List ℕ) (call : Place) (fits : Fits scope living automatics) where
  abbrev pub own : Own
  own = own_of around automatics call

  abbrev pub setting : Setting
  setting = record { around = around; numbers = numbers; scope = scope; alive = alive }

  function_runs : (f : FunctionName) (o : Option ℕ) → numbers.function f ≡ o → (pc : ℕ) (stack : List Value)
      → Runs Value w own pc (named_function_code o) stack (λ s. Done (Address (ToFunction f)) s) (Pushes w own stack)
  function_runs f None e pc stack = unnumbered
  function_runs f (Some number) e pc stack =
      moving (Address (ToFunction f) ∷ stack) (λ s. ap (λ g. Next (frame (suc pc) (Address (ToFunction g) ∷ stack) own) s) (named.functions f number e))
      (empty (Address (ToFunction f)))

  pointing : (o : Option Pointer) (pc here : ℕ) (stack : List Value)
      → Runs Value w own pc (pointer_code numbers o here) stack (λ s. address_or (place_of own here) o s) (Pushes w own stack)
  pointing None pc here stack = lacking
  pointing (Some (Into object offset)) pc here stack = moving (Address (Into object offset) ∷ stack) (λ s. refl) (empty (Address (Into object offset)))
  pointing (Some (ToFunction f)) pc here stack = function_runs f (numbers.function f) refl pc stack

  slotting : (slot : Option ℕ) (pointer : Option Pointer) (pc here : ℕ) (stack : List Value) → SlotIs automatics slot pointer
      → Runs Value w own pc (slot_code slot here) stack (λ s. address_or (place_of own here) pointer s) (Pushes w own stack)
  slotting None pointer pc here stack h =
      along (λ s. NoMeaning (place_of own here) s) (λ s. ap (λ r. address_or (place_of own here) r s) h) lacking
  slotting (Some number) pointer pc here stack h =
      along (λ s. Done (Address (Into h.0 0)) s) (λ s. ap (λ r. address_or (place_of own here) r s) h.2)
      (moving (Address (Into h.0 0) ∷ stack) (λ s. ap (λ r. pushed_automatic r (frame pc stack own) s) h.1) (empty (Address (Into h.0 0))))

  pub meaning : (type : TypeTree) (means : Meant) (pc here : ℕ) (stack : List Value)
      → Runs Value w own pc (meant_code setting type means here) stack
      (λ s. address_or (place_of own here) (pointer_to (with_living around living) type means) s) (Pushes w own stack)
  meaning type types.Nothing pc here stack = lacking
  meaning type (Outer name) pc here stack = pointing (outer_pointer around type name) pc here stack
  meaning type (Static number) pc here stack = pointing (around.static number) pc here stack
  meaning type (Auto number) pc here stack =
      slotting (slot_of scope number) (living_object living number) pc here stack (slot_is scope living automatics fits number)
  meaning type (EnumValue value) pc here stack = lacking
  meaning type (TypeName other) pc here stack = lacking

  pub naming : (label : Label) (pc : ℕ) (stack : List Value)
      → Runs Value w own pc (name_code setting label) stack (λ s. address_of_name (with_living around living) label s) (Pushes w own stack)
  naming label pc stack = meaning label.type label.means pc label.number stack

  pub read_name : (label : Label) (pc : ℕ) (stack : List Value)
      → Runs Value w own pc (name_code setting label ++ read_code label.type label.number) stack
      (λ s. bind (address_of_name (with_living around living) label s) (λ p t. read_at (with_living around living) label.type (at around label) p t))
      (Pushes w own stack)
  read_name label pc stack =
      seq (naming label pc stack) (λ p. reading w own (with_living around living) label.type (pc + length (name_code setting label)) label.number p stack)

  valued_by : (number token : ℕ) (type : TypeTree) (means : Meant) (pc : ℕ) (stack : List Value)
      → Runs Value w own pc (named_code setting (record { number = number; token = token; type = type; means = means })) stack
      (λ s. value_of_name (with_living around living) (record { number = number; token = token; type = type; means = means }) s) (Pushes w own stack)
  valued_by number token type (EnumValue n) pc stack = moving (Word n ∷ stack) (λ s. refl) (empty (Word n))
  valued_by number token type means pc stack =
      read_name (record { number = number; token = token; type = type; means = means }) pc stack

  pub valuing : (label : Label) (pc : ℕ) (stack : List Value)
      → Runs Value w own pc (named_code setting label) stack (λ s. value_of_name (with_living around living) label s) (Pushes w own stack)
  valuing label pc stack = valued_by label.number label.token label.type label.means pc stack
