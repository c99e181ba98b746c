-- The functions of a program, by their definitions and addresses.
use Rattle.std.proofs.Common.{◌≡◌, ◌<◌, ◌⊎◌, inl, inr, ℕ, zero, suc, ◌+◌, ◌==◌, Bool, true, false, if◌then◌else◌, Option, Some, None, List, [], ◌∷◌, ◌++◌, length, slice_get, refl, sym, ap, ◌∙◌, subst, arith}
use Rattle.std.specs.Prelude.{option_and_then, All}
use Rattle.std.proofs.lemmas.Bool.{and_parts}
use Rattle.std.proofs.lemmas.Bool.Decides.{nat_tests}
use Rattle.std.proofs.lemmas.List.Elements.{All-head, All-tail}
use Rattle.p9_abs.specs.declared.instructions.TextDef.{TextDef}
use Rattle.p9_abs.specs.declared.modules.Body as body
use Rattle.p9_abs.specs.declared.modules.Body.TheVariants.{Declared, Used, Text, Data, Common}
use Rattle.p9_abs.specs.declared.modules.Def.{Def}
use Rattle.p9_abs.specs.declared.modules.Symbol as abs
use Rattle.p9_abs.specs.declared.modules.AModule.{AModule}
use Rattle.p9_abs.specs.Modules.{is_full}
use Rattle.p9_abs.specs.Names.{symbol_at}
use Rattle.p9_abs.specs.BuiltIn.{start_code, system_code, builtin_symbols, linked}
use Rattle.p9_abs.specs.Validity.{EndsWell, HasFunction}
use Rattle.p9_abs.specs.Runs.{Routine, Addresses, routine_at}
use Rattle.p9_abs.specs.Programs.{Numbered, records, chosen, stands_for, definition_of, routine_of, routines_in, routines_of, is_routine, routine_number, Placing, placed_at, address_of_definition, address_of, addresses_of, IsCodeAddress, IsPlacing}
use Rattle.p9_lang.specs.Modules.{Source}
use Rattle.p9_cmean.specs.Joins.{Join}
use Rattle.p9_program.specs.Linking.{AreTranslations}
use Rattle.p9_program.proofs.Lists.{order, some-same, none-some, get-first, get-second, get-either}
use Rattle.p9_program.proofs.Positions.{found-symbol, symbol-of, record-of}
use Rattle.p9_program.proofs.Joined.{linked-either, linked-module, linked-builtin, chosen-full}

text-same : (a b : TextDef) → Text a ≡ Text b → a ≡ b
text-same a b e = cc

equal : (a b : ℕ) → (a == b) ≡ true → a ≡ b
equal a b h = grind (arith, nat_tests)

equal-self : (a b : ℕ) → a ≡ b → (a == b) ≡ true
equal-self a b h = grind (arith, nat_tests)

pub all-at : {A : Type 0} (P : A → Type 0) (xs : List A) (t : ℕ) (x : A) → All P xs → slice_get xs t ≡ Some x → P x
all-at P [] t x h e = absurd (none-some x e)
all-at P (y ∷ xs) zero x h e = subst P (some-same y x e) (All-head P y xs h)
all-at P (y ∷ xs) (suc t) x h e = all-at P xs t x (All-tail P y xs h) e

-- FUNCTIONS AND RECORDS

abbrev routine_for : Def → TextDef → Routine
routine_for d def = record { unit = d.«module»; symbol = d.symbol; def = def }

record FromRecord (rs : List Numbered) (r : Routine) : Type 0 where
  place : ℕ
  it : Numbered
  found : slice_get rs place ≡ Some it
  is_text : it.symbol.body ≡ Text r.def
  same : r ≡ routine_for it.def r.def

routines-back : (rs : List Numbered) (f : ℕ) (r : Routine) → slice_get (routines_in rs) f ≡ Some r → FromRecord rs r
routines-back [] f r e = absurd (none-some r e)
routines-back (q ∷ rs) f r e = by q.symbol.body refl e (λ i h. routines-back rs i r h)
  where
    later : FromRecord rs r → FromRecord (q ∷ rs) r
    later k = record { place = suc k.place; it = k.it; found = k.found; is_text = k.is_text; same = k.same }

    first : (def : TextDef) → q.symbol.body ≡ Text def → routine_for q.def def ≡ r → FromRecord (q ∷ rs) r
    first def b z = record { place = 0; it = q; found = refl; is_text = b ∙ ap (λ k. Text k.def) z; same = sym z ∙ ap (λ k. routine_for q.def k.def) z }

    text : (def : TextDef) → q.symbol.body ≡ Text def → (i : ℕ) → slice_get (routine_for q.def def ∷ routines_in rs) i ≡ Some r → ((i : ℕ) → slice_get (routines_in rs) i ≡ Some r → FromRecord rs r) → FromRecord (q ∷ rs) r
    text def b zero h rec = first def b (some-same (routine_for q.def def) r h)
    text def b (suc i) h rec = later (rec i h)

    by : (b : body.Body) → q.symbol.body ≡ b → slice_get (routine_of q.def b ++ routines_in rs) f ≡ Some r → ((i : ℕ) → slice_get (routines_in rs) i ≡ Some r → FromRecord rs r) → FromRecord (q ∷ rs) r
    by (Text def) z h rec = text def z f h rec
    by Declared z h rec = later (rec f h)
    by Used z h rec = later (rec f h)
    by (Data pieces) z h rec = later (rec f h)
    by (Common n) z h rec = later (rec f h)

routines-there : (rs : List Numbered) (t : ℕ) (q : Numbered) (def : TextDef) → slice_get rs t ≡ Some q → q.symbol.body ≡ Text def → (f : ℕ) × (slice_get (routines_in rs) f ≡ Some (routine_for q.def def))
routines-there [] t q def e b = absurd (none-some q e)
routines-there (p ∷ rs) zero q def e b =
    let z = some-same p q e in
    (0, ap (λ k. slice_get (routine_of p.def k ++ routines_in rs) 0) (ap (λ k. k.symbol.body) z ∙ b) ∙ ap (λ k. Some (routine_for k.def def)) z)
routines-there (p ∷ rs) (suc t) q def e b =
    let r = routines-there rs t q def e b in (length (routine_of p.def p.symbol.body) + r.0, get-second (routine_of p.def p.symbol.body) (routines_in rs) r.0 (routine_for q.def def) r.1)

-- THE PROGRAM'S

-- the built-in module's functions behind those of the modules
abbrev tail_of : ℕ → List Routine
tail_of n =
    record { unit = n; symbol = 4; def = record { frame = 0; code = system_code 8 } }
    ∷ record { unit = n; symbol = 5; def = record { frame = 0; code = system_code 15 } }
    ∷ record { unit = n; symbol = 6; def = record { frame = 0; code = system_code 20 } }
    ∷ []

abbrev start_of : ℕ → Routine
start_of n = record { unit = n; symbol = 0; def = record { frame = 8; code = start_code } }

routines-are : (outs : List AModule) → routines_of outs ≡ start_of (length outs) ∷ (routines_in (records outs) ++ tail_of (length outs))
routines-are outs = refl

-- each function is a text
pub routine-text : (outs : List AModule) (f : ℕ) (r : Routine) → slice_get (routines_of outs) f ≡ Some r
    → (s : abs.Symbol) × (symbol_at (linked outs) (record { «module» = r.unit; symbol = r.symbol }) ≡ Some s) × (s.body ≡ Text r.def)
routine-text outs f r e = by f e
  where
    own : (k : ℕ) (s : abs.Symbol) (def : TextDef) → slice_get builtin_symbols k ≡ Some s → s.body ≡ Text def → record { unit = length outs; symbol = k; def = def } ≡ r
        → (s : abs.Symbol) × (symbol_at (linked outs) (record { «module» = r.unit; symbol = r.symbol }) ≡ Some s) × (s.body ≡ Text r.def)
    own k s def g b z = (s, ap (λ i. symbol_at (linked outs) (record { «module» = i.unit; symbol = i.symbol })) (sym z) ∙ linked-builtin outs k s g, b ∙ ap (λ i. Text i.def) z)

    module_text : FromRecord (records outs) r → (s : abs.Symbol) × (symbol_at (linked outs) (record { «module» = r.unit; symbol = r.symbol }) ≡ Some s) × (s.body ≡ Text r.def)
    module_text k = (k.it.symbol, ap (λ i. symbol_at (linked outs) (record { «module» = i.unit; symbol = i.symbol })) k.same ∙ linked-module outs k.it.def k.it.symbol (symbol-of outs k.place k.it k.found), k.is_text)

    last : (u : ℕ) → slice_get (tail_of (length outs)) u ≡ Some r → (s : abs.Symbol) × (symbol_at (linked outs) (record { «module» = r.unit; symbol = r.symbol }) ≡ Some s) × (s.body ≡ Text r.def)
    last zero h = own 4 _ _ refl refl (some-same _ r h)
    last (suc zero) h = own 5 _ _ refl refl (some-same _ r h)
    last (suc (suc zero)) h = own 6 _ _ refl refl (some-same _ r h)
    last (suc (suc (suc u))) h = absurd (none-some r h)

    later : (i : ℕ) → (slice_get (routines_in (records outs)) i ≡ Some r) ⊎ ((u : ℕ) × (i ≡ length (routines_in (records outs)) + u) × (slice_get (tail_of (length outs)) u ≡ Some r))
        → (s : abs.Symbol) × (symbol_at (linked outs) (record { «module» = r.unit; symbol = r.symbol }) ≡ Some s) × (s.body ≡ Text r.def)
    later i (inl h) = module_text (routines-back (records outs) i r h)
    later i (inr h) = last h.0 h.2

    by : (f : ℕ) → slice_get (routines_of outs) f ≡ Some r → (s : abs.Symbol) × (symbol_at (linked outs) (record { «module» = r.unit; symbol = r.symbol }) ≡ Some s) × (s.body ≡ Text r.def)
    by zero h = own 0 _ _ refl refl (some-same _ r h)
    by (suc i) h = later i (get-either (routines_in (records outs)) (tail_of (length outs)) i r h)

-- and each text is a function
pub text-routine : (outs : List AModule) (d : Def) (s : abs.Symbol) (def : TextDef) → symbol_at (linked outs) d ≡ Some s → s.body ≡ Text def → (f : ℕ) × (slice_get (routines_of outs) f ≡ Some (routine_for d def))
text-routine outs d s def e b = by (linked-either outs d s e)
  where
    in-tail : (u : ℕ) (r : Routine) → slice_get (tail_of (length outs)) u ≡ Some r → slice_get (routines_of outs) (suc (length (routines_in (records outs)) + u)) ≡ Some r
    in-tail u r h = get-second (routines_in (records outs)) (tail_of (length outs)) u r h

    put : (k : ℕ) (q : TextDef) (f : ℕ) → d.«module» ≡ length outs → d.symbol ≡ k → Text q ≡ Text def → slice_get (routines_of outs) f ≡ Some (record { unit = length outs; symbol = k; def = q }) → (f : ℕ) × (slice_get (routines_of outs) f ≡ Some (routine_for d def))
    put k q f z y w h = (f, h ∙ (ap (λ i. Some (record { unit = i; symbol = k; def = q })) (sym z) ∙ (ap (λ i. Some (record { unit = d.«module»; symbol = i; def = q })) (sym y) ∙ ap (λ i. Some (routine_for d i)) (text-same q def w))))

    no : {A : Type 0} (q : abs.Symbol) → Some q ≡ Some s → (q.body ≡ Text def → ⊥) → A
    no q h n = absurd (n (ap (λ i. i.body) (some-same q s h) ∙ b))

    body-of : (q : abs.Symbol) → Some q ≡ Some s → q.body ≡ Text def
    body-of q h = ap (λ i. i.body) (some-same q s h) ∙ b

    builtin : (k : ℕ) → d.«module» ≡ length outs → d.symbol ≡ k → slice_get builtin_symbols k ≡ Some s → (f : ℕ) × (slice_get (routines_of outs) f ≡ Some (routine_for d def))
    builtin zero z y h = put 0 _ 0 z y (body-of _ h) refl
    builtin (suc zero) z y h = no _ h (λ i. cc)
    builtin (suc (suc zero)) z y h = no _ h (λ i. cc)
    builtin (suc (suc (suc zero))) z y h = no _ h (λ i. cc)
    builtin (suc (suc (suc (suc zero)))) z y h = put 4 _ (suc (length (routines_in (records outs)) + 0)) z y (body-of _ h) (in-tail 0 _ refl)
    builtin (suc (suc (suc (suc (suc zero))))) z y h = put 5 _ (suc (length (routines_in (records outs)) + 1)) z y (body-of _ h) (in-tail 1 _ refl)
    builtin (suc (suc (suc (suc (suc (suc zero)))))) z y h = put 6 _ (suc (length (routines_in (records outs)) + 2)) z y (body-of _ h) (in-tail 2 _ refl)
    builtin (suc (suc (suc (suc (suc (suc (suc zero))))))) z y h = no _ h (λ i. cc)
    builtin (suc (suc (suc (suc (suc (suc (suc (suc k)))))))) z y h = absurd (none-some s h)

    by : ((d.«module» < length outs) × (symbol_at outs d ≡ Some s)) ⊎ ((d.«module» ≡ length outs) × (slice_get builtin_symbols d.symbol ≡ Some s)) → (f : ℕ) × (slice_get (routines_of outs) f ≡ Some (routine_for d def))
    by (inl h) =
        let r = record-of outs d s h.1 in
        let q = routines-there (records outs) r.0 (record { def = d; symbol = s }) def r.1 b in
        (suc q.0, get-first (routines_in (records outs)) (tail_of (length outs)) q.0 (routine_for d def) q.1)
    by (inr h) = builtin d.symbol h.0 refl h.1

-- NUMBERS

record IsNumber (d : Def) (rs : List Routine) (first f : ℕ) : Type 0 where
  place : ℕ
  it : Routine
  is : f ≡ first + place
  found : slice_get rs place ≡ Some it
  unit : it.unit ≡ d.«module»
  symbol : it.symbol ≡ d.symbol

number-back : (rs : List Routine) (first f : ℕ) (d : Def) → routine_number rs first d ≡ Some f → IsNumber d rs first f
number-back [] first f d e = absurd (none-some f e)
number-back (r ∷ rs) first f d e = by (is_routine d r) refl e (λ h. number-back rs (first + 1) f d h)
  where
    by : (b : Bool) → is_routine d r ≡ b → (if b then Some first else routine_number rs (first + 1) d) ≡ Some f → (routine_number rs (first + 1) d ≡ Some f → IsNumber d rs (first + 1) f) → IsNumber d (r ∷ rs) first f
    by true t h rec =
        let q = and_parts (r.unit == d.«module») (r.symbol == d.symbol) t in
        record { place = 0; it = r; is = (let z = some-same first f h in omega (arith, z)); found = refl; unit = equal r.unit d.«module» q.0; symbol = equal r.symbol d.symbol q.1 }
    by false t h rec = let k = rec h in let i = k.is in record { place = suc k.place; it = k.it; is = omega (arith, i); found = k.found; unit = k.unit; symbol = k.symbol }

number-there : (rs : List Routine) (first f : ℕ) (d : Def) (r : Routine) → slice_get rs f ≡ Some r → r.unit ≡ d.«module» → r.symbol ≡ d.symbol → (g : ℕ) × (routine_number rs first d ≡ Some g)
number-there [] first f d r e u s = absurd (none-some r e)
number-there (q ∷ rs) first zero d r e u s =
    let z = some-same q r e in
    let a : (q.unit == d.«module») ≡ true = equal-self q.unit d.«module» (ap (λ i. i.unit) z ∙ u) in
    let b : (q.symbol == d.symbol) ≡ true = equal-self q.symbol d.symbol (ap (λ i. i.symbol) z ∙ s) in
    (first, rw (a, b) refl)
number-there (q ∷ rs) first (suc f) d r e u s = by (is_routine d q) (number-there rs (first + 1) f d r e u s)
  where
    by : (b : Bool) → (g : ℕ) × (routine_number rs (first + 1) d ≡ Some g) → (g : ℕ) × ((if b then Some first else routine_number rs (first + 1) d) ≡ Some g)
    by true k = (first, refl)
    by false k = k

-- the function that is a definition's text
pub record HasNumber (outs : List AModule) (d : Def) (def : TextDef) : Type 0 where
  pub number : ℕ
  pub is : routine_number (routines_of outs) 0 d ≡ Some number
  pub found : slice_get (routines_of outs) number ≡ Some (record { unit = d.«module»; symbol = d.symbol; def = def })

pub has-number : (outs : List AModule) (d : Def) (s : abs.Symbol) (def : TextDef) → symbol_at (linked outs) d ≡ Some s → s.body ≡ Text def → HasNumber outs d def
has-number outs d s def e b =
    let t = text-routine outs d s def e b in
    let n = number-there (routines_of outs) 0 t.0 d (routine_for d def) t.1 refl refl in
    by n.0 n.1 (number-back (routines_of outs) 0 n.0 d n.1)
  where
    by : (n : ℕ) → routine_number (routines_of outs) 0 d ≡ Some n → IsNumber d (routines_of outs) 0 n → HasNumber outs d def
    by n h k =
        let i = k.is in
        let z : k.place ≡ n = omega (arith, i) in
        let t = routine-text outs k.place k.it k.found in
        let at : record { «module» = k.it.unit; symbol = k.it.symbol } ≡ d = ap (λ i. record { «module» = i; symbol = k.it.symbol }) k.unit ∙ ap (λ i. record { «module» = d.«module»; symbol = i }) k.symbol in
        let w : t.0 ≡ s = some-same t.0 s (sym t.1 ∙ (ap (symbol_at (linked outs)) at ∙ e)) in
        let y : k.it.def ≡ def = text-same k.it.def def (sym t.2 ∙ (ap (λ i. i.body) w ∙ b)) in
        record {
          number = n;
          is = h;
          found = ap (slice_get (routines_of outs)) (sym z) ∙ (k.found ∙ (ap (λ i. Some (record { unit = i; symbol = k.it.symbol; def = k.it.def })) k.unit
              ∙ (ap (λ i. Some (record { unit = d.«module»; symbol = i; def = k.it.def })) k.symbol ∙ ap (λ i. Some (routine_for d i)) y)));
        }

-- what is no text has no number
pub no-number : (outs : List AModule) (d : Def) (s : abs.Symbol) → symbol_at (linked outs) d ≡ Some s → ((def : TextDef) → s.body ≡ Text def → ⊥) → routine_number (routines_of outs) 0 d ≡ None
no-number outs d s e never = by (routine_number (routines_of outs) 0 d) refl
  where
    wrong : (f : ℕ) → IsNumber d (routines_of outs) 0 f → ⊥
    wrong f k =
        let t = routine-text outs k.place k.it k.found in
        let at : record { «module» = k.it.unit; symbol = k.it.symbol } ≡ d = ap (λ i. record { «module» = i; symbol = k.it.symbol }) k.unit ∙ ap (λ i. record { «module» = d.«module»; symbol = i }) k.symbol in
        let w : t.0 ≡ s = some-same t.0 s (sym t.1 ∙ (ap (symbol_at (linked outs)) at ∙ e)) in
        never k.it.def (sym (ap (λ i. i.body) w) ∙ t.2)

    by : (o : Option ℕ) → routine_number (routines_of outs) 0 d ≡ o → routine_number (routines_of outs) 0 d ≡ None
    by None z = z
    by (Some f) z = absurd (wrong f (number-back (routines_of outs) 0 f d z))

-- ADDRESSES

record IsAt (a : Addresses) (rs : List Routine) (to first f : ℕ) : Type 0 where
  place : ℕ
  it : Routine
  is : f ≡ first + place
  found : slice_get rs place ≡ Some it
  address : a.symbol it.unit it.symbol ≡ to

at-back : (a : Addresses) (rs : List Routine) (to first f : ℕ) → routine_at a rs first to ≡ Some f → IsAt a rs to first f
at-back a [] to first f e = absurd (none-some f e)
at-back a (r ∷ rs) to first f e = by (a.symbol r.unit r.symbol == to) refl e (λ h. at-back a rs to (first + 1) f h)
  where
    by : (b : Bool) → (a.symbol r.unit r.symbol == to) ≡ b → (if b then Some first else routine_at a rs (first + 1) to) ≡ Some f → (routine_at a rs (first + 1) to ≡ Some f → IsAt a rs to (first + 1) f) → IsAt a (r ∷ rs) to first f
    by true t h rec = record { place = 0; it = r; is = (let z = some-same first f h in omega (arith, z)); found = refl; address = equal (a.symbol r.unit r.symbol) to t }
    by false t h rec = let k = rec h in let i = k.is in record { place = suc k.place; it = k.it; is = omega (arith, i); found = k.found; address = k.address }

at-there : (a : Addresses) (rs : List Routine) (to first f : ℕ) (r : Routine) → slice_get rs f ≡ Some r → a.symbol r.unit r.symbol ≡ to → (g : ℕ) × (routine_at a rs first to ≡ Some g)
at-there a [] to first f r e h = absurd (none-some r e)
at-there a (q ∷ rs) to first zero r e h =
    let b : (a.symbol q.unit q.symbol == to) ≡ true = equal-self (a.symbol q.unit q.symbol) to (ap (λ i. a.symbol i.unit i.symbol) (some-same q r e) ∙ h) in (first, rw b refl)
at-there a (q ∷ rs) to first (suc f) r e h = by (a.symbol q.unit q.symbol == to) (at-there a rs to (first + 1) f r e h)
  where
    by : (b : Bool) → (g : ℕ) × (routine_at a rs (first + 1) to ≡ Some g) → (g : ℕ) × ((if b then Some first else routine_at a rs (first + 1) to) ≡ Some g)
    by true k = (first, refl)
    by false k = k

ends-some : (d : TextDef) → EndsWell d.code → 0 < length d.code
ends-some d h = by d.code h
  where
    by : (c : List _) → EndsWell c → 0 < length c
    by [] h = absurd h
    by (a ∷ c) h = omega arith

module _ (modules : List Source) (outs : List AModule) (tr : AreTranslations modules outs) (join : Join modules) (p : Placing) (placing : IsPlacing outs p) where
  -- the code of each text ends well
  pub text-ends : (d : Def) (s : abs.Symbol) (def : TextDef) → symbol_at (linked outs) d ≡ Some s → s.body ≡ Text def → EndsWell def.code
  text-ends d s def e b = by (linked-either outs d s e)
    where
      function : (b : body.Body) → b ≡ Text def → HasFunction b → EndsWell def.code
      function (Text k) z h = subst (λ i. EndsWell i.code) (text-same k def z) h.ending
      function Declared z h = absurd (let i : Declared ≡ Text def = z in cc)
      function Used z h = absurd (let i : Used ≡ Text def = z in cc)
      function (Data q) z h = absurd (let i : Data q ≡ Text def = z in cc)
      function (Common q) z h = absurd (let i : Common q ≡ Text def = z in cc)

      of-body : (q : abs.Symbol) (k : TextDef) → Some q ≡ Some s → q.body ≡ Text k → EndsWell k.code → EndsWell def.code
      of-body q k h i w = subst (λ j. EndsWell j.code) (text-same k def (sym i ∙ (ap (λ j. j.body) (some-same q s h) ∙ b))) w

      no : (q : abs.Symbol) → Some q ≡ Some s → (q.body ≡ Text def → ⊥) → EndsWell def.code
      no q h n = absurd (n (ap (λ i. i.body) (some-same q s h) ∙ b))

      builtin : (k : ℕ) → slice_get builtin_symbols k ≡ Some s → EndsWell def.code
      builtin zero h = of-body _ _ h refl (inl refl)
      builtin (suc zero) h = no _ h (λ i. cc)
      builtin (suc (suc zero)) h = no _ h (λ i. cc)
      builtin (suc (suc (suc zero))) h = no _ h (λ i. cc)
      builtin (suc (suc (suc (suc zero)))) h = of-body _ _ h refl (inl refl)
      builtin (suc (suc (suc (suc (suc zero))))) h = of-body _ _ h refl (inl refl)
      builtin (suc (suc (suc (suc (suc (suc zero)))))) h = of-body _ _ h refl (inl refl)
      builtin (suc (suc (suc (suc (suc (suc (suc zero))))))) h = no _ h (λ i. cc)
      builtin (suc (suc (suc (suc (suc (suc (suc (suc k)))))))) h = absurd (none-some s h)

      by : ((d.«module» < length outs) × (symbol_at outs d ≡ Some s)) ⊎ ((d.«module» ≡ length outs) × (slice_get builtin_symbols d.symbol ≡ Some s)) → EndsWell def.code
      by (inl h) =
          let f = found-symbol outs d s h.1 in
          function s.body b (all-at (λ q. HasFunction q.body) f.out.symbols d.symbol s (tr.objects d.«module» f.out f.is_out).valid.functions f.is_symbol)
      by (inr h) = builtin d.symbol h.1

  pub routine-ends : (f : ℕ) (r : Routine) → slice_get (routines_of outs) f ≡ Some r → EndsWell r.def.code
  routine-ends f r e = let t = routine-text outs f r e in text-ends (record { «module» = r.unit; symbol = r.symbol }) t.0 r.def t.1 t.2

  function-less : (f g : ℕ) (r q : Routine) → slice_get (routines_of outs) f ≡ Some r → slice_get (routines_of outs) g ≡ Some q → f < g → p.function f < p.function g
  function-less f g r q e h l =
      let some = ends-some r.def (routine-ends f r e) in
      let a = (placing.functions f r e).first 0 some in
      let b = placing.ordered f g r q l e h 0 some in
      omega (arith, a, b)

  -- functions have addresses of their own
  pub function-own : (f g : ℕ) (r q : Routine) → slice_get (routines_of outs) f ≡ Some r → slice_get (routines_of outs) g ≡ Some q → p.function f ≡ p.function g → f ≡ g
  function-own f g r q e h same = by (order f g)
    where
      by : (f < g) ⊎ ((f ≡ g) ⊎ (g < f)) → f ≡ g
      by (inl l) = absurd (let z = function-less f g r q e h l in omega (arith, z, same))
      by (inr (inl z)) = z
      by (inr (inr l)) = absurd (let z = function-less g f q r h e l in omega (arith, z, same))

  pub function-code : (f : ℕ) (r : Routine) → slice_get (routines_of outs) f ≡ Some r → IsCodeAddress (p.function f) × (p.function f < p.data_start)
  function-code f r e =
      let some = ends-some r.def (routine-ends f r e) in
      let k = placing.functions f r e in
      let a = k.first 0 some in let b = k.before_data 0 some in
      (k.function, omega (arith, a, b))

  -- each text is what its symbol stands for
  pub own-text : (d : Def) (s : abs.Symbol) (def : TextDef) → symbol_at (linked outs) d ≡ Some s → s.body ≡ Text def → definition_of (linked outs) d ≡ Some d
  own-text d s def e b = ap (option_and_then (stands_for (linked outs) d)) e ∙ by s.local refl
    where
      by : (t : Bool) → s.local ≡ t → (if t then Some d else chosen (linked outs) s.name) ≡ Some d
      by true z = refl
      by false z = chosen-full modules outs tr join s.name d s e z refl (ap is_full b)

  pub text-address : (d : Def) (def : TextDef) (n : HasNumber outs d def) → address_of_definition outs p (Some d) ≡ p.function n.number
  text-address d def n = ap (placed_at outs p d) n.is

  -- the function at the address of a text is that text
  pub record IsFunctionAt (to : ℕ) (d : Def) (def : TextDef) : Type 0 where
    pub number : ℕ
    pub found : routine_at (addresses_of outs p) (routines_of outs) 0 to ≡ Some number
    pub is : slice_get (routines_of outs) number ≡ Some (record { unit = d.«module»; symbol = d.symbol; def = def })

  pub function-at : (d : Def) (s : abs.Symbol) (def : TextDef) → symbol_at (linked outs) d ≡ Some s → s.body ≡ Text def → IsFunctionAt (address_of_definition outs p (Some d)) d def
  function-at d s def e b =
      let n = has-number outs d s def e b in
      let here : address_of outs p d ≡ address_of_definition outs p (Some d) = ap (address_of_definition outs p) (own-text d s def e b) in
      let t = at-there (addresses_of outs p) (routines_of outs) (address_of_definition outs p (Some d)) 0 n.number (routine_for d def) n.found here in
      by n t.0 t.1 (at-back (addresses_of outs p) (routines_of outs) (address_of_definition outs p (Some d)) 0 t.0 t.1)
    where
      by : HasNumber outs d def → (g : ℕ) → routine_at (addresses_of outs p) (routines_of outs) 0 (address_of_definition outs p (Some d)) ≡ Some g
          → IsAt (addresses_of outs p) (routines_of outs) (address_of_definition outs p (Some d)) 0 g → IsFunctionAt (address_of_definition outs p (Some d)) d def
      by n g h k =
          let i = k.is in
          let z : k.place ≡ g = omega (arith, i) in
          let t = routine-text outs k.place k.it k.found in
          let q : Def = record { «module» = k.it.unit; symbol = k.it.symbol } in
          let m = has-number outs q t.0 k.it.def t.1 t.2 in
          let at_q : address_of outs p q ≡ p.function m.number = ap (address_of_definition outs p) (own-text q t.0 k.it.def t.1 t.2) ∙ text-address q k.it.def m in
          let same : p.function m.number ≡ p.function n.number = sym at_q ∙ (k.address ∙ text-address d def n) in
          let w : m.number ≡ n.number = function-own m.number n.number (routine_for q k.it.def) (routine_for d def) m.found n.found same in
          let r : routine_for q k.it.def ≡ routine_for d def = some-same (routine_for q k.it.def) (routine_for d def) (sym m.found ∙ (ap (slice_get (routines_of outs)) w ∙ n.found)) in
          record { number = g; found = h; is = ap (slice_get (routines_of outs)) (sym z) ∙ (k.found ∙ ap Some r) }
