-- Each function of the union has its code in the program, which is right.
use Rattle.std.proofs.Common.{◌≡◌, ◌≢◌, ◌<◌, ℕ, Bool, true, false, if◌then◌else◌, Option, Some, None, List, [], length, slice_get, refl, sym, ap, ◌∙◌, subst, arith}
use Rattle.std.specs.Prelude.{codes}
use Rattle.std.proofs.lemmas.Bool.{true≢false}
use Rattle.p9_abs.specs.declared.instructions.TextDef.{TextDef}
use Rattle.p9_abs.specs.declared.modules.Body.TheVariants.{Text}
use Rattle.p9_abs.specs.declared.modules.Def.{Def}
use Rattle.p9_abs.specs.declared.modules.Symbol as abs
use Rattle.p9_abs.specs.declared.modules.AModule.{AModule}
use Rattle.p9_abs.specs.Modules.{is_full}
use Rattle.p9_abs.specs.Names.{symbol_at}
use Rattle.p9_abs.specs.BuiltIn.{system_symbol, builtin_symbols, linked}
use Rattle.p9_abs.specs.Runs.{Routine, routine_at}
use Rattle.p9_abs.specs.Programs.{Placing, IsPlacing, IsCodeAddress, address_of_definition, address_of, addresses_of, routines_of}
use Rattle.p9_lang.specs.Names.{same_name}
use Rattle.p9_lang.specs.Modules.{Source}
use Rattle.p9_cmean.specs.Cells.{FunctionName, Global, Local}
use Rattle.p9_cmean.specs.Joins.{Join}
use Rattle.p9_cmean.specs.SystemCalls.{SystemCall, Exits, Read, Write, system_call}
use Rattle.p9_cmean.specs.Union.{FunctionEntry, found_function, is_local_function, function_named, union_of}
use Rattle.p9_cmean.specs.CRun.{NoCallee, defined, system_or, callee, callee_body, functions_of}
use Rattle.p9_sim.specs.Matching.{entry_of}
use Rattle.p9_sim.specs.Playing.{AllSteps, first_count, Performs}
use Rattle.p9_sim.specs.Functions.{setting_of, after_entry, FnOk}
use Rattle.p9_sim.specs.Translating.{SameSymbol, IsGround}
use Rattle.p9_compose.specs.Calling.{HasCode}
use Rattle.p9_systems.specs.Systems.{system_def, system_function}
use Rattle.p9_systems.proofs.Systems.{systems_are_right}
use Rattle.p9_program.specs.Linking.{AreTranslations, function_definition, ground_of, HasMost, CodesAreRight}
use Rattle.p9_program.proofs.Lists.{some-same, none-some, same-is}
use Rattle.p9_program.proofs.Joined.{linked-builtin, chosen-full}
use Rattle.p9_program.proofs.Routines.{HasNumber, has-number, text-ends, text-address, function-own, function-code, function-at}
use Rattle.p9_program.proofs.Objects.{same-symbol, stands-linked}
use Rattle.p9_program.proofs.Functions.{IsText, found-text, is-local, name-local, name-global}
use Rattle.p9_program.proofs.Names.{local-number, local-is, agrees}

-- SYSTEM CALLS

-- the symbol of a system call in the built-in module
abbrev system_number : SystemCall → ℕ
system_number Exits = 4
system_number Read = 5
system_number Write = 6

abbrev system_name : SystemCall → List ℕ
system_name Exits = codes "exits"
system_name Read = codes "read"
system_name Write = codes "write"

system-name : (name : List ℕ) (s : SystemCall) → system_call name ≡ Some s → name ≡ system_name s
system-name name s h = by (same_name name (codes "exits")) (same_name name (codes "read")) (same_name name (codes "write")) refl refl refl h
  where
    is : (k : SystemCall) → same_name name (system_name k) ≡ true → Some k ≡ Some s → name ≡ system_name s
    is k t e = same-is name (system_name k) t ∙ ap system_name (some-same k s e)

    by : (a b d : Bool) → same_name name (codes "exits") ≡ a → same_name name (codes "read") ≡ b → same_name name (codes "write") ≡ d
        → (if a then Some Exits else (if b then Some Read else (if d then Some Write else None))) ≡ Some s → name ≡ system_name s
    by true b d x y z e = is Exits x e
    by false true d x y z e = is Read y e
    by false false true x y z e = is Write z e
    by false false false x y z e = absurd (none-some s e)

record SystemSymbol (s : SystemCall) : Type 0 where
  it : abs.Symbol
  found : slice_get builtin_symbols (system_number s) ≡ Some it
  global : it.local ≡ false
  name : it.name ≡ system_name s
  text : it.body ≡ Text (system_def s)

system-symbol-of : (s : SystemCall) → SystemSymbol s
system-symbol-of Exits = record { it = system_symbol (codes "exits") 8 (codes "(*c;)v"); found = refl; global = refl; name = refl; text = refl }
system-symbol-of Read = record { it = system_symbol (codes "read") 15 (codes "(i;*v;l;)l"); found = refl; global = refl; name = refl; text = refl }
system-symbol-of Write = record { it = system_symbol (codes "write") 20 (codes "(i;*v;l;)l"); found = refl; global = refl; name = refl; text = refl }

module _ (modules : List Source) (outs : List AModule) (tr : AreTranslations modules outs) (join : Join modules) (p : Placing) (placing : IsPlacing outs p) where
  -- the text of a function that can be called
  record HasText (f : FunctionName) : Type 0 where
    d : Def
    s : abs.Symbol
    def : TextDef
    stands : symbol_at (linked outs) d ≡ Some s
    text : s.body ≡ Text def
    definition : function_definition outs f ≡ Some d
    name : f ≡ (if s.local then Local d.«module» s.name else Global s.name)

  of-system : (name : List ℕ) (k : SystemCall) → system_call name ≡ Some k → HasText (Global name)
  of-system name k h =
      let q = system-symbol-of k in
      let n = system-name name k h in
      let d : Def = record { «module» = length outs; symbol = system_number k } in
      let at = linked-builtin outs (system_number k) q.it q.found in
      record {
        d = d;
        s = q.it;
        def = system_def k;
        stands = at;
        text = q.text;
        definition = chosen-full modules outs tr join name d q.it at q.global (q.name ∙ sym n) (ap is_full q.text);
        name = ap Global (n ∙ sym q.name) ∙ sym (ap (λ b. if b then Local (length outs) q.it.name else Global q.it.name) q.global);
      }

  text-definition : (f : FunctionName) → (t : IsText modules outs tr join f) → function_definition outs f ≡ Some t.it.def
  text-definition f t = by t.entry.symbol.is_local refl
    where
      at : symbol_at (linked outs) t.it.def ≡ Some t.it.symbol
      at = stands-linked modules outs tr join t.place t.entry t.it t.stands

      same : SameSymbol t.stands.source.tags t.entry.symbol t.it.symbol
      same = same-symbol modules outs tr join t.place t.entry t.it t.stands

      by : (b : Bool) → t.entry.symbol.is_local ≡ b → function_definition outs f ≡ Some t.it.def
      by true l =
          let n : f ≡ Local t.it.def.«module» t.it.symbol.name = sym t.name ∙ (name-local t.entry l ∙ (ap (λ i. Local i t.entry.symbol.name) t.stands.owner ∙ ap (Local t.it.def.«module») (sym same.name))) in
          ap (function_definition outs) n ∙ local-number modules outs tr join p placing t.it.def.«module» t.stands.out t.stands.is_out t.it.def.symbol t.it.symbol t.stands.in_out (same.linkage ∙ l)
      by false l =
          let n : f ≡ Global t.it.symbol.name = sym t.name ∙ (name-global t.entry l ∙ ap Global (sym same.name)) in
          ap (function_definition outs) n ∙ chosen-full modules outs tr join t.it.symbol.name t.it.def t.it.symbol at (same.linkage ∙ l) refl (ap is_full t.text)

  of-text : (f : FunctionName) → IsText modules outs tr join f → HasText f
  of-text f t = by t.entry.symbol.is_local refl
    where
      at : symbol_at (linked outs) t.it.def ≡ Some t.it.symbol
      at = stands-linked modules outs tr join t.place t.entry t.it t.stands

      same : SameSymbol t.stands.source.tags t.entry.symbol t.it.symbol
      same = same-symbol modules outs tr join t.place t.entry t.it t.stands

      named : (b : Bool) → t.it.symbol.local ≡ b → (g : FunctionName) → f ≡ g → (if b then Local t.it.def.«module» t.it.symbol.name else Global t.it.symbol.name) ≡ g → f ≡ (if t.it.symbol.local then Local t.it.def.«module» t.it.symbol.name else Global t.it.symbol.name)
      named b l g e h = e ∙ (sym h ∙ sym (ap (λ i. if i then Local t.it.def.«module» t.it.symbol.name else Global t.it.symbol.name) l))

      by : (b : Bool) → t.entry.symbol.is_local ≡ b → HasText f
      by true l =
          let loc : t.it.symbol.local ≡ true = same.linkage ∙ l in
          let n : f ≡ Local t.it.def.«module» t.it.symbol.name = sym t.name ∙ (name-local t.entry l ∙ (ap (λ i. Local i t.entry.symbol.name) t.stands.owner ∙ ap (Local t.it.def.«module») (sym same.name))) in
          record {
            d = t.it.def;
            s = t.it.symbol;
            def = t.def;
            stands = at;
            text = t.text;
            definition = text-definition f t;
            name = named true loc (Local t.it.def.«module» t.it.symbol.name) n refl;
          }
      by false l =
          let glo : t.it.symbol.local ≡ false = same.linkage ∙ l in
          let n : f ≡ Global t.it.symbol.name = sym t.name ∙ (name-global t.entry l ∙ ap Global (sym same.name)) in
          record {
            d = t.it.def;
            s = t.it.symbol;
            def = t.def;
            stands = at;
            text = t.text;
            definition = text-definition f t;
            name = named false glo (Global t.it.symbol.name) n refl;
          }

  -- a system call, or a function of a module
  data Called (f : FunctionName) : Type 0 where
    ASystem : (name : List ℕ) (k : SystemCall) → f ≡ Global name → system_call name ≡ Some k → Called f
    AText : IsText modules outs tr join f → Called f

  called-defined : (f : FunctionName) (o : Option FunctionEntry) → (let union = union_of modules in found_function f union.functions ≡ o) → defined o ≢ NoCallee → Called f
  called-defined f None h n = absurd (n refl)
  called-defined f (Some fe) h n = AText (found-text modules outs tr join f fe h)

  called : (f : FunctionName) → callee (union_of modules) f ≢ NoCallee → Called f
  called (Local owner name) n = called-defined (Local owner name) _ refl n
  called (Global name) n = by (system_call name) refl n
    where
      by : (o : Option SystemCall) → system_call name ≡ o → (let union = union_of modules in system_or o (defined (found_function (Global name) union.functions)) ≢ NoCallee) → Called (Global name)
      by (Some k) h m = ASystem name k refl h
      by None h m = called-defined (Global name) _ refl m

  has-text : (f : FunctionName) → Called f → HasText f
  has-text f (ASystem name k e h) = subst HasText (sym e) (of-system name k h)
  has-text f (AText t) = of-text f t

  -- THE ADDRESSES OF FUNCTIONS

  text-number : (f : FunctionName) → (t : HasText f) → HasNumber outs t.d t.def
  text-number f t = has-number outs t.d t.s t.def t.stands t.text

  function-address : (f : FunctionName) → (t : HasText f) → (n : HasNumber outs t.d t.def) → (let g = ground_of modules outs p in g.function f ≡ p.function n.number)
  function-address f t n = ap (address_of_definition outs p) t.definition ∙ text-address modules outs tr join p placing t.d t.def n

  is-ground : IsGround (ground_of modules outs p) (union_of modules)
  is-ground = record { code = λ f n. code f (has-text f (called f n)); own = λ f h n m e. own f h (has-text f (called f n)) (has-text h (called h m)) e }
    where
      code : (f : FunctionName) → HasText f → (let g = ground_of modules outs p in IsCodeAddress (g.function f) × (g.function f < g.data_start))
      code f t =
          let n = text-number f t in
          let e = function-address f t n in
          let k = function-code modules outs tr join p placing n.number _ n.found in
          (subst IsCodeAddress (sym e) k.0, (let k1 = k.1 in omega (arith, e, k1)))

      own : (f h : FunctionName) → HasText f → HasText h → (let g = ground_of modules outs p in g.function f ≡ g.function h) → f ≡ h
      own f h t u e =
          let n = text-number f t in let m = text-number h u in
          let z : n.number ≡ m.number = function-own modules outs tr join p placing n.number m.number _ _ n.found m.found (sym (function-address f t n) ∙ (e ∙ function-address h u m)) in
          let r = some-same _ _ (sym n.found ∙ (ap (slice_get (routines_of outs)) z ∙ m.found)) in
          let d : t.d ≡ u.d = ap (λ i. record { «module» = i.unit; symbol = i.symbol }) r in
          let s : t.s ≡ u.s = some-same t.s u.s (sym t.stands ∙ (ap (symbol_at (linked outs)) d ∙ u.stands)) in
          t.name ∙ (ap (λ i. if i.local then Local t.d.«module» i.name else Global i.name) s ∙ (ap (λ i. if u.s.local then Local i.«module» u.s.name else Global u.s.name) d ∙ sym u.name))

  -- THE CODE

  -- the name of a module's text is its function's
  named-so : (f : FunctionName) → (t : IsText modules outs tr join f) → function_named (union_of modules) t.it.def.«module» t.it.symbol.name ≡ f
  named-so f t = by t.entry.symbol.is_local refl
    where
      same : SameSymbol t.stands.source.tags t.entry.symbol t.it.symbol
      same = same-symbol modules outs tr join t.place t.entry t.it t.stands

      by : (b : Bool) → t.entry.symbol.is_local ≡ b → function_named (union_of modules) t.it.def.«module» t.it.symbol.name ≡ f
      by true l =
          let i : is_local_function (union_of modules) t.it.def.«module» t.it.symbol.name ≡ true =
          subst (λ z. is_local_function (union_of modules) z t.it.symbol.name ≡ true) t.stands.owner
          (subst (λ z. is_local_function (union_of modules) t.entry.owner z ≡ true) (sym same.name) (is-local modules outs tr join t.place t.entry t.it t.def t.stands t.text l)) in
          ap (λ z. if z then Local t.it.def.«module» t.it.symbol.name else Global t.it.symbol.name) i
          ∙ (ap (Local t.it.def.«module») same.name ∙ (ap (λ z. Local z t.entry.symbol.name) (sym t.stands.owner) ∙ (sym (name-local t.entry l) ∙ t.name)))
      by false l =
          let i : is_local_function (union_of modules) t.it.def.«module» t.it.symbol.name ≡ false = none (is_local_function (union_of modules) t.it.def.«module» t.it.symbol.name) refl in
          ap (λ z. if z then Local t.it.def.«module» t.it.symbol.name else Global t.it.symbol.name) i ∙ (ap Global same.name ∙ (sym (name-global t.entry l) ∙ t.name))
        where
          none : (b : Bool) → is_local_function (union_of modules) t.it.def.«module» t.it.symbol.name ≡ b → is_local_function (union_of modules) t.it.def.«module» t.it.symbol.name ≡ false
          none true h =
              let q = local-is modules outs tr join p placing t.it.def.«module» t.stands.out t.stands.is_out t.it.def.symbol t.it.symbol t.stands.in_out h in
              absurd (true≢false (sym q.0 ∙ (same.linkage ∙ l)))
          none false h = h

  module_ok : (f : FunctionName) → (t : IsText modules outs tr join f) → (let funs = functions_of (union_of modules) in FnOk AllSteps (ground_of modules outs p) (λ k. address_of outs p (record { «module» = t.it.def.«module»; symbol = k })) t.def (funs.need f) funs.body f)
  module_ok f t =
      let r = (tr.each t.it.def.«module» t.stands.source t.stands.out t.stands.is_source t.stands.is_out).functions modules t.it.def.«module» t.it.def.symbol t.it.symbol t.def (ground_of modules outs p)
      (λ k. address_of outs p (record { «module» = t.it.def.«module»; symbol = k })) join t.stands.is_source t.stands.in_out t.text is-ground (agrees modules outs tr join p placing t.it.def.«module» t.stands.out t.stands.is_out) in
      subst (λ n. (let funs = functions_of (union_of modules) in FnOk AllSteps (ground_of modules outs p) (λ k. address_of outs p (record { «module» = t.it.def.«module»; symbol = k })) t.def (funs.need n) funs.body n)) (named-so f t) r

  system-ok : (name : List ℕ) (k : SystemCall) (symbol : ℕ → ℕ) → system_call name ≡ Some k → (let funs = functions_of (union_of modules) in FnOk AllSteps (ground_of modules outs p) symbol (system_def k) (funs.need (Global name)) funs.body (Global name))
  system-ok name k symbol h others active turns call s m x is fits at =
      let union = union_of modules in
      let funs = functions_of (union_of modules) in
      let body : system_function k turns call s ≡ funs.body turns call s =
      sym (ap (λ n. callee_body union turns (callee union n) call s) is ∙ ap (λ o. callee_body union turns (system_or o (defined (found_function (Global name) union.functions))) call s) h) in
      let r = systems_are_right AllSteps (ground_of modules outs p) symbol k (funs.need (Global name)) (Global name) others active turns call s m x is fits at in
      (r.0, subst (λ q. Performs (setting_of (ground_of modules outs p) AllSteps symbol (system_def k) others active (funs.need (Global name)) (entry_of m s call x)) q m first_count (record { state = after_entry (system_def k) x; vars = []; at = 0 })) body r.1)

  code-with : (most : ℕ) → HasMost outs most → (f : FunctionName) (d : Def) (s : abs.Symbol) (def : TextDef) → symbol_at (linked outs) d ≡ Some s → s.body ≡ Text def → function_definition outs f ≡ Some d
      → (let funs = functions_of (union_of modules) in FnOk AllSteps (ground_of modules outs p) (λ k. address_of outs p (record { «module» = d.«module»; symbol = k })) def (funs.need f) funs.body f)
      → HasCode (addresses_of outs p) (routines_of outs) (ground_of modules outs p) (functions_of (union_of modules)) most f
  code-with most has f d s def e b definition ok =
      let k = function-at modules outs tr join p placing d s def e b in
      let r : Routine = record { unit = d.«module»; symbol = d.symbol; def = def } in
      let placed = placing.functions k.number r k.is in
      record {
        number = k.number;
        routine = r;
        found = ap (λ o. routine_at (addresses_of outs p) (routines_of outs) 0 (address_of_definition outs p o)) definition ∙ k.found;
        is = k.is;
        ends_well = text-ends modules outs tr join p placing d s def e b;
        short = has k.number r k.is;
        placed = λ i l. (let c = (placed.instructions i l).2 in omega (arith, c));
        ok = ok;
      }

  code-of : (most : ℕ) → HasMost outs most → (f : FunctionName) → Called f → HasCode (addresses_of outs p) (routines_of outs) (ground_of modules outs p) (functions_of (union_of modules)) most f
  code-of most has f (AText t) = code-with most has f t.it.def t.it.symbol t.def (stands-linked modules outs tr join t.place t.entry t.it t.stands) t.text (text-definition f t) (module_ok f t)
  code-of most has f (ASystem name k e h) =
      let q = system-symbol-of k in
      subst (HasCode (addresses_of outs p) (routines_of outs) (ground_of modules outs p) (functions_of (union_of modules)) most) (sym e)
      (code-with most has (Global name) (record { «module» = length outs; symbol = system_number k }) q.it (system_def k) (linked-builtin outs (system_number k) q.it q.found) q.text
      (chosen-full modules outs tr join name (record { «module» = length outs; symbol = system_number k }) q.it (linked-builtin outs (system_number k) q.it q.found) q.global (q.name ∙ sym (system-name name k h)) (ap is_full q.text))
      (system-ok name k (λ i. address_of outs p (record { «module» = length outs; symbol = i })) h))

pub codes_are_right : CodesAreRight
codes_are_right modules outs p most join tr placing has name n = code-of modules outs tr join p placing most has name (called modules outs tr join p placing name n)
