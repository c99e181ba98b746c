-- The small program is translated by its object.
use Rattle.std.proofs.Common.{◌≡◌, ◌≢◌, ◌≤◌, ◌<◌, ◌⊎◌, inl, inr, ℕ, zero, suc, Bool, true, false, not, if◌then◌else◌, Option, Some, None, List, [], ◌∷◌, ◌++◌, map, filter, length, slice_get, refl, sym, ap, ◌∙◌, subst, arith}
use Rattle.std.specs.Prelude.{Contains, unwrap_or, codes, All}
use Rattle.std.proofs.lemmas.Bool.{true≢false}
use Rattle.std.proofs.lemmas.List.{append-nil}
use Rattle.std.proofs.lemmas.List.Elements.{All-nil, All-cons, All-from_recursion}
use Rattle.p9_base.specs.Core.{text_start, with_reg}
use Rattle.p9_base.specs.SystemCalls.{State}
use Rattle.p9_base.proofs.Holding.{with_register-words}
use Rattle.p9_abs.specs.declared.instructions.Op.TheVariants.{Ret}
use Rattle.p9_abs.specs.declared.instructions.TextDef.{TextDef}
use Rattle.p9_abs.specs.declared.modules.Body.TheVariants.{Text, Data}
use Rattle.p9_abs.specs.declared.modules.Symbol as abs
use Rattle.p9_abs.specs.BuiltIn.{inst}
use Rattle.p9_abs.specs.Steps.{Around, Returns, step}
use Rattle.p9_abs.specs.Keeping.{nowhere}
use Rattle.p9_abs.proofs.Fixed.{other-register}
use Rattle.p9_abs.specs.Modules.{operands_of, pieces_of, named_by_operand, named_by_piece}
use Rattle.p9_abs.specs.Validity.{IsGraphic, IsName, IsSignature, IsBoundWell, IsWithin, NamesWithin, IsInRange, IsInstruction, IsFunction, HasFunction, HasWellPieced, HasSizeInRange}
use Rattle.p9_object.specs.Laws.{OperandFits, PieceFits, CodeFits, IsObject}
use Rattle.p9_lang.specs.declared.tree.Spec.{Spec}
use Rattle.p9_lang.specs.Modules.{Source}
use Rattle.p9_lang.specs.Symbols as symbols
use Rattle.p9_lang.specs.Symbols.{Symbol}
use Rattle.p9_cmean.specs.Cells as c
use Rattle.p9_cmean.specs.Cells.{FunctionName, Global, Local, Value, Missing}
use Rattle.p9_cmean.specs.Plays.{Call, Play, Done, NoMeaning}
use Rattle.p9_cmean.specs.Expressions.{Surroundings}
use Rattle.p9_cmean.specs.Statements.{function_body}
use Rattle.p9_cmean.specs.JoinTests.{joins}
use Rattle.p9_cmean.specs.Joins.{DefinesCode, role_of, may_meet, occurrence, shared, all_shared, builtin, Occurs, Join}
use Rattle.p9_cmean.specs.Declarations.{Definition, definition_of}
use Rattle.p9_cmean.specs.Union.{Union, Entry, entries_from, FunctionEntry, functions_in, is_function, found_function, is_local_function, function_named, union_of}
use Rattle.p9_cmean.specs.CRun.{callee, callee_body, defined, functions_of, surroundings}
use Rattle.p9_cmean.proofs.Joining.{join_is_tested}
use Rattle.p9_sim.specs.Memory.{Map, Ground}
use Rattle.p9_sim.specs.Matching.{AtCall, entry_of}
use Rattle.p9_sim.specs.Playing.{AllSteps, Setting, first_count, Performs}
use Rattle.p9_sim.specs.Functions.{setting_of, FnOk}
use Rattle.p9_sim.specs.Translating.{SameSymbol, Names, IsTranslation}
use Rattle.p9_sim.proofs.Registers.{with_regs, answers-with}
use Rattle.p9_program.specs.Example.{main_type, main_label, main_block, main_item, main_source, main_symbol, main_out, SmallProgram}
use Rattle.p9_program.proofs.Lists.{order, some-same, none-some, get-map, get-first, contains-at, filter-at, any-found}
use Rattle.p9_program.proofs.Positions.{InSources, entries-back}
use Rattle.p9_program.proofs.Functions.{in-entry, flat-back, found-back, function-is, local-name, global-name}

abbrev source-symbol : Spec → Symbol
source-symbol spec = record { name = codes "main"; static = None; is_local = false; type = main_type; kind = symbols.Code (main_item spec) }

abbrev main-definition : Definition
main-definition = record { label = main_label; name = main_label; block = main_block }

symbols-are : (spec : Spec) → symbols.symbols (main_source spec) ≡ source-symbol spec ∷ []
symbols-are spec = refl

definition-is : (spec : Spec) → definition_of (main_item spec) ≡ Some main-definition
definition-is spec = refl

same-symbol : (spec : Spec) → SameSymbol [] (source-symbol spec) main_symbol
same-symbol spec = record { name = refl; linkage = refl; signature = refl; kind = refl }

joins-is : (spec : Spec) → joins (main_source spec ∷ []) ≡ true
joins-is spec = refl

abbrev main-def : TextDef
main-def = record { frame = 0; code = inst Ret [] ∷ [] }

-- THE CODE

returns-at-once : (around : Around) (x : State) → step around (inst Ret [] ∷ []) (record { state = x; vars = []; at = 0 }) ≡ Returns (record { state = with_regs x x.core.regs text_start; vars = []; at = 0 })
unfolding step
returns-at-once around x = refl

-- what the block leaves
abbrev behind : c.State → c.State
behind s = record s { objects = (s.objects ++ []) ++ [] }

behind-is : (s : c.State) → behind s ≡ s
behind-is s = ap (λ o. record s { objects = o }) (append-nil (s.objects ++ []) ∙ append-nil s.objects)

body-runs : (turns : ℕ) (around : Surroundings) (call : Call) (s : c.State) → call.arguments ≡ [] → function_body turns around main-definition call s ≡ Done (Missing call.place) (behind s)
body-runs turns around call s e = ap (λ vs. function_body turns around main-definition (record call { arguments = vs }) s) e

module _ (g : Ground) (symbol : ℕ → ℕ) (need : ℕ) (others : ℕ → Bool) (active : ℕ) (m : Map) (call : Call) (s : c.State) (x : State) (at : AtCall g others others active m call s x) where
  abbrev set : Setting
  set = setting_of g AllSteps symbol main-def others active need (entry_of m s call x)

  abbrev Does : Play Value → Type 0
  Does p = Performs set p m first_count (record { state = x; vars = []; at = 0 })

  does-return : (place : _) → Does (Done (Missing place) s)
  does-return place = (
    record { steps = 0; to = record { state = x; vars = []; at = 0 }; count = first_count; goes = (refl, refl) },
    record { state = with_regs x x.core.regs text_start; vars = []; at = 0 },
    returns-at-once set.around x,
    record { steps = omega arith; backs = omega arith },
    m,
    λ to word. answers-with g nowhere others others active m s x (length call.arguments) (with_reg x.core.regs 31 to) text_start (Missing place) at.matched (with_register-words x.core 31 to word at.matched.words)
        (other-register x.core.regs 31 to 29 (λ h. omega (arith, h))) (other-register x.core.regs 31 to 30 (λ h. omega (arith, h))) at.matched.free tt,
  )

  does-body : (turns : ℕ) (around : Surroundings) (definition : Definition) → definition ≡ main-definition → Does (function_body turns around definition call s)
  does-body turns around definition same = subst (λ d. Does (function_body turns around d call s)) (sym same) (by call.arguments refl)
    where
      by : (vs : List Value) → call.arguments ≡ vs → Does (function_body turns around main-definition call s)
      by [] e = subst Does (sym (body-runs turns around call s e)) (subst (λ t. Does (Done (Missing call.place) t)) (sym (behind-is s)) (does-return call.place))
      by (v ∷ vs) e = subst (λ ws. Does (function_body turns around main-definition (record call { arguments = ws }) s)) (sym e) tt

-- THE NAME, among whatever modules join

module _ (spec : Spec) (modules : List Source) (join : Join modules) (owner : ℕ) (here : slice_get modules owner ≡ Some (main_source spec)) where
  occurs : (i k : ℕ) (n : Source) (a : Symbol) → slice_get modules i ≡ Some n → slice_get (symbols.symbols n) k ≡ Some a → a.is_local ≡ false → Occurs (all_shared modules) i (occurrence n.tags a)
  occurs i k n a e h l =
      let row = filter-at (λ z. not z.is_local) (symbols.symbols n) k a h (ap not l) in
      subst (λ r. Contains (unwrap_or r []) (occurrence n.tags a)) (sym (get-first (map shared modules) (builtin ∷ []) i (shared n) (get-map shared modules i n e)))
      (contains-at (shared n) row.0 (occurrence n.tags a) (get-map (occurrence n.tags) (filter (λ z. not z.is_local) (symbols.symbols n)) row.0 a row.1))

  -- the module's symbols
  own-symbol : (k : ℕ) (a : Symbol) → slice_get (symbols.symbols (main_source spec)) k ≡ Some a → source-symbol spec ≡ a
  own-symbol zero a h = some-same (source-symbol spec) a h
  own-symbol (suc k) a h = absurd (none-some a h)

  own-entry : (t : ℕ) (e : Entry) → slice_get (entries_from 0 modules) t ≡ Some e → e.owner ≡ owner → source-symbol spec ≡ e.symbol
  own-entry t e h o = by (entries-back 0 modules t e h)
    where
      by : InSources 0 modules t e → source-symbol spec ≡ e.symbol
      by q =
          let ow = q.owner in
          let z : q.unit ≡ owner = omega (arith, ow, o) in
          let n : q.source ≡ main_source spec = some-same q.source (main_source spec) (sym q.is_source ∙ (ap (slice_get modules) z ∙ here)) in
          own-symbol q.symbol e.symbol (subst (λ v. slice_get (symbols.symbols v) q.symbol ≡ Some e.symbol) n q.is_symbol)

  -- no module but this one has code of this name
  no-other : (i k : ℕ) (n : Source) (a : Symbol) (item : _) → slice_get modules i ≡ Some n → slice_get (symbols.symbols n) k ≡ Some a → a.is_local ≡ false → a.name ≡ codes "main" → a.kind ≡ symbols.Code item → i ≡ owner
  no-other i k n a item e h l name kd = by (order i owner)
    where
      mine : Occurs (all_shared modules) owner (occurrence [] (source-symbol spec))
      mine = occurs owner 0 (main_source spec) (source-symbol spec) here refl refl

      its : Occurs (all_shared modules) i (occurrence n.tags a)
      its = occurs i k n a e h l

      role : role_of a.kind ≡ DefinesCode
      role = ap role_of kd

      by : (i < owner) ⊎ ((i ≡ owner) ⊎ (owner < i)) → i ≡ owner
      by (inl o) = absurd (true≢false (sym (join.meet i owner (occurrence n.tags a) (occurrence [] (source-symbol spec)) o its mine name).once ∙ ap (λ r. may_meet r DefinesCode) role))
      by (inr (inl z)) = z
      by (inr (inr o)) = absurd (true≢false (sym (join.meet owner i (occurrence [] (source-symbol spec)) (occurrence n.tags a) o mine its (sym name)).once ∙ ap (may_meet DefinesCode) role))

  abbrev union : Union
  union = union_of modules

  no-local : (b : Bool) → is_local_function union owner (codes "main") ≡ b → is_local_function union owner (codes "main") ≡ false
  no-local false h = h
  no-local true h =
      let r = any-found (is_function (Local owner (codes "main"))) union.functions h in
      let q = flat-back functions_in (entries_from 0 modules) r.0 r.1 r.2 in
      let k = in-entry q.1 q.3.0 r.1 q.3.1 in
      let n = local-name q.1 owner (codes "main") (sym k.function ∙ sym (function-is (Local owner (codes "main")) r.1.function r.3)) in
      let z = own-entry q.0 q.1 q.2 n.1 in
      absurd (true≢false (sym n.0 ∙ ap (λ v. v.is_local) (sym z)))

  name-is : function_named union owner (codes "main") ≡ Global (codes "main")
  name-is = ap (λ b. if b then Local owner (codes "main") else Global (codes "main")) (no-local (is_local_function union owner (codes "main")) refl)

  -- its definition
  defined-here : (fe : FunctionEntry) → found_function (Global (codes "main")) union.functions ≡ Some fe → fe.definition ≡ main-definition
  defined-here fe h =
      let r = found-back (Global (codes "main")) union.functions fe h in
      let q = flat-back functions_in (entries_from 0 modules) r.0 fe r.1 in
      let k = in-entry q.1 q.3.0 fe q.3.1 in
      let n = global-name q.1 (codes "main") (sym k.function ∙ sym r.2) in
      let s = entries-back 0 modules q.0 q.1 q.2 in
      let o = no-other s.unit s.symbol s.source q.1.symbol k.item s.is_source s.is_symbol n.0 n.1 k.kind in
      let ow = s.owner in
      let z = own-entry q.0 q.1 q.2 (omega (arith, ow, o)) in
      let i : symbols.Code k.item ≡ symbols.Code (main_item spec) = sym k.kind ∙ ap (λ v. v.kind) (sym z) in
      let item : k.item ≡ main_item spec = cc in
      k.same ∙ some-same k.definition main-definition (sym k.defined ∙ (ap definition_of item ∙ definition-is spec))

  callee-does : (P : Play Value → Type 0) (turns : ℕ) (call : Call) (s : c.State) → call.function ≡ Global (codes "main") → ((around : Surroundings) (d : Definition) → d ≡ main-definition → P (function_body turns around d call s)) → P (NoMeaning call.place s)
      → P (callee_body union turns (callee union call.function) call s)
  callee-does P turns call s is go none = subst (λ f. P (callee_body union turns (callee union f) call s)) (sym is) (by (found_function (Global (codes "main")) union.functions) refl)
    where
      by : (o : Option FunctionEntry) → found_function (Global (codes "main")) union.functions ≡ o → P (callee_body union turns (defined (found_function (Global (codes "main")) union.functions)) call s)
      by None h = subst (λ o. P (callee_body union turns (defined o) call s)) (sym h) none
      by (Some fe) h = subst (λ o. P (callee_body union turns (defined o) call s)) (sym h) (go (surroundings union fe.owner fe.tags) fe.definition (defined-here fe h))

  code-ok : (g : Ground) (symbol : ℕ → ℕ) → (let funs = functions_of (union_of modules) in let name = function_named (union_of modules) owner (codes "main") in FnOk AllSteps g symbol main-def (funs.need name) funs.body name)
  code-ok g symbol others active turns call s m x is fits at = (
    (let f = at.matched.floor in let d = at.matched.not_deep in omega (arith, f, d)),
    callee-does (Does g symbol _ others active m call s x at) turns call s (is ∙ name-is) (λ around d same. does-body g symbol _ others active m call s x at turns around d same) tt,
  )

-- THE OBJECT

one : (k : ℕ) (b : abs.Symbol) → slice_get main_out.symbols k ≡ Some b → (k ≡ 0) × (main_symbol ≡ b)
one zero b h = (refl, some-same main_symbol b h)
one (suc k) b h = absurd (none-some b h)

pub translation : (spec : Spec) → IsTranslation (main_source spec) main_out
translation spec = record {
  count = refl;
  same = λ k a b ha hb. same k a b ha hb;
  distinct = λ j k a b ha hb n. (one j a ha).0 ∙ sym (one k b hb).0;
  defined = λ j k a b ha hb h. absurd (nothing (subst (λ z. Names k z.body) (sym (one j a ha).1) h));
  contents = λ modules owner k a b pieces join is ha hb h. absurd (let z : Text main-def ≡ Data pieces = ap (λ v. v.body) (one k b hb).1 ∙ h in cc);
  functions = λ modules owner k b def g symbol join is hb h ground agrees. functions modules owner k b def g symbol join is hb h;
}
  where
    same : (k : ℕ) (a : Symbol) (b : abs.Symbol) → slice_get (symbols.symbols (main_source spec)) k ≡ Some a → slice_get main_out.symbols k ≡ Some b → SameSymbol [] a b
    same zero a b ha hb = subst (λ v. SameSymbol [] v b) (some-same (source-symbol spec) a ha) (subst (SameSymbol [] (source-symbol spec)) (some-same main_symbol b hb) (same-symbol spec))
    same (suc k) a b ha hb = absurd (none-some b hb)

    nothing : {k : ℕ} → Names k (Text main-def) → ⊥
    nothing (inl h) = let l = h.1 in omega (arith, l)
    nothing (inr h) = let l = h.1 in omega (arith, l)

    functions : (modules : List Source) (owner k : ℕ) (b : abs.Symbol) (def : TextDef) (g : Ground) (symbol : ℕ → ℕ) → Join modules → slice_get modules owner ≡ Some (main_source spec) → slice_get main_out.symbols k ≡ Some b → b.body ≡ Text def
        → (let funs = functions_of (union_of modules) in let name = function_named (union_of modules) owner b.name in FnOk AllSteps g symbol def (funs.need name) funs.body name)
    functions modules owner k b def g symbol join is hb h =
        let w = (one k b hb).1 in
        let z : Text main-def ≡ Text def = ap (λ v. v.body) w ∙ h in
        let y : main-def ≡ def = cc in
        subst (λ d. (let funs = functions_of (union_of modules) in let name = function_named (union_of modules) owner b.name in FnOk AllSteps g symbol d (funs.need name) funs.body name)) y
        (subst (λ v. (let funs = functions_of (union_of modules) in let name = function_named (union_of modules) owner v.name in FnOk AllSteps g symbol main-def (funs.need name) funs.body name)) w (code-ok spec modules join owner is g symbol))

not_local : {A : Type 0} → false ≡ true → A
not_local h = absurd (true≢false (sym h))

abbrev IsSigned : ℕ → Type 0
IsSigned b = (33 ≤ b) × (b ≤ 126) × (b ≢ 34) × (b ≢ 92)

instruction-valid : IsInstruction 0 1 (inst Ret [])
instruction-valid = record { form = refl; operands = All-nil (IsInRange 0 1); destination = λ h. not_local h }

function-valid : IsFunction main-def
function-valid = record { frame = (refl, omega arith); ending = inl refl; instructions = All-cons (IsInstruction 0 1) (inst Ret []) [] instruction-valid (All-nil (IsInstruction 0 1)) }

lone : {A : Type 0} (P : A → Type 0) (x : A) → P x → All P (x ∷ [])
lone P x h = All-cons P x [] h (All-nil P)

object : IsObject main_out
object = record {
  valid = record {
    names = lone (λ s. IsName s.name) main_symbol (omega arith, omega arith, All-from_recursion IsGraphic (codes "main") ((omega arith, omega arith), ((omega arith, omega arith), ((omega arith, omega arith), ((omega arith, omega arith), tt)))));
    distinct = λ i j d l m. absurd (omega (arith, l, m));
    locals = lone IsBoundWell main_symbol (λ h. not_local h);
    signatures = lone (λ s. IsSignature s.sig) main_symbol (omega arith, All-from_recursion IsSigned (codes "()v") (signed 40 (omega arith) (inl (omega arith)) (omega arith), (signed 41 (omega arith) (inl (omega arith)) (omega arith), (signed 118 (omega arith) (inr (omega arith)) (omega arith), tt))));
    numbers = lone (λ s. NamesWithin 1 s.body) main_symbol (All-nil (λ o. IsWithin 1 (named_by_operand o)), All-nil (λ q. IsWithin 1 (named_by_piece q)));
    pieces = lone (λ s. HasWellPieced s.body) main_symbol tt;
    sizes = lone (λ s. HasSizeInRange s.body) main_symbol tt;
    functions = lone (λ s. HasFunction s.body) main_symbol function-valid;
  };
  fits = record {
    few = omega arith;
    operands = lone (λ s. All OperandFits (operands_of s.body)) main_symbol (All-nil OperandFits);
    pieces = lone (λ s. All PieceFits (pieces_of s.body)) main_symbol (All-nil PieceFits);
    code = lone (λ s. CodeFits s.body) main_symbol (omega arith);
  };
}
  where
    signed : (b : ℕ) → 34 < b → (b < 92) ⊎ (92 < b) → b ≤ 126 → IsSigned b
    signed b l n h = (omega (arith, l), h, (λ z. omega (arith, z, l)), λ z. not-that n z)
      where
        not-that : (b < 92) ⊎ (92 < b) → b ≡ 92 → ⊥
        not-that (inl k) z = omega (arith, k, z)
        not-that (inr k) z = omega (arith, k, z)

at-zero : {A : Type 0} (x : A) (i : ℕ) (y : A) → slice_get (x ∷ []) i ≡ Some y → x ≡ y
at-zero x zero y h = some-same x y h
at-zero x (suc i) y h = absurd (none-some y h)

pub small_program : SmallProgram
small_program spec = (
  (join_is_tested (main_source spec ∷ [])).0 (joins-is spec),
  record {
    count = refl;
    objects = λ i out h. subst IsObject (at-zero main_out i out h) object;
    each = λ i source out hs ho. subst (λ s. IsTranslation s out) (at-zero (main_source spec) i source hs) (subst (IsTranslation (main_source spec)) (at-zero main_out i out ho) (translation spec));
  },
)
