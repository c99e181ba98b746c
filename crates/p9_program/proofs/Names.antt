-- What the names of a module's symbols stand for in C has the addresses of the symbols.
use Rattle.std.proofs.Common.{◌≡◌, ◌<◌, ◌⊎◌, inl, inr, ℕ, ◌^◌, ◌&&◌, ◌||◌, ◌==◌, Bool, true, false, not, if◌then◌else◌, Option, Some, None, List, [], map, slice_get, refl, sym, ap, ◌∙◌, subst, arith}
use Rattle.std.specs.Prelude.{option_map, option_and_then}
use Rattle.std.proofs.lemmas.Bool.{true≢false, and_parts}
use Rattle.std.proofs.lemmas.Bool.Decides.{nat_tests}
use Rattle.p9_base.specs.Words.{word_sum}
use Rattle.p9_base.specs.Core.{stack_start}
use Rattle.p9_abs.specs.declared.instructions.TextDef.{TextDef}
use Rattle.p9_abs.specs.declared.modules.Body as body
use Rattle.p9_abs.specs.declared.modules.Body.TheVariants.{Declared, Used, Text, Data, Common}
use Rattle.p9_abs.specs.declared.modules.DataPiece.{DataPiece}
use Rattle.p9_abs.specs.declared.modules.Def.{Def}
use Rattle.p9_abs.specs.declared.modules.Symbol as abs
use Rattle.p9_abs.specs.declared.modules.AModule.{AModule}
use Rattle.p9_abs.specs.Modules.{is_definition}
use Rattle.p9_abs.specs.Validity.{IsBoundWell}
use Rattle.p9_abs.specs.Names.{symbol_at, IsChosen}
use Rattle.p9_abs.proofs.Choosing.{chosen_is_chosen}
use Rattle.p9_abs.specs.BuiltIn.{linked}
use Rattle.p9_abs.specs.Programs.{Numbered, records, chosen, stands_for, Placing, IsPlacing, address_of_definition, address_of}
use Rattle.p9_lang.specs.Names.{same_name}
use Rattle.p9_lang.specs.Layout.{size_of}
use Rattle.p9_lang.specs.Modules.{Source}
use Rattle.p9_cmean.specs.Cells.{FunctionName, Global, Local, Into, ToFunction}
use Rattle.p9_cmean.specs.Joins.{Join}
use Rattle.p9_cmean.specs.Union.{Union, Entry, entries_from, is_data, is_common, makes_object, is_local_of, is_shared_of, number_from, first_some, object_number, is_local_function, union_of}
use Rattle.p9_cmean.specs.FirstContents.{into, or_function, named_pointer}
use Rattle.p9_sim.specs.Memory.{word_of, moved_address}
use Rattle.p9_sim.specs.Translating.{SameKind, SameSymbol, Agrees}
use Rattle.p9_program.specs.Linking.{AreTranslations, is_local_named, symbols_in, local_definition, object_address, makers_of, ground_of}
use Rattle.p9_program.proofs.Lists.{some-same, get-map, number-found, number-there, same-is, same-of, IsFirst}
use Rattle.p9_program.proofs.Positions.{Stands}
use Rattle.p9_program.proofs.Joined.{linked-module}
use Rattle.p9_program.proofs.Routines.{all-at, has-number, text-address, function-code}
use Rattle.p9_program.proofs.Objects.{passed, maker-there, body-data, body-common, HasEntry, has-entry, same-symbol, stands-linked, IsMade, made-of, made-body, made-chosen, made-stands-for}
use Rattle.p9_program.proofs.Data.{numbered, HasPlace, data-place, common-place, data-address, IsInData, in-data}
use Rattle.p9_program.proofs.Functions.{local-text, is-local, local-name}

number-same : (a b : ℕ) → (a == b) ≡ true → a ≡ b
number-same a b h = grind (arith, nat_tests)

number-self : (a b : ℕ) → a ≡ b → (a == b) ≡ true
number-self a b h = grind (arith, nat_tests)

module _ (modules : List Source) (outs : List AModule) (tr : AreTranslations modules outs) (join : Join modules) (p : Placing) (placing : IsPlacing outs p) where
  abbrev union : Union
  union = union_of modules

  -- OBJECTS

  pub made-place : (n : ℕ) (e : Entry) → (k : IsMade modules outs tr join n e) → HasPlace outs k.it.def k.it.symbol
  made-place n e k = by (made-body modules outs tr join n e k)
    where
      by : ((pieces : List DataPiece) × (k.it.symbol.body ≡ Data pieces)) ⊎ ((is_common e.symbol.kind ≡ true) × (k.it.symbol.body ≡ Common (size_of k.stands.source.tags e.symbol.type))) → HasPlace outs k.it.def k.it.symbol
      by (inl h) = data-place outs k.it.def k.it.symbol h.0 (stands-linked modules outs tr join k.place e k.it k.stands) h.1
      by (inr h) = common-place outs k.it.def k.it.symbol (size_of k.stands.source.tags e.symbol.type) (stands-linked modules outs tr join k.place e k.it k.stands) h.1 (made-stands-for modules outs tr join n e k)

  pub made-no-text : (n : ℕ) (e : Entry) → (k : IsMade modules outs tr join n e) → (def : TextDef) → k.it.symbol.body ≡ Text def → ⊥
  made-no-text n e k def b = by (made-body modules outs tr join n e k)
    where
      by : ((pieces : List DataPiece) × (k.it.symbol.body ≡ Data pieces)) ⊎ ((is_common e.symbol.kind ≡ true) × (k.it.symbol.body ≡ Common (size_of k.stands.source.tags e.symbol.type))) → ⊥
      by (inl h) = let z : Text def ≡ Data h.0 = sym b ∙ h.1 in cc
      by (inr h) = let z : Text def ≡ Common (size_of k.stands.source.tags e.symbol.type) = sym b ∙ h.1 in cc

  -- its address
  pub made-static : (n : ℕ) (e : Entry) → (k : IsMade modules outs tr join n e) → (let g = ground_of modules outs p in slice_get g.statics n ≡ Some (object_address outs p (Some k.it)))
  made-static n e k =
      get-map (λ place. object_address outs p (slice_get (records outs) place)) (makers_of modules) n k.place k.numbered ∙ ap (λ o. Some (object_address outs p o)) k.stands.is_record

  pub made-address : (n : ℕ) (e : Entry) → (k : IsMade modules outs tr join n e) → address_of_definition outs p (Some k.it.def) ≡ object_address outs p (Some k.it)
  made-address n e k = data-address outs p placing k.it.def k.it.symbol (stands-linked modules outs tr join k.place e k.it k.stands) (made-no-text n e k)

  pub made-in-data : (n : ℕ) (e : Entry) → (k : IsMade modules outs tr join n e) → IsInData outs p placing k.it.def k.it.symbol (object_address outs p (Some k.it))
  made-in-data n e k = in-data outs p placing k.it.def k.it.symbol (made-place n e k)

  -- addresses of definitions are words
  text-small : (d : Def) (s : abs.Symbol) (def : TextDef) → symbol_at (linked outs) d ≡ Some s → s.body ≡ Text def → address_of_definition outs p (Some d) < 2 ^ 32
  text-small d s def e b =
      let n = has-number outs d s def e b in
      let a = text-address modules outs tr join p placing d def n in
      let c = (function-code modules outs tr join p placing n.number _ n.found).0.2 in
      omega (arith, a, c)

  chosen-small : (name : List ℕ) (o : Option Def) → chosen (linked outs) name ≡ o → address_of_definition outs p (chosen (linked outs) name) < 2 ^ 32
  chosen-small name None z = subst (λ o. address_of_definition outs p o < 2 ^ 32) (sym z) (omega arith)
  chosen-small name (Some d) z = subst (λ o. address_of_definition outs p o < 2 ^ 32) (sym z) (by (chosen_is_chosen (linked outs) name d z))
    where
      by : IsChosen (linked outs) name d → address_of_definition outs p (Some d) < 2 ^ 32
      by c = go c.defines.symbol.body refl
        where
          q : abs.Symbol
          q = c.defines.symbol

          at-data : ((def : TextDef) → c.defines.symbol.body ≡ Text def → ⊥) → HasPlace outs d c.defines.symbol → address_of_definition outs p (Some d) < 2 ^ 32
          at-data never k =
              let a = data-address outs p placing d c.defines.symbol c.defines.occurs.stands never in
              let i = (in-data outs p placing d c.defines.symbol k).below in
              omega (arith, a, i)

          go : (b : body.Body) → c.defines.symbol.body ≡ b → address_of_definition outs p (Some d) < 2 ^ 32
          go (Text def) e = text-small d c.defines.symbol def c.defines.occurs.stands e
          go (Data pieces) e = at-data (λ def h. let y : Data pieces ≡ Text def = sym e ∙ h in cc) (data-place outs d c.defines.symbol pieces c.defines.occurs.stands e)
          go (Common n) e =
              at-data (λ def h. let y : Common n ≡ Text def = sym e ∙ h in cc)
              (common-place outs d c.defines.symbol n c.defines.occurs.stands e
              (ap (λ v. if v then Some d else chosen (linked outs) c.defines.symbol.name) c.defines.occurs.global ∙ (ap (chosen (linked outs)) c.defines.occurs.named ∙ z)))
          go Declared e = absurd (true≢false (sym c.defines.defining ∙ ap is_definition e))
          go Used e = absurd (true≢false (sym c.defines.defining ∙ ap is_definition e))

  -- what a symbol's name stands for: an object, or a function
  pub data NamedIs (owner : ℕ) (name : List ℕ) (address : ℕ) : Type 0 where
    AnObject : (n start : ℕ) → ((o : ℕ) → named_pointer (union_of modules) owner name o ≡ Into n o) → (let g = ground_of modules outs p in slice_get g.statics n ≡ Some start) → start ≡ address → start < stack_start → NamedIs owner name address
    AFunction : (f : FunctionName) → ((o : ℕ) → named_pointer (union_of modules) owner name o ≡ ToFunction f) → (let g = ground_of modules outs p in g.function f ≡ address) → address < 2 ^ 32 → NamedIs owner name address

  module _ (owner : ℕ) (out : AModule) (is_out : slice_get outs owner ≡ Some out) (k : ℕ) (b : abs.Symbol) (is_symbol : slice_get out.symbols k ≡ Some b) where
    abbrev d : Def
    d = record { «module» = owner; symbol = k }

    at : symbol_at outs d ≡ Some b
    at = ap (option_and_then (λ m. slice_get m.symbols k)) is_out ∙ is_symbol

    here : HasEntry modules outs tr join d b
    here = has-entry modules outs tr join d b at

    -- another symbol of the module with this name is this one
    same-one : (t : ℕ) (e : Entry) (r : Numbered) → Stands modules outs t e r → e.owner ≡ owner → e.symbol.name ≡ b.name → (r.def ≡ d) × (r.symbol ≡ b)
    same-one t e r st o n =
        let same = same-symbol modules outs tr join t e r st in
        let m : r.def.«module» ≡ owner = sym st.owner ∙ o in
        let out_is : st.out ≡ out = some-same st.out out (sym st.is_out ∙ (ap (slice_get outs) m ∙ is_out)) in
        let in_out : slice_get out.symbols r.def.symbol ≡ Some r.symbol = subst (λ z. slice_get z.symbols r.def.symbol ≡ Some r.symbol) out_is st.in_out in
        let i : r.def.symbol ≡ k = (tr.each r.def.«module» st.source out st.is_source (ap (slice_get outs) m ∙ is_out)).distinct r.def.symbol k r.symbol b in_out is_symbol (same.name ∙ n) in (
          ap (λ z. record { «module» = z; symbol = r.def.symbol }) m ∙ ap (λ z. record { «module» = owner; symbol = z }) i,
          some-same r.symbol b (sym in_out ∙ (ap (slice_get out.symbols) i ∙ is_symbol)),
        )

    -- a module's local function of this name is this symbol
    pub local-is : is_local_function (union_of modules) owner b.name ≡ true → (b.local ≡ true) × ((def : TextDef) × (b.body ≡ Text def))
    local-is h =
        let t = local-text modules outs tr join owner b.name h in
        let n = local-name t.entry owner b.name t.name in
        let o = same-one t.place t.entry t.it t.stands n.1 n.2 in
        let same = same-symbol modules outs tr join t.place t.entry t.it t.stands in
        (ap (λ z. z.local) (sym o.1) ∙ (same.linkage ∙ n.0), (t.def, ap (λ z. z.body) (sym o.1) ∙ t.text))

    symbol-address : (o : Option Def) → stands_for (linked outs) d b ≡ o → address_of outs p d ≡ address_of_definition outs p o
    symbol-address o h = ap (λ z. address_of_definition outs p (option_and_then (stands_for (linked outs) d) z)) (linked-module outs d b at) ∙ ap (address_of_definition outs p) h

    pointer-object : (n : ℕ) → is_local_function (union_of modules) owner b.name ≡ false → object_number (union_of modules) owner b.name ≡ Some n → (o : ℕ) → named_pointer (union_of modules) owner b.name o ≡ Into n o
    pointer-object n f h o =
        ap (λ t. if t then ToFunction (Local owner b.name) else or_function (into (object_number (union_of modules) owner b.name) o) (Global b.name)) f
        ∙ ap (λ z. or_function (into z o) (Global b.name)) h

    -- LOCAL SYMBOLS

    entry-owner : here.entry.owner ≡ owner
    entry-owner = here.stands.owner

    entry-same : SameSymbol here.stands.source.tags here.entry.symbol b
    entry-same = same-symbol modules outs tr join here.place here.entry (numbered d b) here.stands

    pub local-number : b.local ≡ true → local_definition outs owner b.name ≡ Some d
    local-number l = ap (λ z. option_map (λ i. record { «module» = owner; symbol = i }) (number_from 0 (is_local_named b.name) (symbols_in z))) is_out ∙ ap (option_map (λ i. record { «module» = owner; symbol = i })) which
      where
        test : is_local_named b.name b ≡ true
        test = let s = same-of b.name b.name refl in rw (l, s) refl

        go : (n : ℕ) → number_from 0 (is_local_named b.name) out.symbols ≡ Some n → IsFirst 0 (is_local_named b.name) out.symbols n → number_from 0 (is_local_named b.name) out.symbols ≡ Some k
        go n h f =
            let q = and_parts f.item.local (same_name b.name f.item.name) f.passes in
            let m = entry-source in
            let i : f.place ≡ k = (tr.each owner m.0 out m.1 is_out).distinct f.place k f.item b f.found is_symbol (sym (same-is b.name f.item.name q.1)) in
            let z = f.is in
            let y : n ≡ k = omega (arith, z, i) in
            h ∙ ap Some y
          where
            entry-source : (m : Source) × (slice_get modules owner ≡ Some m)
            entry-source = (here.stands.source, here.stands.is_source)

        which : number_from 0 (is_local_named b.name) out.symbols ≡ Some k
        which = let t = number-there 0 (is_local_named b.name) out.symbols k b is_symbol test in go t.0 t.1 (number-found 0 (is_local_named b.name) out.symbols t.0 t.1)

    local-function : (def : TextDef) → b.local ≡ true → b.body ≡ Text def → NamedIs owner b.name (address_of outs p d)
    local-function def l t =
        let f : is_local_function (union_of modules) owner b.name ≡ true =
        subst (λ z. is_local_function (union_of modules) z b.name ≡ true) entry-owner
        (subst (λ z. is_local_function (union_of modules) here.entry.owner z ≡ true) (sym entry-same.name) (is-local modules outs tr join here.place here.entry (numbered d b) def here.stands t (sym entry-same.linkage ∙ l))) in
        AFunction (Local owner b.name)
        (λ o. ap (λ z. if z then ToFunction (Local owner b.name) else or_function (into (object_number (union_of modules) owner b.name) o) (Global b.name)) f)
        (ap (address_of_definition outs p) (local-number l) ∙ sym (symbol-address (Some d) (ap (λ z. if z then Some d else chosen (linked outs) b.name) l)))
        (let a = symbol-address (Some d) (ap (λ z. if z then Some d else chosen (linked outs) b.name) l) in let s = text-small d b def (linked-module outs d b at) t in omega (arith, a, s))

    local-object : b.local ≡ true → ((def : TextDef) → b.body ≡ Text def → ⊥) → (makes_object (entries_from 0 modules) (passed [] (entries_from 0 modules) here.place) here.entry ≡ true) → NamedIs owner b.name (address_of outs p d)
    local-object l never makes = go first.0 first.1 (number-found 0 (is_local_of owner b.name) union.objects first.0 first.1)
      where
        test : is_local_of owner b.name here.entry ≡ true
        test =
            let a : here.entry.symbol.is_local ≡ true = sym entry-same.linkage ∙ l in
            let o = number-self here.entry.owner owner entry-owner in
            let n = same-of b.name here.entry.symbol.name entry-same.name in
            rw (a, o, n) refl

        made_number : (n : ℕ) × (slice_get union.objects n ≡ Some here.entry)
        made_number = maker-there (entries_from 0 modules) [] 0 (entries_from 0 modules) here.place here.entry here.stands.is_entry makes

        first : (n : ℕ) × (number_from 0 (is_local_of owner b.name) union.objects ≡ Some n)
        first = number-there 0 (is_local_of owner b.name) union.objects made_number.0 here.entry made_number.1 test

        no-function : (t : Bool) → is_local_function union owner b.name ≡ t → is_local_function union owner b.name ≡ false
        no-function true h = let f = local-is h in absurd (never f.1.0 f.1.1)
        no-function false h = h

        go : (n : ℕ) → number_from 0 (is_local_of owner b.name) union.objects ≡ Some n → IsFirst 0 (is_local_of owner b.name) union.objects n → NamedIs owner b.name (address_of outs p d)
        go n h f =
            let z = f.is in
            let y : n ≡ f.place = omega (arith, z) in
            let q = and_parts f.item.symbol.is_local ((f.item.owner == owner) && same_name b.name f.item.symbol.name) f.passes in
            let w = and_parts (f.item.owner == owner) (same_name b.name f.item.symbol.name) q.1 in
            let k = made-of modules outs tr join f.place f.item f.found in
            let o = same-one k.place f.item k.it k.stands (number-same f.item.owner owner w.0) (sym (same-is b.name f.item.symbol.name w.1)) in
            let i = made-in-data f.place f.item k in
            AnObject n (object_address outs p (Some k.it)) (pointer-object n (no-function (is_local_function union owner b.name) refl) (ap (λ v. first_some v (number_from 0 (is_shared_of b.name) union.objects)) h))
            (subst (λ v. slice_get (map (λ place. object_address outs p (slice_get (records outs) place)) (makers_of modules)) v ≡ Some (object_address outs p (Some k.it))) (sym y) (made-static f.place f.item k))
            (sym (made-address f.place f.item k) ∙ (ap (λ v. address_of_definition outs p (Some v)) o.0 ∙ sym (symbol-address (Some d) (ap (λ v. if v then Some d else chosen (linked outs) b.name) l))))
            i.below

    -- GLOBAL SYMBOLS

    global-is : b.local ≡ false → NamedIs owner b.name (address_of outs p d)
    global-is l = by (number_from 0 (is_local_of owner b.name) union.objects) (number_from 0 (is_shared_of b.name) union.objects) refl refl
      where
        no-function : (t : Bool) → is_local_function union owner b.name ≡ t → is_local_function union owner b.name ≡ false
        no-function true h = let f = local-is h in absurd (true≢false (sym f.0 ∙ l))
        no-function false h = h

        no : is_local_function union owner b.name ≡ false
        no = no-function (is_local_function union owner b.name) refl

        here_address : address_of outs p d ≡ address_of_definition outs p (chosen (linked outs) b.name)
        here_address = symbol-address (chosen (linked outs) b.name) (ap (λ v. if v then Some d else chosen (linked outs) b.name) l)

        wrong : (n : ℕ) → IsFirst 0 (is_local_of owner b.name) union.objects n → ⊥
        wrong n f =
            let q = and_parts f.item.symbol.is_local ((f.item.owner == owner) && same_name b.name f.item.symbol.name) f.passes in
            let w = and_parts (f.item.owner == owner) (same_name b.name f.item.symbol.name) q.1 in
            let k = made-of modules outs tr join f.place f.item f.found in
            let o = same-one k.place f.item k.it k.stands (number-same f.item.owner owner w.0) (sym (same-is b.name f.item.symbol.name w.1)) in
            let same = same-symbol modules outs tr join k.place f.item k.it k.stands in
            true≢false (sym (ap (λ v. v.local) (sym o.1) ∙ (same.linkage ∙ q.0)) ∙ l)

        shared : (n : ℕ) → object_number union owner b.name ≡ Some n → IsFirst 0 (is_shared_of b.name) union.objects n → NamedIs owner b.name (address_of outs p d)
        shared n h f =
            let z = f.is in
            let y : n ≡ f.place = omega (arith, z) in
            let q = and_parts (not f.item.symbol.is_local) (same_name b.name f.item.symbol.name) f.passes in
            let k = made-of modules outs tr join f.place f.item f.found in
            let c = made-chosen modules outs tr join f.place f.item k (not-not f.item.symbol.is_local q.0) in
            let i = made-in-data f.place f.item k in
            AnObject n (object_address outs p (Some k.it)) (pointer-object n no h)
            (subst (λ v. slice_get (map (λ place. object_address outs p (slice_get (records outs) place)) (makers_of modules)) v ≡ Some (object_address outs p (Some k.it))) (sym y) (made-static f.place f.item k))
            (sym (made-address f.place f.item k) ∙ (ap (address_of_definition outs p) (sym c) ∙ (ap (λ v. address_of_definition outs p (chosen (linked outs) v)) (sym (same-is b.name f.item.symbol.name q.1)) ∙ sym here_address)))
            i.below
          where
            not-not : (v : Bool) → not v ≡ true → v ≡ false
            not-not true h = absurd (true≢false (sym h))
            not-not false h = refl

        by : (u v : Option ℕ) → number_from 0 (is_local_of owner b.name) union.objects ≡ u → number_from 0 (is_shared_of b.name) union.objects ≡ v → NamedIs owner b.name (address_of outs p d)
        by (Some n) v e f = absurd (wrong n (number-found 0 (is_local_of owner b.name) union.objects n e))
        by None (Some n) e f = shared n (ap (λ w. first_some w (number_from 0 (is_shared_of b.name) union.objects)) e ∙ f) (number-found 0 (is_shared_of b.name) union.objects n f)
        by None None e f =
            AFunction (Global b.name)
            (λ o. ap (λ z. if z then ToFunction (Local owner b.name) else or_function (into (object_number (union_of modules) owner b.name) o) (Global b.name)) no
            ∙ ap (λ w. or_function (into w o) (Global b.name)) (ap (λ w. first_some w (number_from 0 (is_shared_of b.name) union.objects)) e ∙ f))
            (sym here_address)
            (let s = chosen-small b.name (chosen (linked outs) b.name) refl in let a = here_address in omega (arith, a, s))

    pub named-is : NamedIs owner b.name (address_of outs p d)
    named-is = by b.local refl
      where
        bound : IsBoundWell b
        bound = all-at IsBoundWell out.symbols k b (tr.objects owner out is_out).valid.locals is_symbol

        local-by : b.local ≡ true → (q : body.Body) → b.body ≡ q → NamedIs owner b.name (address_of outs p d)
        local-by l (Text def) e = local-function def l e
        local-by l (Data pieces) e =
            local-object l (λ def h. let z : Data pieces ≡ Text def = sym e ∙ h in cc)
            (let t = body-data (size_of here.stands.source.tags here.entry.symbol.type) here.entry.symbol.kind pieces (subst (SameKind (size_of here.stands.source.tags here.entry.symbol.type) here.entry.symbol.kind) e entry-same.kind) in rw t refl)
        local-by l (Common n) e =
            local-object l (λ def h. let z : Common n ≡ Text def = sym e ∙ h in cc)
            (let t = body-common (size_of here.stands.source.tags here.entry.symbol.type) here.entry.symbol.kind n (subst (SameKind (size_of here.stands.source.tags here.entry.symbol.type) here.entry.symbol.kind) e entry-same.kind) in
            let i : here.entry.symbol.is_local ≡ true = sym entry-same.linkage ∙ l in either (is_data here.entry.symbol.kind) (is_common here.entry.symbol.kind) here.entry.symbol.is_local _ t i)
          where
            either : (x y z w : Bool) → y ≡ true → z ≡ true → (x || (y && (z || w))) ≡ true
            either true y z w f g = refl
            either false true true w f g = refl
            either false true false w f g = absurd (true≢false (sym g))
            either false false z w f g = absurd (true≢false (sym f))
        local-by l Declared e = absurd (true≢false (sym (bound l).0 ∙ ap is_definition e))
        local-by l Used e = absurd (true≢false (sym (bound l).0 ∙ ap is_definition e))

        by : (t : Bool) → b.local ≡ t → NamedIs owner b.name (address_of outs p d)
        by true l = local-by l b.body refl
        by false l = global-is l

  -- the addresses of a module's symbols are those of what they name in C
  pub agrees : (owner : ℕ) (out : AModule) → slice_get outs owner ≡ Some out → Agrees (ground_of modules outs p) (λ k. address_of outs p (record { «module» = owner; symbol = k })) (union_of modules) owner out
  agrees owner out is_out k b is_symbol = by (named-is owner out is_out k b is_symbol)
    where
      by : NamedIs owner b.name (address_of outs p (record { «module» = owner; symbol = k }))
          → word_of (ground_of modules outs p) (let g = ground_of modules outs p in map Some g.statics) (named_pointer (union_of modules) owner b.name 0) ≡ Some (address_of outs p (record { «module» = owner; symbol = k }))
      by (AnObject n start pointer static same low) =
          let z : word_sum start 0 ≡ start = omega (arith, low) in
          ap (word_of (ground_of modules outs p) (let g = ground_of modules outs p in map Some g.statics)) (pointer 0)
          ∙ (ap (λ o. moved_address o 0) (get-map Some (let g = ground_of modules outs p in g.statics) n start static) ∙ ap Some (z ∙ same))
      by (AFunction f pointer same small) =
          ap (word_of (ground_of modules outs p) (let g = ground_of modules outs p in map Some g.statics)) (pointer 0) ∙ ap Some same
