-- The map of definitions: what it holds after the places seen so far, and the table at the end.
use Rattle.std.proofs.Common.{zero, suc, ◌≡◌, ℕ, ◌<◌, inl, inr, Bool, true, false, cond, not, ◌&&◌, ◌||◌, List, [], ◌∷◌, ◌++◌, Option, Some, None, IsSome, is_some, find, slice_index_or, length, refl, sym, ap, subst, ◌∙◌, arith, true≢false, bytes_eq, AllPairs}
use Rattle.std.specs.Cmp.Lexicographic.{bytes_decides}
use Rattle.std.specs.Map.{keys_of}
use Rattle.p9_abs.specs.declared.modules.Body.{Body}
use Rattle.p9_abs.specs.declared.modules.Body.TheVariants.{Declared, Used, Text, Data, Common}
use Rattle.p9_abs.specs.declared.modules.Symbol.{Symbol}
use Rattle.p9_abs.specs.declared.modules.AModule.{AModule}
use Rattle.p9_abs.specs.Modules.{is_definition, is_full, is_text}
use Rattle.p9_abs.specs.declared.modules.Def.{Def}
use Rattle.p9_names.specs.declared.rules.Rule.TheVariants.{Once}
use Rattle.p9_names.specs.Rules.{clash, breaks}
use Rattle.p9_abs.specs.Names.{symbol_at, Occurs, Defines, IsBefore, IsNotAfter, IsFirstDefinition, IsChosen}
use Rattle.p9_names.specs.Linking.{IsDefinedBefore, IsTable, IsKept}
use Rattle.p9_names.specs.Passes.{held_at, held_breaks, breaks_at, put_entry, note_entry, takes_place, meets}
use Rattle.p9_names.proofs.Lists.{Among, before-irrefl, before-trans, among-push, among-last, among-pushed, among-left, among-right, sorted-apart, sorted-total, find-none}
use Rattle.p9_names.proofs.Breaking.{IsListing, KeptOn, IsClear, and-left, and-right, same_symbol, holds-at, holds-some, not_both, is_true_or_false, kept-push, kept-all, before-module}

-- Bodies that clash

pub clash-sym : (a b : Body) → clash a b ≡ clash b a
clash-sym Declared Declared = refl
clash-sym Declared Used = refl
clash-sym Declared (Text y) = refl
clash-sym Declared (Data y) = refl
clash-sym Declared (Common y) = refl
clash-sym Used Declared = refl
clash-sym Used Used = refl
clash-sym Used (Text y) = refl
clash-sym Used (Data y) = refl
clash-sym Used (Common y) = refl
clash-sym (Text x) Declared = refl
clash-sym (Text x) Used = refl
clash-sym (Text x) (Text y) = refl
clash-sym (Text x) (Data y) = refl
clash-sym (Text x) (Common y) = refl
clash-sym (Data x) Declared = refl
clash-sym (Data x) Used = refl
clash-sym (Data x) (Text y) = refl
clash-sym (Data x) (Data y) = refl
clash-sym (Data x) (Common y) = refl
clash-sym (Common x) Declared = refl
clash-sym (Common x) Used = refl
clash-sym (Common x) (Text y) = refl
clash-sym (Common x) (Data y) = refl
clash-sym (Common x) (Common y) = refl

-- what clashes with something is a definition, and so is that
clash-first : (a b : Body) → clash a b ≡ true → is_definition a ≡ true
clash-first Declared b h = absurd (true≢false (sym h))
clash-first Used b h = absurd (true≢false (sym h))
clash-first (Text _) b h = refl
clash-first (Data _) b h = refl
clash-first (Common _) b h = refl

clash-second : (a b : Body) → clash a b ≡ true → is_definition b ≡ true
clash-second a b h = clash-first b a (clash-sym b a ∙ h)

full-definition : (b : Body) → is_definition b ≡ false → is_full b ≡ false
full-definition Declared h = refl
full-definition Used h = refl
full-definition (Text _) h = absurd (true≢false h)
full-definition (Data _) h = absurd (true≢false h)
full-definition (Common _) h = refl

text-full : (b : Body) → is_text b ≡ true → is_full b ≡ true
text-full Declared h = h
text-full Used h = h
text-full (Text _) h = refl
text-full (Data _) h = refl
text-full (Common _) h = h

-- where the chosen definition doesn't clash with a body, no other one of the name does
no-clash : (chosen other late : Body) → is_definition chosen ≡ true → is_definition other ≡ true → clash chosen late ≡ false → (is_full chosen ≡ false → is_full other ≡ false) → clash chosen other ≡ false → clash other late ≡ false
no-clash Declared other late p q h g k = absurd (true≢false (sym p))
no-clash Used other late p q h g k = absurd (true≢false (sym p))
no-clash (Text _) other late p q h g k = absurd (true≢false (sym q ∙ k))
no-clash (Data _) Declared late p q h g k = refl
no-clash (Data _) Used late p q h g k = refl
no-clash (Data _) (Text _) late p q h g k = absurd (true≢false k)
no-clash (Data _) (Data _) late p q h g k = absurd (true≢false k)
no-clash (Data _) (Common _) late p q h g k = by (is_text late) refl
  where
    by : (b : Bool) → is_text late ≡ b → is_text late ≡ false
    by true e = absurd (true≢false (sym (text-full late e) ∙ h))
    by false e = e
no-clash (Common _) Declared late p q h g k = refl
no-clash (Common _) Used late p q h g k = refl
no-clash (Common _) (Text _) late p q h g k = absurd (true≢false (g refl))
no-clash (Common _) (Data _) late p q h g k = absurd (true≢false (g refl))
no-clash (Common _) (Common _) late p q h g k = h

-- Entries of a map

bytes-same : (a b : List ℕ) → a ≡ b → bytes_eq a b ≡ true
bytes-same a b h = (bytes_decides a b).1 h

pub bytes-apart : (a b : List ℕ) → bytes_eq a b ≡ false → a ≡ b → ⊥
bytes-apart a b h e = true≢false (sym (bytes-same a b e) ∙ h)

pub put-same : (entries : List (List ℕ × Def)) (name : List ℕ) (d : Def) → held_at (put_entry entries name d) name ≡ Some d
put-same [] name d = ap (λ b. cond b (Some d) None) (bytes-same name name refl)
put-same (e ∷ es) name d = by (bytes_eq name e.0) refl (put-same es name d)
  where
    by : (b : Bool) → bytes_eq name e.0 ≡ b → held_at (put_entry es name d) name ≡ Some d → held_at (cond b ((e.0, d) ∷ es) (e ∷ put_entry es name d)) name ≡ Some d
    by true h rest = ap (λ b. cond b (Some d) (held_at es name)) h
    by false h rest = ap (λ b. cond b (Some e.1) (held_at (put_entry es name d) name)) h ∙ rest

pub put-other : (entries : List (List ℕ × Def)) (name : List ℕ) (d : Def) (q : List ℕ) → (q ≡ name → ⊥) → held_at (put_entry entries name d) q ≡ held_at entries q
put-other [] name d q apart = ap (λ b. cond b (Some d) None) (differ-false q name apart)
  where
    differ-false : (a b : List ℕ) → (a ≡ b → ⊥) → bytes_eq a b ≡ false
    differ-false a b n = elim (is_true_or_false (bytes_eq a b)) [ inl t ↦ absurd (n ((bytes_decides a b).0 t)) | inr f ↦ f ]
put-other (e ∷ es) name d q apart = by (bytes_eq name e.0) refl (put-other es name d q apart)
  where
    differ-false : (a b : List ℕ) → (a ≡ b → ⊥) → bytes_eq a b ≡ false
    differ-false a b n = elim (is_true_or_false (bytes_eq a b)) [ inl t ↦ absurd (n ((bytes_decides a b).0 t)) | inr f ↦ f ]

    by : (b : Bool) → bytes_eq name e.0 ≡ b → held_at (put_entry es name d) q ≡ held_at es q → held_at (cond b ((e.0, d) ∷ es) (e ∷ put_entry es name d)) q ≡ held_at (e ∷ es) q
    by true h rest =
        let f : bytes_eq q e.0 ≡ false = differ-false q e.0 (λ s. apart (s ∙ sym ((bytes_decides name e.0).0 h))) in
        ap (λ b. cond b (Some d) (held_at es q)) f ∙ sym (ap (λ b. cond b (Some e.1) (held_at es q)) f)
    by false h rest = ap (cond (bytes_eq q e.0) (Some e.1)) rest

pub keys-put_new : (entries : List (List ℕ × Def)) (name : List ℕ) (d : Def) → held_at entries name ≡ None → keys_of (put_entry entries name d) ≡ keys_of entries ++ name ∷ []
keys-put_new [] name d h = refl
keys-put_new (e ∷ es) name d h = by (bytes_eq name e.0) refl h (keys-put_new es name d)
  where
    by : (b : Bool) → bytes_eq name e.0 ≡ b → cond (bytes_eq name e.0) (Some e.1) (held_at es name) ≡ None → (held_at es name ≡ None → keys_of (put_entry es name d) ≡ keys_of es ++ name ∷ []) → keys_of (cond b ((e.0, d) ∷ es) (e ∷ put_entry es name d)) ≡ e.0 ∷ (keys_of es ++ name ∷ [])
    by true t g rest = let bad : Some e.1 ≡ None = sym (ap (λ b. cond b (Some e.1) (held_at es name)) t) ∙ g in cc
    by false t g rest = ap (λ ks. e.0 ∷ ks) (rest (sym (ap (λ b. cond b (Some e.1) (held_at es name)) t) ∙ g))

pub keys-put_old : (entries : List (List ℕ × Def)) (name : List ℕ) (d c : Def) → held_at entries name ≡ Some c → keys_of (put_entry entries name d) ≡ keys_of entries
keys-put_old [] name d c h = cc
keys-put_old (e ∷ es) name d c h = by (bytes_eq name e.0) refl h (keys-put_old es name d c)
  where
    by : (b : Bool) → bytes_eq name e.0 ≡ b → cond (bytes_eq name e.0) (Some e.1) (held_at es name) ≡ Some c → (held_at es name ≡ Some c → keys_of (put_entry es name d) ≡ keys_of es) → keys_of (cond b ((e.0, d) ∷ es) (e ∷ put_entry es name d)) ≡ e.0 ∷ keys_of es
    by true t g rest = refl
    by false t g rest = ap (λ ks. e.0 ∷ ks) (rest (sym (ap (λ b. cond b (Some e.1) (held_at es name)) t) ∙ g))

-- What is known after the places seen so far

pub record ChosenIn (ms : List AModule) (seen : List Def) (name : List ℕ) (c : Def) : Type 0 where
  pub among : Among seen c
  pub defined : Defines ms name c
  pub preferred : is_full defined.symbol.body ≡ false → (e : Def) → Among seen e → (other : Defines ms name e) → (is_full other.symbol.body ≡ false) × IsNotAfter c e

abbrev pub Held : List AModule → List Def → List ℕ → Option Def → Type 0
Held ms seen name None = (e : Def) → Among seen e → Defines ms name e → ⊥
Held ms seen name (Some c) = ChosenIn ms seen name c

pub record FirstIn (ms : List AModule) (seen : List Def) (name : List ℕ) (d : Def) : Type 0 where
  pub among : Among seen d
  pub defined : Defines ms name d
  pub first : (e : Def) → Among seen e → Defines ms name e → IsNotAfter d e

pub record BeforeIn (ms : List AModule) (seen : List Def) (name other : List ℕ) : Type 0 where
  pub early : Def
  pub late : Def
  pub early_first : FirstIn ms seen name early
  pub late_first : FirstIn ms seen other late
  pub ordered : IsBefore early late

-- each key has a first definition, and they stand in the order of these
abbrev pub Rises : List AModule → List Def → List (List ℕ) → Type 0
Rises ms seen [] = Unit {0}
Rises ms seen (name ∷ rest) =
    ((d : Def) × FirstIn ms seen name d) × ((other : List ℕ) → Among rest other → BeforeIn ms seen name other) × Rises ms seen rest

pub record Knows (ms : List AModule) (seen : List Def) (entries : List (List ℕ × Def)) : Type 0 where
  pub held : (name : List ℕ) → Held ms seen name (held_at entries name)
  pub kept : KeptOn Once ms seen
  pub ordered : Rises ms seen (keys_of entries)

pub knows-nothing : (ms : List AModule) → Knows ms [] []
knows-nothing ms = record { held = λ name e m p. absurd m; kept = λ name d e p q c. absurd p; ordered = tt }

-- A step from the seen places to one more, at which this symbol stands

module _ (ms : List AModule) (seen rest : List Def) (d : Def) (s : Symbol) (l : IsListing ms (seen ++ d ∷ rest)) (at : symbol_at ms d ≡ Some s) where
  seen_before : (e : Def) → Among seen e → IsBefore e d
  seen_before e m = sorted-apart seen (d ∷ rest) l.sorted e d m (inl refl)

  in_all : (e : Def) → Among seen e → Among (seen ++ d ∷ rest) e
  in_all e m = among-left seen (d ∷ rest) e m

  d_in : Among (seen ++ d ∷ rest) d
  d_in = among-right seen (d ∷ rest) d (inl refl)

  is_global_d : s.local ≡ false
  is_global_d = let f = l.sound d d_in in ap (λ x. x.local) (same_symbol (symbol_at ms d) s f.0 at f.1) ∙ f.2

  same_as_d : (name : List ℕ) (p : Defines ms name d) → p.symbol ≡ s
  same_as_d name p = same_symbol (symbol_at ms d) p.symbol s p.occurs.stands at

  held-extend : (name : List ℕ) (o : Option Def) → Held ms seen name o → (Defines ms name d → ⊥) → Held ms (seen ++ d ∷ []) name o
  held-extend name None h absent = λ e m p.
      elim (among-pushed seen d e m) [
        | inl n ↦ h e n p
        | inr same ↦ let P : Def → Type 0 = λ v. Defines ms name v in absent (subst P same p)
      ]
  held-extend name (Some c) h absent = record {
    among = among-push seen d c h.among;
    defined = h.defined;
    preferred = λ common e m p. elim (among-pushed seen d e m) [
      | inl n ↦ h.preferred common e n p
      | inr same ↦ let P : Def → Type 0 = λ v. Defines ms name v in absurd (absent (subst P same p))
    ];
  }

  first-extend : (name : List ℕ) (c : Def) → FirstIn ms seen name c → FirstIn ms (seen ++ d ∷ []) name c
  first-extend name c f = record {
    among = among-push seen d c f.among;
    defined = f.defined;
    first = λ e m p. elim (among-pushed seen d e m) [
      | inl n ↦ f.first e n p
      | inr same ↦ let P : Def → Type 0 = λ v. IsBefore c v in inr (subst P (sym same) (seen_before c f.among))
    ];
  }

  rises-extend : (names : List (List ℕ)) → Rises ms seen names → Rises ms (seen ++ d ∷ []) names
  rises-extend [] h = tt
  rises-extend (name ∷ names) h = (
    (h.0.0, first-extend name h.0.0 h.0.1),
    (λ other m. let b = h.1 other m in record { early = b.early; late = b.late; early_first = first-extend name b.early b.early_first; late_first = first-extend other b.late b.late_first; ordered = b.ordered }),
    rises-extend names h.2,
  )

  -- a new name whose first definition is at d
  rises-push : (names : List (List ℕ)) (name : List ℕ) → Rises ms seen names → FirstIn ms (seen ++ d ∷ []) name d → Rises ms (seen ++ d ∷ []) (names ++ name ∷ [])
  rises-push [] name h f = ((d, f), (λ other m. absurd m), tt)
  rises-push (x ∷ names) name h f = (
    (h.0.0, first-extend x h.0.0 h.0.1),
    (λ other m. elim (among-pushed names name other m) [
      | inl n ↦ let b = h.1 other n in record { early = b.early; late = b.late; early_first = first-extend x b.early b.early_first; late_first = first-extend other b.late b.late_first; ordered = b.ordered }
      | inr same ↦
          let P : List ℕ → Type 0 = λ v. FirstIn ms (seen ++ d ∷ []) v d in
          record { early = h.0.0; late = d; early_first = first-extend x h.0.0 h.0.1; late_first = subst P (sym same) f; ordered = seen_before h.0.0 h.0.1.among }
    ]),
    rises-push names name h.2 f,
  )

  -- the definition at d
  abbrev here : is_definition s.body ≡ true → Defines ms s.name d
  here def = record { symbol = s; occurs = record { stands = at; global = is_global_d; named = refl }; defining = def }

  -- where the map's record doesn't clash with this one, no seen one does
  clear-unless : (entries : List (List ℕ × Def)) → Knows ms seen entries → held_breaks Once ms entries s ≡ false → IsClear Once ms seen s
  clear-unless entries k calm e m = elim (is_true_or_false (meets Once ms s e)) [ inr f ↦ f | inl t ↦ absurd (impossible t) ]
    where
      by : (o : Option Def) → Held ms seen s.name o → breaks_at Once ms o s ≡ false → (a : Symbol) → Occurs ms s.name e a → clash a.body s.body ≡ true → ⊥
      by None h quiet a oc t = h e m (record { symbol = a; occurs = oc; defining = clash-first a.body s.body t })
      by (Some c) h quiet a oc t =
          let chosen = h.defined in
          let q : clash chosen.symbol.body s.body ≡ false = sym (holds-at (λ early. breaks Once early s) (symbol_at ms c) chosen.symbol chosen.occurs.stands) ∙ quiet in
          let def : is_definition a.body ≡ true = clash-first a.body s.body t in
          let other : Defines ms s.name e = record { symbol = a; occurs = oc; defining = def } in
          elim (sorted-total (seen ++ d ∷ rest) l.sorted c e (in_all c h.among) (in_all e m)) [
            | inl same ↦
                let P : Option Symbol → Type 0 = λ v. v ≡ Some a in
                let eq : chosen.symbol ≡ a = same_symbol (symbol_at ms c) chosen.symbol a chosen.occurs.stands (ap (symbol_at ms) same ∙ oc.stands) in
                not_both (clash a.body s.body) t (ap (λ x. clash x.body s.body) (sym eq) ∙ q)
            | inr order ↦
                let apart : clash chosen.symbol.body a.body ≡ false = elim (is_true_or_false (clash chosen.symbol.body a.body)) [
                  | inr f ↦ f
                  | inl bad ↦ absurd (elim order [
                    | inl ce ↦ k.kept s.name c e h.among m (record { early = chosen.symbol; late = a; early_occurs = chosen.occurs; late_occurs = oc; ordered = before-module ms (seen ++ d ∷ rest) l s.name c e chosen.symbol a chosen.occurs oc ce; broken = bad })
                    | inr ec ↦ k.kept s.name e c m h.among (record { early = a; late = chosen.symbol; early_occurs = oc; late_occurs = chosen.occurs; ordered = before-module ms (seen ++ d ∷ rest) l s.name e c a chosen.symbol oc chosen.occurs ec; broken = clash-sym a.body chosen.symbol.body ∙ bad })
                  ])
                ] in
                not_both (clash a.body s.body) t (no-clash chosen.symbol.body a.body s.body chosen.defining def q (λ common. (h.preferred common e m other).0) apart)
          ]

      impossible : meets Once ms s e ≡ true → ⊥
      impossible t =
          let found = holds-some (λ early. bytes_eq early.name s.name && breaks Once early s) (symbol_at ms e) t in
          let a : Symbol = found.0 in
          let e_is = l.sound e (in_all e m) in
          let oc : Occurs ms s.name e a = record { stands = found.1; global = ap (λ x. x.local) (same_symbol (symbol_at ms e) a e_is.0 found.1 e_is.1) ∙ e_is.2; named = (bytes_decides a.name s.name).0 (and-left (bytes_eq a.name s.name) (breaks Once a s) found.2) } in
          by (held_at entries s.name) (k.held s.name) calm a oc (and-right (bytes_eq a.name s.name) (breaks Once a s) found.2)

  clear-step : (entries new : List (List ℕ × Def)) → Knows ms seen entries → (held_breaks Once ms entries s ≡ true → find (meets Once ms s) seen ≡ None) → IsClear Once ms seen s
  clear-step entries new k clear e m = elim (is_true_or_false (held_breaks Once ms entries s)) [
    | inl t ↦ find-none (meets Once ms s) seen (clear t) e m
    | inr f ↦ clear-unless entries k f e m
  ]

  -- the map after a definition took its name's place
  held-put : (entries : List (List ℕ × Def)) → Knows ms seen entries → IsClear Once ms seen s → is_definition s.body ≡ true → (is_full s.body ≡ false → held_at entries s.name ≡ None) → (name : List ℕ) → Held ms (seen ++ d ∷ []) name (held_at (put_entry entries s.name d) name)
  held-put entries k clear def new name = elim (is_true_or_false (bytes_eq name s.name)) [
    | inl t ↦
        let same : name ≡ s.name = (bytes_decides name s.name).0 t in
        let P : List ℕ → Type 0 = λ v. Held ms (seen ++ d ∷ []) v (held_at (put_entry entries s.name d) v) in
        let Q : Option Def → Type 0 = λ o. Held ms (seen ++ d ∷ []) s.name o in
        subst P (sym same) (subst Q (sym (put-same entries s.name d)) (record {
          among = among-last seen d;
          defined = here def;
          preferred = λ common e m p. elim (among-pushed seen d e m) [
            | inl n ↦
                let R : Option Def → Type 0 = λ o. Held ms seen s.name o in
                let none = subst R (new common) (k.held s.name) in
                absurd (none e n p)
            | inr eq ↦
                (ap (λ x. is_full x.body) (same_symbol (symbol_at ms d) p.symbol s (ap (symbol_at ms) (sym eq) ∙ p.occurs.stands) at) ∙ common, inl (sym eq))
          ];
        }))
    | inr f ↦
        let Q : Option Def → Type 0 = λ o. Held ms (seen ++ d ∷ []) name o in
        subst Q (sym (put-other entries s.name d name (bytes-apart name s.name f)))
        (held-extend name (held_at entries name) (k.held name) (λ p. bytes-apart name s.name f (sym p.occurs.named ∙ ap (λ x. x.name) (same_as_d name p))))
  ]

  rises-put : (entries : List (List ℕ × Def)) → Knows ms seen entries → is_definition s.body ≡ true → Rises ms (seen ++ d ∷ []) (keys_of (put_entry entries s.name d))
  rises-put entries k def = by (held_at entries s.name) refl
    where
      P : List (List ℕ) → Type 0
      P = λ ks. Rises ms (seen ++ d ∷ []) ks

      by : (o : Option Def) → held_at entries s.name ≡ o → Rises ms (seen ++ d ∷ []) (keys_of (put_entry entries s.name d))
      by None e =
          let R : Option Def → Type 0 = λ o. Held ms seen s.name o in
          let none = subst R e (k.held s.name) in
          subst P (sym (keys-put_new entries s.name d e)) (rises-push (keys_of entries) s.name k.ordered (record {
            among = among-last seen d;
            defined = here def;
            first = λ f m p. elim (among-pushed seen d f m) [ inl n ↦ absurd (none f n p) | inr eq ↦ inl (sym eq) ];
          }))
      by (Some c) e = subst P (sym (keys-put_old entries s.name d c e)) (rises-extend (keys_of entries) k.ordered)

  -- a record that doesn't take its name's place leaves the map right
  held-stay : (entries : List (List ℕ × Def)) → Knows ms seen entries → takes_place entries s ≡ false → (name : List ℕ) → Held ms (seen ++ d ∷ []) name (held_at entries name)
  held-stay entries k stays name = elim (is_true_or_false (is_definition s.body)) [
    | inr f ↦ held-extend name (held_at entries name) (k.held name) (λ p. not_both (is_definition s.body) (ap (λ x. is_definition x.body) (sym (same_as_d name p)) ∙ p.defining) f)
    | inl t ↦ defined t
  ]
    where
      full_false : is_definition s.body ≡ true → is_full s.body || not (is_some (held_at entries s.name)) ≡ false
      full_false t = sym (ap (λ b. b && (is_full s.body || not (is_some (held_at entries s.name)))) t) ∙ stays

      or-first : (a b : Bool) → a || b ≡ false → a ≡ false
      or-first true b h = h
      or-first false b h = refl

      or-second : (a b : Bool) → a || b ≡ false → b ≡ false
      or-second true b h = absurd (true≢false h)
      or-second false b h = h

      add : (o : Option Def) → Held ms seen name o → name ≡ s.name → not (is_some o) ≡ false → is_full s.body ≡ false → Held ms (seen ++ d ∷ []) name o
      add None h same none full = absurd (true≢false none)
      add (Some c) h same none full = record {
        among = among-push seen d c h.among;
        defined = h.defined;
        preferred = λ common e m p. elim (among-pushed seen d e m) [
          | inl n ↦ h.preferred common e n p
          | inr eq ↦
              let P : Def → Type 0 = λ v. IsBefore c v in
              (ap (λ x. is_full x.body) (same_symbol (symbol_at ms d) p.symbol s (ap (symbol_at ms) (sym eq) ∙ p.occurs.stands) at) ∙ full, inr (subst P (sym eq) (seen_before c h.among)))
        ];
      }

      defined : is_definition s.body ≡ true → Held ms (seen ++ d ∷ []) name (held_at entries name)
      defined t = elim (is_true_or_false (bytes_eq name s.name)) [
        | inl e ↦
            let same : name ≡ s.name = (bytes_decides name s.name).0 e in
            let f = full_false t in
            add (held_at entries name) (k.held name) same (ap (λ v. not (is_some (held_at entries v))) same ∙ or-second (is_full s.body) (not (is_some (held_at entries s.name))) f) (or-first (is_full s.body) (not (is_some (held_at entries s.name))) f)
        | inr f ↦ held-extend name (held_at entries name) (k.held name) (λ p. bytes-apart name s.name f (sym p.occurs.named ∙ ap (λ x. x.name) (same_as_d name p)))
      ]

  new-none : (entries : List (List ℕ × Def)) → takes_place entries s ≡ true → is_full s.body ≡ false → held_at entries s.name ≡ None
  new-none entries t full = by (held_at entries s.name) (sym (ap (λ b. b || not (is_some (held_at entries s.name))) full) ∙ and-right (is_definition s.body) (is_full s.body || not (is_some (held_at entries s.name))) t)
    where
      by : (o : Option Def) → not (is_some o) ≡ true → o ≡ None
      by None h = refl
      by (Some c) h = absurd (true≢false (sym h))

  pub knows-step : (entries new : List (List ℕ × Def)) → Knows ms seen entries → (held_breaks Once ms entries s ≡ true → find (meets Once ms s) seen ≡ None) → new ≡ note_entry (takes_place entries s) entries s.name d → Knows ms (seen ++ d ∷ []) new
  knows-step entries new k clear noted = by (takes_place entries s) refl noted
    where
      calm : IsClear Once ms seen s
      calm = clear-step entries new k clear

      P : List (List ℕ × Def) → Type 0
      P = λ es. Knows ms (seen ++ d ∷ []) es

      by : (b : Bool) → takes_place entries s ≡ b → new ≡ note_entry b entries s.name d → Knows ms (seen ++ d ∷ []) new
      by true t e =
          let def : is_definition s.body ≡ true = and-left (is_definition s.body) (is_full s.body || not (is_some (held_at entries s.name))) t in
          subst P (sym e) (record {
            held = held-put entries k calm def (new-none entries t);
            kept = kept-push Once ms seen rest d s l at k.kept calm;
            ordered = rises-put entries k def;
          })
      by false t e = subst P (sym e) (record {
        held = held-stay entries k t;
        kept = kept-push Once ms seen rest d s l at k.kept calm;
        ordered = rises-extend (keys_of entries) k.ordered;
      })

-- The table at the end

module _ (ms : List AModule) (places : List Def) (l : IsListing ms places) where
  first-all : (name : List ℕ) (d : Def) → FirstIn ms places name d → IsFirstDefinition ms name d
  first-all name d f = record { defines = f.defined; first = λ e p. f.first e (l.complete name e p.symbol p.occurs) p }

  -- each entry is the one that is found at its name
  own-entry : (entries : List (List ℕ × Def)) → Rises ms places (keys_of entries) → (k : ℕ) (z : List ℕ × Def) → k < length entries → held_at entries (slice_index_or entries k z).0 ≡ Some (slice_index_or entries k z).1
  own-entry [] h k z lt = absurd (omega arith)
  own-entry (e ∷ es) h zero z lt = ap (λ b. cond b (Some e.1) (held_at es e.0)) (bytes-same e.0 e.0 refl)
  own-entry (e ∷ es) h (suc k) z lt = elim (is_true_or_false (bytes_eq (slice_index_or es k z).0 e.0)) [
    | inr f ↦ ap (λ b. cond b (Some e.1) (held_at es (slice_index_or es k z).0)) f ∙ own-entry es h.2 k z (omega arith)
    | inl t ↦
        let b = h.1 (slice_index_or es k z).0 (key-among es k z (omega arith)) in
        let same : (slice_index_or es k z).0 ≡ e.0 = (bytes_decides (slice_index_or es k z).0 e.0).0 t in
        let P : List ℕ → Type 0 = λ v. FirstIn ms places v b.late in
        let late = subst P same b.late_first in
        let Q : Def → Type 0 = λ v. IsBefore b.early v in
        absurd (elim (late.first b.early b.early_first.among b.early_first.defined) [
          | inl q ↦ before-irrefl b.early (subst Q q b.ordered)
          | inr q ↦ before-irrefl b.early (before-trans b.early b.late b.early b.ordered q)
        ])
  ]
    where
      key-among : (xs : List (List ℕ × Def)) (i : ℕ) (z : List ℕ × Def) → i < length xs → Among (keys_of xs) (slice_index_or xs i z).0
      key-among [] i z lt = absurd (omega arith)
      key-among (x ∷ xs) zero z lt = inl refl
      key-among (x ∷ xs) (suc i) z lt = inr (key-among xs i z (omega arith))

  key-in : (xs : List (List ℕ × Def)) (i : ℕ) (z : List ℕ × Def) → i < length xs → Among (keys_of xs) (slice_index_or xs i z).0
  key-in [] i z lt = absurd (omega arith)
  key-in (x ∷ xs) zero z lt = inl refl
  key-in (x ∷ xs) (suc i) z lt = inr (key-in xs i z (omega arith))

  ordered-pairs : (entries : List (List ℕ × Def)) → Rises ms places (keys_of entries) → AllPairs (λ a b. IsDefinedBefore ms a.0 b.0) entries
  ordered-pairs [] h i j z lt within = absurd (omega arith)
  ordered-pairs (e ∷ es) h i zero z lt within = absurd (omega arith)
  ordered-pairs (e ∷ es) h zero (suc j) z lt within =
      let b = h.1 (slice_index_or es j z).0 (key-in es j z (omega arith)) in
      record { place = b.early; later = b.late; first = first-all e.0 b.early b.early_first; other_first = first-all (slice_index_or es j z).0 b.late b.late_first; ordered = b.ordered }
  ordered-pairs (e ∷ es) h (suc i) (suc j) z lt within = ordered-pairs es h.2 i j z (omega arith) (omega arith)

  chosen-all : (name : List ℕ) (c : Def) → ChosenIn ms places name c → IsChosen ms name c
  chosen-all name c h = record { defines = h.defined; common = λ full e p. h.preferred full e (l.complete name e p.symbol p.occurs) p }

  pub table-all : (entries : List (List ℕ × Def)) → Knows ms places entries → IsTable ms entries
  table-all entries k = record {
    chosen = λ i z lt.
        let P : Option Def → Type 0 = λ o. Held ms places (slice_index_or entries i z).0 o in
        chosen-all (slice_index_or entries i z).0 (slice_index_or entries i z).1 (subst P (own-entry entries k.ordered i z lt) (k.held (slice_index_or entries i z).0));
    complete = λ name d p. found name d p (held_at entries name) (k.held name);
    ordered = ordered-pairs entries k.ordered;
  }
    where
      found : (name : List ℕ) (d : Def) → Defines ms name d → (o : Option Def) → Held ms places name o → IsSome o
      found name d p None h = absurd (h d (l.complete name d p.symbol p.occurs) p)
      found name d p (Some c) h = refl

  pub once-all : (entries : List (List ℕ × Def)) → Knows ms places entries → IsKept Once ms
  once-all entries k = kept-all Once ms places l k.kept
