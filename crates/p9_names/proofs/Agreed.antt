-- The noted records of the last pass: for each name one with a signature, and one with a size.
use Rattle.std.proofs.Common.{◌≡◌, ℕ, ◌⊎◌, inl, inr, Bool, true, false, not, ◌&&◌, ◌||◌, ◌==◌, List, [], ◌∷◌, ◌++◌, Option, Some, None, is_some, find, refl, sym, ap, subst, ◌∙◌, true≢false, bytes_eq, eqb-true}
use Rattle.std.specs.Cmp.Lexicographic.{bytes_decides}
use Rattle.p9_abs.specs.declared.modules.Symbol.{Symbol}
use Rattle.p9_abs.specs.declared.modules.AModule.{AModule}
use Rattle.p9_abs.specs.Modules.{size_of}
use Rattle.p9_abs.specs.declared.modules.Def.{Def}
use Rattle.p9_names.specs.declared.rules.Rule.TheVariants.{Agreement}
use Rattle.p9_names.specs.Rules.{is_empty, signatures_differ, sizes_differ, differ, breaks}
use Rattle.p9_abs.specs.Names.{symbol_at, Occurs}
use Rattle.p9_names.specs.Linking.{IsKept}
use Rattle.p9_names.specs.Passes.{held_at, held_breaks, breaks_at, put_entry, note_entry, note_first, has_size, meets}
use Rattle.p9_names.proofs.Lists.{Among, among-push, among-last, among-pushed, among-left, among-right, sorted-total, find-none}
use Rattle.p9_names.proofs.Breaking.{IsListing, KeptOn, IsClear, and-left, and-right, same_symbol, holds-at, holds-some, not_both, is_true_or_false, or-left_false, or-right_false, kept-push, kept-all, before-module}
use Rattle.p9_names.proofs.Chosen.{put-same, put-other, bytes-apart}

-- texts that are given and don't differ are the same
signature-same : (a b : List ℕ) → is_empty a ≡ false → is_empty b ≡ false → signatures_differ a b ≡ false → a ≡ b
signature-same [] b p q h = absurd (true≢false p)
signature-same (x ∷ a) [] p q h = absurd (true≢false q)
signature-same (x ∷ a) (y ∷ b) p q h = by (bytes_eq (x ∷ a) (y ∷ b)) refl h
  where
    by : (v : Bool) → bytes_eq (x ∷ a) (y ∷ b) ≡ v → not (bytes_eq (x ∷ a) (y ∷ b)) ≡ false → x ∷ a ≡ y ∷ b
    by true e g = (bytes_decides (x ∷ a) (y ∷ b)).0 e
    by false e g = absurd (true≢false (sym (ap not e) ∙ g))

signature-empty : (a b : List ℕ) → is_empty a ≡ true → signatures_differ a b ≡ false
signature-empty a b h = ap (λ v. not v && (not (is_empty b) && not (bytes_eq a b))) h

size-none : (a b : Option ℕ) → is_some a ≡ false → sizes_differ a b ≡ false
size-none None b h = refl
size-none (Some x) b h = absurd (true≢false h)

size-same : (a b : Option ℕ) → is_some a ≡ true → is_some b ≡ true → sizes_differ a b ≡ false → a ≡ b
size-same None b p q h = absurd (true≢false (sym p))
size-same (Some x) None p q h = absurd (true≢false (sym q))
size-same (Some x) (Some y) p q h = by (x == y) refl h
  where
    by : (v : Bool) → x == y ≡ v → not (x == y) ≡ false → Some x ≡ Some y
    by true e g = ap Some (eqb-true x y e)
    by false e g = absurd (true≢false (sym (ap not e) ∙ g))

or-false : (a b : Bool) → a ≡ false → b ≡ false → a || b ≡ false
or-false a b p q = ap (λ v. v || b) p ∙ q

-- What a map of noted records holds: of each name one that is wanted, where there is one

pub record NotedAt (want : Symbol → Bool) (ms : List AModule) (seen : List Def) (name : List ℕ) (c : Def) : Type 0 where
  pub symbol : Symbol
  pub among : Among seen c
  pub occurs : Occurs ms name c symbol
  pub wanted : want symbol ≡ true

abbrev pub Notes : (Symbol → Bool) → List AModule → List Def → List ℕ → Option Def → Type 0
Notes want ms seen name None = (e : Def) (a : Symbol) → Among seen e → Occurs ms name e a → want a ≡ false
Notes want ms seen name (Some c) = NotedAt want ms seen name c

abbrev pub has_signature : Symbol → Bool
has_signature s = not (is_empty s.sig)

pub record Agrees (ms : List AModule) (seen : List Def) (signed sized : List (List ℕ × Def)) : Type 0 where
  pub signatures : (name : List ℕ) → Notes has_signature ms seen name (held_at signed name)
  pub sizes : (name : List ℕ) → Notes has_size ms seen name (held_at sized name)
  pub kept : KeptOn Agreement ms seen

pub agrees-nothing : (ms : List AModule) → Agrees ms [] [] []
agrees-nothing ms = record { signatures = λ name e a m p. absurd m; sizes = λ name e a m p. absurd m; kept = λ name d e p q c. absurd p }

module _ (ms : List AModule) (seen rest : List Def) (d : Def) (s : Symbol) (l : IsListing ms (seen ++ d ∷ rest)) (at : symbol_at ms d ≡ Some s) where
  d_in : Among (seen ++ d ∷ rest) d
  d_in = among-right seen (d ∷ rest) d (inl refl)

  is_global_d : s.local ≡ false
  is_global_d = let f = l.sound d d_in in ap (λ x. x.local) (same_symbol (symbol_at ms d) s f.0 at f.1) ∙ f.2

  in_all : (e : Def) → Among seen e → Among (seen ++ d ∷ rest) e
  in_all e m = among-left seen (d ∷ rest) e m

  -- two seen records of a name don't disagree, one way or the other
  agreeing : KeptOn Agreement ms seen → (name : List ℕ) (c e : Def) (a b : Symbol) → Among seen c → Among seen e → Occurs ms name c a → Occurs ms name e b → (a ≡ b) ⊎ ((differ a b ≡ false) ⊎ (differ b a ≡ false))
  agreeing kept name c e a b cm em p q =
      elim (sorted-total (seen ++ d ∷ rest) l.sorted c e (in_all c cm) (in_all e em)) [
        | inl same ↦ inl (same_symbol (symbol_at ms c) a b p.stands (ap (symbol_at ms) same ∙ q.stands))
        | inr order ↦ inr (elim order [
          | inl ce ↦ inl (elim (is_true_or_false (differ a b)) [
            | inr f ↦ f
            | inl t ↦ absurd (kept name c e cm em (record { early = a; late = b; early_occurs = p; late_occurs = q; ordered = before-module ms (seen ++ d ∷ rest) l name c e a b p q ce; broken = t }))
          ])
          | inr ec ↦ inr (elim (is_true_or_false (differ b a)) [
            | inr f ↦ f
            | inl t ↦ absurd (kept name e c em cm (record { early = b; late = a; early_occurs = q; late_occurs = p; ordered = before-module ms (seen ++ d ∷ rest) l name e c b a q p ec; broken = t }))
          ])
        ])
      ]

  same_signature : (a b : Symbol) → has_signature a ≡ true → has_signature b ≡ true → (a ≡ b) ⊎ ((differ a b ≡ false) ⊎ (differ b a ≡ false)) → a.sig ≡ b.sig
  same_signature a b p q h = elim h [
    | inl same ↦ ap (λ x. x.sig) same
    | inr g ↦ elim g [
      | inl f ↦ signature-same a.sig b.sig (unnot (is_empty a.sig) p) (unnot (is_empty b.sig) q) (or-left_false (signatures_differ a.sig b.sig) (sizes_differ (size_of a.body) (size_of b.body)) f)
      | inr f ↦ sym (signature-same b.sig a.sig (unnot (is_empty b.sig) q) (unnot (is_empty a.sig) p) (or-left_false (signatures_differ b.sig a.sig) (sizes_differ (size_of b.body) (size_of a.body)) f))
    ]
  ]
    where
      unnot : (v : Bool) → not v ≡ true → v ≡ false
      unnot true e = absurd (true≢false (sym e))
      unnot false e = refl

  same_size : (a b : Symbol) → has_size a ≡ true → has_size b ≡ true → (a ≡ b) ⊎ ((differ a b ≡ false) ⊎ (differ b a ≡ false)) → size_of a.body ≡ size_of b.body
  same_size a b p q h = elim h [
    | inl same ↦ ap (λ x. size_of x.body) same
    | inr g ↦ elim g [
      | inl f ↦ size-same (size_of a.body) (size_of b.body) p q (or-right_false (signatures_differ a.sig b.sig) (sizes_differ (size_of a.body) (size_of b.body)) f)
      | inr f ↦ sym (size-same (size_of b.body) (size_of a.body) q p (or-right_false (signatures_differ b.sig a.sig) (sizes_differ (size_of b.body) (size_of a.body)) f))
    ]
  ]

  -- the noted record doesn't disagree with this one
  quiet_at : (entries : List (List ℕ × Def)) (c : Def) (a : Symbol) → held_at entries s.name ≡ Some c → symbol_at ms c ≡ Some a → held_breaks Agreement ms entries s ≡ false → differ a s ≡ false
  quiet_at entries c a h p quiet =
      sym (holds-at (λ early. breaks Agreement early s) (symbol_at ms c) a p) ∙ sym (ap (λ o. breaks_at Agreement ms o s) h) ∙ quiet

  signatures-clear : (signed sized : List (List ℕ × Def)) → Agrees ms seen signed sized → held_breaks Agreement ms signed s ≡ false → (e : Def) (a : Symbol) → Among seen e → Occurs ms s.name e a → signatures_differ a.sig s.sig ≡ false
  signatures-clear signed sized k quiet e a m oc = elim (is_true_or_false (is_empty a.sig)) [
    | inl t ↦ signature-empty a.sig s.sig t
    | inr f ↦ by (held_at signed s.name) refl (k.signatures s.name) (ap not f)
  ]
    where
      by : (o : Option Def) → held_at signed s.name ≡ o → Notes has_signature ms seen s.name o → has_signature a ≡ true → signatures_differ a.sig s.sig ≡ false
      by None h n w = absurd (not_both (has_signature a) w (n e a m oc))
      by (Some c) h n w =
          let q = quiet_at signed c n.symbol h n.occurs.stands quiet in
          let same : n.symbol.sig ≡ a.sig = same_signature n.symbol a n.wanted w (agreeing k.kept s.name c e n.symbol a n.among m n.occurs oc) in
          ap (λ x. signatures_differ x s.sig) (sym same) ∙ or-left_false (signatures_differ n.symbol.sig s.sig) (sizes_differ (size_of n.symbol.body) (size_of s.body)) q

  sizes-clear : (signed sized : List (List ℕ × Def)) → Agrees ms seen signed sized → held_breaks Agreement ms sized s ≡ false → (e : Def) (a : Symbol) → Among seen e → Occurs ms s.name e a → sizes_differ (size_of a.body) (size_of s.body) ≡ false
  sizes-clear signed sized k quiet e a m oc = elim (is_true_or_false (has_size a)) [
    | inr f ↦ size-none (size_of a.body) (size_of s.body) f
    | inl t ↦ by (held_at sized s.name) refl (k.sizes s.name) t
  ]
    where
      by : (o : Option Def) → held_at sized s.name ≡ o → Notes has_size ms seen s.name o → has_size a ≡ true → sizes_differ (size_of a.body) (size_of s.body) ≡ false
      by None h n w = absurd (not_both (has_size a) w (n e a m oc))
      by (Some c) h n w =
          let q = quiet_at sized c n.symbol h n.occurs.stands quiet in
          let same : size_of n.symbol.body ≡ size_of a.body = same_size n.symbol a n.wanted w (agreeing k.kept s.name c e n.symbol a n.among m n.occurs oc) in
          ap (λ x. sizes_differ x (size_of s.body)) (sym same) ∙ or-right_false (signatures_differ n.symbol.sig s.sig) (sizes_differ (size_of n.symbol.body) (size_of s.body)) q

  clear-step : (signed sized : List (List ℕ × Def)) → Agrees ms seen signed sized → (held_breaks Agreement ms signed s || held_breaks Agreement ms sized s ≡ true → find (meets Agreement ms s) seen ≡ None) → IsClear Agreement ms seen s
  clear-step signed sized k clear e m = elim (is_true_or_false (held_breaks Agreement ms signed s || held_breaks Agreement ms sized s)) [
    | inl t ↦ find-none (meets Agreement ms s) seen (clear t) e m
    | inr f ↦ elim (is_true_or_false (meets Agreement ms s e)) [ inr g ↦ g | inl t ↦ absurd (impossible f t) ]
  ]
    where
      impossible : held_breaks Agreement ms signed s || held_breaks Agreement ms sized s ≡ false → meets Agreement ms s e ≡ true → ⊥
      impossible f t =
          let found = holds-some (λ early. bytes_eq early.name s.name && breaks Agreement early s) (symbol_at ms e) t in
          let a : Symbol = found.0 in
          let e_is = l.sound e (in_all e m) in
          let oc : Occurs ms s.name e a = record { stands = found.1; global = ap (λ x. x.local) (same_symbol (symbol_at ms e) a e_is.0 found.1 e_is.1) ∙ e_is.2; named = (bytes_decides a.name s.name).0 (and-left (bytes_eq a.name s.name) (breaks Agreement a s) found.2) } in
          not_both (differ a s) (and-right (bytes_eq a.name s.name) (breaks Agreement a s) found.2)
          (or-false (signatures_differ a.sig s.sig) (sizes_differ (size_of a.body) (size_of s.body))
          (signatures-clear signed sized k (or-left_false (held_breaks Agreement ms signed s) (held_breaks Agreement ms sized s) f) e a m oc)
          (sizes-clear signed sized k (or-right_false (held_breaks Agreement ms signed s) (held_breaks Agreement ms sized s) f) e a m oc))

  -- a map after the record at d was noted in it, where it is wanted and the first of its name
  notes-step : (want : Symbol → Bool) (old new : List (List ℕ × Def)) → ((name : List ℕ) → Notes want ms seen name (held_at old name)) → new ≡ note_first (want s) old s.name d → (name : List ℕ) → Notes want ms (seen ++ d ∷ []) name (held_at new name)
  notes-step want old new k noted name =
      let P : List (List ℕ × Def) → Type 0 = λ es. Notes want ms (seen ++ d ∷ []) name (held_at es name) in
      subst P (sym noted) (by (want s && not (is_some (held_at old s.name))) refl)
    where
      same_as_d : (q : List ℕ) (a : Symbol) → Occurs ms q d a → a ≡ s
      same_as_d q a p = same_symbol (symbol_at ms d) a s p.stands at

      extend : (q : List ℕ) (o : Option Def) → Notes want ms seen q o → ((a : Symbol) → is_some o ≡ false → Occurs ms q d a → want a ≡ false) → Notes want ms (seen ++ d ∷ []) q o
      extend q None h absent = λ e a m p. elim (among-pushed seen d e m) [
        | inl n ↦ h e a n p
        | inr same ↦ let P : Def → Type 0 = λ v. Occurs ms q v a in absent a refl (subst P same p)
      ]
      extend q (Some c) h absent = record { symbol = h.symbol; among = among-push seen d c h.among; occurs = h.occurs; wanted = h.wanted }

      by : (v : Bool) → want s && not (is_some (held_at old s.name)) ≡ v → Notes want ms (seen ++ d ∷ []) name (held_at (note_entry v old s.name d) name)
      by true t = elim (is_true_or_false (bytes_eq name s.name)) [
        | inl e ↦
            let same : name ≡ s.name = (bytes_decides name s.name).0 e in
            let P : List ℕ → Type 0 = λ v. Notes want ms (seen ++ d ∷ []) v (held_at (put_entry old s.name d) v) in
            let Q : Option Def → Type 0 = λ o. Notes want ms (seen ++ d ∷ []) s.name o in
            subst P (sym same) (subst Q (sym (put-same old s.name d)) (record {
              symbol = s;
              among = among-last seen d;
              occurs = record { stands = at; global = is_global_d; named = refl };
              wanted = and-left (want s) (not (is_some (held_at old s.name))) t;
            }))
        | inr f ↦
            let Q : Option Def → Type 0 = λ o. Notes want ms (seen ++ d ∷ []) name o in
            subst Q (sym (put-other old s.name d name (bytes-apart name s.name f)))
            (extend name (held_at old name) (k name) (λ a none p. absurd (bytes-apart name s.name f (sym p.named ∙ ap (λ x. x.name) (same_as_d name a p)))))
      ]
      by false f = extend name (held_at old name) (k name) (λ a none p.
          let same : a ≡ s = same_as_d name a p in
          let named : name ≡ s.name = sym p.named ∙ ap (λ x. x.name) same in
          elim (is_true_or_false (want s)) [
            | inr g ↦ ap want same ∙ g
            | inl w ↦ absurd (true≢false (sym (ap not (ap (λ v. is_some (held_at old v)) (sym named) ∙ none)) ∙ sym (ap (λ v. v && not (is_some (held_at old s.name))) w) ∙ f))
          ])

  pub agrees-step : (signed sized signed_now sized_now : List (List ℕ × Def)) → Agrees ms seen signed sized → (held_breaks Agreement ms signed s || held_breaks Agreement ms sized s ≡ true → find (meets Agreement ms s) seen ≡ None) → signed_now ≡ note_first (not (is_empty s.sig)) signed s.name d → sized_now ≡ note_first (has_size s) sized s.name d → Agrees ms (seen ++ d ∷ []) signed_now sized_now
  agrees-step signed sized signed_now sized_now k clear p q = record {
    signatures = notes-step has_signature signed signed_now k.signatures p;
    sizes = notes-step has_size sized sized_now k.sizes q;
    kept = kept-push Agreement ms seen rest d s l at k.kept (clear-step signed sized k clear);
  }

pub agree-all : (ms : List AModule) (places : List Def) → IsListing ms places → (signed sized : List (List ℕ × Def)) → Agrees ms places signed sized → IsKept Agreement ms
agree-all ms places l signed sized k = kept-all Agreement ms places l k.kept
