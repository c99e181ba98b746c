-- Records that break a rule: what the tests say, and the first conflict.
use Rattle.std.proofs.Common.{◌≡◌, ℕ, ◌<◌, ◌≤◌, ◌⊎◌, inl, inr, Bool, true, false, ◌&&◌, ◌||◌, List, [], ◌∷◌, ◌++◌, Option, Some, None, find, refl, sym, ap, subst, ◌∙◌, arith, true≢false, bytes_eq}
use Rattle.std.specs.Cmp.Lexicographic.{bytes_decides}
use Rattle.p9_abs.specs.declared.modules.Symbol.{Symbol}
use Rattle.p9_abs.specs.declared.modules.AModule.{AModule}
use Rattle.p9_abs.specs.Modules.{is_definition}
use Rattle.p9_abs.specs.declared.modules.Def.{Def}
use Rattle.p9_names.specs.declared.rules.Rule.{Rule}
use Rattle.p9_names.specs.Rules.{breaks}
use Rattle.p9_abs.specs.Names.{symbol_at, Occurs, IsBefore, IsNotAfter, Defines, IsFirstDefinition, IsUndefined}
use Rattle.p9_names.specs.Linking.{Conflicts, IsFirstConflict, IsKept}
use Rattle.p9_names.specs.Passes.{holds_at, meets, defines, FindsConflict}
use Rattle.p9_names.proofs.Lists.{Among, Sorted, before-irrefl, before-trans, among-split, among-pushed, among-left, among-right, sorted-apart, sorted-left, sorted-right, find-some, find-none, find-first}

-- a conjunction that is true
pub and-left : (a b : Bool) → a && b ≡ true → a ≡ true
and-left true b h = refl
and-left false b h = h

pub and-right : (a b : Bool) → a && b ≡ true → b ≡ true
and-right true b h = h
and-right false b h = absurd (true≢false (sym h))

pub and-both : (a b : Bool) → a ≡ true → b ≡ true → a && b ≡ true
and-both a b p q = ap (λ x. x && b) p ∙ q

pub or-left_false : (a b : Bool) → a || b ≡ false → a ≡ false
or-left_false true b h = h
or-left_false false b h = refl

pub or-right_false : (a b : Bool) → a || b ≡ false → b ≡ false
or-right_false true b h = absurd (true≢false h)
or-right_false false b h = h

pub is_true_or_false : (b : Bool) → (b ≡ true) ⊎ (b ≡ false)
is_true_or_false true = inl refl
is_true_or_false false = inr refl

pub not_both : (b : Bool) → b ≡ true → b ≡ false → ⊥
not_both b p q = true≢false (sym p ∙ q)

pub same_symbol : {X : Type 0} (o : Option X) (s t : X) → o ≡ Some s → o ≡ Some t → s ≡ t
same_symbol o s t p q = cc

-- what a test of a place says, where a symbol stands there
pub holds-at : (test : Symbol → Bool) (o : Option Symbol) (s : Symbol) → o ≡ Some s → holds_at test o ≡ test s
holds-at test o s e = ap (holds_at test) e

pub holds-some : (test : Symbol → Bool) (o : Option Symbol) → holds_at test o ≡ true → (s : Symbol) × (o ≡ Some s) × (test s ≡ true)
holds-some test None h = absurd (true≢false (sym h))
holds-some test (Some s) h = (s, refl, h)

-- What is known of the list of all places of global names

pub record IsListing (ms : List AModule) (places : List Def) : Type 0 where
  pub sound : (d : Def) → Among places d → (s : Symbol) × (symbol_at ms d ≡ Some s) × (s.local ≡ false)
  pub complete : (name : List ℕ) (d : Def) (s : Symbol) → Occurs ms name d s → Among places d
  pub sorted : Sorted places
  pub single : (name : List ℕ) (d e : Def) (s t : Symbol) → Occurs ms name d s → Occurs ms name e t → d.module ≡ e.module → d ≡ e

-- of two occurrences of a name the earlier stands in an earlier module
pub before-module : (ms : List AModule) (places : List Def) → IsListing ms places → (name : List ℕ) (d e : Def) (s t : Symbol) → Occurs ms name d s → Occurs ms name e t → IsBefore d e → d.module < e.module
before-module ms places l name d e s t p q (inl lt) = lt
before-module ms places l name d e s t p q (inr same) =
    let P : Def → Type 0 = λ v. IsBefore v e in absurd (before-irrefl e (subst P (l.single name d e s t p q same.0) (inr same)))

abbrev pub KeptOn : Rule → List AModule → List Def → Type 0
KeptOn rule ms seen = (name : List ℕ) (d e : Def) → Among seen d → Among seen e → Conflicts rule ms name d e → ⊥

-- no seen place meets the symbol at d
abbrev pub IsClear : Rule → List AModule → List Def → Symbol → Type 0
IsClear rule ms seen s = (e : Def) → Among seen e → meets rule ms s e ≡ false

pub meets-conflict : (rule : Rule) (ms : List AModule) (name : List ℕ) (d e : Def) (s : Symbol) → symbol_at ms e ≡ Some s → (c : Conflicts rule ms name d e) → meets rule ms s d ≡ true
meets-conflict rule ms name d e s at c =
    let same : c.late ≡ s = same_symbol (symbol_at ms e) c.late s c.late_occurs.stands at in
    let named : c.early.name ≡ s.name = c.early_occurs.named ∙ sym c.late_occurs.named ∙ ap (λ x. x.name) same in
    let broken : breaks rule c.early s ≡ true = ap (λ x. breaks rule c.early x) (sym same) ∙ c.broken in
    holds-at (λ early. bytes_eq early.name s.name && breaks rule early s) (symbol_at ms d) c.early c.early_occurs.stands
    ∙ and-both (bytes_eq c.early.name s.name) (breaks rule c.early s) ((bytes_decides c.early.name s.name).1 named) broken

pub conflict-meets : (rule : Rule) (ms : List AModule) (places : List Def) → IsListing ms places → (d e : Def) (s : Symbol) → Among places d → Among places e → IsBefore d e → symbol_at ms e ≡ Some s → meets rule ms s d ≡ true → Conflicts rule ms s.name d e
conflict-meets rule ms places l d e s dm em b at h =
    let found = holds-some (λ early. bytes_eq early.name s.name && breaks rule early s) (symbol_at ms d) h in
    let early : Symbol = found.0 in
    let named : early.name ≡ s.name = (bytes_decides early.name s.name).0 (and-left (bytes_eq early.name s.name) (breaks rule early s) found.2) in
    let d_is = l.sound d dm in
    let e_is = l.sound e em in
    let early_occurs : Occurs ms s.name d early = record { stands = found.1; global = ap (λ x. x.local) (same_symbol (symbol_at ms d) early d_is.0 found.1 d_is.1) ∙ d_is.2; named = named } in
    let late_occurs : Occurs ms s.name e s = record { stands = at; global = ap (λ x. x.local) (same_symbol (symbol_at ms e) s e_is.0 at e_is.1) ∙ e_is.2; named = refl } in
    record { early = early; late = s; early_occurs = early_occurs; late_occurs = late_occurs; ordered = before-module ms places l s.name d e early s early_occurs late_occurs b; broken = and-right (bytes_eq early.name s.name) (breaks rule early s) found.2 }

pub kept-push : (rule : Rule) (ms : List AModule) (seen rest : List Def) (d : Def) (s : Symbol) → IsListing ms (seen ++ d ∷ rest) → symbol_at ms d ≡ Some s → KeptOn rule ms seen → IsClear rule ms seen s → KeptOn rule ms (seen ++ d ∷ [])
kept-push rule ms seen rest d s l at kept clear name a b am bm c =
    elim (among-pushed seen d a am) [
      | inl ap' ↦ elim (among-pushed seen d b bm) [
        | inl bp ↦ kept name a b ap' bp c
        | inr same ↦
            let P : Def → Type 0 = λ v. Conflicts rule ms name a v in
            not_both (meets rule ms s a) (meets-conflict rule ms name a d s at (subst P same c)) (clear a ap')
      ]
      | inr same ↦
          elim (among-pushed seen d b bm) [
            | inl bp ↦
                let b_before : IsBefore b d = sorted-apart seen (d ∷ rest) l.sorted b d bp (inl refl) in
                let P : Def → Type 0 = λ v. IsBefore b v in
                before-irrefl b (before-trans b a b (subst P (sym same) b_before) (inl c.ordered))
            | inr same' ↦
                let P : Def → Type 0 = λ v. IsBefore v b in
                before-irrefl b (subst P (same ∙ sym same') (inl c.ordered))
          ]
    ]

-- the conflict that a step finds is the first
pub first-conflict : (rule : Rule) (ms : List AModule) (seen rest : List Def) (d : Def) (name : List ℕ) (i j : ℕ) → IsListing ms (seen ++ d ∷ rest) → KeptOn rule ms seen → FindsConflict rule ms seen d name i j → IsFirstConflict rule ms name i j
first-conflict rule ms seen rest d name i j l kept f =
    let got = find-some (meets rule ms f.late) seen f.early f.found in
    let all : List Def = seen ++ d ∷ rest in
    let early_in : Among all f.early = among-left seen (d ∷ rest) f.early got.0 in
    let d_in : Among all d = among-right seen (d ∷ rest) d (inl refl) in
    let b : IsBefore f.early d = sorted-apart seen (d ∷ rest) l.sorted f.early d got.0 (inl refl) in
    let P : List ℕ → Type 0 = λ n. Conflicts rule ms n f.early d in
    record {
      early = f.early;
      late = d;
      conflict = subst P f.named (conflict-meets rule ms all l f.early d f.late early_in d_in b f.stands got.1);
      least = λ other a e c. by other a e c (among-split seen (d ∷ rest) a (l.complete other a c.early c.early_occurs)) (among-split seen (d ∷ rest) e (l.complete other e c.late c.late_occurs));
      early_module = f.early_module;
      late_module = f.late_module;
    }
  where
    earlier : (other : List ℕ) (a e : Def) → Conflicts rule ms other a e → IsBefore a e
    earlier other a e c = inl c.ordered

    at_d : (other : List ℕ) (a e : Def) → Conflicts rule ms other a e → e ≡ d → Among seen a → IsBefore d e ⊎ ((e ≡ d) × (f.early.module ≤ a.module))
    at_d other a e c same am =
        let P : Def → Type 0 = λ v. Conflicts rule ms other a v in
        let first : IsNotAfter f.early a = find-first (meets rule ms f.late) seen f.early (sorted-left seen (d ∷ rest) l.sorted) f.found a am (meets-conflict rule ms other a d f.late f.stands (subst P same c)) in
        inr (same, elim first [ inl q ↦ let m : f.early.module ≡ a.module = ap (λ x. x.module) q in omega arith | inr q ↦ elim q [ inl lt ↦ omega arith | inr eq ↦ omega arith ] ])

    by : (other : List ℕ) (a e : Def) → Conflicts rule ms other a e → Among seen a ⊎ Among (d ∷ rest) a → Among seen e ⊎ Among (d ∷ rest) e → IsBefore d e ⊎ ((e ≡ d) × (f.early.module ≤ a.module))
    by other a e c (inl am) (inl em) = absurd (kept other a e am em c)
    by other a e c (inr am) (inl em) = absurd (before-irrefl a (before-trans a e a (earlier other a e c) (sorted-apart seen (d ∷ rest) l.sorted e a em am)))
    by other a e c _ (inr (inr em)) = let tail = sorted-right seen (d ∷ rest) l.sorted in inl (tail.0 e em)
    by other a e c (inl am) (inr (inl same)) = at_d other a e c same am
    by other a e c (inr (inl same')) (inr (inl same)) = let P : Def → Type 0 = λ v. IsBefore v e in absurd (before-irrefl e (subst P (same' ∙ sym same) (earlier other a e c)))
    by other a e c (inr (inr am)) (inr (inl same)) =
        let tail = sorted-right seen (d ∷ rest) l.sorted in
        let P : Def → Type 0 = λ v. IsBefore v a in
        absurd (before-irrefl a (before-trans a e a (earlier other a e c) (subst P (sym same) (tail.0 a am))))

pub kept-all : (rule : Rule) (ms : List AModule) (places : List Def) → IsListing ms places → KeptOn rule ms places → IsKept rule ms
kept-all rule ms places l kept name d e c = kept name d e (l.complete name d c.early c.early_occurs) (l.complete name e c.late c.late_occurs) c

-- definitions by the test

pub defines-test : (ms : List AModule) (name : List ℕ) (d : Def) → Defines ms name d → defines ms name d ≡ true
defines-test ms name d p =
    holds-at (λ s. bytes_eq s.name name && is_definition s.body) (symbol_at ms d) p.symbol p.occurs.stands
    ∙ and-both (bytes_eq p.symbol.name name) (is_definition p.symbol.body) ((bytes_decides p.symbol.name name).1 p.occurs.named) p.defining

pub test-defines : (ms : List AModule) (places : List Def) → IsListing ms places → (name : List ℕ) (d : Def) → Among places d → defines ms name d ≡ true → Defines ms name d
test-defines ms places l name d m h =
    let found = holds-some (λ s. bytes_eq s.name name && is_definition s.body) (symbol_at ms d) h in
    let s : Symbol = found.0 in
    let is = l.sound d m in
    record {
      symbol = s;
      occurs = record { stands = found.1; global = ap (λ x. x.local) (same_symbol (symbol_at ms d) s is.0 found.1 is.1) ∙ is.2; named = (bytes_decides s.name name).0 (and-left (bytes_eq s.name name) (is_definition s.body) found.2) };
      defining = and-right (bytes_eq s.name name) (is_definition s.body) found.2;
    }

pub first-definition : (ms : List AModule) (places : List Def) → IsListing ms places → (name : List ℕ) (d : Def) → find (defines ms name) places ≡ Some d → IsFirstDefinition ms name d
first-definition ms places l name d h =
    let got = find-some (defines ms name) places d h in
    record {
      defines = test-defines ms places l name d got.0 got.1;
      first = λ e p. find-first (defines ms name) places d l.sorted h e (l.complete name e p.symbol p.occurs) (defines-test ms name e p);
    }

pub no-definition : (ms : List AModule) (places : List Def) → IsListing ms places → (name : List ℕ) → find (defines ms name) places ≡ None → IsUndefined ms name
no-definition ms places l name h d p =
    not_both (defines ms name d) (defines-test ms name d p) (find-none (defines ms name) places h d (l.complete name d p.symbol p.occurs))
