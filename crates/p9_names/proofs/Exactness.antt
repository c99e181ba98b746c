-- At most one refusal has its cause, and none where the modules join.
use Rattle.std.proofs.Common.{◌≡◌, ◌≢◌, ℕ, ◌<◌, ◌≤◌, ◌⊎◌, inl, inr, Bool, true, false, List, Option, Some, Result, Ok, Err, IsOk, IfOk, IfErr, refl, sym, ap, subst, ◌∙◌, arith, true≢false}
use Rattle.p9_abs.specs.declared.modules.Symbol.{Symbol}
use Rattle.p9_abs.specs.declared.modules.AModule.{AModule}
use Rattle.p9_abs.specs.declared.modules.Def.{Def}
use Rattle.p9_names.specs.declared.table.Table.{Table}
use Rattle.p9_names.specs.declared.table.LinkFault.{LinkFault}
use Rattle.p9_names.specs.declared.table.LinkFault.TheVariants.{Twice, NoMain, MainType, Unresolved, Disagree, Memory}
use Rattle.p9_names.specs.declared.rules.Rule.{Rule}
use Rattle.p9_names.specs.declared.rules.Rule.TheVariants.{Once, Agreement}
use Rattle.p9_names.specs.Rules.{is_main}
use Rattle.p9_abs.specs.Names.{symbol_at, IsBefore, IsNotAfter, IsFirstDefinition}
use Rattle.p9_names.specs.Linking.{IsKept, IsFirstConflict, HasMain, HasWrongMain, AllResolved, IsFirstUnresolved}
use Rattle.p9_names.specs.Answers.{Joins, IsRefusal}
use Rattle.p9_names.proofs.Lists.{before-irrefl, before-trans}
use Rattle.p9_names.proofs.Breaking.{same_symbol, not_both}

pub not_after-both : (d e : Def) → IsNotAfter d e → IsNotAfter e d → d ≡ e
not_after-both d e (inl p) q = p
not_after-both d e (inr p) (inl q) = sym q
not_after-both d e (inr p) (inr q) = absurd (before-irrefl d (before-trans d e d p q))

kept-no-conflict : (rule : Rule) (ms : List AModule) (name : List ℕ) (i j : ℕ) → IsKept rule ms → IsFirstConflict rule ms name i j → ⊥
kept-no-conflict rule ms name i j k c = k name c.early c.late c.conflict

-- two first conflicts have one late place, and early places in one module
places-same : (a b c d : Def) → IsBefore b d ⊎ ((d ≡ b) × (a.module ≤ c.module)) → IsBefore d b ⊎ ((b ≡ d) × (c.module ≤ a.module)) → (b ≡ d) × (a.module ≡ c.module)
places-same a b c d (inl p) (inl q) = absurd (before-irrefl b (before-trans b d b p q))
places-same a b c d (inl p) (inr q) = let P : Def → Type 0 = λ v. IsBefore v d in absurd (before-irrefl d (subst P q.0 p))
places-same a b c d (inr p) (inl q) = let P : Def → Type 0 = λ v. IsBefore d v in absurd (before-irrefl d (subst P (sym p.0) q))
places-same a b c d (inr p) (inr q) = (q.0, omega arith)

conflict-same : (rule : Rule) (ms : List AModule) (n n' : List ℕ) (i i' j j' : ℕ) → IsFirstConflict rule ms n i j → IsFirstConflict rule ms n' i' j' → (n ≡ n') × (i ≡ i') × (j ≡ j')
conflict-same rule ms n n' i i' j j' f g =
    let s = places-same f.early f.late g.early g.late (f.least n' g.early g.late g.conflict) (g.least n f.early f.late f.conflict) in
    let late : f.conflict.late ≡ g.conflict.late = same_symbol (symbol_at ms f.late) f.conflict.late g.conflict.late f.conflict.late_occurs.stands (ap (symbol_at ms) s.0 ∙ g.conflict.late_occurs.stands) in (
      sym f.conflict.late_occurs.named ∙ ap (λ x. x.name) late ∙ g.conflict.late_occurs.named,
      sym f.early_module ∙ s.1 ∙ g.early_module,
      sym f.late_module ∙ ap (λ d. d.module) s.0 ∙ g.late_module,
    )

first-same : (ms : List AModule) (name : List ℕ) (d e : Def) → IsFirstDefinition ms name d → IsFirstDefinition ms name e → d ≡ e
first-same ms name d e f g = not_after-both d e (f.first e g.defines) (g.first d f.defines)

wrong-same : (ms : List AModule) (i i' : ℕ) → HasWrongMain ms i → HasWrongMain ms i' → i ≡ i'
wrong-same ms i i' f g = sym f.in_module ∙ ap (λ d. d.module) (first-same ms _ f.place g.place f.first g.first) ∙ g.in_module

right-not-wrong : (ms : List AModule) (i : ℕ) → HasMain ms → HasWrongMain ms i → ⊥
right-not-wrong ms i f g =
    let place : f.place ≡ g.place = first-same ms _ f.place g.place f.first g.first in
    let symbol : f.first.defines.symbol ≡ g.first.defines.symbol = same_symbol (symbol_at ms f.place) f.first.defines.symbol g.first.defines.symbol f.first.defines.occurs.stands (ap (symbol_at ms) place ∙ g.first.defines.occurs.stands) in
    not_both (is_main g.first.defines.symbol) (ap is_main (sym symbol) ∙ f.fits) g.misfits

resolved-not-unresolved : (ms : List AModule) (name : List ℕ) (i : ℕ) → AllResolved ms → IsFirstUnresolved ms name i → ⊥
resolved-not-unresolved ms name i r u = let d = r name u.place u.unresolved.uses in u.unresolved.undefined d.0 d.1

unresolved-same : (ms : List AModule) (n n' : List ℕ) (i i' : ℕ) → IsFirstUnresolved ms n i → IsFirstUnresolved ms n' i' → (n ≡ n') × (i ≡ i')
unresolved-same ms n n' i i' f g =
    let place : f.place ≡ g.place = not_after-both f.place g.place (f.least n' g.place g.unresolved) (g.least n f.place f.unresolved) in
    let symbol : f.unresolved.uses.symbol ≡ g.unresolved.uses.symbol = same_symbol (symbol_at ms f.place) f.unresolved.uses.symbol g.unresolved.uses.symbol f.unresolved.uses.occurs.stands (ap (symbol_at ms) place ∙ g.unresolved.uses.occurs.stands) in (
      sym f.unresolved.uses.occurs.named ∙ ap (λ x. x.name) symbol ∙ g.unresolved.uses.occurs.named,
      sym f.in_module ∙ ap (λ d. d.module) place ∙ g.in_module,
    )

refusal-same : (ms : List AModule) (f g : LinkFault) → (f ≢ Memory) → (g ≢ Memory) → IsRefusal ms f → IsRefusal ms g → f ≡ g
refusal-same ms (Twice n i j) (Twice n' i' j') p q h g = let s = conflict-same Once ms n n' i i' j j' h g in λ v. Twice (s.0 v) (s.1 v) (s.2 v)
refusal-same ms (Twice n i j) NoMain p q h g = absurd (kept-no-conflict Once ms n i j g.0 h)
refusal-same ms (Twice n i j) (MainType i') p q h g = absurd (kept-no-conflict Once ms n i j g.0 h)
refusal-same ms (Twice n i j) (Unresolved n' i') p q h g = absurd (kept-no-conflict Once ms n i j g.0 h)
refusal-same ms (Twice n i j) (Disagree n' i' j') p q h g = absurd (kept-no-conflict Once ms n i j g.0 h)
refusal-same ms (Twice n i j) Memory p q h g = absurd (q refl)
refusal-same ms NoMain (Twice n' i' j') p q h g = absurd (kept-no-conflict Once ms n' i' j' h.0 g)
refusal-same ms NoMain NoMain p q h g = refl
refusal-same ms NoMain (MainType i') p q h g = absurd (h.1 g.1.place g.1.first.defines)
refusal-same ms NoMain (Unresolved n' i') p q h g = absurd (h.1 g.1.place g.1.first.defines)
refusal-same ms NoMain (Disagree n' i' j') p q h g = absurd (h.1 g.1.place g.1.first.defines)
refusal-same ms NoMain Memory p q h g = absurd (q refl)
refusal-same ms (MainType i) (Twice n' i' j') p q h g = absurd (kept-no-conflict Once ms n' i' j' h.0 g)
refusal-same ms (MainType i) NoMain p q h g = absurd (g.1 h.1.place h.1.first.defines)
refusal-same ms (MainType i) (MainType i') p q h g = ap MainType (wrong-same ms i i' h.1 g.1)
refusal-same ms (MainType i) (Unresolved n' i') p q h g = absurd (right-not-wrong ms i g.1 h.1)
refusal-same ms (MainType i) (Disagree n' i' j') p q h g = absurd (right-not-wrong ms i g.1 h.1)
refusal-same ms (MainType i) Memory p q h g = absurd (q refl)
refusal-same ms (Unresolved n i) (Twice n' i' j') p q h g = absurd (kept-no-conflict Once ms n' i' j' h.0 g)
refusal-same ms (Unresolved n i) NoMain p q h g = absurd (g.1 h.1.place h.1.first.defines)
refusal-same ms (Unresolved n i) (MainType i') p q h g = absurd (right-not-wrong ms i' h.1 g.1)
refusal-same ms (Unresolved n i) (Unresolved n' i') p q h g = let s = unresolved-same ms n n' i i' h.2 g.2 in λ v. Unresolved (s.0 v) (s.1 v)
refusal-same ms (Unresolved n i) (Disagree n' i' j') p q h g = absurd (resolved-not-unresolved ms n i g.2 h.2)
refusal-same ms (Unresolved n i) Memory p q h g = absurd (q refl)
refusal-same ms (Disagree n i j) (Twice n' i' j') p q h g = absurd (kept-no-conflict Once ms n' i' j' h.0 g)
refusal-same ms (Disagree n i j) NoMain p q h g = absurd (g.1 h.1.place h.1.first.defines)
refusal-same ms (Disagree n i j) (MainType i') p q h g = absurd (right-not-wrong ms i' h.1 g.1)
refusal-same ms (Disagree n i j) (Unresolved n' i') p q h g = absurd (resolved-not-unresolved ms n' i' h.2 g.2)
refusal-same ms (Disagree n i j) (Disagree n' i' j') p q h g = let s = conflict-same Agreement ms n n' i i' j j' h.3 g.3 in λ v. Disagree (s.0 v) (s.1 v) (s.2 v)
refusal-same ms (Disagree n i j) Memory p q h g = absurd (q refl)
refusal-same ms Memory (Twice n' i' j') p q h g = absurd (p refl)
refusal-same ms Memory NoMain p q h g = absurd (p refl)
refusal-same ms Memory (MainType i') p q h g = absurd (p refl)
refusal-same ms Memory (Unresolved n' i') p q h g = absurd (p refl)
refusal-same ms Memory (Disagree n' i' j') p q h g = absurd (p refl)
refusal-same ms Memory Memory p q h g = absurd (p refl)

joined-not-refused : (ms : List AModule) (f : LinkFault) → f ≢ Memory → Joins ms → IsRefusal ms f → ⊥
joined-not-refused ms (Twice n i j) p k h = k.once n h.early h.late h.conflict
joined-not-refused ms NoMain p k h = h.1 k.main.place k.main.first.defines
joined-not-refused ms (MainType i) p k h = right-not-wrong ms i k.main h.1
joined-not-refused ms (Unresolved n i) p k h = resolved-not-unresolved ms n i k.resolved h.2
joined-not-refused ms (Disagree n i j) p k h = k.agree n h.3.early h.3.late h.3.conflict
joined-not-refused ms Memory p k h = p refl

is-memory : (f : LinkFault) → (f ≡ Memory) ⊎ (f ≢ Memory)
is-memory (Twice _ _ _) = inr (λ e. cc)
is-memory NoMain = inr (λ e. cc)
is-memory (MainType _) = inr (λ e. cc)
is-memory (Unresolved _ _) = inr (λ e. cc)
is-memory (Disagree _ _ _) = inr (λ e. cc)
is-memory Memory = inl refl

-- a refusal whose cause holds is the answer, unless memory ran out
pub refused_exactly : (ms : List AModule) (result : Result Table LinkFault) → IfOk result (λ _. Joins ms) → IfErr result (IsRefusal ms) → (f : LinkFault) → f ≢ Memory → IsRefusal ms f → (result ≡ Err f) ⊎ (result ≡ Err Memory)
refused_exactly ms (Ok t) ok err f p h = absurd (joined-not-refused ms f p ok h)
refused_exactly ms (Err g) ok err f p h = elim (is-memory g) [
  | inl e ↦ inr (ap Err e)
  | inr q ↦ inl (ap Err (refusal-same ms g f q p err h))
]

-- modules that join are answered by a table, unless memory ran out
pub joined_exactly : (ms : List AModule) (result : Result Table LinkFault) → IfErr result (IsRefusal ms) → Joins ms → IsOk result ⊎ (result ≡ Err Memory)
joined_exactly ms (Ok t) err k = inl refl
joined_exactly ms (Err g) err k = elim (is-memory g) [
  | inl e ↦ inr (ap Err e)
  | inr q ↦ absurd (joined-not-refused ms g q k err)
]
