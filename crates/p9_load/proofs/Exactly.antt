-- The refusals of loading from those of its parts.
use Rattle.std.proofs.Common.{ℕ, ◌+◌, ◌≡◌, ◌≢◌, ◌⊎◌, ◌≤◌, ◌<◌, inl, inr, leb, true, false, Result, Ok, Err, IsOk, List, refl, ap, ◌∙◌, subst}
use Rattle.std.proofs.lemmas.Bool.Decides.{leb_tells}
use Rattle.p9_abs.specs.declared.modules.AModule.{AModule}
use Rattle.p9_abs.specs.BuiltIn.{linked}
use Rattle.p9_abs.specs.Programs.{routines_of, init_size, bss_size}
use Rattle.p9_names.specs.declared.table.LinkFault.{LinkFault}
use Rattle.p9_names.specs.Answers.{Joins, IsRefusal as IsLinkRefusal}
use Rattle.p9_place.specs.declared.placing.PlaceFault.{PlaceFault}
use Rattle.p9_place.specs.Places.{object_bytes, IsRefusal as IsPlaceRefusal}
use Rattle.p9_text.specs.declared.weighing.ExpandFault.{ExpandFault}
use Rattle.p9_text.specs.Weights.{text_weight, text_limit, IsTooLarge}
use Rattle.p9_load.specs.declared.fault.LoadFault.{LoadFault}
use Rattle.p9_load.specs.Faults.{of_link, of_place, of_expand}
use Rattle.p9_load.specs.Refusals.{data_limit, AreLoadable, IsLoadRefusal}

ok-not : {A E : Type 0} (t : A) (f g : E) → (◌≡◌ {A = Result A E} (Ok t) (Err f)) ⊎ (◌≡◌ {A = Result A E} (Ok t) (Err g)) → ⊥
ok-not t f g (inl e) = cc
ok-not t f g (inr e) = cc

err-is : {A E : Type 0} {f g : E} → ◌≡◌ {A = Result A E} (Err f) (Err g) → f ≡ g
err-is h = cc

-- an answer that is one fault or another, or that is a value or a fault

abbrev pub IsOneOf : (A : Type 0) {E : Type 0} → Result A E → E → E → Type 0
IsOneOf A {E} r f g = (◌≡◌ {A = Result A E} r (Err f)) ⊎ (◌≡◌ {A = Result A E} r (Err g))

abbrev pub IsOkOr : (A : Type 0) {E : Type 0} → Result A E → E → Type 0
IsOkOr A {E} r g = IsOk r ⊎ (◌≡◌ {A = Result A E} r (Err g))

not-ok : {A E : Type 0} (f g : E) → IsOkOr A (Err f) g → f ≡ g
not-ok f g (inl e) = cc
not-ok f g (inr e) = err-is e

same : {A B E F : Type 0} (h : E → F) (f g memory : E) → IsOneOf A (Err f) g memory → IsOneOf B (Err (h f)) (h g) (h memory)
same h f g memory (inl e) = inl (ap (λ x. Err (h x)) (err-is e))
same h f g memory (inr e) = inr (ap (λ x. Err (h x)) (err-is e))

-- what is known of an answer that joins, of one that places, and of one that expands

abbrev pub JoinsExactly : (A : Type 0) → List AModule → Result A LinkFault → Type 0
JoinsExactly A ms r = (fault : LinkFault) → fault ≢ LinkFault.Memory → IsLinkRefusal (linked ms) fault → IsOneOf A r fault LinkFault.Memory

abbrev pub PlacesExactly : (A : Type 0) → List AModule → Result A PlaceFault → Type 0
PlacesExactly A ms r = (fault : PlaceFault) → fault ≢ PlaceFault.Memory → IsPlaceRefusal (linked ms) fault → IsOneOf A r fault PlaceFault.Memory

abbrev pub ExpandsExactly : (A : Type 0) → List AModule → Result A ExpandFault → Type 0
ExpandsExactly A ms r = (fault : ExpandFault) → fault ≢ ExpandFault.Memory → IsTooLarge (text_weight (routines_of ms)) fault → IsOneOf A r fault ExpandFault.Memory

-- Modules that do not join

pub link-refused : (ms : List AModule) (f : LinkFault) → IsLinkRefusal (linked ms) f → IsLoadRefusal ms (of_link f)
link-refused ms (LinkFault.Twice name i j) r = r
link-refused ms LinkFault.NoMain r = r
link-refused ms (LinkFault.MainType i) r = r
link-refused ms (LinkFault.Unresolved name i) r = r
link-refused ms (LinkFault.Disagree name i j) r = r
link-refused ms LinkFault.Memory r = tt

pub link-exact : {A B : Type 0} (ms : List AModule) (f : LinkFault) → JoinsExactly A ms (Err f) → (Joins (linked ms) → IsOkOr A (Err f) LinkFault.Memory) →
    (fault : LoadFault) → fault ≢ LoadFault.Memory → IsLoadRefusal ms fault → IsOneOf B (Err (of_link f)) fault LoadFault.Memory
link-exact ms f exact joins (LoadFault.Twice name i j) n r = same of_link f (LinkFault.Twice name i j) LinkFault.Memory (exact (LinkFault.Twice name i j) (λ e. cc) r)
link-exact ms f exact joins LoadFault.NoMain n r = same of_link f LinkFault.NoMain LinkFault.Memory (exact LinkFault.NoMain (λ e. cc) r)
link-exact ms f exact joins (LoadFault.MainType i) n r = same of_link f (LinkFault.MainType i) LinkFault.Memory (exact (LinkFault.MainType i) (λ e. cc) r)
link-exact ms f exact joins (LoadFault.Unresolved name i) n r = same of_link f (LinkFault.Unresolved name i) LinkFault.Memory (exact (LinkFault.Unresolved name i) (λ e. cc) r)
link-exact ms f exact joins (LoadFault.Disagree name i j) n r = same of_link f (LinkFault.Disagree name i j) LinkFault.Memory (exact (LinkFault.Disagree name i j) (λ e. cc) r)
link-exact ms f exact joins (LoadFault.DataTooLarge k) n r = inr (ap (λ x. Err (of_link x)) (not-ok f LinkFault.Memory (joins r.0)))
link-exact ms f exact joins (LoadFault.TextTooLarge k) n r = inr (ap (λ x. Err (of_link x)) (not-ok f LinkFault.Memory (joins r.0)))
link-exact ms f exact joins LoadFault.Memory n r = absurd (n refl)

pub link-loadable : {A B : Type 0} (ms : List AModule) (f : LinkFault) → (Joins (linked ms) → IsOkOr A (Err f) LinkFault.Memory) →
    AreLoadable ms → IsOkOr B (Err (of_link f)) LoadFault.Memory
link-loadable ms f joins fits = inr (ap (λ x. Err (of_link x)) (not-ok f LinkFault.Memory (joins fits.joins)))

-- Modules that join: the other refusals are left
behind : {A : Type 0} (P : LoadFault → Type 0) (ms : List AModule) (t : A) → JoinsExactly A ms (Ok t) →
    ((k : ℕ) → IsLoadRefusal ms (LoadFault.DataTooLarge k) → P (LoadFault.DataTooLarge k)) →
    ((k : ℕ) → IsLoadRefusal ms (LoadFault.TextTooLarge k) → P (LoadFault.TextTooLarge k)) →
    (fault : LoadFault) → fault ≢ LoadFault.Memory → IsLoadRefusal ms fault → P fault
behind P ms t exact large long (LoadFault.Twice name i j) n r = absurd (ok-not t (LinkFault.Twice name i j) LinkFault.Memory (exact (LinkFault.Twice name i j) (λ e. cc) r))
behind P ms t exact large long LoadFault.NoMain n r = absurd (ok-not t LinkFault.NoMain LinkFault.Memory (exact LinkFault.NoMain (λ e. cc) r))
behind P ms t exact large long (LoadFault.MainType i) n r = absurd (ok-not t (LinkFault.MainType i) LinkFault.Memory (exact (LinkFault.MainType i) (λ e. cc) r))
behind P ms t exact large long (LoadFault.Unresolved name i) n r = absurd (ok-not t (LinkFault.Unresolved name i) LinkFault.Memory (exact (LinkFault.Unresolved name i) (λ e. cc) r))
behind P ms t exact large long (LoadFault.Disagree name i j) n r = absurd (ok-not t (LinkFault.Disagree name i j) LinkFault.Memory (exact (LinkFault.Disagree name i j) (λ e. cc) r))
behind P ms t exact large long (LoadFault.DataTooLarge k) n r = large k r
behind P ms t exact large long (LoadFault.TextTooLarge k) n r = long k r
behind P ms t exact large long LoadFault.Memory n r = absurd (n refl)

-- Data that are too large

pub place-refused : (ms : List AModule) (f : PlaceFault) → Joins (linked ms) → IsPlaceRefusal (linked ms) f → IsLoadRefusal ms (of_place f)
place-refused ms (PlaceFault.DataTooLarge k) joins r = (joins, r.0, r.1)
place-refused ms PlaceFault.Memory joins r = tt

pub place-exact : {A B C : Type 0} (ms : List AModule) (t : A) (f : PlaceFault) → JoinsExactly A ms (Ok t) → PlacesExactly B ms (Err f) →
    (object_bytes (linked ms) ≤ data_limit → IsOkOr B (Err f) PlaceFault.Memory) →
    (fault : LoadFault) → fault ≢ LoadFault.Memory → IsLoadRefusal ms fault → IsOneOf C (Err (of_place f)) fault LoadFault.Memory
place-exact {A} {B} {C} ms t f joins exact fits = behind (λ fault. IsOneOf C (Err (of_place f)) fault LoadFault.Memory) ms t joins
    (λ k r. same of_place f (PlaceFault.DataTooLarge k) PlaceFault.Memory (exact (PlaceFault.DataTooLarge k) (λ e. cc) (r.1, r.2)))
    (λ k r. inr (ap (λ x. Err (of_place x)) (not-ok f PlaceFault.Memory (fits r.1))))

pub place-loadable : {B C : Type 0} (ms : List AModule) (f : PlaceFault) → (object_bytes (linked ms) ≤ data_limit → IsOkOr B (Err f) PlaceFault.Memory) →
    AreLoadable ms → IsOkOr C (Err (of_place f)) LoadFault.Memory
place-loadable ms f fits h = inr (ap (λ x. Err (of_place x)) (not-ok f PlaceFault.Memory (fits h.data_fits)))

-- Texts that are too large

pub expand-refused : (ms : List AModule) (f : ExpandFault) → Joins (linked ms) → object_bytes (linked ms) ≤ data_limit →
    IsTooLarge (text_weight (routines_of ms)) f → IsLoadRefusal ms (of_expand f)
expand-refused ms (ExpandFault.TextTooLarge k) joins fits r = (joins, fits, r.0, r.1)
expand-refused ms ExpandFault.Memory joins fits r = tt

pub expand-exact : {A B C D : Type 0} (ms : List AModule) (t : A) (p : B) (f : ExpandFault) → JoinsExactly A ms (Ok t) → PlacesExactly B ms (Ok p) →
    ExpandsExactly C ms (Err f) →
    (fault : LoadFault) → fault ≢ LoadFault.Memory → IsLoadRefusal ms fault → IsOneOf D (Err (of_expand f)) fault LoadFault.Memory
expand-exact {A} {B} {C} {D} ms t p f joins places exact = behind (λ fault. IsOneOf D (Err (of_expand f)) fault LoadFault.Memory) ms t joins
    (λ k r. absurd (ok-not p (PlaceFault.DataTooLarge k) PlaceFault.Memory (places (PlaceFault.DataTooLarge k) (λ e. cc) (r.1, r.2))))
    (λ k r. same of_expand f (ExpandFault.TextTooLarge k) ExpandFault.Memory (exact (ExpandFault.TextTooLarge k) (λ e. cc) (r.2, r.3)))

pub expand-loadable : {C D : Type 0} (ms : List AModule) (f : ExpandFault) → (text_weight (routines_of ms) ≤ text_limit → IsOkOr C (Err f) ExpandFault.Memory) →
    AreLoadable ms → IsOkOr D (Err (of_expand f)) LoadFault.Memory
expand-loadable ms f fits h = inr (ap (λ x. Err (of_expand x)) (not-ok f ExpandFault.Memory (fits h.text_fits)))

-- Modules that are loaded
pub none-refused : {A B C D : Type 0} (ms : List AModule) (t : A) (p : B) (l : C) (d : D) → JoinsExactly A ms (Ok t) → PlacesExactly B ms (Ok p) →
    ExpandsExactly C ms (Ok l) →
    (fault : LoadFault) → fault ≢ LoadFault.Memory → IsLoadRefusal ms fault → IsOneOf D (Ok d) fault LoadFault.Memory
none-refused {A} {B} {C} {D} ms t p l d joins places exact = behind (λ fault. IsOneOf D (Ok d) fault LoadFault.Memory) ms t joins
    (λ k r. absurd (ok-not p (PlaceFault.DataTooLarge k) PlaceFault.Memory (places (PlaceFault.DataTooLarge k) (λ e. cc) (r.1, r.2))))
    (λ k r. absurd (ok-not l (ExpandFault.TextTooLarge k) ExpandFault.Memory (exact (ExpandFault.TextTooLarge k) (λ e. cc) (r.2, r.3))))

not-long : {C : Type 0} (ms : List AModule) (l : C) → ExpandsExactly C ms (Ok l) → text_limit < text_weight (routines_of ms) → ⊥
not-long ms l exact more =
    let k = text_weight (routines_of ms) in
    ok-not l (ExpandFault.TextTooLarge k) ExpandFault.Memory (exact (ExpandFault.TextTooLarge k) (λ e. cc) (refl, more))

fits-unless : (a b : ℕ) → (b < a → ⊥) → ((leb a b ≡ true) × (a ≤ b)) ⊎ ((leb a b ≡ false) × (b < a)) → a ≤ b
fits-unless a b never (inl h) = h.1
fits-unless a b never (inr h) = absurd (never h.1)

-- what is known where all parts have answers
pub loadable : {C : Type 0} (ms : List AModule) (l : C) (size zeros : ℕ) → Joins (linked ms) → size ≡ init_size (linked ms) → zeros ≡ bss_size (linked ms) →
    size + zeros ≤ data_limit → ExpandsExactly C ms (Ok l) → AreLoadable ms
loadable ms l size zeros joins e f fits exact = record {
  joins = joins;
  data_fits = subst (λ n. n ≤ data_limit) (ap (λ n. n + zeros) e ∙ ap (λ n. init_size (linked ms) + n) f) fits;
  text_fits = fits-unless (text_weight (routines_of ms)) text_limit (not-long ms l exact) (leb_tells (text_weight (routines_of ms)) text_limit);
}
