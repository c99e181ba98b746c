-- What `place` answers.
use Rattle.std.proofs.Common.{ℕ, ◌+◌, ◌≡◌, ◌≢◌, ◌≤◌, ◌⊎◌, inl, inr, Result, Ok, Err, IsOk, IfOk, IfErr, List, map, sum_by, refl, sym, ap, ◌∙◌, subst, arith}
use Rattle.std.specs.Prelude.{filter}
use Rattle.p9_abs.specs.declared.modules.AModule.{AModule}
use Rattle.p9_abs.specs.declared.modules.Def.{Def}
use Rattle.p9_abs.specs.BuiltIn.{linked}
use Rattle.p9_abs.specs.Programs.{records, is_data, inits_of, bss_of, init_size, bss_size}
use Rattle.p9_names.specs.Linking.{IsTable, ChoosesAll}
use Rattle.p9_place.specs.declared.objects.Object.{Object}
use Rattle.p9_place.specs.declared.placing.Places.{Places}
use Rattle.p9_place.specs.declared.placing.PlaceFault.{PlaceFault}
use Rattle.p9_place.specs.declared.placing.PlaceFault.TheVariants.{DataTooLarge, Memory}
use Rattle.p9_place.specs.Objects.{object_of, is_object, laid}
use Rattle.p9_place.specs.Places.{spots, object_bytes, IsTooLarge, IsRefusal, ArePlaced}
use Rattle.p9_place.proofs.Collecting.{laid-objects, sum-objects}
use Rattle.p9_place.proofs.Owning.{commons-same}
use Rattle.p9_place.proofs.Offsets.{inits-placed, bss-placed}

abbrev space : Object → ℕ
space o = o.space

-- what is known of the places, from the lists of objects
pub record IsLaid (inits bss : List Object) (p : Places) : Type 0 where
  pub inits_laid : p.inits.items ≡ laid 0 inits
  pub bss_laid : p.bss.items ≡ laid p.data_size bss
  pub sizes : p.data_size ≡ sum_by (λ (o : Object). o.space) inits
  pub zeros : p.bss_size ≡ sum_by (λ (o : Object). o.space) bss

pub record IsPlaced (ms : List AModule) (p : Places) : Type 0 where
  pub inits_spots : p.inits.items ≡ spots 0 (inits_of ms)
  pub bss_spots : p.bss.items ≡ spots p.data_size (bss_of ms)
  pub sizes : p.data_size ≡ init_size ms
  pub zeros : p.bss_size ≡ bss_size ms
  pub inits_at : ArePlaced ms p.inits.items
  pub bss_at : ArePlaced ms p.bss.items

-- the lists of objects are those of the modules
pub record AreObjects (ms : List AModule) (inits bss : List Object) : Type 0 where
  pub inits_all : inits ≡ map object_of (inits_of ms)
  pub bss_all : bss ≡ map object_of (bss_of ms)

pub are-objects : (ms : List AModule) (entries : List (List ℕ × Def)) (inits bss : List Object) → IsTable ms entries → ChoosesAll ms entries →
    inits ≡ map object_of (filter is_data (records ms)) → bss ≡ map object_of (filter (is_object entries) (records ms)) → AreObjects ms inits bss
are-objects ms entries inits bss table chooses e f = record {
  inits_all = e;
  bss_all = f ∙ ap (map object_of) (commons-same ms entries (records ms) table chooses);
}

pub is-placed : (ms : List AModule) (inits bss : List Object) (p : Places) → AreObjects ms inits bss → IsLaid inits bss p → IsPlaced ms p
is-placed ms inits bss p h l =
    let first : p.inits.items ≡ spots 0 (inits_of ms) = l.inits_laid ∙ ap (laid 0) h.inits_all ∙ laid-objects 0 (inits_of ms) in
    let size : p.data_size ≡ init_size ms = l.sizes ∙ ap (sum_by space) h.inits_all ∙ sum-objects (inits_of ms) in
    let second : p.bss.items ≡ spots p.data_size (bss_of ms) = l.bss_laid ∙ ap (laid p.data_size) h.bss_all ∙ laid-objects p.data_size (bss_of ms) in
    record {
      inits_spots = first;
      bss_spots = second;
      sizes = size;
      zeros = l.zeros ∙ ap (sum_by space) h.bss_all ∙ sum-objects (bss_of ms);
      inits_at = subst (λ s. ArePlaced ms s) (sym first) (inits-placed ms);
      bss_at = subst (λ s. ArePlaced ms s) (sym (second ∙ ap (λ n. spots n (bss_of ms)) size)) (bss-placed ms);
    }

pub size-is : (ms : List AModule) (inits bss : List Object) → AreObjects ms inits bss → sum_by space inits + sum_by space bss ≡ object_bytes ms
size-is ms inits bss h =
    ap (λ n. n + sum_by space bss) (ap (sum_by space) h.inits_all ∙ sum-objects (inits_of ms))
    ∙ ap (λ n. init_size ms + n) (ap (sum_by space) h.bss_all ∙ sum-objects (bss_of ms))

-- Answers

pub placed : (ms : List AModule) (inits bss : List Object) (result : Result Places PlaceFault) → AreObjects ms inits bss →
    IfOk result (λ p. p.inits.items ≡ laid 0 inits) → IfOk result (λ p. p.bss.items ≡ laid p.data_size bss) →
    IfOk result (λ p. p.data_size ≡ sum_by (λ o. o.space) inits) → IfOk result (λ p. p.bss_size ≡ sum_by (λ o. o.space) bss) →
    IfOk result (IsPlaced ms)
placed ms inits bss (Ok p) h a b c d = is-placed ms inits bss p h (record { inits_laid = a; bss_laid = b; sizes = c; zeros = d })
placed ms inits bss (Err fault) h a b c d = tt

pub refused : (ms : List AModule) (inits bss : List Object) (result : Result Places PlaceFault) → AreObjects ms inits bss →
    IfErr result (IsTooLarge (sum_by (λ o. o.space) inits + sum_by (λ o. o.space) bss)) → IfErr result (IsRefusal ms)
refused ms inits bss (Ok p) h e = tt
refused ms inits bss (Err fault) h e = subst (λ n. IsTooLarge n fault) (size-is ms inits bss h) e

if-placed : (P : Places → Type 0) (ms : List AModule) → ((p : Places) → IsPlaced ms p → P p) → (result : Result Places PlaceFault) → IfOk result (IsPlaced ms) → IfOk result P
if-placed P ms to (Ok p) h = to p h
if-placed P ms to (Err fault) h = tt

pub placed-inits : (ms : List AModule) (result : Result Places PlaceFault) → IfOk result (IsPlaced ms) → IfOk result (λ p. p.inits.items ≡ spots 0 (inits_of ms))
placed-inits ms = if-placed (λ p. p.inits.items ≡ spots 0 (inits_of ms)) ms (λ p h. h.inits_spots)

pub placed-bss : (ms : List AModule) (result : Result Places PlaceFault) → IfOk result (IsPlaced ms) → IfOk result (λ p. p.bss.items ≡ spots p.data_size (bss_of ms))
placed-bss ms = if-placed (λ p. p.bss.items ≡ spots p.data_size (bss_of ms)) ms (λ p h. h.bss_spots)

pub placed-data_size : (ms : List AModule) (result : Result Places PlaceFault) → IfOk result (IsPlaced ms) → IfOk result (λ p. p.data_size ≡ init_size ms)
placed-data_size ms = if-placed (λ p. p.data_size ≡ init_size ms) ms (λ p h. h.sizes)

pub placed-bss_size : (ms : List AModule) (result : Result Places PlaceFault) → IfOk result (IsPlaced ms) → IfOk result (λ p. p.bss_size ≡ bss_size ms)
placed-bss_size ms = if-placed (λ p. p.bss_size ≡ bss_size ms) ms (λ p h. h.zeros)

pub placed-inits_at : (ms : List AModule) (result : Result Places PlaceFault) → IfOk result (IsPlaced ms) → IfOk result (λ p. ArePlaced ms p.inits.items)
placed-inits_at ms = if-placed (λ p. ArePlaced ms p.inits.items) ms (λ p h. h.inits_at)

pub placed-bss_at : (ms : List AModule) (result : Result Places PlaceFault) → IfOk result (IsPlaced ms) → IfOk result (λ p. ArePlaced ms p.bss.items)
placed-bss_at ms = if-placed (λ p. ArePlaced ms p.bss.items) ms (λ p h. h.bss_at)

-- Both outcomes

pub refused-exactly : (ms : List AModule) (result : Result Places PlaceFault) → IfOk result (IsPlaced ms) → IfOk result (λ p. p.data_size + p.bss_size ≤ 16777216) →
    IfErr result (IsRefusal ms) → (fault : PlaceFault) → fault ≢ Memory → IsRefusal ms fault → (result ≡ Err fault) ⊎ (result ≡ Err Memory)
refused-exactly ms result h fits e Memory unlike f = absurd (unlike refl)
refused-exactly ms (Ok p) h fits e (DataTooLarge n) unlike f = absurd (omega (arith, h.sizes, h.zeros, fits, f.0, f.1))
refused-exactly ms (Err Memory) h fits e (DataTooLarge n) unlike f = inr refl
refused-exactly ms (Err (DataTooLarge m)) h fits e (DataTooLarge n) unlike f = inl (ap (λ k. Err (DataTooLarge k)) (e.0 ∙ sym f.0))

pub placed-exactly : (ms : List AModule) (result : Result Places PlaceFault) → IfErr result (IsRefusal ms) → object_bytes ms ≤ 16777216 → IsOk result ⊎ (result ≡ Err Memory)
placed-exactly ms (Ok p) e small = inl refl
placed-exactly ms (Err Memory) e small = inr refl
placed-exactly ms (Err (DataTooLarge n)) e small = absurd (omega (arith, e.0, e.1, small))

-- the lists of objects, as they are collected from the modules by the table
pub objects-of : (modules seen : List AModule) (entries : List (List ℕ × Def)) (inits bss : List Object) → seen ≡ modules →
    IsTable (linked modules) entries → ChoosesAll (linked modules) entries →
    inits ≡ map object_of (filter is_data (records (linked seen))) → bss ≡ map object_of (filter (is_object entries) (records (linked seen))) →
    AreObjects (linked modules) inits bss
objects-of modules seen entries inits bss same table chooses e f =
    are-objects (linked modules) entries inits bss table chooses
    (e ∙ ap (λ l. map object_of (filter is_data (records (linked l)))) same)
    (f ∙ ap (λ l. map object_of (filter (is_object entries) (records (linked l)))) same)
