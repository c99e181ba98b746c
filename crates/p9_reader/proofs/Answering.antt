-- What the answers to an object's bytes mean.
use Rattle.std.proofs.Common.{◌≡◌, ◌⊎◌, inl, inr, ℕ, List, [], ◌++◌, Option, None, Some, Result, Ok, Err, IfOk, All, refl, sym, ap, subst, ◌∙◌}
use Rattle.p9_abs.specs.declared.modules.AModule.{AModule}
use Rattle.p9_object.specs.Fields.{spelling}
use Rattle.p9_object.specs.Laws.{IsByte, IsObject, Breaks}
use Rattle.p9_object.specs.Bytes as machine
use Rattle.p9_object.proofs.Reading.{pushes_append, reads_what_is_spelled, reads_only_spellings, breaks_at_first, tells_versions}
use Rattle.p9_reader.specs.declared.faults.ObjFault.{ObjFault}
use Rattle.p9_reader.specs.declared.faults.ObjFault.TheVariants.{BadObject, Version, Memory}
use Rattle.p9_reader.specs.Answers.{told, answer_of, answer, stop_of, refusal, RefusalsStay, HasVersion}
use Rattle.p9_reader.proofs.Taking.{stop_goes_on}

-- the answer, but for want of memory
abbrev pub IsAnswer : List ℕ → Result AModule ObjFault → Type 0
IsAnswer bytes r = (r ≡ Err Memory) ⊎ (r ≡ answer bytes)

-- How a reader comes to it

pub answered_whole : (bytes given now : List ℕ) (fault : Option ObjFault) (r : Result AModule ObjFault) → given ≡ [] → now ≡ given ++ bytes → fault ≡ None → (fault ≡ None → r ≡ answer now) → IsAnswer bytes r
answered_whole bytes given now fault r g n f e =
    inr (e f ∙ ap (λ (b : List ℕ). answer b) (n ∙ ap (λ (b : List ℕ). b ++ bytes) g))

refused_so : (r : Result machine.Point machine.Fault) (f : ObjFault) → stop_of r ≡ Some f → answer_of (machine.ended r) ≡ Err f
refused_so (Ok p) f e = absurd cc
refused_so (Err g) f e = by cc
  where
    by : told g ≡ f → answer_of (machine.ended (Err g)) ≡ Err f
    by e = ap (λ (x : ObjFault). Err x) e

pub refused_early : RefusalsStay
refused_early bytes rest f e =
    refused_so (machine.pushes (Ok machine.start) (bytes ++ rest)) f
    (ap (λ (r : Result machine.Point machine.Fault). stop_of r) (pushes_append (Ok machine.start) bytes rest) ∙ stop_goes_on (machine.pushes (Ok machine.start) bytes) f rest e)

pub answered_early : (bytes given : List ℕ) (fault : Option ObjFault) (f y : ObjFault) (r : Result AModule ObjFault) → given ≡ [] → fault ≡ None → (fault ≡ None → (f ≡ Memory) ⊎ (refusal (given ++ bytes) ≡ Some f)) → r ≡ Err y → y ≡ f → IsAnswer bytes r
answered_early bytes given fault f y r g n first e same = by (first n)
  where
    is : r ≡ Err f
    is = e ∙ ap (λ (x : ObjFault). Err x) same

    by : (f ≡ Memory) ⊎ (refusal (given ++ bytes) ≡ Some f) → IsAnswer bytes r
    by (inl m) = inl (is ∙ ap (λ (x : ObjFault). Err x) m)
    by (inr s) = inr (is ∙ sym (refused_so (machine.pushes (Ok machine.start) bytes) f (ap (λ (b : List ℕ). refusal (b ++ bytes)) (sym g) ∙ s)))

-- What it means

abbrev pub Means : List ℕ → Result AModule ObjFault → Type 0
Means bytes (Ok m) = IsObject m × (bytes ≡ spelling m)
Means bytes (Err (BadObject at)) = Breaks bytes at
Means bytes (Err (Version v)) = HasVersion bytes v
Means bytes (Err Memory) = Unit {0}

read_means : (bytes : List ℕ) (r : Result AModule machine.Fault) → All IsByte bytes → machine.reading bytes ≡ r → Means bytes (answer_of r)
read_means bytes (Ok m) k e = reads_only_spellings bytes m k e
read_means bytes (Err (machine.BadObject at)) k e = breaks_at_first bytes at k e
read_means bytes (Err (machine.Version v)) k e =
    let t = tells_versions bytes v k e in
    record { other = t.0; rest = t.1.0; text = t.1.1 }

means : (bytes : List ℕ) (r : Result AModule ObjFault) → All IsByte bytes → IsAnswer bytes r → Means bytes r
means bytes r k (inl e) = subst (λ (x : Result AModule ObjFault). Means bytes x) (sym e) tt
means bytes r k (inr e) = subst (λ (x : Result AModule ObjFault). Means bytes x) (sym e) (read_means bytes (machine.reading bytes) k refl)

pub valid_so : (bytes : List ℕ) (r : Result AModule ObjFault) → All IsByte bytes → IsAnswer bytes r → IfOk r (λ m. IsObject m)
valid_so bytes r k a = by r (means bytes r k a)
  where
    by : (r : Result AModule ObjFault) → Means bytes r → IfOk r (λ m. IsObject m)
    by (Ok m) h = h.0
    by (Err f) h = tt

pub spelled_so : (bytes : List ℕ) (r : Result AModule ObjFault) → All IsByte bytes → IsAnswer bytes r → IfOk r (λ m. bytes ≡ spelling m)
spelled_so bytes r k a = by r (means bytes r k a)
  where
    by : (r : Result AModule ObjFault) → Means bytes r → IfOk r (λ m. bytes ≡ spelling m)
    by (Ok m) h = h.1
    by (Err f) h = tt

pub read_so : (bytes : List ℕ) (r : Result AModule ObjFault) → IsAnswer bytes r → (m : AModule) → IsObject m → bytes ≡ spelling m → (r ≡ Ok m) ⊎ (r ≡ Err Memory)
read_so bytes r (inl e) m o s = inr e
read_so bytes r (inr e) m o s = inl (e ∙ ap (λ (b : List ℕ). answer b) s ∙ ap (λ (x : Result AModule machine.Fault). answer_of x) (reads_what_is_spelled m o))

pub broken_so : (bytes : List ℕ) (r : Result AModule ObjFault) → All IsByte bytes → IsAnswer bytes r → (at : ℕ) → r ≡ Err (BadObject at) → Breaks bytes at
broken_so bytes r k a at e = subst (λ (x : Result AModule ObjFault). Means bytes x) e (means bytes r k a)

pub version_so : (bytes : List ℕ) (r : Result AModule ObjFault) → All IsByte bytes → IsAnswer bytes r → (v : ℕ) → r ≡ Err (Version v) → HasVersion bytes v
version_so bytes r k a v e = subst (λ (x : Result AModule ObjFault). Means bytes x) e (means bytes r k a)
