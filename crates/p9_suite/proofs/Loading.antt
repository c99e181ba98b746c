-- What is known of modules that are loaded or refused: each list of modules is one of both, and is refused in one way.
use Rattle.std.proofs.Common.{◌≡◌, ◌≢◌, ℕ, List, true, false, Result, Err, IsOk, inl, inr, refl, sym, ◌∙◌, ap, arith}
use Rattle.p9_abs.specs.BuiltIn.{linked}
use Rattle.p9_abs.specs.declared.modules.AModule.{AModule}
use Rattle.p9_aout.specs.Image.{image_of, parts_of}
use Rattle.p9_load.proofs.Exactly.{link-exact}
use Rattle.p9_load.specs.Faults.{of_link}
use Rattle.p9_load.specs.Refusals.{AreLoadable, IsLoadRefusal}
use Rattle.p9_load.specs.declared.fault.LoadFault.{LoadFault}
use Rattle.p9_names.proofs.Exactness.{refused_exactly, joined_exactly}
use Rattle.p9_names.specs.Answers.{Joins, IsRefusal as IsLinkRefusal}
use Rattle.p9_names.specs.declared.table.LinkFault.{LinkFault}
use Rattle.p9_names.specs.declared.table.Table.{Table}
use Rattle.p9_suite.proofs.Executed.{IsImage}
use Rattle.p9_suite.specs.commands.Load.{IsExecutable, IsRefused}

pub is_loadable : (modules : List AModule) (bytes : List ℕ) → IsExecutable modules bytes → AreLoadable modules
is_loadable modules bytes is = is.loadable

pub is_image : (modules : List AModule) (bytes : List ℕ) → IsExecutable modules bytes → IsImage bytes
is_image modules bytes is = (parts_of is.loads.image, ap image_of is.same ∙ is.loads.read)

err_same : {A E : Type 0} {x y : E} → ◌≡◌ {A = Result A E} (Err x) (Err y) → x ≡ y
err_same e = cc

not_ok : (why : LinkFault) → IsOk {T = Table} {E = LinkFault} (Err why) → ⊥
not_ok why ok = let e : false ≡ true = ok in cc

-- modules that join have no fault of joining
joined_fault : (ms : List AModule) (why : LinkFault) → Joins (linked ms) → why ≢ LinkFault.Memory → IsLinkRefusal (linked ms) why → ⊥
joined_fault ms why j n r = elim (joined_exactly (linked ms) (Err why) r j) [
  | inl ok ↦ absurd (not_ok why ok)
  | inr e ↦ n (err_same e)
]

-- a fault of joining is the only refusal
link_only : (ms : List AModule) (why : LinkFault) → why ≢ LinkFault.Memory → of_link why ≢ LoadFault.Memory → IsLinkRefusal (linked ms) why → (other : LoadFault) → IsRefused ms other → of_link why ≡ other
link_only ms why n m r other o =
    elim (link-exact {A = Table} {B = Table} ms why (λ fault k c. refused_exactly (linked ms) (Err why) tt r fault k c) (λ j. joined_exactly (linked ms) (Err why) r j) other o.0 o.1) [
      | inl e ↦ err_same e
      | inr e ↦ absurd (m (err_same e))
    ]

large_only : (ms : List AModule) (n : ℕ) → IsLoadRefusal ms (LoadFault.DataTooLarge n) → (other : LoadFault) → IsRefused ms other → LoadFault.DataTooLarge n ≡ other
large_only ms n r (LoadFault.Twice name i j) o = absurd (joined_fault ms (LinkFault.Twice name i j) r.0 (λ e. cc) o.1)
large_only ms n r LoadFault.NoMain o = absurd (joined_fault ms LinkFault.NoMain r.0 (λ e. cc) o.1)
large_only ms n r (LoadFault.MainType i) o = absurd (joined_fault ms (LinkFault.MainType i) r.0 (λ e. cc) o.1)
large_only ms n r (LoadFault.Unresolved name i) o = absurd (joined_fault ms (LinkFault.Unresolved name i) r.0 (λ e. cc) o.1)
large_only ms n r (LoadFault.Disagree name i j) o = absurd (joined_fault ms (LinkFault.Disagree name i j) r.0 (λ e. cc) o.1)
large_only ms n r (LoadFault.DataTooLarge k) o = ap (λ x. LoadFault.DataTooLarge x) (r.1 ∙ sym o.1.1)
large_only ms n r (LoadFault.TextTooLarge k) o = absurd (omega (arith, r.1, r.2, o.1.1))
large_only ms n r LoadFault.Memory o = absurd (o.0 refl)

long_only : (ms : List AModule) (n : ℕ) → IsLoadRefusal ms (LoadFault.TextTooLarge n) → (other : LoadFault) → IsRefused ms other → LoadFault.TextTooLarge n ≡ other
long_only ms n r (LoadFault.Twice name i j) o = absurd (joined_fault ms (LinkFault.Twice name i j) r.0 (λ e. cc) o.1)
long_only ms n r LoadFault.NoMain o = absurd (joined_fault ms LinkFault.NoMain r.0 (λ e. cc) o.1)
long_only ms n r (LoadFault.MainType i) o = absurd (joined_fault ms (LinkFault.MainType i) r.0 (λ e. cc) o.1)
long_only ms n r (LoadFault.Unresolved name i) o = absurd (joined_fault ms (LinkFault.Unresolved name i) r.0 (λ e. cc) o.1)
long_only ms n r (LoadFault.Disagree name i j) o = absurd (joined_fault ms (LinkFault.Disagree name i j) r.0 (λ e. cc) o.1)
long_only ms n r (LoadFault.DataTooLarge k) o = absurd (omega (arith, r.1, o.1.1, o.1.2))
long_only ms n r (LoadFault.TextTooLarge k) o = ap (λ x. LoadFault.TextTooLarge x) (r.2 ∙ sym o.1.2)
long_only ms n r LoadFault.Memory o = absurd (o.0 refl)

pub same_refusal : (ms : List AModule) (why other : LoadFault) → IsRefused ms why → IsRefused ms other → why ≡ other
same_refusal ms (LoadFault.Twice name i j) other r o = link_only ms (LinkFault.Twice name i j) (λ e. cc) (λ e. cc) r.1 other o
same_refusal ms LoadFault.NoMain other r o = link_only ms LinkFault.NoMain (λ e. cc) (λ e. cc) r.1 other o
same_refusal ms (LoadFault.MainType i) other r o = link_only ms (LinkFault.MainType i) (λ e. cc) (λ e. cc) r.1 other o
same_refusal ms (LoadFault.Unresolved name i) other r o = link_only ms (LinkFault.Unresolved name i) (λ e. cc) (λ e. cc) r.1 other o
same_refusal ms (LoadFault.Disagree name i j) other r o = link_only ms (LinkFault.Disagree name i j) (λ e. cc) (λ e. cc) r.1 other o
same_refusal ms (LoadFault.DataTooLarge n) other r o = large_only ms n r.1 other o
same_refusal ms (LoadFault.TextTooLarge n) other r o = long_only ms n r.1 other o
same_refusal ms LoadFault.Memory other r o = absurd (r.0 refl)

pub loadable_refused : (ms : List AModule) (why : LoadFault) → AreLoadable ms → IsRefused ms why → ⊥
loadable_refused ms (LoadFault.Twice name i j) l r = joined_fault ms (LinkFault.Twice name i j) l.joins (λ e. cc) r.1
loadable_refused ms LoadFault.NoMain l r = joined_fault ms LinkFault.NoMain l.joins (λ e. cc) r.1
loadable_refused ms (LoadFault.MainType i) l r = joined_fault ms (LinkFault.MainType i) l.joins (λ e. cc) r.1
loadable_refused ms (LoadFault.Unresolved name i) l r = joined_fault ms (LinkFault.Unresolved name i) l.joins (λ e. cc) r.1
loadable_refused ms (LoadFault.Disagree name i j) l r = joined_fault ms (LinkFault.Disagree name i j) l.joins (λ e. cc) r.1
loadable_refused ms (LoadFault.DataTooLarge n) l r = omega (arith, l.data_fits, r.1.1, r.1.2)
loadable_refused ms (LoadFault.TextTooLarge n) l r = omega (arith, l.text_fits, r.1.2, r.1.3)
loadable_refused ms LoadFault.Memory l r = r.0 refl
