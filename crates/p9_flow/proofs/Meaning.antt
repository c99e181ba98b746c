-- Live over acts is live over the function.
use Rattle.std.proofs.Common.{ℕ, ◌+◌, ◌==◌, ◌&&◌, ◌||◌, ◌≡◌, ◌≢◌, ◌⊎◌, ◌↔◌, inl, inr, ◌<◌, nat_lt, Bool, true, false, Option, Some, None, option_map, option_and_then, refl, sym, ap, ◌∙◌, subst, rules, if◌then◌else◌, List, [], ◌∷◌, length, slice_get, slice_index_or, map}
use Rattle.std.proofs.lemmas.Bool.{false≢true, and_parts, or_cases, eqb-true}
use Rattle.std.proofs.lemmas.Bool.Decides.{eqb_tells}
use Rattle.std.proofs.lemmas.Option.{slice_get_within, slice_get-map}
use Rattle.p9_abs.specs.declared.instructions.Abs.{Abs}
use Rattle.p9_abs.specs.declared.instructions.AFunction.{AFunction}
use Rattle.p9_abs.specs.declared.forms.Location.{Location}
use Rattle.p9_abs.specs.declared.forms.Location.TheVariants as location
use Rattle.p9_abs.specs.declared.forms.Form.{Form}
use Rattle.p9_abs.specs.declared.forms.Form.TheVariants as forms
use Rattle.p9_abs.specs.Forms.{decoded}
use Rattle.p9_abs.specs.Automatics.{form_at, holds_of, falls, goes_to, is_automatic, reads, writes, writes_at, fills_at, is_candidate, IsReadAlong, IsLive}
use Rattle.p9_abs.proofs.Candidates.{candidate-fills}
use Rattle.p9_flow.specs.declared.acts.Act.{Act}
use Rattle.p9_flow.specs.Acts.{automatic_of, read_of, written_of, jump_of, kept, act_of}
use Rattle.p9_flow.specs.Columns.{GoesTo}
use Rattle.p9_flow.specs.Columns as columns

pub eqb-same : (n : ℕ) → (n == n) ≡ true
eqb-same n = go (eqb_tells n n)
  where
    go : (((n == n) ≡ true) × (n ≡ n)) ⊎ (((n == n) ≡ false) × (n ≢ n)) → (n == n) ≡ true
    go (inl t) = t.0
    go (inr t) = absurd (t.1 refl)

-- A form reads and writes what its act does

is-automatic : (v : ℕ) (a : Location) → is_automatic v a ≡ true → automatic_of a ≡ Some v
is-automatic v (location.Automatic w o) h = ap (λ z. Some z) (eqb-true w v h)
is-automatic v (location.Static s o) h = absurd (false≢true h)
is-automatic v (location.Argument o) h = absurd (false≢true h)
is-automatic v (location.Frame o) h = absurd (false≢true h)
is-automatic v (location.Based r o) h = absurd (false≢true h)

automatic-is : (v : ℕ) (a : Location) → automatic_of a ≡ Some v → is_automatic v a ≡ true
automatic-is v (location.Automatic w o) h = let e : w ≡ v = cc in ap (λ z. z == v) e ∙ eqb-same v
automatic-is v (location.Static s o) h = cc
automatic-is v (location.Argument o) h = cc
automatic-is v (location.Frame o) h = cc
automatic-is v (location.Based r o) h = cc

reads-is : (v : ℕ) (form : Form) → (reads v form ≡ true) ↔ (read_of form ≡ Some v)
reads-is v (forms.Load w a to) = (is-automatic v a, automatic-is v a)
reads-is v (forms.Store w from a) = (λ h. absurd (false≢true h), λ h. cc)
reads-is v (forms.SetAddress a to) = (λ h. absurd (false≢true h), λ h. cc)
reads-is v (forms.Move w a b) = (λ h. absurd (false≢true h), λ h. cc)
reads-is v (forms.SetConstant c b) = (λ h. absurd (false≢true h), λ h. cc)
reads-is v (forms.GetHiLo a b) = (λ h. absurd (false≢true h), λ h. cc)
reads-is v (forms.SetHiLo a b) = (λ h. absurd (false≢true h), λ h. cc)
reads-is v (forms.Calculate k a b c) = (λ h. absurd (false≢true h), λ h. cc)
reads-is v (forms.CalculateConstant k a b c) = (λ h. absurd (false≢true h), λ h. cc)
reads-is v (forms.ShiftConstant k a b c) = (λ h. absurd (false≢true h), λ h. cc)
reads-is v (forms.Multiply k a b) = (λ h. absurd (false≢true h), λ h. cc)
reads-is v (forms.BranchPair k a b l) = (λ h. absurd (false≢true h), λ h. cc)
reads-is v (forms.BranchSign k a l) = (λ h. absurd (false≢true h), λ h. cc)
reads-is v (forms.Jump l) = (λ h. absurd (false≢true h), λ h. cc)
reads-is v (forms.Call s) = (λ h. absurd (false≢true h), λ h. cc)
reads-is v (forms.CallRegister a) = (λ h. absurd (false≢true h), λ h. cc)
reads-is v forms.Return = (λ h. absurd (false≢true h), λ h. cc)
reads-is v forms.SystemCall = (λ h. absurd (false≢true h), λ h. cc)

pub writes-is : (v : ℕ) (form : Form) → (writes v form ≡ true) ↔ (written_of form ≡ Some v)
writes-is v (forms.Store w from a) = (is-automatic v a, automatic-is v a)
writes-is v (forms.Load w a to) = (λ h. absurd (false≢true h), λ h. cc)
writes-is v (forms.SetAddress a to) = (λ h. absurd (false≢true h), λ h. cc)
writes-is v (forms.Move w a b) = (λ h. absurd (false≢true h), λ h. cc)
writes-is v (forms.SetConstant c b) = (λ h. absurd (false≢true h), λ h. cc)
writes-is v (forms.GetHiLo a b) = (λ h. absurd (false≢true h), λ h. cc)
writes-is v (forms.SetHiLo a b) = (λ h. absurd (false≢true h), λ h. cc)
writes-is v (forms.Calculate k a b c) = (λ h. absurd (false≢true h), λ h. cc)
writes-is v (forms.CalculateConstant k a b c) = (λ h. absurd (false≢true h), λ h. cc)
writes-is v (forms.ShiftConstant k a b c) = (λ h. absurd (false≢true h), λ h. cc)
writes-is v (forms.Multiply k a b) = (λ h. absurd (false≢true h), λ h. cc)
writes-is v (forms.BranchPair k a b l) = (λ h. absurd (false≢true h), λ h. cc)
writes-is v (forms.BranchSign k a l) = (λ h. absurd (false≢true h), λ h. cc)
writes-is v (forms.Jump l) = (λ h. absurd (false≢true h), λ h. cc)
writes-is v (forms.Call s) = (λ h. absurd (false≢true h), λ h. cc)
writes-is v (forms.CallRegister a) = (λ h. absurd (false≢true h), λ h. cc)
writes-is v forms.Return = (λ h. absurd (false≢true h), λ h. cc)
writes-is v forms.SystemCall = (λ h. absurd (false≢true h), λ h. cc)

pub jumps-is : (j : ℕ) (form : Form) → (goes_to j form ≡ true) ↔ (jump_of form ≡ Some j)
jumps-is j (forms.BranchPair k a b l) = (λ h. ap (λ z. Some z) (eqb-true l j h), λ h. let e : l ≡ j = cc in ap (λ z. z == j) e ∙ eqb-same j)
jumps-is j (forms.BranchSign k a l) = (λ h. ap (λ z. Some z) (eqb-true l j h), λ h. let e : l ≡ j = cc in ap (λ z. z == j) e ∙ eqb-same j)
jumps-is j (forms.Jump l) = (λ h. ap (λ z. Some z) (eqb-true l j h), λ h. let e : l ≡ j = cc in ap (λ z. z == j) e ∙ eqb-same j)
jumps-is j (forms.Load w a to) = (λ h. absurd (false≢true h), λ h. cc)
jumps-is j (forms.Store w from a) = (λ h. absurd (false≢true h), λ h. cc)
jumps-is j (forms.SetAddress a to) = (λ h. absurd (false≢true h), λ h. cc)
jumps-is j (forms.Move w a b) = (λ h. absurd (false≢true h), λ h. cc)
jumps-is j (forms.SetConstant c b) = (λ h. absurd (false≢true h), λ h. cc)
jumps-is j (forms.GetHiLo a b) = (λ h. absurd (false≢true h), λ h. cc)
jumps-is j (forms.SetHiLo a b) = (λ h. absurd (false≢true h), λ h. cc)
jumps-is j (forms.Calculate k a b c) = (λ h. absurd (false≢true h), λ h. cc)
jumps-is j (forms.CalculateConstant k a b c) = (λ h. absurd (false≢true h), λ h. cc)
jumps-is j (forms.ShiftConstant k a b c) = (λ h. absurd (false≢true h), λ h. cc)
jumps-is j (forms.Multiply k a b) = (λ h. absurd (false≢true h), λ h. cc)
jumps-is j (forms.Call s) = (λ h. absurd (false≢true h), λ h. cc)
jumps-is j (forms.CallRegister a) = (λ h. absurd (false≢true h), λ h. cc)
jumps-is j forms.Return = (λ h. absurd (false≢true h), λ h. cc)
jumps-is j forms.SystemCall = (λ h. absurd (false≢true h), λ h. cc)

kept-is : (candidates : List Bool) (o : Option ℕ) (v : ℕ) → kept candidates o ≡ Some v → (o ≡ Some v) × (slice_index_or candidates v false ≡ true)
kept-is candidates None v h = cc
kept-is candidates (Some w) v h = go (slice_index_or candidates w false) refl h
  where
    go : (b : Bool) → slice_index_or candidates w false ≡ b → (if b then Some w else None) ≡ Some v → (Some w ≡ Some v) × (slice_index_or candidates v false ≡ true)
    go true q e = (e, (let s : w ≡ v = cc in subst (λ z. slice_index_or candidates z false ≡ true) s q))
    go false q e = cc

is-kept : (candidates : List Bool) (o : Option ℕ) (v : ℕ) → o ≡ Some v → slice_index_or candidates v false ≡ true → kept candidates o ≡ Some v
is-kept candidates o v e c = ap (kept candidates) e ∙ ap (λ b. if b then Some v else None) c

-- Ways

module _ (f : AFunction) (candidates : List Bool) (acts : List Act) (same : acts ≡ map (λ a. act_of candidates (decoded a)) f.code) (exact : (v : ℕ) → slice_index_or candidates v false ≡ is_candidate f v) where
  act-at : (i : ℕ) → slice_get acts i ≡ option_map (λ a. act_of candidates (decoded a)) (slice_get f.code i)
  act-at i = ap (λ z. slice_get z i) same ∙ slice_get-map (λ a. act_of candidates (decoded a)) f.code i

  -- where an act stands an instruction does, and the act is of its form
  form-of-act : (i : ℕ) (a : Act) → slice_get acts i ≡ Some a → (a ≡ act_of candidates (form_at f.code i)) × (i < length f.code)
  form-of-act i a e = by (slice_get f.code i) refl
    where
      by : (o : Option Abs) → slice_get f.code i ≡ o → (a ≡ act_of candidates (form_at f.code i)) × (i < length f.code)
      by None q = let none : Some a ≡ None = sym e ∙ (act-at i ∙ ap (option_map (λ a. act_of candidates (decoded a))) q) in absurd (let x : ⊥ = cc in x)
      by (Some b) q =
          let found : Some a ≡ Some (act_of candidates (decoded b)) = sym e ∙ (act-at i ∙ ap (option_map (λ a. act_of candidates (decoded a))) q) in
          let here : a ≡ act_of candidates (decoded b) = cc in
          (here ∙ ap (λ o. act_of candidates (option_and_then decoded o)) (sym q), slice_get_within f.code i b q)

  act-of-form : (i : ℕ) (form : Form) → form_at f.code i ≡ Some form → slice_get acts i ≡ Some (act_of candidates (Some form))
  act-of-form i form e = by (slice_get f.code i) refl
    where
      by : (o : Option Abs) → slice_get f.code i ≡ o → slice_get acts i ≡ Some (act_of candidates (Some form))
      by None q = let none : Some form ≡ None = sym e ∙ ap (option_and_then decoded) q in cc
      by (Some b) q =
          let d : decoded b ≡ Some form = sym (ap (option_and_then decoded) q) ∙ e in
          act-at i ∙ (ap (option_map (λ a. act_of candidates (decoded a))) q ∙ ap (λ o. Some (act_of candidates o)) d)

  read-of-act : (v : ℕ) (o : Option Form) → (act_of candidates o).read ≡ Some v → (holds_of (reads v) o ≡ true) × (is_candidate f v ≡ true)
  read-of-act v None e = cc
  read-of-act v (Some form) e = let k = kept-is candidates (read_of form) v e in ((reads-is v form).1 k.0, sym (exact v) ∙ k.1)

  next-of-act : (v i j : ℕ) (o : Option Form) → GoesTo (act_of candidates o) i j → holds_of (λ form. (falls form && (j == i + 1)) || goes_to j form) o ≡ true
  next-of-act v i j None (inl g) = absurd (false≢true g.0)
  next-of-act v i j None (inr g) = cc
  next-of-act v i j (Some form) (inl g) = ap (λ b. (b && (j == i + 1)) || goes_to j form) g.0 ∙ ap (λ b. b || goes_to j form) (ap (λ z. z == (i + 1)) g.1 ∙ eqb-same (i + 1))
  next-of-act v i j (Some form) (inr g) = ap (λ b. (falls form && (j == i + 1)) || b) ((jumps-is j form).1 g) ∙ or-true (falls form && (j == i + 1))
    where
      or-true : (b : Bool) → (b || true) ≡ true
      or-true true = refl
      or-true false = refl

  -- what isn't written by an act isn't by its form
  unwritten : (v : ℕ) (o : Option Form) → is_candidate f v ≡ true → (act_of candidates o).write ≢ Some v → holds_of (writes v) o ≡ false
  unwritten v None c ne = refl
  unwritten v (Some form) c ne = by (writes v form) refl
    where
      by : (b : Bool) → writes v form ≡ b → writes v form ≡ false
      by false q = q
      by true q = absurd (ne (is-kept candidates (written_of form) v ((writes-is v form).0 q) (exact v ∙ c)))

  live-candidate : (v i : ℕ) (way : List ℕ) → columns.IsReadAlong acts v i way → is_candidate f v ≡ true
  live-candidate v i [] (a, e, r) = (read-of-act v (form_at f.code i) (subst (λ (z : Act). z.read ≡ Some v) (form-of-act i a e).0 r)).1
  live-candidate v i (j ∷ js) (here, rest) = live-candidate v j js rest

  start-within : (v i : ℕ) (way : List ℕ) → columns.IsReadAlong acts v i way → i < length f.code
  start-within v i [] (a, e, r) = (form-of-act i a e).1
  start-within v i (j ∷ js) ((a, e, ne, g), rest) = (form-of-act i a e).1

  ltb-is : (a b : ℕ) → a < b → nat_lt a b ≡ true
  ltb-is a b h = search (rules, h)

  way-of-acts : (v i : ℕ) (way : List ℕ) → is_candidate f v ≡ true → columns.IsReadAlong acts v i way → IsReadAlong f v i way
  way-of-acts v i [] c (a, e, r) = (read-of-act v (form_at f.code i) (subst (λ (z : Act). z.read ≡ Some v) (form-of-act i a e).0 r)).0
  way-of-acts v i (j ∷ js) c ((a, e, ne, g), rest) =
      let q = (form-of-act i a e).0 in (
        candidate-fills f v i c ∙ unwritten v (form_at f.code i) c (subst (λ (z : Act). z.write ≢ Some v) q ne),
        ap (λ b. b && holds_of (λ form. (falls form && (j == i + 1)) || goes_to j form) (form_at f.code i)) (ltb-is j (length f.code) (start-within v j js rest))
            ∙ next-of-act v i j (form_at f.code i) (subst (λ (z : Act). GoesTo z i j) q g),
        way-of-acts v j js c rest,
      )

  pub live-of-acts : (v i : ℕ) → columns.IsLive acts v i → (is_candidate f v ≡ true) × IsLive f v i
  live-of-acts v i (way, h) = let c = live-candidate v i way h in (c, (way, way-of-acts v i way c h))

  -- and back

  abbrev HasForm : ℕ → (Form → Bool) → Type 0
  HasForm i test = (form : Form) × (form_at f.code i ≡ Some form) × (test form ≡ true)

  has-form : (i : ℕ) (test : Form → Bool) → holds_of test (form_at f.code i) ≡ true → HasForm i test
  has-form i test h = by (form_at f.code i) refl
    where
      by : (o : Option Form) → form_at f.code i ≡ o → HasForm i test
      by None q = absurd (false≢true (sym (ap (holds_of test) q) ∙ h))
      by (Some form) q = (form, q, sym (ap (holds_of test) q) ∙ h)

  goes-on : (i j : ℕ) (form : Form) → ((falls form && (j == i + 1)) || goes_to j form) ≡ true → GoesTo (act_of candidates (Some form)) i j
  goes-on i j form h = by (or_cases (falls form && (j == i + 1)) (goes_to j form) h)
    where
      by : ((falls form && (j == i + 1)) ≡ true) ⊎ (goes_to j form ≡ true) → GoesTo (act_of candidates (Some form)) i j
      by (inl x) = let p = and_parts (falls form) (j == i + 1) x in inl (p.0, eqb-true j (i + 1) p.1)
      by (inr x) = inr ((jumps-is j form).0 x)

  unwritten-back : (v i : ℕ) (form : Form) → form_at f.code i ≡ Some form → is_candidate f v ≡ true → fills_at f v i ≡ false → (act_of candidates (Some form)).write ≢ Some v
  unwritten-back v i form e c h w =
      let k = kept-is candidates (written_of form) v w in
      let written : writes_at f.code v i ≡ true = ap (holds_of (writes v)) e ∙ (writes-is v form).1 k.0 in
      false≢true (sym h ∙ (candidate-fills f v i c ∙ written))

  way-to-acts : (v i : ℕ) (way : List ℕ) → is_candidate f v ≡ true → IsReadAlong f v i way → columns.IsReadAlong acts v i way
  way-to-acts v i [] c r =
      let h = has-form i (reads v) r in
      (act_of candidates (Some h.0), act-of-form i h.0 h.1, is-kept candidates (read_of h.0) v ((reads-is v h.0).0 h.2) (exact v ∙ c))
  way-to-acts v i (j ∷ js) c (w, g, rest) =
      let h = has-form i (λ form. (falls form && (j == i + 1)) || goes_to j form) (and_parts (nat_lt j (length f.code)) _ g).1 in
      ((act_of candidates (Some h.0), act-of-form i h.0 h.1, unwritten-back v i h.0 h.1 c w, goes-on i j h.0 h.2), way-to-acts v j js c rest)

  pub live-to-acts : (v i : ℕ) → (is_candidate f v ≡ true) × IsLive f v i → columns.IsLive acts v i
  live-to-acts v i (c, (way, h)) = (way, way-to-acts v i way c h)
