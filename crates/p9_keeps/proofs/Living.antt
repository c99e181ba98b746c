-- What liveness, regions and homes give: one home along flow, no home for two automatics at a point,
-- and that what has a home is accessed whole, by moves of its size.
use Rattle.std.proofs.Common.{ℕ, zero, suc, ◌==◌, ◌&&◌, ◌||◌, ◌≡◌, ◌≢◌, inl, inr, ◌≤◌, ◌<◌, nat_le, Bool, true, false, not, Option, Some, None, option_and_then, refl, sym, ap, ◌∙◌, subst, if◌then◌else◌, List, [], ◌∷◌, length, slice_get, slice_index, IfSome, All}
use Rattle.std.proofs.lemmas.Bool.{false≢true, and_parts, and_from, or_right, eqb-true, false_from_ne_true}
use Rattle.std.proofs.lemmas.Option.{none-some, same_Some, slice_get_within, get_or_from_slice_get}
use Rattle.p9_abs.specs.declared.instructions.Abs.{Abs}
use Rattle.p9_abs.specs.declared.instructions.AFunction.{AFunction}
use Rattle.p9_abs.specs.declared.regions.Region.{Region}
use Rattle.p9_abs.specs.declared.forms.Location.{Location}
use Rattle.p9_abs.specs.declared.forms.Location.TheVariants.{Static, Argument, Frame, Based, Automatic}
use Rattle.p9_abs.specs.declared.forms.Width.{Width}
use Rattle.p9_abs.specs.declared.forms.Form.{Form}
use Rattle.p9_abs.specs.declared.forms.Form.TheVariants as forms
use Rattle.p9_abs.specs.Forms.{decoded}
use Rattle.p9_abs.specs.Steps.{bytes_of}
use Rattle.p9_abs.specs.OneCall.{size_at}
use Rattle.p9_abs.specs.Automatics.{form_at, holds_of, flows, call_at, reached, is_automatic, is_whole, keeps_whole, keeps_whole_at, keep_whole_below, is_small_whole, is_candidate, is_variable, reads, writes, reads_at, writes_at, fills_at, IsReadAlong, IsLive}
use Rattle.p9_abs.specs.Regions.{IsPoint, Leads, AreJoined, IsRegion, AreRegions, IsHome, AreHomes, has, home_at}
use Rattle.p9_abs.proofs.Candidates.{keep-at, candidate-fills}
use Rattle.p9_homes.proofs.Finding.{has-contains, contains-has, home-some}

-- Candidates are variables

keep-fewer : (code : List Abs) (v size : ℕ) (asked : ℕ → Bool) (m : ℕ) → keep_whole_below code v size (λ i. true) m ≡ true → keep_whole_below code v size asked m ≡ true
keep-fewer code v size asked zero h = refl
keep-fewer code v size asked (suc m) h =
    let p = and_parts (keeps_whole_at code v size m) (keep_whole_below code v size (λ i. true) m) h in
    and_from (not (asked m) || keeps_whole_at code v size m) (keep_whole_below code v size asked m)
    (or_right (not (asked m)) (keeps_whole_at code v size m) p.0) (keep-fewer code v size asked m p.1)

small-fewer : (code : List Abs) (v : ℕ) (o : Option ℕ) (asked : ℕ → Bool) → is_small_whole code v o (λ i. true) ≡ true → is_small_whole code v o asked ≡ true
small-fewer code v None asked h = h
small-fewer code v (Some size) asked h =
    let p = and_parts (nat_le size 4) (keep_whole_below code v size (λ i. true) (length code)) h in
    and_from (nat_le size 4) (keep_whole_below code v size asked (length code)) p.0 (keep-fewer code v size asked (length code) p.1)

pub candidate-variable : (f : AFunction) (v : ℕ) → is_candidate f v ≡ true → is_variable f v ≡ true
candidate-variable f v h = small-fewer f.code v (slice_get f.autos v) (reached f.code) h

-- Sizes

sized : (code : List Abs) (v : ℕ) (sizes : List ℕ) (asked : ℕ → Bool) → is_small_whole code v (slice_get sizes v) asked ≡ true → slice_get sizes v ≡ Some (slice_index sizes v)
sized code v sizes asked h = by (slice_get sizes v) refl h
  where
    by : (o : Option ℕ) → slice_get sizes v ≡ o → is_small_whole code v o asked ≡ true → slice_get sizes v ≡ Some (slice_index sizes v)
    by None e g = absurd (false≢true g)
    by (Some n) e g = e ∙ ap (λ z. Some z) (sym (get_or_from_slice_get sizes v n 0 e))

pub variable-size : (f : AFunction) (v : ℕ) → is_variable f v ≡ true → slice_get f.autos v ≡ Some (size_at f v)
variable-size f v h = sized f.code v f.autos (reached f.code) h

form-within : (code : List Abs) (i : ℕ) (form : Form) → form_at code i ≡ Some form → i < length code
form-within code i form e = by (slice_get code i) refl
  where
    by : (o : Option Abs) → slice_get code i ≡ o → i < length code
    by None d = absurd (none-some form (sym (ap (option_and_then decoded) d) ∙ e))
    by (Some a) d = slice_get_within code i a d

not-not : (b : Bool) → not (not b) ≡ true → b ≡ true
not-not true h = refl
not-not false h = absurd (false≢true h)

whole-by : (code : List Abs) (v : ℕ) (sizes : List ℕ) (asked : ℕ → Bool) (i : ℕ) (form : Form) → is_small_whole code v (slice_get sizes v) asked ≡ true → asked i ≡ true →
    form_at code i ≡ Some form → keeps_whole v (slice_index sizes v) form ≡ true
whole-by code v sizes asked i form h a e =
    let small : is_small_whole code v (Some (slice_index sizes v)) asked ≡ true = subst (λ o. is_small_whole code v o asked ≡ true) (sized code v sizes asked h) h in
    let below = (and_parts (nat_le (slice_index sizes v) 4) (keep_whole_below code v (slice_index sizes v) asked (length code)) small).1 in
    let at : keeps_whole_at code v (slice_index sizes v) i ≡ true = keep-at code v (slice_index sizes v) asked (length code) i below (form-within code i form e) a in
    not-not (keeps_whole v (slice_index sizes v) form) (sym (ap (λ o. not (holds_of (λ g. not (keeps_whole v (slice_index sizes v) g)) o)) e) ∙ at)

-- where it can be reached, an instruction spares a variable
pub variable-whole : (f : AFunction) (v i : ℕ) (form : Form) → is_variable f v ≡ true → reached f.code i ≡ true → form_at f.code i ≡ Some form → keeps_whole v (size_at f v) form ≡ true
variable-whole f v i form h r e = whole-by f.code v f.autos (reached f.code) i form h r e

-- each instruction spares a candidate
pub candidate-whole : (f : AFunction) (v i : ℕ) (form : Form) → is_candidate f v ≡ true → form_at f.code i ≡ Some form → keeps_whole v (size_at f v) form ≡ true
candidate-whole f v i form h e = whole-by f.code v f.autos (λ k. true) i form h refl e

-- Liveness

reads-only : (v : ℕ) (form : Form) → reads v form ≡ true → writes v form ≡ false
reads-only v (forms.Load w a b) h = refl
reads-only v (forms.Store w a b) h = absurd (false≢true h)
reads-only v _ h = absurd (false≢true h)

reads-unwritten : (v : ℕ) (o : Option Form) → holds_of (reads v) o ≡ true → holds_of (writes v) o ≡ false
reads-unwritten v None h = refl
reads-unwritten v (Some form) h = reads-only v form h

-- a candidate is not written where it is live
pub live-unwritten : (f : AFunction) (v i : ℕ) → is_candidate f v ≡ true → IsLive f v i → writes_at f.code v i ≡ false
live-unwritten f v i c ([], h) = reads-unwritten v (form_at f.code i) h
live-unwritten f v i c (j ∷ js, h) = sym (candidate-fills f v i c) ∙ h.0

-- What counts at an instruction: a variable, and of candidates those that are live

pub record Matters (f : AFunction) (v i : ℕ) : Type 0 where
  pub variable : is_variable f v ≡ true
  pub live : is_candidate f v ≡ true → IsLive f v i

pub matters-back : (f : AFunction) (v i j : ℕ) → Matters f v j → flows f.code i j ≡ true → fills_at f v i ≡ false → Matters f v i
matters-back f v i j m flow unfilled = record { variable = m.variable; live = λ c. (let l = m.live c in (j ∷ l.0, (unfilled, flow, l.1))) }

pub matters-read : (f : AFunction) (v i : ℕ) → is_variable f v ≡ true → reads_at f.code v i ≡ true → Matters f v i
matters-read f v i h r = record { variable = h; live = λ c. ([], r) }

-- Homes

module _ (f : AFunction) (rs : List Region) (homes : List (Option ℕ)) (rg : AreRegions f rs) (hm : AreHomes rs homes) where
  region-at : (j : ℕ) (r : Region) → slice_get rs j ≡ Some r → IsRegion f r
  region-at j r e = subst (IsRegion f) (get_or_from_slice_get rs j r r e) (rg.each j r (slice_get_within rs j r e))

  pub homed-candidate : (v i h : ℕ) → home_at rs homes v i ≡ Some h → is_candidate f v ≡ true
  homed-candidate v i h e = let w = home-some rs homes v i h e in ap (is_candidate f) (sym w.4) ∙ (region-at w.0 w.1 w.2).candidate

  pub home-range : (v i h : ℕ) → home_at rs homes v i ≡ Some h → (9 ≤ h) × (h ≤ 20)
  home-range v i h e =
      let w = home-some rs homes v i h e in
      subst (λ o. IfSome o IsHome) (get_or_from_slice_get homes w.0 (Some h) None w.3) (hm.range w.0 None (slice_get_within homes w.0 (Some h) w.3))

  pub home-apart : (v w i h : ℕ) → v ≢ w → home_at rs homes v i ≡ Some h → home_at rs homes w i ≢ Some h
  home-apart v w i h ne e d =
      let p = home-some rs homes v i h e in
      let q = home-some rs homes w i h d in
      hm.apart p.0 q.0 h p.1 q.1
      (λ z. ne (sym p.4 ∙ (ap (λ (r : Region). r.auto) (same_Some p.1 q.1 (sym p.2 ∙ (ap (slice_get rs) z ∙ q.2))) ∙ q.4)))
      p.2 q.2 (i, p.5, q.5) p.3 q.3

  home-point : (v i h : ℕ) → home_at rs homes v i ≡ Some h → IsPoint f v i
  home-point v i h e =
      let w = home-some rs homes v i h e in
      let r : Region = w.1 in
      let c = w.5 in
      let ps : All (IsPoint f r.auto) r.points = (region-at w.0 w.1 w.2).points in
      subst (λ u. IsPoint f u i) w.4 (subst (IsPoint f r.auto) c.2 (ps c.0 i c.1))

-- One home along flow

both-same : (b c : Bool) → (b ≡ true → c ≡ true) → (c ≡ true → b ≡ true) → b ≡ c
both-same true c g h = sym (g refl)
both-same false true g h = h refl
both-same false false g h = refl

abbrev Each : AFunction → List Region → Type 0
Each f rs = (k : ℕ) (r : Region) → slice_get rs k ≡ Some r → IsRegion f r

both-in : (f : AFunction) (r : Region) (v i j : ℕ) → IsRegion f r → Leads f v i j → ((r.auto == v) && has i r.points) ≡ ((r.auto == v) && has j r.points)
both-in f r v i j w lead = by (r.auto == v) refl
  where
    on : (a b : ℕ) → r.auto ≡ v → AreJoined f v a b → has a r.points ≡ true → has b r.points ≡ true
    on a b e way h = contains-has b r.points (w.whole a b (has-contains a r.points h) (subst (λ u. AreJoined f u a b) (sym e) way))

    by : (t : Bool) → (r.auto == v) ≡ t → (t && has i r.points) ≡ (t && has j r.points)
    by true e = let q = eqb-true r.auto v e in both-same (has i r.points) (has j r.points) (on i j q (j ∷ [], (inl lead, refl))) (on j i q (i ∷ [], (inr lead, refl)))
    by false e = refl

same-home : (f : AFunction) (rs : List Region) (homes : List (Option ℕ)) (v i j : ℕ) → Each f rs → Leads f v i j → home_at rs homes v i ≡ home_at rs homes v j
same-home f [] homes v i j each h = refl
same-home f (r ∷ rs) [] v i j each h = refl
same-home f (r ∷ rs) (o ∷ os) v i j each h =
    ap (λ t. if t then o else home_at rs os v i) (both-in f r v i j (each 0 r refl) h)
    ∙ ap (λ t. if (r.auto == v) && has j r.points then o else t) (same-home f rs os v i j (λ k z e. each (suc k) z e) h)

module _ (f : AFunction) (rs : List Region) (homes : List (Option ℕ)) (rg : AreRegions f rs) (hm : AreHomes rs homes) where
  no-home : (v i : ℕ) → is_candidate f v ≡ false → home_at rs homes v i ≡ None
  no-home v i c = by (home_at rs homes v i) refl
    where
      by : (o : Option ℕ) → home_at rs homes v i ≡ o → home_at rs homes v i ≡ None
      by None e = e
      by (Some h) e = absurd (false≢true (sym c ∙ homed-candidate f rs homes rg hm v i h e))

  -- what counts behind an instruction that is no call has one home before and behind it
  pub home-along : (v i j : ℕ) → Matters f v j → flows f.code i j ≡ true → call_at f.code i ≡ false → home_at rs homes v i ≡ home_at rs homes v j
  home-along v i j m flow call = by (is_candidate f v) refl
    where
      point : is_candidate f v ≡ true → (b : Bool) → fills_at f v i ≡ b → IsPoint f v i
      point c true e = inr (sym (candidate-fills f v i c) ∙ e)
      point c false e = inl ((matters-back f v i j m flow e).live c)

      by : (b : Bool) → is_candidate f v ≡ b → home_at rs homes v i ≡ home_at rs homes v j
      by true c = same-home f rs homes v i j (region-at f rs homes rg hm) (point c (fills_at f v i) refl, call, flow, m.live c)
      by false c = no-home v i c ∙ sym (no-home v j c)

  -- a variable without a candidate's home, at another point
  pub memory-home : (v i : ℕ) → is_variable f v ≡ false → home_at rs homes v i ≡ None
  memory-home v i h = no-home v i (false_from_ne_true (is_candidate f v) (λ c. false≢true (sym h ∙ candidate-variable f v c)))

  -- Widths

  abbrev HasWidth : ℕ → Type 0
  HasWidth v = (w : Width) × (bytes_of w ≡ size_at f v)

  located : (v : ℕ) (w : Width) (l : Location) → is_automatic v l ≡ true → is_whole v (size_at f v) w l ≡ true → HasWidth v
  located v w (Automatic u o) h k =
      let q : (o == 0) && (bytes_of w == size_at f v) ≡ true = sym (ap (λ b. not b || ((o == 0) && (bytes_of w == size_at f v))) h) ∙ k in
      (w, eqb-true (bytes_of w) (size_at f v) (and_parts (o == 0) _ q).1)
  located v w (Static s o) h k = absurd (false≢true h)
  located v w (Argument o) h k = absurd (false≢true h)
  located v w (Frame o) h k = absurd (false≢true h)
  located v w (Based r o) h k = absurd (false≢true h)

  read-width : (v : ℕ) (form : Form) → reads v form ≡ true → keeps_whole v (size_at f v) form ≡ true → HasWidth v
  read-width v (forms.Load w a b) h k = located v w a h k
  read-width v _ h k = absurd (false≢true h)

  write-width : (v : ℕ) (form : Form) → writes v form ≡ true → keeps_whole v (size_at f v) form ≡ true → HasWidth v
  write-width v (forms.Store w a b) h k = located v w b h k
  write-width v _ h k = absurd (false≢true h)

  at-form : (v i : ℕ) (test : Form → Bool) → is_candidate f v ≡ true → ((form : Form) → test form ≡ true → keeps_whole v (size_at f v) form ≡ true → HasWidth v) →
      holds_of test (form_at f.code i) ≡ true → HasWidth v
  at-form v i test c on h = by (form_at f.code i) refl h
    where
      by : (o : Option Form) → form_at f.code i ≡ o → holds_of test o ≡ true → HasWidth v
      by None e t = absurd (false≢true t)
      by (Some form) e t = on form t (candidate-whole f v i form c e)

  way-width : (v i : ℕ) (way : List ℕ) → is_candidate f v ≡ true → IsReadAlong f v i way → HasWidth v
  way-width v i [] c h = at-form v i (reads v) c (read-width v) h
  way-width v i (j ∷ js) c h = way-width v j js c h.2

  -- what has a home is of the size of a move
  pub home-width : (v i h : ℕ) → home_at rs homes v i ≡ Some h → HasWidth v
  home-width v i h e = by (home-point f rs homes rg hm v i h e)
    where
      c : is_candidate f v ≡ true
      c = homed-candidate f rs homes rg hm v i h e

      by : IsPoint f v i → HasWidth v
      by (inl live) = way-width v i live.0 c live.1
      by (inr written) = at-form v i (writes v) c (write-width v) written
