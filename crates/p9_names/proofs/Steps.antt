-- What the loops over all places cite: their turns and their ends.
use Rattle.std.proofs.Common.{zero, suc, ◌≡◌, ℕ, ◌+◌, ◌<◌, ◌≤◌, Bool, List, [], ◌∷◌, ◌++◌, Option, Some, None, IsSome, IfSome, find, get_or, take, drop, length, refl, sym, ap, subst, ◌∙◌, arith}
use Rattle.std.proofs.lemmas.List.{take_more, take_all}
use Rattle.p9_abs.specs.declared.modules.Symbol.{Symbol}
use Rattle.p9_abs.specs.declared.modules.AModule.{AModule}
use Rattle.p9_abs.specs.declared.modules.Def.{Def}
use Rattle.p9_names.specs.declared.table.LinkFault.{LinkFault}
use Rattle.p9_names.specs.declared.table.LinkFault.TheVariants.{Twice, NoMain, MainType, Unresolved, Disagree, Memory}
use Rattle.p9_names.specs.declared.rules.Rule.{Rule}
use Rattle.p9_names.specs.declared.rules.Rule.TheVariants.{Once, Agreement}
use Rattle.p9_abs.specs.Names.{symbol_at}
use Rattle.p9_names.specs.Linking.{IsKept, IsTable}
use Rattle.p9_names.specs.Passes.{Defining, Comparing, StepFault, conflict_fault, meets, ArePlaces, HoldPlaces, held_at, globals_of, AreLinkable, IsTwice, IsDisagreement}
use Rattle.p9_names.proofs.Listing.{listing, global-places, places-take}
use Rattle.p9_names.proofs.Breaking.{IsListing, first-conflict}
use Rattle.p9_names.proofs.Chosen.{Knows, Held, knows-step, table-all, once-all}
use Rattle.p9_names.proofs.Agreed.{Agrees, Notes, agrees-step, agree-all}

-- the list at an index: what is before, the place there, and what is after
pub split-at : {X : Type 0} (xs : List X) (i : ℕ) (z x : X) → i < length xs → get_or xs i z ≡ x → xs ≡ take i xs ++ x ∷ drop (i + 1) xs
split-at [] i z x lt e = absurd (omega arith)
split-at (y ∷ xs) zero z x lt e = ap (λ z. z ∷ xs) e
split-at (y ∷ xs) (suc i) z x lt e = let n : suc (i + 1) ≡ suc i + 1 = omega arith in ap (λ zs. y ∷ zs) (split-at xs i z x (omega arith) e) ∙ ap (λ k. y ∷ (take i xs ++ x ∷ drop k (y ∷ xs))) n

some-is : {X : Type 0} (o : Option X) (x : X) → o ≡ Some x → IsSome o
some-is {X} o x e = let P : Option X → Type 0 = λ v. IsSome v in subst P (sym e) refl

-- the place at an index is a symbol's
pub place-there : (ms : List AModule) (ds : List Def) (i : ℕ) (z d : Def) → ArePlaces ms ds → i < length ds → get_or ds i z ≡ d → IsSome (symbol_at ms d)
place-there ms [] i z d h lt e = absurd (omega arith)
place-there ms (x ∷ ds) zero z d h lt e = let P : Def → Type 0 = λ v. IsSome (symbol_at ms v) in subst P e h.0
place-there ms (x ∷ ds) (suc i) z d h lt e = place-there ms ds i z d h.1 (omega arith) e

pub seen-places : (ms : List AModule) (places : List Def) (i : ℕ) → AreLinkable ms → places ≡ globals_of ms → ArePlaces ms (take i places)
seen-places ms places i l e = let P : List Def → Type 0 = λ v. ArePlaces ms v in places-take ms i places (subst P (sym e) (global-places ms l))

pub place-at : (ms : List AModule) (places : List Def) (i : ℕ) (z d : Def) → AreLinkable ms → places ≡ globals_of ms → i < length places → get_or places i z ≡ d → IsSome (symbol_at ms d)
place-at ms places i z d l e lt here = let P : List Def → Type 0 = λ v. ArePlaces ms v in place-there ms places i z d (subst P (sym e) (global-places ms l)) lt here

-- the conflict that a look-up found is a step's fault
pub conflict_found : (rule : Rule) (ms : List AModule) (seen : List Def) (d early : Def) (late : Symbol) (name : List ℕ) (fault : LinkFault) → symbol_at ms d ≡ Some late → Some early ≡ find (meets rule ms late) seen → name ≡ late.name → fault ≡ conflict_fault rule name early d → StepFault rule ms seen d fault
conflict_found Once ms seen d early late name fault at h n f =
    let P : LinkFault → Type 0 = λ v. StepFault Once ms seen d v in
    subst P (sym f) (record { late = late; early = early; stands = at; found = sym h; named = sym n; early_module = refl; late_module = refl })
conflict_found Agreement ms seen d early late name fault at h n f =
    let P : LinkFault → Type 0 = λ v. StepFault Agreement ms seen d v in
    subst P (sym f) (record { late = late; early = early; stands = at; found = sym h; named = sym n; early_module = refl; late_module = refl })

-- what a list gives past its end
abbrev pub nowhere : Def
nowhere = record { «module» = 0; symbol = 0 }

-- each held place is a symbol's

pub knows-places : (ms : List AModule) (seen : List Def) (entries : List (List ℕ × Def)) → Knows ms seen entries → HoldPlaces ms entries
knows-places ms seen entries k name = by (held_at entries name) (k.held name)
  where
    by : (o : Option Def) → Held ms seen name o → IfSome o (λ d. IsSome (symbol_at ms d))
    by None h = tt
    by (Some c) h = some-is (symbol_at ms c) h.defined.symbol h.defined.occurs.stands

pub notes-places : (want : Symbol → Bool) (ms : List AModule) (seen : List Def) (entries : List (List ℕ × Def)) → ((name : List ℕ) → Notes want ms seen name (held_at entries name)) → HoldPlaces ms entries
notes-places want ms seen entries k name = by (held_at entries name) (k name)
  where
    by : (o : Option Def) → Notes want ms seen name o → IfSome o (λ d. IsSome (symbol_at ms d))
    by None h = tt
    by (Some c) h = some-is (symbol_at ms c) h.symbol h.occurs.stands

-- a turn of the loop over the places

pub knows-turn : (ms : List AModule) (places : List Def) (i : ℕ) (z d : Def) (old new : List (List ℕ × Def)) → AreLinkable ms → places ≡ globals_of ms → i < length places → get_or places i z ≡ d → Knows ms (take i places) old → Defining ms (take i places) d old new → Knows ms (take (i + 1) places) new
knows-turn ms places i z d old new l e lt here k step =
    let split : places ≡ take i places ++ d ∷ drop (i + 1) places = split-at places i z d lt here in
    let P : List Def → Type 0 = λ v. IsListing ms v in
    let Q : List Def → Type 0 = λ v. Knows ms v new in
    let more : take (i + 1) places ≡ take i places ++ d ∷ [] = take_more places i z lt ∙ ap (λ x. take i places ++ x ∷ []) here in
    subst Q (sym more) (knows-step ms (take i places) (drop (i + 1) places) d step.symbol (subst P (sym e ∙ split) (listing ms l)) step.stands old new k step.clear step.noted)

pub agrees-turn : (ms : List AModule) (places : List Def) (i : ℕ) (z d : Def) (signed sized signed_now sized_now : List (List ℕ × Def)) → AreLinkable ms → places ≡ globals_of ms → i < length places → get_or places i z ≡ d → Agrees ms (take i places) signed sized → Comparing ms (take i places) d signed sized signed_now sized_now → Agrees ms (take (i + 1) places) signed_now sized_now
agrees-turn ms places i z d signed sized signed_now sized_now l e lt here k step =
    let split : places ≡ take i places ++ d ∷ drop (i + 1) places = split-at places i z d lt here in
    let P : List Def → Type 0 = λ v. IsListing ms v in
    let Q : List Def → Type 0 = λ v. Agrees ms v signed_now sized_now in
    let more : take (i + 1) places ≡ take i places ++ d ∷ [] = take_more places i z lt ∙ ap (λ x. take i places ++ x ∷ []) here in
    subst Q (sym more) (agrees-step ms (take i places) (drop (i + 1) places) d step.symbol (subst P (sym e ∙ split) (listing ms l)) step.stands signed sized signed_now sized_now k step.clear step.signed_noted step.sized_noted)

-- a fault at a step is the first conflict

pub twice-turn : (ms : List AModule) (places : List Def) (i : ℕ) (z d : Def) (old : List (List ℕ × Def)) (fault : LinkFault) → AreLinkable ms → places ≡ globals_of ms → i < length places → get_or places i z ≡ d → Knows ms (take i places) old → StepFault Once ms (take i places) d fault → IsTwice ms fault
twice-turn ms places i z d old (Twice name a b) l e lt here k f =
    let split : places ≡ take i places ++ d ∷ drop (i + 1) places = split-at places i z d lt here in
    let P : List Def → Type 0 = λ v. IsListing ms v in
    first-conflict Once ms (take i places) (drop (i + 1) places) d name a b (subst P (sym e ∙ split) (listing ms l)) k.kept f
twice-turn ms places i z d old Memory l e lt here k f = tt
twice-turn ms places i z d old NoMain l e lt here k f = f
twice-turn ms places i z d old (MainType _) l e lt here k f = f
twice-turn ms places i z d old (Unresolved _ _) l e lt here k f = f
twice-turn ms places i z d old (Disagree _ _ _) l e lt here k f = f

pub disagree-turn : (ms : List AModule) (places : List Def) (i : ℕ) (z d : Def) (signed sized : List (List ℕ × Def)) (fault : LinkFault) → AreLinkable ms → places ≡ globals_of ms → i < length places → get_or places i z ≡ d → Agrees ms (take i places) signed sized → StepFault Agreement ms (take i places) d fault → IsDisagreement ms fault
disagree-turn ms places i z d signed sized (Disagree name a b) l e lt here k f =
    let split : places ≡ take i places ++ d ∷ drop (i + 1) places = split-at places i z d lt here in
    let P : List Def → Type 0 = λ v. IsListing ms v in
    first-conflict Agreement ms (take i places) (drop (i + 1) places) d name a b (subst P (sym e ∙ split) (listing ms l)) k.kept f
disagree-turn ms places i z d signed sized Memory l e lt here k f = tt
disagree-turn ms places i z d signed sized NoMain l e lt here k f = f
disagree-turn ms places i z d signed sized (MainType _) l e lt here k f = f
disagree-turn ms places i z d signed sized (Unresolved _ _) l e lt here k f = f
disagree-turn ms places i z d signed sized (Twice _ _ _) l e lt here k f = f

-- the end of the loops

pub knows-end : (ms : List AModule) (places : List Def) (entries : List (List ℕ × Def)) → AreLinkable ms → places ≡ globals_of ms → (n : ℕ) → length places ≤ n → Knows ms (take n places) entries → IsKept Once ms × IsTable ms entries
knows-end ms places entries l e n all_seen k =
    let P : List Def → Type 0 = λ v. Knows ms v entries in
    let all = subst P (take_all n places all_seen ∙ e) k in
    (once-all ms (globals_of ms) (listing ms l) entries all, table-all ms (globals_of ms) (listing ms l) entries all)

pub agrees-end : (ms : List AModule) (places : List Def) (signed sized : List (List ℕ × Def)) → AreLinkable ms → places ≡ globals_of ms → (n : ℕ) → length places ≤ n → Agrees ms (take n places) signed sized → IsKept Agreement ms
agrees-end ms places signed sized l e n all_seen k =
    let P : List Def → Type 0 = λ v. Agrees ms v signed sized in
    agree-all ms (globals_of ms) (listing ms l) signed sized (subst P (take_all n places all_seen ∙ e) k)
