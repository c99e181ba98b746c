-- Values that are there: what is converted is used.
use Rattle.std.proofs.Common.{◌≡◌, Bool, true, false, if◌then◌else◌, Result, Ok, Err, refl, sym, subst}
use Rattle.p9_lang.specs.Types.{TypeTree}
use Rattle.p9_lang.specs.Conversions.{is_integer, Conversion, Same, Integer, Null, Inner, Ambiguous, No}
use Rattle.p9_cmean.specs.declared.Cause.{Cause}
use Rattle.p9_cmean.specs.declared.Place.{Place}
use Rattle.p9_cmean.specs.Cells.{Value, Word, Address, Missing, State}
use Rattle.p9_cmean.specs.Plays.{Play, Done, Wrong, NoMeaning, Exit, Cut, Turn, Ask, Moved, bind}
use Rattle.p9_cmean.specs.Places.{used, done_at}
use Rattle.p9_cmean.specs.Access.{moved_inside}
use Rattle.p9_cmean.specs.Expressions.{narrow, by_conversion, convert_at}
use Rattle.p9_tree.specs.Same as plays
use Rattle.p9_lower.specs.Keeping.{Stands}
use Rattle.p9_lower.proofs.Widths.{narrow_gives}
use Rattle.p9_lower.proofs.Assigning.{IsThere, inside_is_there}

-- the same value, which is there
abbrev pub Held : Value → Value → Type 0
Held v w = (v ≡ w) × IsThere v

-- all that a play comes to is there
abbrev pub Gives : Play Value → Type 0
Gives (Done x s) = IsThere x
Gives (Wrong why place s) = Unit {0}
Gives (NoMeaning place s) = Unit {0}
Gives (Exit text s) = Unit {0}
Gives (Cut s) = Unit {0}
Gives (Turn s p) = Gives p
Gives (Ask call s k) = (v : Value) (t : State) → Gives (k v t)
Gives (Moved bytes p) = Gives p

bind_gives : {A : Type 0} (p : Play A) (k : A → State → Play Value) → ((x : A) (s : State) → Gives (k x s)) → Gives (bind p k)
bind_gives (Done x s) k h = h x s
bind_gives (Wrong why place s) k h = tt
bind_gives (NoMeaning place s) k h = tt
bind_gives (Exit text s) k h = tt
bind_gives (Cut s) k h = tt
bind_gives (Turn s p) k h = bind_gives p k h
bind_gives (Ask call s r) k h = λ v t. bind_gives (r v t) k h
bind_gives (Moved bytes p) k h = bind_gives p k h

stands_held : (v w : Value) → Stands v w → IsThere v → Held v w
stands_held (Word n) w h i = (h, i)
stands_held (Address p) w h i = (h, i)
stands_held (Missing c) w h i = absurd i

pub held_same : (p q : Play Value) → Gives p → plays.Same Stands p q → plays.Same Held p q
held_same (Done x s) q g h = (h.0, h.1, stands_held x h.0 h.2 g)
held_same (Wrong why place s) q g h = tt
held_same (NoMeaning place s) q g h = tt
held_same (Exit text s) q g h = h
held_same (Cut s) q g h = h
held_same (Turn s p) q g h = (h.0, h.1, held_same p h.0 g h.2)
held_same (Ask call s k) q g h = (h.0, h.1, h.2, h.3, λ v w t a. held_same (k v t) (h.1 w t) (g v t) (h.4 v w t a))
held_same (Moved bytes p) q g h = (h.0, h.1, held_same p h.0 g h.2)

result_gives : (place : Place) (s : State) (r : Result Value Cause) → ((x : Value) → r ≡ Ok x → IsThere x) → Gives (done_at place s r)
result_gives place s (Ok x) h = h x refl
result_gives place s (Err why) h = tt

narrow_is_there : (type : TypeTree) (v x : Value) → narrow type v ≡ Ok x → IsThere x
narrow_is_there type v x e = let n = narrow_gives type v x e in subst IsThere (sym n.2) tt

kept_gives : (place : Place) (to : TypeTree) (v : Value) (s : State) (integer : Bool) → IsThere v → Gives (if integer then done_at place s (narrow to v) else Done v s)
kept_gives place to v s true i = result_gives place s (narrow to v) (narrow_is_there to v)
kept_gives place to v s false i = i

conversion_gives : (conversion : Conversion) (place : Place) (to : TypeTree) (v : Value) (s : State) → IsThere v → Gives (by_conversion conversion place to v s)
conversion_gives Same place to v s i = kept_gives place to v s (is_integer to) i
conversion_gives Integer place to v s i = result_gives place s (narrow to v) (narrow_is_there to v)
conversion_gives Null place to v s i = tt
conversion_gives (Inner offset) place to v s i = result_gives place s (moved_inside s.objects offset v) (inside_is_there s.objects offset v)
conversion_gives Ambiguous place to v s i = tt
conversion_gives No place to v s i = tt

convert_gives : (conversion : Conversion) (place : Place) (to : TypeTree) (v : Value) (s : State) → Gives (convert_at conversion place to v s)
convert_gives conversion place to (Word n) s = conversion_gives conversion place to (Word n) s tt
convert_gives conversion place to (Address p) s = conversion_gives conversion place to (Address p) s tt
convert_gives conversion place to (Missing c) s = tt

pub converted_gives : (conversion : Conversion) (place : Place) (to : TypeTree) (p : Play Value) → Gives (bind p (λ v t. convert_at conversion place to v t))
converted_gives conversion place to p = bind_gives p (λ v t. convert_at conversion place to v t) (λ v t. convert_gives conversion place to v t)

-- what is held is used
pub held_used : {A : Type 0} (R : A → A → Type 0) (v w : Value) (s : State) (p : Play A) (k : Value → Play A) → Held v w → plays.Same R p (k v) → plays.Same R p (used w s k)
held_used R (Word n) w s p k h g = subst (λ x. plays.Same R p (used x s k)) h.0 g
held_used R (Address q) w s p k h g = subst (λ x. plays.Same R p (used x s k)) h.0 g
held_used R (Missing c) w s p k h g = absurd h.1
