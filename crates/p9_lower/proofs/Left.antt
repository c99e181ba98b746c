-- A left operand that is used before the right one is evaluated.
use Rattle.std.proofs.Common.{◌≡◌, Bool, true, false, if◌then◌else◌, refl, sym}
use Rattle.p9_lang.specs.Types.{TypeTree}
use Rattle.p9_lang.specs.Conversions.{is_pointer}
use Rattle.p9_cmean.specs.declared.Place.{Place}
use Rattle.p9_cmean.specs.Cells.{Value, Word, Address, Missing, State}
use Rattle.p9_cmean.specs.Plays.{Play, Done, bind}
use Rattle.p9_cmean.specs.Places.{used}
use Rattle.p9_cmean.specs.Expressions.{promoted, left_operand}
use Rattle.p9_tree.specs.Same.{Same}
use Rattle.p9_tree.proofs.Same.{same_bind}
use Rattle.p9_lower.specs.Keeping.{Stands}
use Rattle.p9_lower.proofs.Plays.{stands_refl, bind_done, along, used_free}

abbrev pub IsWord : Value → Type 0
IsWord (Word n) = Unit {0}
IsWord (Address p) = ⊥
IsWord (Missing c) = ⊥

abbrev pub StandsWord : Value → Value → Type 0
StandsWord v w = Stands v w × IsWord v

used_by : (b : Bool) (place : Place) (v w : Value) (s : State) → Stands v w
    → Same Stands (if b then used v s (λ x. Done x s) else promoted place v s) (Done w s)
used_by true place v w s h = used_free Stands v w s (λ x. Done x s) (Done w s) h (w, refl, stands_refl w)
used_by false place (Word n) w s h = (w, refl, h)
used_by false place (Address p) w s h = tt
used_by false place (Missing c) w s h = tt

word_by : (b : Bool) (place : Place) (v w : Value) (s : State) → b ≡ false → Stands v w
    → Same StandsWord (if b then used v s (λ x. Done x s) else promoted place v s) (Done w s)
word_by true place v w s e h = cc
word_by false place (Word n) w s e h = (w, refl, (h, tt))
word_by false place (Address p) w s e h = tt
word_by false place (Missing c) w s e h = tt

pub left_same : (place : Place) (type : TypeTree) (p q : Play Value) → Same Stands p q → Same Stands (left_operand place type p) q
left_same place type p q h =
    along Stands (left_operand place type p) q (bind q (λ w s. Done w s)) (sym (bind_done q))
    (same_bind Stands Stands p q _ _ h (λ v w s g. used_by (is_pointer type) place v w s g))

-- one that is no pointer is a number
pub left_word : (place : Place) (type : TypeTree) (p q : Play Value) → is_pointer type ≡ false → Same Stands p q → Same StandsWord (left_operand place type p) q
left_word place type p q e h =
    along StandsWord (left_operand place type p) q (bind q (λ w s. Done w s)) (sym (bind_done q))
    (same_bind Stands StandsWord p q _ _ h (λ v w s g. word_by (is_pointer type) place v w s e g))
