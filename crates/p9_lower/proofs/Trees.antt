-- What the trees of operators do, as plays of their operands' values.
use Rattle.std.proofs.Common.{◌≡◌, ℕ, ◌==◌, Bool, true, false, if◌then◌else◌, Option, Some, None, option_map, Ok, refl, sym, ap, ◌∙◌}
use Rattle.p9_base.specs.Words.{word_sum}
use Rattle.p9_cmean.specs.Cells.{Pointer, Value, Word, Address, Missing, State}
use Rattle.p9_cmean.specs.Plays.{Play, Done, bind}
use Rattle.p9_cmean.specs.Access.{with_offset}
use Rattle.p9_cmean.proofs.Plays.{bind_assoc}
use Rattle.p9_tree.specs.declared.tree.BinOp.{BinOp}
use Rattle.p9_tree.specs.declared.tree.BinOp.TheVariants as bin
use Rattle.p9_tree.specs.Operations.{of_two}
use Rattle.p9_tree.specs.Trees.{Tree, Const, Addr, Bin}
use Rattle.p9_tree.specs.Meaning.{Environment, evaluate, operate, pointer_or_none}
use Rattle.p9_lower.specs.Operators.{moved_tree, scaled_tree, forward_tree, divided_tree}
use Rattle.p9_lower.proofs.Plays.{bind_done}

-- one operation on two values that are there
pub operated : (op : BinOp) (s : State) (v w x : Value) → of_two op s.objects v w ≡ Ok x → operate op v w s ≡ Done x s
operated op s (Word m) (Word n) x e = ap (λ r. Rattle.p9_cmean.specs.Places.done_at Rattle.p9_tree.specs.Meaning.nowhere s r) e
operated op s (Word m) (Address q) x e = ap (λ r. Rattle.p9_cmean.specs.Places.done_at Rattle.p9_tree.specs.Meaning.nowhere s r) e
operated op s (Word m) (Missing c) x e = cc
operated op s (Address p) (Word n) x e = ap (λ r. Rattle.p9_cmean.specs.Places.done_at Rattle.p9_tree.specs.Meaning.nowhere s r) e
operated op s (Address p) (Address q) x e = ap (λ r. Rattle.p9_cmean.specs.Places.done_at Rattle.p9_tree.specs.Meaning.nowhere s r) e
operated op s (Address p) (Missing c) x e = cc
operated op s (Missing c) w x e = cc

-- MOVED ADDRESSES

abbrev pub SymbolsMove : Environment → Type 0
SymbolsMove env = (k offset bytes : ℕ)
    → env.symbol k (word_sum offset bytes) ≡ option_map (with_offset (λ start. word_sum start bytes)) (env.symbol k offset)

moved_pointer : (p : Option Pointer) (n : ℕ) (s : State)
    → pointer_or_none (option_map (with_offset (λ start. word_sum start n)) p) s ≡ bind (pointer_or_none p s) (λ a t. operate bin.Add a (Word n) t)
moved_pointer (Some p) n s = refl
moved_pointer None n s = refl

pub moved_is : (env : Environment) → SymbolsMove env → (a b : Tree) (s : State) → evaluate env (moved_tree a b) s ≡ evaluate env (Bin bin.Add a b) s
moved_is env h (Addr k o) (Const n) s = ap (λ p. pointer_or_none p s) (h k o n) ∙ moved_pointer (env.symbol k o) n s
moved_is env h a b s = refl

pub scaled_is : (env : Environment) (size : ℕ) (t : Tree) (s : State) → evaluate env (scaled_tree size t) s ≡ bind (evaluate env t s) (λ v u. operate bin.Mul v (Word size) u)
scaled_is env size (Const n) s = refl
scaled_is env size t s = refl

-- the bytes of a number of elements
abbrev pub elements_in : ℕ → Value → State → Play Value
elements_in size v s = if size == 1 then Done v s else operate bin.Mul v (Word size) s

forward_by : (b : Bool) (env : Environment) (size : ℕ) (t : Tree) (s : State)
    → evaluate env (if b then t else scaled_tree size t) s ≡ bind (evaluate env t s) (λ v u. if b then Done v u else operate bin.Mul v (Word size) u)
forward_by true env size t s = sym (bind_done (evaluate env t s))
forward_by false env size t s = scaled_is env size t s

pub forward_is : (env : Environment) (size : ℕ) (t : Tree) (s : State) → evaluate env (forward_tree size t) s ≡ bind (evaluate env t s) (elements_in size)
forward_is env size t s = forward_by (size == 1) env size t s

-- the elements in a number of bytes
abbrev pub divided_in : ℕ → Value → State → Play Value
divided_in size v s = if size == 1 then Done v s else operate bin.Div v (Word size) s

divided_by : (b : Bool) (env : Environment) (size : ℕ) (t : Tree) (s : State)
    → evaluate env (if b then t else Bin bin.Div t (Const size)) s ≡ bind (evaluate env t s) (λ v u. if b then Done v u else operate bin.Div v (Word size) u)
divided_by true env size t s = sym (bind_done (evaluate env t s))
divided_by false env size t s = refl

pub divided_is : (env : Environment) (size : ℕ) (t : Tree) (s : State) → evaluate env (divided_tree size t) s ≡ bind (evaluate env t s) (divided_in size)
divided_is env size t s = divided_by (size == 1) env size t s

-- TWO OPERANDS, of which the second is turned into bytes

pub second_scaled : (env : Environment) (op : BinOp) (a b b' : Tree) (k : Value → State → Play Value) (s : State)
    → ((t : State) → evaluate env b' t ≡ bind (evaluate env b t) k)
    → evaluate env (Bin op a b') s ≡ bind (evaluate env a s) (λ v t. bind (evaluate env b t) (λ w u. bind (k w u) (λ m x. operate op v m x)))
second_scaled env op a b b' k s h =
    ap (λ (g : Value → State → Play Value). bind (evaluate env a s) g)
    (λ i v t. (ap (λ p. bind p (λ m x. operate op v m x)) (h t) ∙ bind_assoc (evaluate env b t) k (λ m x. operate op v m x)) i)
