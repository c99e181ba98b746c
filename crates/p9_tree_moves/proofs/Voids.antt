-- A parameter that is the word `void` alone.
use Rattle.std.proofs.Common.{◌≡◌, ℕ, ◌<◌, ◌≤◌, false, List, [], ◌∷◌, length, refl, sym, ap, ◌∙◌, arith}
use Rattle.p9_lang.specs.declared.tree.Kind.{Kind}
use Rattle.p9_lang.specs.declared.tree.Kind.TheVariants as kind
use Rattle.p9_lang.specs.declared.tree.Node.{Node, out-Node}
use Rattle.p9_lang.specs.declared.tree.Spec.{Spec}
use Rattle.p9_lang.specs.declared.tree.SpecWord.{SpecWord}
use Rattle.p9_lang.specs.declared.tree.SpecWord.TheVariants as word
use Rattle.p9_grammar.specs.Trees.{node, Trees, none, more, tree_of, trees_of}
use Rattle.p9_grammar.specs.Grammar.{is_void_word}
use Rattle.p9_grammar.specs.Machine.{only_void}
use Rattle.p9_grammar.proofs.Nodes.{tree_of-out}
use Rattle.p9_tree_moves.specs.Marks.{is_lone_void}

lone : (words : List SpecWord) → is_void_word words 0 ≡ is_lone_void words
lone [] = refl
lone (word.Void ∷ []) = refl
lone (_ ∷ []) = refl
lone (word.Void ∷ v ∷ ws) = refl
lone (_ ∷ v ∷ ws) = refl

void_by : (n : Node) (k : Kind) → (out-Node n).kind ≡ k → only_void (tree_of n) ≡ only_void (node k (out-Node n).token (trees_of (out-Node n).parts))
void_by n k e = ap only_void (tree_of-out n) ∙ ap (λ j. only_void (node j (out-Node n).token (trees_of (out-Node n).parts))) e

alone : (s : Spec) (parts : List Node) → length parts < 1 → only_void (node (kind.Param s) 0 (trees_of parts)) ≡ is_lone_void s.words
alone s [] h = lone s.words
alone s (m ∷ ms) h = absurd (omega arith)

declared : (s : Spec) (parts : List Node) → 1 ≤ length parts → only_void (node (kind.Param s) 0 (trees_of parts)) ≡ false
declared s [] h = absurd (omega arith)
declared s (m ∷ ms) h = refl

at_any : (s : Spec) (at : ℕ) (ns : Trees) → only_void (node (kind.Param s) at ns) ≡ only_void (node (kind.Param s) 0 ns)
at_any s at none = refl
at_any s at (more n ns) = refl

pub void_alone : (n : Node) (s : Spec) (parts : List Node) → (out-Node n).kind ≡ kind.Param s → parts ≡ (out-Node n).parts → length parts < 1 →
    only_void (tree_of n) ≡ is_lone_void s.words
void_alone n s parts e f h =
    void_by n (kind.Param s) e ∙ at_any s (out-Node n).token (trees_of (out-Node n).parts)
    ∙ ap (λ ps. only_void (node (kind.Param s) 0 (trees_of ps))) (sym f) ∙ alone s parts h

pub void_declared : (n : Node) (s : Spec) (parts : List Node) → (out-Node n).kind ≡ kind.Param s → parts ≡ (out-Node n).parts → 1 ≤ length parts →
    only_void (tree_of n) ≡ false
void_declared n s parts e f h =
    void_by n (kind.Param s) e ∙ at_any s (out-Node n).token (trees_of (out-Node n).parts)
    ∙ ap (λ ps. only_void (node (kind.Param s) 0 (trees_of ps))) (sym f) ∙ declared s parts h

other_kind : (k : Kind) (at : ℕ) (ns : Trees) → ((s : Spec) → k ≡ kind.Param s → ⊥) → only_void (node k at ns) ≡ false
other_kind (kind.Param s) at ns h = absurd (h s refl)
other_kind _ at ns h = refl

pub void_other : (n : Node) → ((s : Spec) → (out-Node n).kind ≡ kind.Param s → ⊥) → only_void (tree_of n) ≡ false
void_other n h = ap only_void (tree_of-out n) ∙ other_kind (out-Node n).kind (out-Node n).token (trees_of (out-Node n).parts) h
