-- Tags with a name, and braces that hold something.
use Rattle.std.proofs.Common.{◌≡◌, ℕ, zero, suc, Bool, List, [], ◌∷◌, ◌++◌, Some, refl}
use Rattle.p9_lang.specs.declared.tree.SpecWord.{SpecWord}
use Rattle.p9_lang.specs.declared.tree.SpecWord.TheVariants as word
use Rattle.p9_grammar.specs.declared.terminal.Terminal.{Terminal}
use Rattle.p9_grammar.specs.declared.terminal.Terminal.TheVariants as t
use Rattle.p9_grammar.specs.declared.head.Context.{Context}
use Rattle.p9_grammar.specs.declared.head.Head.TheVariants as head
use Rattle.p9_grammar.specs.Machine.{Shift, Opens, Refused, tag_start, enum_start, members_move, brace_or}

pub tag_with_name : (c : Context) (words : List SpecWord) (is_union : Bool) (x : List ℕ) → (x ≡ [] → ⊥) →
    tag_start c words is_union (t.Name x) ≡ Shift (head.TagNamed c words is_union x)
tag_with_name c words is_union [] h = absurd (h refl)
tag_with_name c words is_union (b ∷ bs) h = refl

pub tag_without : (c : Context) (words : List SpecWord) (is_union : Bool) (x : List ℕ) → x ≡ [] → tag_start c words is_union (t.Name x) ≡ Refused
tag_without c words is_union [] h = refl
tag_without c words is_union (b ∷ bs) h = absurd (cc)

pub enum_with_name : (c : Context) (words : List SpecWord) (x : List ℕ) → (x ≡ [] → ⊥) → enum_start c words (t.Name x) ≡ Shift (head.EnumNamed c words x)
enum_with_name c words [] h = absurd (h refl)
enum_with_name c words (b ∷ bs) h = refl

pub enum_without : (c : Context) (words : List SpecWord) (x : List ℕ) → x ≡ [] → enum_start c words (t.Name x) ≡ Refused
enum_without c words [] h = refl
enum_without c words (b ∷ bs) h = absurd (cc)

pub some_members : (c : Context) (words : List SpecWord) (is_union : Bool) (name : List ℕ) (n : ℕ) (token : Terminal) → (n ≡ 0 → ⊥) →
    members_move c words is_union name n token
    ≡ brace_or (Shift (head.Spec c (words ++ word.Tag is_union name (Some n) ∷ []))) (Opens (head.Members c words is_union name n)) token
some_members c words is_union name zero token h = absurd (h refl)
some_members c words is_union name (suc n) token h = refl
