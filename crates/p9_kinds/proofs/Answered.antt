-- What an operation answers, by equal answers.
use Rattle.std.proofs.Common.{◌≡◌, ℕ, ◌+◌, true, false, List, [], ◌∷◌, Result, Ok, Err, sym, ◌∙◌}
use Rattle.std.proofs.lemmas.Option.{slice_get-map}
use Rattle.p9_lang.specs.Types.{TypeTree, Void, Static, TypeName}
use Rattle.p9_lang.specs.Rules.{Rule, Broken}
use Rattle.p9_lang.specs.Scopes.{Known}
use Rattle.p9_lang.specs.Declarators.{Step, Names}
use Rattle.p9_lang.specs.Parts as parts
use Rattle.p9_lang.specs.Typing.{has, typeless, step_at, is_block_static, judged_decl_name}
use Rattle.p9_declare.specs.declared.fault.TypingFault.{TypingFault}
use Rattle.p9_declare.specs.Judging.{Judges}
use Rattle.p9_declare.proofs.Judging.{told_same}

pub judges_same : {A B : Type 0} (view : A → B) (r : Result A TypingFault) (known : Known) {answer other : Result (B × Known) Broken}
    → answer ≡ other → Judges view r known answer → Judges view r known other
judges_same view (Ok x) known e h = sym e ∙ h
judges_same view (Err fault) known e h = told_same fault e h

pub static_name : (x : List ℕ) (role : parts.Role) (s after : Known) (steps : List Step) (number : ℕ) (t : TypeTree)
    → is_block_static role ≡ true → steps ≡ step_at s (Names x) ∷ [] → number ≡ s.statics → after ≡ record s { statics = s.statics + 1 } → t ≡ Void
    → has [] t (Static number) (parts.Declarator steps) after ≡ judged_decl_name x role s
static_name x role s after steps number t b e f g h = rw (b, h, e, f, g)

pub plain_name : (x : List ℕ) (role : parts.Role) (s : Known) (steps : List Step)
    → is_block_static role ≡ false → steps ≡ step_at s (Names x) ∷ []
    → typeless [] (parts.Declarator steps) s ≡ judged_decl_name x role s
plain_name x role s steps b e = rw (b, e)

-- a named type, its node's type and meaning
pub named_answer : (rules : List Rule) (t u v w : TypeTree) (s : Known) → u ≡ t → v ≡ t → w ≡ t
    → has rules u (TypeName v) (parts.NamedType w) s ≡ has rules t (TypeName t) (parts.NamedType t) s
named_answer rules t u v w s e f g = rw (e, f, g)

-- parts by their places
pub ruleset places = (slice_get-map)
