-- Structures whose bodies are complete.
use Rattle.std.proofs.Common.{◌≡◌, ℕ, suc, Bool, true, false, nat_eq, List, [], ◌∷◌, ◌++◌, length, map, Option, Some, ap, sym, ◌∙◌}
use Rattle.std.proofs.lemmas.List.{length-map}
use Rattle.p9_lang.specs.Types.{MemberTree}
use Rattle.p9_lang.specs.Scopes.{Known, complete_tag}
use Rattle.p9_lang.specs.Parts.{Part, Members, members_in}
use Rattle.p9_lang.specs.Declaring.{complete_if}
use Rattle.p9_behind.proofs.Joining.{members_last}

abbrev after : {A : Type 0} → (A → Part) → (braces : ℕ) → Option ℕ → List A → List MemberTree → Known → Known
after told braces tag before members s =
    complete_if (nat_eq (suc (length (map told before))) braces) tag (members_in (map told before ++ Members members ∷ [])) s

by_last : (is_last other : Bool) (tag : Option ℕ) (members : List MemberTree) (s : Known) → is_last ≡ other → complete_if is_last tag members s ≡ complete_if other tag members s
by_last is_last other tag members s e = ap (λ b. complete_if b tag members s) e

-- more parts stand in braces
pub body_goes_on : {A : Type 0} (told : A → Part) (braces number : ℕ) (before : List A) (members : List MemberTree) (s : Known)
    → nat_eq (suc (length before)) braces ≡ false → s ≡ after told braces (Some number) before members s
body_goes_on told braces number before members s e =
    sym (by_last _ _ (Some number) (members_in (map told before ++ Members members ∷ [])) s (ap (λ n. nat_eq (suc n) braces) (length-map before told) ∙ e))

-- the part is the last
pub body_ends : {A : Type 0} (told : A → Part) (braces number : ℕ) (before : List A) (members all : List MemberTree) (s final : Known)
    → nat_eq (suc (length before)) braces ≡ true → all ≡ members_in (map told before) ++ members
    → final ≡ complete_tag number all s → final ≡ after told braces (Some number) before members s
body_ends told braces number before members all s final e f g =
    g ∙ ap (λ ms. complete_tag number ms s) (f ∙ sym (members_last (map told before) members))
    ∙ sym (by_last _ _ (Some number) (members_in (map told before ++ Members members ∷ [])) s (ap (λ n. nat_eq (suc n) braces) (length-map before told) ∙ e))
