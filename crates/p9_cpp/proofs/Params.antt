-- Parameters that are read one after the other.
use Rattle.std.proofs.Common.{◌≡◌, ℕ, List, [], ◌∷◌, ◌++◌, Option, Some, None, refl, sym, ap, ◌∙◌, append_assoc}
use Rattle.p9_cpp.specs.declared.directive.Listed.{Listed}
use Rattle.p9_cpp.specs.Directives.{with_param}

-- parameters behind those that are read
abbrev pub behind : List (List ℕ) → Option Listed → Option Listed
behind names None = None
behind names (Some l) = Some (record { params = names ++ l.params; body = l.body })

pub behind_one : (names : List (List ℕ)) (name : List ℕ) (more : Option Listed) → behind (names ++ name ∷ []) more ≡ behind names (with_param name more)
behind_one names name None = refl
behind_one names name (Some l) = ap (λ ps. Some (record { params = ps; body = l.body })) (append_assoc names (name ∷ []) l.params)
