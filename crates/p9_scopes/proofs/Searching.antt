-- Names at the levels, the innermost last.
use Rattle.std.proofs.Common.{◌≡◌, ℕ, List, [], ◌∷◌, ◌++◌, reverse, Some, None, ap, ◌∙◌}
use Rattle.std.proofs.lemmas.List.{reverse-append}
use Rattle.p9_lang.specs.Scopes as scopes
use Rattle.p9_lang.specs.Scopes.{in_level, in_levels, or_else, tag_in_level, tag_in_levels}
use Rattle.p9_scopes.specs.declared.declared.Declared.{Declared}
use Rattle.p9_scopes.specs.declared.tag.TagName.{TagName}
use Rattle.p9_scopes.specs.Seen.{level_of, levels_of, tag_level_of, tag_levels_of}

pub found_innermost : (x : List ℕ) (levels before : List (List Declared)) (level : List Declared) (d : scopes.Declared) → levels ≡ before ++ level ∷ []
    → in_level x (level_of level) ≡ Some d → in_levels x (levels_of (reverse levels)) ≡ Some d
found_innermost x levels before level d e f =
    ap (λ l. in_levels x (levels_of l)) (ap reverse e ∙ reverse-append before (level ∷ [])) ∙ ap (λ o. or_else o (in_levels x (levels_of (reverse before)))) f

pub found_around : (x : List ℕ) (levels before : List (List Declared)) (level : List Declared) → levels ≡ before ++ level ∷ []
    → in_level x (level_of level) ≡ None → in_levels x (levels_of (reverse levels)) ≡ in_levels x (levels_of (reverse before))
found_around x levels before level e f =
    ap (λ l. in_levels x (levels_of l)) (ap reverse e ∙ reverse-append before (level ∷ [])) ∙ ap (λ o. or_else o (in_levels x (levels_of (reverse before)))) f

pub tag_innermost : (x : List ℕ) (levels before : List (List TagName)) (level : List TagName) (t : scopes.TagName) → levels ≡ before ++ level ∷ []
    → tag_in_level x (tag_level_of level) ≡ Some t → tag_in_levels x (tag_levels_of (reverse levels)) ≡ Some t
tag_innermost x levels before level t e f =
    ap (λ l. tag_in_levels x (tag_levels_of l)) (ap reverse e ∙ reverse-append before (level ∷ [])) ∙ ap (λ o. or_else o (tag_in_levels x (tag_levels_of (reverse before)))) f

pub tag_around : (x : List ℕ) (levels before : List (List TagName)) (level : List TagName) → levels ≡ before ++ level ∷ []
    → tag_in_level x (tag_level_of level) ≡ None → tag_in_levels x (tag_levels_of (reverse levels)) ≡ tag_in_levels x (tag_levels_of (reverse before))
tag_around x levels before level e f =
    ap (λ l. tag_in_levels x (tag_levels_of l)) (ap reverse e ∙ reverse-append before (level ∷ [])) ∙ ap (λ o. or_else o (tag_in_levels x (tag_levels_of (reverse before)))) f
