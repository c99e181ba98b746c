-- What the typing of expressions says of what the law of trees asks.
use Rattle.std.specs.Prelude.{◌≡◌, Bool, true, false, [], ◌∷◌, Some, Ok}
use Rattle.p9_lang.specs.declared.tree.CBinary.{CBinary}
use Rattle.p9_lang.specs.declared.tree.CBinary.TheVariants as operator
use Rattle.p9_lang.specs.declared.tree.Kind.TheVariants as kind
use Rattle.p9_lang.specs.Types.{TypeTree, Pointer, Tags}
use Rattle.p9_lang.specs.Layout.{is_complete}
use Rattle.p9_lang.specs.Constants.{Operand}
use Rattle.p9_lang.specs.Expressions.{Verdict, value_type, verdict}
use Rattle.p9_lower.specs.Premises.{update_is_sound}

-- the operators of `op=`
abbrev pub is_assigning : CBinary → Bool
is_assigning operator.Mul = true
is_assigning operator.Div = true
is_assigning operator.Rem = true
is_assigning operator.Add = true
is_assigning operator.Sub = true
is_assigning operator.Shl = true
is_assigning operator.Shr = true
is_assigning operator.And = true
is_assigning operator.Xor = true
is_assigning operator.Or = true
is_assigning op = false

-- An `op=` that typing takes changes an integer by an integer, or a pointer by a number of elements.
abbrev pub UpdatesAreSound : Type 0
UpdatesAreSound =
    (tags : Tags) (is_statement : Bool) (op : CBinary) (a b : Operand) (v : Verdict) → is_assigning op ≡ true
    → verdict tags is_statement (kind.Assign (Some op)) (a ∷ (b ∷ [])) ≡ Ok v
    → update_is_sound op a.type (value_type b) ≡ true

-- Two pointers whose difference typing takes are to a complete type.
abbrev pub DifferencesAreComplete : Type 0
DifferencesAreComplete =
    (tags : Tags) (is_statement : Bool) (a b : Operand) (target other : TypeTree) (v : Verdict)
    → value_type a ≡ Pointer target → value_type b ≡ Pointer other
    → verdict tags is_statement (kind.Binary operator.Sub) (a ∷ (b ∷ [])) ≡ Ok v
    → is_complete tags target ≡ true
