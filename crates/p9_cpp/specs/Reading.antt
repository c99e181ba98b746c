-- The stack of lists that wait for the end of the one that is read, and what comes of it.
use Rattle.std.specs.Prelude.{ℕ, zero, suc, ◌+◌, ◌≡◌, Bool, true, false, List, [], ◌∷◌, ◌++◌, length, map, Option, Some, None, slice_get, Result, Ok, Err, bytes_eq}
use Rattle.std.specs.List.{IsDistinct}
use Rattle.p9_lex.specs.declared.token.Token.{Token}
use Rattle.p9_cpp.specs.declared.macros.Macro.{Macro}
use Rattle.p9_cpp.specs.declared.uses.Known.{Known}
use Rattle.p9_cpp.specs.declared.uses.Use as used
use Rattle.p9_cpp.specs.declared.frame.Frame.{Frame}
use Rattle.p9_cpp.specs.declared.frame.Invocation.{Invocation}
use Rattle.p9_cpp.specs.declared.frame.Rest.{Rest}
use Rattle.p9_cpp.specs.declared.frame.Frame.TheVariants as frames
use Rattle.p9_cpp.specs.declared.reader.Fault.{Fault}
use Rattle.p9_cpp.specs.declared.reader.Fault.TheVariants as fault
use Rattle.p9_cpp.specs.Macros.{Table, Taken, Use, Stands, Plain, Call, Wrong, is_among, put_in}
use Rattle.p9_cpp.specs.Expansion.{Outcome, done, broken, plus, and_then, charge, counted, each, expansion, Limited, within, wrong, passed, limited, line_past}

-- the names that are hidden in the list that is read
abbrev pub hidden_of : List Frame → List (List ℕ)
hidden_of [] = []
hidden_of (frames.Body known rest ∷ fs) = known.name.now ∷ hidden_of fs
hidden_of (frames.Argument i ready left rest ∷ fs) = hidden_of fs

-- whether that list belongs to a macro
abbrev pub is_inside : List Frame → Bool
is_inside [] = false
is_inside (f ∷ fs) = true

-- the expansion of the list that is read
abbrev pub expanded : Table → List Frame → List Token → Outcome
expanded table fs ts = expansion table (hidden_of fs) (is_inside fs) ts

-- the body of a use, with its arguments put in
abbrev pub body_of : Table → List Frame → Invocation → (args : List (List Token)) → Outcome
body_of table fs i args = expansion table (i.known.name.now ∷ hidden_of fs) true (put_in i.params.now args i.line i.known.definition.now.body)

-- what comes of the lists that wait, where the list that is read gives `b`
abbrev pub resume : Table → List Frame → List Token → Outcome
resume table [] b = done b [] 0
resume table (frames.Body known rest ∷ fs) b =
    plus (charge (is_inside fs) b) 0 (and_then (expanded table fs rest.after) (λ c. resume table fs (rest.out ++ (b ++ c))))
resume table (frames.Argument i ready left rest ∷ fs) b =
    plus [] 0 (each (expansion table (hidden_of fs) true) left (ready ++ b ∷ [])
    (λ bs. counted (is_inside fs) (body_of table fs i bs) (λ c. and_then (expanded table fs rest.after) (λ d. resume table fs (rest.out ++ (c ++ d))))))

-- the same, where `left` is still to be read and `out` is what the list has given so far
abbrev pub read : Table → List Frame → (left out : List Token) → Outcome
read table fs left out = and_then (expanded table fs left) (λ b. resume table fs (out ++ b))

-- the same, where the arguments `left` of a use are still to be read and `ready` are expanded
abbrev pub begun : Table → List Frame → Invocation → (ready left : List (List Token)) → Rest → Outcome
begun table fs i ready left rest =
    each (expansion table (hidden_of fs) true) left ready
    (λ bs. counted (is_inside fs) (body_of table fs i bs) (λ c. and_then (expanded table fs rest.after) (λ d. resume table fs (rest.out ++ (c ++ d)))))

abbrev pub steps_of : Outcome → ℕ
steps_of (done out counted steps) = steps
steps_of (broken name line counted steps) = steps

-- The flags of hidden names

abbrev pub flags_of : Table → (hidden : List (List ℕ)) → List Bool
flags_of table hidden = map (λ e. is_among hidden e.0) table

abbrev pub flag_at : List Bool → ℕ → Bool
flag_at [] i = false
flag_at (f ∷ fs) zero = f
flag_at (f ∷ fs) (suc i) = flag_at fs i

abbrev pub with_flag : List Bool → ℕ → Bool → List Bool
with_flag [] i flag = []
with_flag (f ∷ fs) zero flag = flag ∷ fs
with_flag (f ∷ fs) (suc i) flag = f ∷ with_flag fs i flag

-- the table has this macro at this place
abbrev pub IsKnown : Table → Known → Type 0
IsKnown table known = slice_get table known.index ≡ Some (known.name.now, Some known.definition.now)

-- the macro is in the table, and its name isn't hidden
abbrev pub IsNew : Table → List Frame → Known → Type 0
IsNew table fs known = IsKnown table known × (is_among (hidden_of fs) known.name.now ≡ false)

-- each list that is read belongs to a macro that was new to the lists that wait for it
abbrev pub AreNested : Table → List Frame → Type 0
AreNested table [] = Unit {0}
AreNested table (frames.Body known rest ∷ fs) = IsNew table fs known × AreNested table fs
AreNested table (frames.Argument i ready left rest ∷ fs) = IsNew table fs i.known × AreNested table fs

-- and a flag stands exactly at each hidden name
abbrev pub IsSound : Table → List Frame → (flags : List Bool) → Type 0
IsSound table fs flags = (flags ≡ flags_of table (hidden_of fs)) × AreNested table fs

-- no two places of the table have one name
abbrev pub IsApart : Table → Type 0
IsApart table = IsDistinct bytes_eq (map (λ e. e.0) table)

-- What the parts of the reader tell

abbrev pub IsTaken : {E : Type 0} → Option Taken → Result (Option (List (List Token))) E → (after : List Token) → Type 0
IsTaken o (Ok None) after = o ≡ None
IsTaken o (Ok (Some args)) after = o ≡ Some (record { args = args; after = after })
IsTaken o (Err e) after = Unit {0}

-- the use that is found, and what is left behind it
abbrev pub IsUse : {E : Type 0} → Use → (old : List Token) → Result used.Use E → (left : List Token) → Type 0
IsUse what old (Ok used.TheVariants.Stands) left = (what ≡ Stands) × (left ≡ old)
IsUse what old (Ok (used.TheVariants.Plain known)) left = (what ≡ Plain known.name.now known.definition.now) × (left ≡ old)
IsUse what old (Ok (used.TheVariants.Call known params args)) left = what ≡ Call known.name.now known.definition.now params.now args left
IsUse what old (Ok (used.TheVariants.Wrong known)) left = what ≡ Wrong known.name.now
IsUse what old (Err e) left = Unit {0}

-- the macro of the use is in the table, and its name isn't hidden
abbrev pub IsFound : {E : Type 0} → Table → (hidden : List (List ℕ)) → Result used.Use E → Type 0
IsFound table hidden (Ok used.TheVariants.Stands) = Unit {0}
IsFound table hidden (Ok (used.TheVariants.Plain known)) = IsKnown table known × (is_among hidden known.name.now ≡ false)
IsFound table hidden (Ok (used.TheVariants.Call known params args)) = IsKnown table known × (is_among hidden known.name.now ≡ false)
IsFound table hidden (Ok (used.TheVariants.Wrong known)) = Unit {0}
IsFound table hidden (Err e) = Unit {0}

-- one step, from an outcome with so much room to another with other room; `false` is the end
abbrev pub Goes : Result Bool Fault → (old : Outcome) (room : ℕ) (new : Outcome) (room' : ℕ) (out : List Token) → Type 0
Goes (Ok true) old room new room' out = (limited room old ≡ limited room' new) × (steps_of old ≡ suc (steps_of new))
Goes (Ok false) old room new room' out = limited room old ≡ within out room'
Goes (Err (fault.MacroArgs name line)) old room new room' out = limited room old ≡ wrong name line
Goes (Err (fault.TooManyTokens line)) old room new room' out = limited room old ≡ passed line
Goes (Err fault.Memory) old room new room' out = Unit {0}

-- a fact of the end of the last list
abbrev pub OnLast : Result Bool Fault → Type 0 → Type 0
OnLast (Ok true) P = Unit {0}
OnLast (Ok false) P = P
OnLast (Err e) P = Unit {0}

abbrev pub IsCharged : Result (Unit {0}) Fault → (room : ℕ) → List Token → (left : ℕ) → Type 0
IsCharged (Ok u) room ts left = (line_past room ts ≡ None) × (left + length ts ≡ room)
IsCharged (Err (fault.MacroArgs name line)) room ts left = ⊥
IsCharged (Err (fault.TooManyTokens line)) room ts left = line_past room ts ≡ Some line
IsCharged (Err fault.Memory) room ts left = Unit {0}

abbrev pub IsRefused : Fault → Limited → Type 0
IsRefused (fault.MacroArgs name line) o = o ≡ wrong name line
IsRefused (fault.TooManyTokens line) o = o ≡ passed line
IsRefused fault.Memory o = Unit {0}
