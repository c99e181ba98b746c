-- The expansion of a list of tokens, as a total function. `Derivation` says the same by derivations,
-- and a law says that the two agree.
use Rattle.std.specs.Prelude.{ℕ, zero, suc, ◌+◌, ◌-◌, Bool, true, false, List, [], ◌∷◌, ◌++◌, length, Option, Some, None, if◌then◌else◌}
use Rattle.p9_lex.specs.declared.token.Token.{Token}
use Rattle.p9_cpp.specs.Macros.{Table, Use, Stands, Plain, Call, Wrong, use_of, put_in, is_among}

-- What comes of a list: its tokens, or the macro whose arguments are wrong, with the line of its name.
-- `counted` has the tokens that count up to there, in order: each list that an expansion gives, those
-- of arguments and bodies included, and the tokens outside macros. `steps` counts the tokens and ends
-- of lists that are read.
pub data Outcome : Type 0 where
  done : (out counted : List Token) (steps : ℕ) → Outcome
  broken : (name : List ℕ) (line : ℕ) (counted : List Token) (steps : ℕ) → Outcome

-- an outcome behind tokens that count, and steps
abbrev pub plus : (counted : List Token) (steps : ℕ) → Outcome → Outcome
plus cs n (done out counted steps) = done out (cs ++ counted) (n + steps)
plus cs n (broken name line counted steps) = broken name line (cs ++ counted) (n + steps)

abbrev pub and_then : Outcome → (List Token → Outcome) → Outcome
and_then (done out cs n) next = plus cs n (next out)
and_then (broken name line cs n) next = broken name line cs n

abbrev pub in_front : List Token → Outcome → Outcome
in_front ts (done out cs n) = done (ts ++ out) cs n
in_front ts (broken name line cs n) = broken name line cs n

-- the tokens of a body count again in the list that they come into, where that belongs to a macro
abbrev pub charge : (inside : Bool) → List Token → List Token
charge false ts = []
charge true ts = ts

-- a body that is expanded, what it counts where it comes in, and what follows
abbrev pub counted : (inside : Bool) → Outcome → (List Token → Outcome) → Outcome
counted inside o next = and_then o (λ b. plus (charge inside b) 0 (next b))

-- arguments one after the other, behind some that are expanded
abbrev pub each : (List Token → Outcome) → (args ready : List (List Token)) → (List (List Token) → Outcome) → Outcome
each of [] ready next = next ready
each of (a ∷ args) ready next = counted false (of a) (λ b. each of args (ready ++ b ∷ []) next)

-- A token with its use, where `arg` expands an argument, `body` a body under one more hidden name,
-- and `rest` what follows in the list.
abbrev pub by_use : (inside : Bool) (arg : List Token → Outcome) (body : List ℕ → List Token → Outcome) (rest : List Token → Outcome) → Token → List Token → Use → Outcome
by_use inside arg body rest t ts Stands = plus (t ∷ []) 0 (in_front (t ∷ []) (rest ts))
by_use inside arg body rest t ts (Plain name m) = counted inside (body name (put_in [] [] t.line m.body)) (λ b. in_front b (rest ts))
by_use inside arg body rest t ts (Call name m params args after) =
    each arg args [] (λ bs. counted inside (body name (put_in params bs t.line m.body)) (λ b. in_front b (rest after)))
by_use inside arg body rest t ts (Wrong name) = broken name t.line [] 0

-- A list under hidden names. `below` expands under one more, and `n` is above the list's length.
abbrev pub list_by : (below : List (List ℕ) → List Token → Outcome) → Table → (hidden : List (List ℕ)) → (n : ℕ) (inside : Bool) → List Token → Outcome
list_by below table hidden zero inside ts = done [] [] 0
list_by below table hidden (suc n) inside [] = done [] [] 1
list_by below table hidden (suc n) inside (t ∷ ts) =
    plus [] 1 (by_use inside (list_by below table hidden n true) (λ name. below (name ∷ hidden)) (list_by below table hidden n inside) t ts (use_of table hidden t.kind ts))

-- `depth` is above the number of names that may still be hidden
abbrev pub below : Table → (depth : ℕ) → List (List ℕ) → List Token → Outcome
below table zero hidden ts = done [] [] 0
below table (suc d) hidden ts = list_by (below table d) table hidden (suc (length ts)) true ts

-- the names of the table that aren't hidden
abbrev pub free : List (List ℕ) → Table → ℕ
free hidden [] = 0
free hidden (e ∷ es) = if is_among hidden e.0 then free hidden es else suc (free hidden es)

-- The expansion of a list under hidden names, inside a macro or outside. The numbers that bound the
-- recursion are large enough: see the law of `expansion_is_exact`.
unfoldable pub expansion : Table → (hidden : List (List ℕ)) → (inside : Bool) → List Token → Outcome
expansion table hidden inside ts = list_by (below table (free hidden table)) table hidden (suc (length ts)) inside ts

-- The limit

-- the line of the token that comes behind so many
abbrev pub line_past : ℕ → List Token → Option ℕ
line_past room [] = None
line_past zero (t ∷ ts) = Some t.line
line_past (suc room) (t ∷ ts) = line_past room ts

-- What comes of a list where so many tokens may still be counted: its tokens, and how many may be
-- counted behind them; a macro whose arguments are wrong; or the line of the token with which the
-- count passes.
pub data Limited : Type 0 where
  within : (out : List Token) (room : ℕ) → Limited
  wrong : (name : List ℕ) (line : ℕ) → Limited
  passed : (line : ℕ) → Limited

abbrev pub unless_past : Option ℕ → Limited → Limited
unless_past None fine = fine
unless_past (Some line) fine = passed line

abbrev pub limited : (room : ℕ) → Outcome → Limited
limited room (done out counted steps) = unless_past (line_past room counted) (within out (room - length counted))
limited room (broken name line counted steps) = unless_past (line_past room counted) (wrong name line)
