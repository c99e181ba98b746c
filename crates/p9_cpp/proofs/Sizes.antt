-- What a use leaves to expand is smaller: lists no longer than the rest, and bodies with one more
-- name of the table hidden.
use Rattle.std.proofs.Common.{◌≡◌, ℕ, zero, suc, ◌+◌, ◌<◌, ◌≤◌, ◌==◌, cond, Bool, true, false, List, [], ◌∷◌, ◌++◌, length, Option, Some, None, refl, sym, ap, ◌∙◌, arith}
use Rattle.std.proofs.lemmas.List.{length-append}
use Rattle.std.specs.Str.{bytes_eq}
use Rattle.std.specs.Cmp.Lexicographic.{bytes_decides}
use Rattle.std.specs.Map.{lookup}
use Rattle.p9_lex.specs.declared.token.Token.{Token}
use Rattle.p9_lex.specs.declared.token.TokenKind.{TokenKind}
use Rattle.p9_cpp.specs.declared.macros.Macro.{Macro}
use Rattle.p9_cpp.specs.declared.brackets.Bracket.{Bracket}
use Rattle.p9_cpp.specs.declared.brackets.Bracket.TheVariants.{Open, Close, Comma, Other}
use Rattle.p9_cpp.specs.declared.arguments.Turn.{Turn}
use Rattle.p9_cpp.specs.declared.arguments.Turn.TheVariants.{Inside, Splits, Closes}
use Rattle.p9_cpp.specs.Macros.{Table, macro_of, flattened, is_among, word_in, bracket_of, turn_of, Taken, by_turn, taken, fitting, Use, Stands, Plain, Call, Wrong, use_of_fitting, use_of_taken, use_of_next, use_of_call, use_of_params, use_of_macro, use_of_name, use_of_word, use_of}
use Rattle.p9_cpp.specs.Expansion.{free}

-- Names

pub same_bytes : (x : List ℕ) → bytes_eq x x ≡ true
same_bytes x = (bytes_decides x x).1 refl

pub bytes_same : (x y : List ℕ) → bytes_eq x y ≡ true → x ≡ y
bytes_same x y h = (bytes_decides x y).0 h

abbrev pub Fresh : Table → (hidden : List (List ℕ)) → (name : List ℕ) → Type 0
Fresh table hidden name = free (name ∷ hidden) table < free hidden table

less_by : (same hid : Bool) (p q : ℕ) → p ≤ q → cond (cond same true hid) p (suc p) ≤ cond hid q (suc q)
less_by true true p q h = h
less_by true false p q h = omega (arith, h)
less_by false true p q h = h
less_by false false p q h = omega (arith, h)

fewer_by : (same hid : Bool) (p q : ℕ) → p < q → cond (cond same true hid) p (suc p) < cond hid q (suc q)
fewer_by true true p q h = h
fewer_by true false p q h = omega (arith, h)
fewer_by false true p q h = h
fewer_by false false p q h = omega (arith, h)

free_less : (hidden : List (List ℕ)) (x : List ℕ) (es : Table) → free (x ∷ hidden) es ≤ free hidden es
free_less hidden x [] = omega arith
free_less hidden x (e ∷ es) = less_by (bytes_eq e.0 x) (is_among hidden e.0) (free (x ∷ hidden) es) (free hidden es) (free_less hidden x es)

abbrev FreshIn : Table → (hidden : List (List ℕ)) → (name : List ℕ) → Option (Option Macro) → Type 0
FreshIn table hidden name None = Unit {0}
FreshIn table hidden name (Some m) = Fresh table hidden name

found_here : (hidden : List (List ℕ)) (e : List ℕ × Option Macro) (es : Table) (x : List ℕ) → x ≡ e.0 → is_among hidden x ≡ false → Fresh (e ∷ es) hidden x
found_here hidden e es x is out =
    let same : bytes_eq e.0 x ≡ true = ap (λ y. bytes_eq e.0 y) is ∙ same_bytes e.0 in
    let here : is_among hidden e.0 ≡ false = ap (is_among hidden) (sym is) ∙ out in
    let less = free_less hidden x es in
    let left : free (x ∷ hidden) (e ∷ es) ≡ free (x ∷ hidden) es = ap (λ b. cond (cond b true (is_among hidden e.0)) (free (x ∷ hidden) es) (suc (free (x ∷ hidden) es))) same in
    let right : free hidden (e ∷ es) ≡ suc (free hidden es) = ap (λ b. cond b (free hidden es) (suc (free hidden es))) here in
    omega (arith, less, left, right)

found_later : (hidden : List (List ℕ)) (e : List ℕ × Option Macro) (es : Table) (x : List ℕ) (o : Option (Option Macro)) → FreshIn es hidden x o → FreshIn (e ∷ es) hidden x o
found_later hidden e es x None f = tt
found_later hidden e es x (Some m) f = fewer_by (bytes_eq e.0 x) (is_among hidden e.0) (free (x ∷ hidden) es) (free hidden es) f

found_by : (c : Bool) (hidden : List (List ℕ)) (e : List ℕ × Option Macro) (es : Table) (x : List ℕ) → bytes_eq x e.0 ≡ c → is_among hidden x ≡ false → FreshIn es hidden x (lookup (bytes_eq x) es) → FreshIn (e ∷ es) hidden x (cond c (Some e.1) (lookup (bytes_eq x) es))
found_by true hidden e es x is out f = found_here hidden e es x (bytes_same x e.0 is) out
found_by false hidden e es x is out f = found_later hidden e es x (lookup (bytes_eq x) es) f

found_fresh : (hidden : List (List ℕ)) (es : Table) (x : List ℕ) → is_among hidden x ≡ false → FreshIn es hidden x (lookup (bytes_eq x) es)
found_fresh hidden [] x out = tt
found_fresh hidden (e ∷ es) x out = found_by (bytes_eq x e.0) hidden e es x refl out (found_fresh hidden es x out)

-- Arguments

abbrev pub AllWithin : ℕ → List (List Token) → Type 0
AllWithin n [] = Unit {0}
AllWithin n (a ∷ args) = (length a ≤ n) × AllWithin n args

all_within_more : (n : ℕ) (args : List (List Token)) (a : List Token) → AllWithin n args → length a ≤ n → AllWithin n (args ++ a ∷ [])
all_within_more n [] a h l = (l, tt)
all_within_more n (b ∷ args) a h l = (h.0, all_within_more n args a h.1 l)

abbrev FitsTaken : ℕ → Option Taken → Type 0
FitsTaken n None = Unit {0}
FitsTaken n (Some t) = AllWithin n t.args × (length t.after ≤ n)

by_turn_fits : (p : Turn) (n : ℕ) (inside : ℕ → Option Taken) (splits closes : Option Taken) → ((d : ℕ) → FitsTaken n (inside d)) → FitsTaken n splits → FitsTaken n closes → FitsTaken n (by_turn p inside splits closes)
by_turn_fits (Inside d) n inside splits closes hi hs hc = hi d
by_turn_fits Splits n inside splits closes hi hs hc = hs
by_turn_fits Closes n inside splits closes hi hs hc = hc

taken_fits : (n depth : ℕ) (part : List Token) (args : List (List Token)) (ts : List Token) → AllWithin n args → length part + length ts ≤ n → FitsTaken n (taken depth part args ts)
taken_fits n depth part args [] h l = tt
taken_fits n depth part args (t ∷ ts) h l =
    let longer = length-append part (t ∷ []) in
    let short : length part ≤ n = omega (arith, l) in
    let more = all_within_more n args part h short in
    by_turn_fits (turn_of (bracket_of t.kind) depth) n (λ d. taken d (part ++ t ∷ []) args ts) (taken zero [] (args ++ part ∷ []) ts) (Some (record { args = args ++ part ∷ []; after = ts }))
    (λ d. taken_fits n d (part ++ t ∷ []) args ts h (omega (arith, l, longer)))
    (taken_fits n zero [] (args ++ part ∷ []) ts more (omega (arith, l)))
    (more, omega (arith, l))

abbrev FitsArgs : ℕ → Option (List (List Token)) → Type 0
FitsArgs n None = Unit {0}
FitsArgs n (Some args) = AllWithin n args

if_fits : (c : Bool) (n : ℕ) (args : List (List Token)) → AllWithin n args → FitsArgs n (cond c (Some args) None)
if_fits true n args h = h
if_fits false n args h = tt

fitting_within : (n p : ℕ) (args : List (List Token)) → AllWithin n args → FitsArgs n (fitting p args)
fitting_within n zero [] h = tt
fitting_within n zero ([] ∷ []) h = tt
fitting_within n zero ((x ∷ xs) ∷ []) h = tt
fitting_within n zero ([] ∷ (b ∷ bs)) h = tt
fitting_within n zero ((x ∷ xs) ∷ (b ∷ bs)) h = tt
fitting_within n (suc p) args h = if_fits (suc p == length args) n args h

-- Uses

abbrev pub FitsUse : Table → (hidden : List (List ℕ)) → ℕ → Use → Type 0
FitsUse table hidden n Stands = Unit {0}
FitsUse table hidden n (Plain name m) = Fresh table hidden name
FitsUse table hidden n (Call name m params args after) = Fresh table hidden name × AllWithin n args × (length after ≤ n)
FitsUse table hidden n (Wrong name) = Unit {0}

module _ (table : Table) (hidden : List (List ℕ)) (x : List ℕ) where
  fitting_fits : (n : ℕ) (m : Macro) (params : List (List ℕ)) (o : Option (List (List Token))) (after : List Token) → Fresh table hidden x → FitsArgs n o → length after ≤ n → FitsUse table hidden n (use_of_fitting x m params o after)
  fitting_fits n m params None after f h l = tt
  fitting_fits n m params (Some args) after f h l = (f, h, l)

  use_of_taken_fits : (n : ℕ) (m : Macro) (params : List (List ℕ)) (o : Option Taken) → Fresh table hidden x → FitsTaken n o → FitsUse table hidden n (use_of_taken x m params o)
  use_of_taken_fits n m params None f h = tt
  use_of_taken_fits n m params (Some t) f h = fitting_fits n m params (fitting (length params) t.args) t.after f (fitting_within n (length params) t.args h.0) h.1

  next_fits : (n : ℕ) (m : Macro) (params : List (List ℕ)) (b : Bracket) (ts : List Token) → Fresh table hidden x → length ts ≤ n → FitsUse table hidden n (use_of_next x m params b ts)
  next_fits n m params Open ts f h = use_of_taken_fits n m params (taken zero [] [] ts) f (taken_fits n zero [] [] ts tt (omega (arith, h)))
  next_fits n m params Close ts f h = tt
  next_fits n m params Comma ts f h = tt
  next_fits n m params Other ts f h = tt

  call_fits : (n : ℕ) (m : Macro) (params : List (List ℕ)) (ts : List Token) → Fresh table hidden x → length ts ≤ n → FitsUse table hidden n (use_of_call x m params ts)
  call_fits n m params [] f h = tt
  call_fits n m params (t ∷ ts) f h = next_fits n m params (bracket_of t.kind) ts f (omega (arith, h))

  params_fits : (n : ℕ) (m : Macro) (o : Option (List (List ℕ))) (ts : List Token) → Fresh table hidden x → length ts ≤ n → FitsUse table hidden n (use_of_params x m o ts)
  params_fits n m None ts f h = f
  params_fits n m (Some params) ts f h = call_fits n m params ts f h

  macro_fits : (n : ℕ) (o : Option (Option Macro)) (ts : List Token) → FreshIn table hidden x o → length ts ≤ n → FitsUse table hidden n (use_of_macro x (flattened o) ts)
  macro_fits n None ts f h = tt
  macro_fits n (Some None) ts f h = tt
  macro_fits n (Some (Some m)) ts f h = params_fits n m m.params ts f h

  name_fits : (c : Bool) (n : ℕ) (ts : List Token) → is_among hidden x ≡ c → length ts ≤ n → FitsUse table hidden n (cond c Stands (use_of_macro x (macro_of table x) ts))
  name_fits true n ts is h = tt
  name_fits false n ts is h = macro_fits n (lookup (bytes_eq x) table) ts (found_fresh hidden table x is) h

word_fits : (table : Table) (hidden : List (List ℕ)) (o : Option (List ℕ)) (n : ℕ) (ts : List Token) → length ts ≤ n → FitsUse table hidden n (use_of_word table hidden o ts)
word_fits table hidden None n ts h = tt
word_fits table hidden (Some x) n ts h = name_fits table hidden x (is_among hidden x) n ts refl h

pub use_fits : (table : Table) (hidden : List (List ℕ)) (kind : TokenKind) (n : ℕ) (ts : List Token) → length ts ≤ n → FitsUse table hidden n (use_of table hidden kind ts)
use_fits table hidden kind n ts h = word_fits table hidden (word_in kind) n ts h
