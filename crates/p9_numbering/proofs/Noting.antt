-- Maps of numbers after one more symbol is noted.
use Rattle.std.proofs.Common.{◌≡◌, ℕ, suc, ◌+◌, Bool, true, false, cond, List, [], ◌∷◌, ◌++◌, Option, Some, None, refl, sym, ap, ◌∙◌, add-one, arith}
use Rattle.std.proofs.lemmas.Bool.Decides.{nat_tests}
use Rattle.std.specs.Prelude.{◌&&◌, ◌==◌, if◌then◌else◌, bytes_eq, nat_eq}
use Rattle.std.specs.Option.{option_or}
use Rattle.std.specs.Map.{lookup}
use Rattle.indexmap.specs.IndexMap.{IndexMap, get, insert_entry}
use Rattle.indexmap.proofs.CallerLemmas.{insert_entry-new}
use Rattle.p9_lang.specs.Names.{same_name}
use Rattle.p9_cmean.specs.Union.{number_from}
use Rattle.std.specs.Borrow.{Bor}
use Rattle.p9_lang.specs.declared.module.Module.{Module}
use Rattle.p9_lower.specs.Names.{is_outer_symbol, is_static_symbol, outer_symbol, static_symbol}
use Rattle.p9_numbering.specs.declared.symbol.OutlineSymbol.{OutlineSymbol}
use Rattle.p9_numbering.specs.Told.{symbols_told}
use Rattle.p9_numbering.specs.Maps.{noted, outer_held, static_held, NumbersOuters, NumbersStatics}

pub lookup_behind : {K : Type 0} (t : K → Bool) (es : List (K × ℕ)) (k : K) (v : ℕ) → lookup t (es ++ (k, v) ∷ []) ≡ option_or (lookup t es) (noted (t k) v)
lookup_behind t [] k v = refl
lookup_behind t (e ∷ es) k v = by (t e.0) _ _ (lookup_behind t es k v)
  where
    by : (b : Bool) (r o : Option ℕ) → r ≡ option_or o (noted (t k) v) → cond b (Some e.1) r ≡ option_or (cond b (Some e.1) o) (noted (t k) v)
    by true r o h = refl
    by false r o h = h

-- a key that is new
pub noted_new : {K S : Type 0} (eq : K → K → Bool) (m : IndexMap K ℕ S) (k : K) (v : ℕ) (later : List (K × ℕ)) → later ≡ insert_entry eq m.entries k v
    → get eq m k ≡ None → (t : K → Bool) → lookup t later ≡ option_or (lookup t m.entries) (noted (t k) v)
noted_new eq m k v later e n t = ap (lookup t) (e ∙ insert_entry-new eq m k v n) ∙ lookup_behind t m.entries k v

pub same_bytes : (x y : List ℕ) → same_name x y ≡ bytes_eq x y
same_bytes [] [] = refl
same_bytes [] (b ∷ y) = refl
same_bytes (a ∷ x) [] = refl
same_bytes (a ∷ x) (b ∷ y) = ap (λ v. (a == b) && v) (same_bytes x y)

pub same_number : (x y : ℕ) → nat_eq x y ≡ (y == x)
same_number x y = grind (arith, nat_tests)

-- one symbol more is passed
pub symbol_passed : {A : Type 0} (t : A → Bool) (number next : ℕ) (x : A) (xs : List A) (old later all : Option ℕ) → next ≡ number + 1
    → later ≡ option_or old (noted (t x) number) → option_or old (number_from number t (x ∷ xs)) ≡ all → option_or later (number_from next t xs) ≡ all
symbol_passed t number next x xs old later all e h g =
    ap (λ o. option_or o (number_from next t xs)) h
    ∙ ap (λ n. option_or (option_or old (noted (t x) number)) (number_from n t xs)) (e ∙ add-one number)
    ∙ by (t x) old ∙ g
  where
    by : (b : Bool) (o : Option ℕ) → option_or (option_or o (noted b number)) (number_from (suc number) t xs)
        ≡ option_or o (if b then Some number else number_from (suc number) t xs)
    by true None = refl
    by true (Some n) = refl
    by false None = refl
    by false (Some n) = refl

pub all_passed : (o : Option ℕ) → option_or o None ≡ o
all_passed None = refl
all_passed (Some n) = refl

pub all_outers : (m : Module) (symbols rest : List OutlineSymbol) (number : ℕ) (es : List (Bor (List ℕ) × ℕ)) → rest ≡ []
    → ((q : List ℕ) → option_or (outer_held es q) (number_from number (is_outer_symbol q) (symbols_told m rest)) ≡ outer_symbol (symbols_told m symbols) q)
    → NumbersOuters (symbols_told m symbols) es
all_outers m symbols rest number es e h q =
    sym (all_passed (outer_held es q))
    ∙ ap (λ l. option_or (outer_held es q) (number_from number (is_outer_symbol q) (symbols_told m l))) (sym e) ∙ h q

pub all_statics : (m : Module) (symbols rest : List OutlineSymbol) (number : ℕ) (es : List (ℕ × ℕ)) → rest ≡ []
    → ((q : ℕ) → option_or (static_held es q) (number_from number (is_static_symbol q) (symbols_told m rest)) ≡ static_symbol (symbols_told m symbols) q)
    → NumbersStatics (symbols_told m symbols) es
all_statics m symbols rest number es e h q =
    sym (all_passed (static_held es q))
    ∙ ap (λ l. option_or (static_held es q) (number_from number (is_static_symbol q) (symbols_told m l))) (sym e) ∙ h q
