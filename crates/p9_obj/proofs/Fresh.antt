-- Symbols that are apart from one another, and from those whose names were seen.
use Rattle.std.proofs.Common.{suc, ◌≡◌, ℕ, ◌-◌, ◌≤◌, get_or, take, drop, not, subst, ◌↔◌, ◌||◌, Bool, true, false, List, [], ◌∷◌, length, All, AllPairs, slice_index_or, bytes_eq, refl, sym, ap, ◌∙◌, true≢false, arith}
use Rattle.std.specs.Cmp.Lexicographic.{bytes_decides}
use Rattle.std.proofs.lemmas.List.Elements.{All-nil, All-cons, All-head, All-tail}
use Rattle.std.proofs.lemmas.List.Kept.{AllPairs-cons}
use Rattle.p9_abs.specs.declared.modules.Symbol.{Symbol}
use Rattle.p9_abs.specs.Validity.{AreApart}
use Rattle.p9_obj.proofs.Whole.{rest_is}
use Rattle.p9_obj.specs.Seen.{holds, is_alike, Notes}

-- no symbol's name was seen, and no two are alike
pub record IsFresh (locals globals : List (List ℕ)) (symbols : List Symbol) : Type 0 where
  pub unseen : All (λ t. holds locals globals t ≡ false) symbols
  pub apart : AllPairs AreApart symbols

alike : (s t : Symbol) → s.local ≡ t.local → s.name ≡ t.name → is_alike s t ≡ true
alike s t same named = by s.local t.local refl refl
  where
    test : bytes_eq s.name t.name ≡ true
    test = (bytes_decides s.name t.name).1 named

    by : (a b : Bool) → s.local ≡ a → t.local ≡ b → is_alike s t ≡ true
    by true true p q = rw (p, q) test
    by false false p q = rw (p, q) test
    by true false p q = absurd (true≢false (sym p ∙ same ∙ q))
    by false true p q = absurd (true≢false (sym q ∙ sym same ∙ p))

not_alike : (s t : Symbol) → AreApart s t → is_alike s t ≡ false
not_alike s t apart = by s.local t.local (bytes_eq s.name t.name) refl refl refl
  where
    by : (a b c : Bool) → s.local ≡ a → t.local ≡ b → bytes_eq s.name t.name ≡ c → is_alike s t ≡ false
    by true true true p q r = absurd (apart (p ∙ sym q) ((bytes_decides s.name t.name).0 r))
    by false false true p q r = absurd (apart (p ∙ sym q) ((bytes_decides s.name t.name).0 r))
    by true true false p q r = rw (p, q) r
    by false false false p q r = rw (p, q) r
    by true false c p q r = rw (p, q) refl
    by false true c p q r = rw (p, q) refl

apart-of : (s t : Symbol) → is_alike s t ≡ false → AreApart s t
apart-of s t h same named = true≢false (sym (alike s t same named) ∙ h)

neither : (a b : Bool) → a || b ≡ false → (a ≡ false) × (b ≡ false)
neither false b h = (refl, h)
neither true b h = absurd (true≢false h)

-- the first of several is apart from each other one
first-apart : (s : Symbol) (rest : List Symbol) → AllPairs AreApart (s ∷ rest) → All (AreApart s) rest
first-apart s rest h k d lt = h 0 (suc k) d (omega arith) (omega arith)

rest-apart : (s : Symbol) (rest : List Symbol) → AllPairs AreApart (s ∷ rest) → AllPairs AreApart rest
rest-apart s rest h i j d lt within = h (suc i) (suc j) d (omega arith) (omega arith)

-- a symbol whose name was seen
pub fresh_fails : (locals globals : List (List ℕ)) (s : Symbol) (after : List Symbol) → holds locals globals s ≡ true → IsFresh locals globals (s ∷ after) → ⊥
fresh_fails locals globals s after h f = true≢false (sym h ∙ All-head (λ t. holds locals globals t ≡ false) s after f.unseen)

-- a symbol whose name is new, and is now seen
pub fresh_on : (locals globals : List (List ℕ)) (s : Symbol) (after : List Symbol) (new_locals new_globals : List (List ℕ)) → Notes locals globals s new_locals new_globals → IsFresh locals globals (s ∷ after) → IsFresh new_locals new_globals after
fresh_on locals globals s after new_locals new_globals notes f =
    let old = All-tail (λ t. holds locals globals t ≡ false) s after f.unseen in
    let apart = first-apart s after f.apart in
    record {
      unseen = λ k d lt. by (slice_index_or after k d) (old k d lt) (apart k d lt);
      apart = rest-apart s after f.apart;
    }
  where
    by : (t : Symbol) → holds locals globals t ≡ false → AreApart s t → holds new_locals new_globals t ≡ false
    by t o a = notes t ∙ ap (λ v. v || holds locals globals t) (not_alike s t a) ∙ o

pub fresh_back : (locals globals : List (List ℕ)) (s : Symbol) (after : List Symbol) (new_locals new_globals : List (List ℕ)) → holds locals globals s ≡ false → Notes locals globals s new_locals new_globals → IsFresh new_locals new_globals after → IsFresh locals globals (s ∷ after)
fresh_back locals globals s after new_locals new_globals new notes f =
    record {
      unseen = All-cons (λ t. holds locals globals t ≡ false) s after new (λ k d lt. (parts (slice_index_or after k d) (f.unseen k d lt)).1);
      apart = AllPairs-cons AreApart s after (λ k d lt. apart-of s (slice_index_or after k d) (parts (slice_index_or after k d) (f.unseen k d lt)).0) f.apart;
    }
  where
    parts : (t : Symbol) → holds new_locals new_globals t ≡ false → (is_alike s t ≡ false) × (holds locals globals t ≡ false)
    parts t h = neither (is_alike s t) (holds locals globals t) (sym (notes t) ∙ h)

-- where nothing was seen, and at the end
pub fresh_first : (symbols : List Symbol) → AllPairs AreApart symbols → IsFresh [] [] symbols
fresh_first symbols h = record { unseen = λ k d lt. by (slice_index_or symbols k d); apart = h }
  where
    by : (t : Symbol) → holds [] [] t ≡ false
    by t = split t.local refl
      where
        split : (b : Bool) → t.local ≡ b → holds [] [] t ≡ false
        split true e = rw e refl
        split false e = rw e refl

pub fresh_last : (locals globals : List (List ℕ)) → IsFresh locals globals []
fresh_last locals globals = record { unseen = All-nil (λ t. holds locals globals t ≡ false); apart = λ i j d lt within. absurd (omega arith) }

new-name : (b held : Bool) → b ≡ not held → b ≡ true → held ≡ false
new-name b false e t = refl
new-name b true e t = absurd (true≢false (sym t ∙ e))

-- one more symbol was seen, and it's new
pub fresh_turn : (locals globals : List (List ℕ)) (symbols rest next : List Symbol) (s : Symbol) (new_locals new_globals : List (List ℕ)) (b : Bool) → 1 ≤ length rest → s ≡ get_or rest 0 s → next ≡ take (length rest - 1) (drop 1 rest) → b ≡ not (holds locals globals s) → b ≡ true → Notes locals globals s new_locals new_globals → (IsFresh locals globals rest ↔ AllPairs AreApart symbols) → IsFresh new_locals new_globals next ↔ AllPairs AreApart symbols
fresh_turn locals globals symbols [] next s new_locals new_globals b n here e new t notes h = absurd (omega arith)
fresh_turn locals globals symbols (y ∷ after) next s new_locals new_globals b n here e new t notes h =
    let same : next ≡ after = e ∙ rest_is y after in
    let P : List Symbol → Type 0 = λ v. IsFresh new_locals new_globals v ↔ AllPairs AreApart symbols in
    let Q : Symbol → Type 0 = λ v. Notes locals globals v new_locals new_globals in
    let R : Symbol → Type 0 = λ v. holds locals globals v ≡ false in
    let unseen : holds locals globals y ≡ false = subst R here (new-name b (holds locals globals s) new t) in
    let noted : Notes locals globals y new_locals new_globals = subst Q here notes in
    subst P (sym same) (
      λ f. h.0 (fresh_back locals globals y after new_locals new_globals unseen noted f),
      λ a. fresh_on locals globals y after new_locals new_globals noted (h.1 a),
    )
