-- A file that is read token by token.
use Rattle.std.proofs.Common.{◌≡◌, ℕ, ◌+◌, ◌≤◌, true, false, List, [], ◌∷◌, ◌++◌, length, drop, Some, None, ◌⊎◌, refl, sym, ap, subst, ◌∙◌, inl, inr, append_assoc, length-append, length-drop, arith}
use Rattle.std.proofs.Math.Seq.{drop-append_seam}
use Rattle.std.proofs.lemmas.Bool.{cond-true, cond-false}
use Rattle.std.proofs.lemmas.List.Elements.{All-nil, All-cons, All-head, All-tail, All-append}
use Rattle.p9_first.specs.Tokens.{Token, Word, Number, Character, Text, Mark, End}
use Rattle.p9_form.specs.declared.scan.Found.{Found}
use Rattle.p9_form.specs.Spelling.{is_blank, AreBlanks, IsSpelling, EndsBefore, Spells}
use Rattle.p9_form.specs.Scanning.{token_seen, IsFormToken, AreFormTokens, weights, after_blanks, token_at}
use Rattle.p9_form.proofs.ScanCases.{if_cases, IfSome_at}
use Rattle.p9_form.proofs.ScanTokens.{IsCut, token_sound, IsFound, token_complete}

-- The first of tokens

record IsNext (t : Token) (ts : List Token) (s : List ℕ) : Type 0 where
  before : List ℕ
  own : List ℕ
  rest : List ℕ
  blanks : AreBlanks before
  cut : s ≡ before ++ (own ++ rest)
  spelled : IsSpelling t own
  ends : EndsBefore t rest
  more : Spells ts rest

parts : (t : Token) (ts : List Token) (s : List ℕ) → Spells (t ∷ ts) s → IsNext t ts s
parts t ts s h = record { before = h.0; own = h.1; rest = h.2; blanks = h.3; cut = h.4; spelled = h.5; ends = h.6; more = h.7 }

from_parts : (t : Token) (ts : List Token) (s : List ℕ) → IsNext t ts s → Spells (t ∷ ts) s
from_parts t ts s n = (n.before, n.own, n.rest, n.blanks, n.cut, n.spelled, n.ends, n.more)

form_cases : (t : Token) (ts : List Token) → AreFormTokens (t ∷ ts) → ((t ≡ End) × (ts ≡ [])) ⊎ (IsFormToken t × AreFormTokens ts)
form_cases (Word name) ts h = inr h
form_cases (Number v unsigned long) ts h = inr h
form_cases (Character v) ts h = inr h
form_cases (Text text) ts h = inr h
form_cases (Mark characters) ts h = inr h
form_cases End ts h = inl (refl, h)

form_more : (t : Token) (ts : List Token) → IsFormToken t → AreFormTokens ts → AreFormTokens (t ∷ ts)
form_more (Word name) ts is h = (is, h)
form_more (Number v unsigned long) ts is h = (is, h)
form_more (Character v) ts is h = (is, h)
form_more (Text text) ts is h = (is, h)
form_more (Mark characters) ts is h = (is, h)
form_more End ts is h = absurd is

-- Blanks

abbrev IsBlank : ℕ → Type 0
IsBlank b = is_blank b ≡ true

after_blanks_skip : (before s : List ℕ) → AreBlanks before → after_blanks (before ++ s) ≡ after_blanks s
after_blanks_skip [] s h = refl
after_blanks_skip (b ∷ bs) s h =
    cond-true (is_blank b) (after_blanks (bs ++ s)) (b ∷ (bs ++ s)) (All-head IsBlank b bs h) ∙ after_blanks_skip bs s (All-tail IsBlank b bs h)

after_blanks_none : (b : ℕ) (s : List ℕ) → is_blank b ≡ false → after_blanks (b ∷ s) ≡ b ∷ s
after_blanks_none b s h = cond-false (is_blank b) (after_blanks s) (b ∷ s) h

after_blanks_twice : (s : List ℕ) → after_blanks (after_blanks s) ≡ after_blanks s
after_blanks_twice [] = refl
after_blanks_twice (b ∷ s) =
    if_cases (λ r. after_blanks r ≡ r) (is_blank b) (λ _. after_blanks_twice s) (after_blanks_none b s)

pub after_blanks_shorter : (s : List ℕ) → length (after_blanks s) ≤ length s
after_blanks_shorter [] = omega arith
after_blanks_shorter (b ∷ s) =
    if_cases (λ r. length r ≤ length (b ∷ s)) (is_blank b) (λ _. omega (arith, after_blanks_shorter s)) (λ _. omega arith)

-- blanks, and what stands behind
record HasBlanks (s after : List ℕ) : Type 0 where
  before : List ℕ
  blanks : AreBlanks before
  cut : s ≡ before ++ after

blanks_of : (s : List ℕ) → HasBlanks s (after_blanks s)
blanks_of [] = record { before = []; blanks = All-nil IsBlank; cut = refl }
blanks_of (b ∷ s) =
    if_cases (HasBlanks (b ∷ s)) (is_blank b)
    (λ h. let of = blanks_of s in
    record { before = b ∷ of.before; blanks = All-cons IsBlank b of.before h of.blanks; cut = ap (λ r. b ∷ r) of.cut })
    (λ _. record { before = []; blanks = All-nil IsBlank; cut = refl })

-- blanks in front change nothing
blanks_in_front : (t : Token) (ts : List Token) (s : List ℕ) → Spells (t ∷ ts) (after_blanks s) → Spells (t ∷ ts) s
blanks_in_front t ts s h =
    let of = blanks_of s in
    let n = parts t ts (after_blanks s) h in
    from_parts t ts s (record {
      before = of.before ++ n.before;
      own = n.own;
      rest = n.rest;
      blanks = All-append IsBlank of.before n.before of.blanks n.blanks;
      cut = of.cut ∙ ap (λ r. of.before ++ r) n.cut ∙ sym (append_assoc of.before n.before (n.own ++ n.rest));
      spelled = n.spelled;
      ends = n.ends;
      more = n.more;
    })

-- The token behind the blanks

own_behind : (t : Token) (ts : List Token) (s : List ℕ) (n : IsNext t ts s) → IsFound n.own n.rest t → after_blanks s ≡ n.own ++ n.rest
own_behind t ts s n at =
    let cut : n.own ++ n.rest ≡ at.first ∷ (at.more ++ n.rest) = ap (λ r. r ++ n.rest) at.cut in
    ap after_blanks n.cut ∙ after_blanks_skip n.before (n.own ++ n.rest) n.blanks ∙ ap after_blanks cut ∙ after_blanks_none at.first (at.more ++ n.rest) at.not_blank ∙ sym cut

record IsFirst (t : Token) (ts : List Token) (s : List ℕ) : Type 0 where
  first : ℕ
  more : List ℕ
  cut : after_blanks s ≡ first ∷ more
  found : Found
  at_first : token_at first more ≡ Some found
  token : token_seen found.token ≡ t
  form : AreFormTokens ts
  spells : Spells ts (drop found.length (after_blanks s))

is_first : (t : Token) (ts : List Token) (s : List ℕ) → IsFormToken t → AreFormTokens ts → Spells (t ∷ ts) s → IsFirst t ts s
is_first t ts s is form h =
    let n = parts t ts s h in
    let at : IsFound n.own n.rest t = token_complete t n.own n.rest is n.spelled n.ends in
    let behind = own_behind t ts s n at in
    let rest : drop at.found.length (after_blanks s) ≡ n.rest = ap (λ k. drop k (after_blanks s)) at.size ∙ ap (drop (length n.own)) behind ∙ drop-append_seam n.own n.rest in
    record {
      first = at.first;
      more = at.more ++ n.rest;
      cut = behind ∙ ap (λ r. r ++ n.rest) at.cut;
      found = at.found;
      at_first = at.at_first;
      token = at.token;
      form = form;
      spells = subst (Spells ts) (sym rest) n.more;
    }

-- an end, where only blanks are left
end_blank : (s : List ℕ) → Spells (End ∷ []) s → after_blanks s ≡ []
end_blank s h =
    let n = parts End [] s h in
    let rest : n.own ++ n.rest ≡ [] = ap (λ r. r ++ n.rest) n.spelled ∙ n.more in
    ap after_blanks (n.cut ∙ ap (λ r. n.before ++ r) rest) ∙ after_blanks_skip n.before [] n.blanks

first_cases : (t : Token) (ts : List Token) (s : List ℕ) → AreFormTokens (t ∷ ts) → Spells (t ∷ ts) s → ((t ≡ End) × (ts ≡ []) × (after_blanks s ≡ [])) ⊎ IsFirst t ts s
first_cases t ts s form h = of_form (form_cases t ts form)
  where
    of_form : ((t ≡ End) × (ts ≡ [])) ⊎ (IsFormToken t × AreFormTokens ts) → ((t ≡ End) × (ts ≡ []) × (after_blanks s ≡ [])) ⊎ IsFirst t ts s
    of_form (inl e) = inl (e.0, e.1, end_blank s (subst (λ us. Spells (End ∷ us) s) e.1 (subst (λ u. Spells (u ∷ ts) s) e.0 h)))
    of_form (inr is) = inr (is_first t ts s is.0 is.1 h)

no_bytes : Spells (End ∷ []) []
no_bytes = from_parts End [] [] (record {
  before = [];
  own = [];
  rest = [];
  blanks = All-nil IsBlank;
  cut = refl;
  spelled = refl;
  ends = tt;
  more = refl;
})

-- tokens of the form are spelled without the blanks in front, too
spells_tight : (ts : List Token) (s : List ℕ) → AreFormTokens ts → Spells ts s → Spells ts (after_blanks s)
spells_tight [] s form h = absurd form
spells_tight (t ∷ ts) s form h = of_form (form_cases t ts form)
  where
    of_form : ((t ≡ End) × (ts ≡ [])) ⊎ (IsFormToken t × AreFormTokens ts) → Spells (t ∷ ts) (after_blanks s)
    of_form (inl e) =
        let only_end : Spells (End ∷ []) s = subst (λ us. Spells (End ∷ us) s) e.1 (subst (λ u. Spells (u ∷ ts) s) e.0 h) in
        let here : Spells (End ∷ []) (after_blanks s) = subst (Spells (End ∷ [])) (sym (end_blank s only_end)) no_bytes in
        subst (λ u. Spells (u ∷ ts) (after_blanks s)) (sym e.0) (subst (λ us. Spells (End ∷ us) (after_blanks s)) (sym e.1) here)
    of_form (inr is) =
        let n = parts t ts s h in
        from_parts t ts (after_blanks s) (record {
          before = [];
          own = n.own;
          rest = n.rest;
          blanks = All-nil IsBlank;
          cut = own_behind t ts s n (token_complete t n.own n.rest is.0 n.spelled n.ends);
          spelled = n.spelled;
          ends = n.ends;
          more = n.more;
        })

-- Some tokens are read, and bytes are left

pub record IsBehind (done : List Token) (left : List ℕ) (ts : List Token) : Type 0 where
  more : List Token
  cut : ts ≡ done ++ more
  form : AreFormTokens more
  spells : Spells more left

pub record IsScanned (bytes : List ℕ) (done : List Token) (left : List ℕ) : Type 0 where
  pub tight : after_blanks left ≡ left
  pub front : (t : Token) (ts : List Token) → Spells (t ∷ ts) left → Spells (done ++ t ∷ ts) bytes
  pub form : (ts : List Token) → AreFormTokens ts → AreFormTokens (done ++ ts)
  pub behind : (ts : List Token) → AreFormTokens ts → Spells ts bytes → IsBehind done left ts
  pub weighs : weights done + length left ≤ length bytes

pub scanned_start : (bytes : List ℕ) → IsScanned bytes [] (after_blanks bytes)
scanned_start bytes = record {
  tight = after_blanks_twice bytes;
  front = λ t ts h. blanks_in_front t ts bytes h;
  form = λ ts h. h;
  behind = λ ts form h. record { more = ts; cut = refl; form = form; spells = spells_tight ts bytes form h };
  weighs = omega (arith, after_blanks_shorter bytes);
}

weights-append : (ts us : List Token) → weights (ts ++ us) ≡ weights ts + weights us
weights-append [] us = omega arith
weights-append (t ∷ ts) us = omega (arith, weights-append ts us)

-- what is left begins with a token that is found
found_first : (first : ℕ) (more left : List ℕ) (f : Found) (t : Token) (ts : List Token) → after_blanks left ≡ left → left ≡ first ∷ more → token_at first more ≡ Some f → (is : IsFirst t ts left) → is.found ≡ f
found_first first more left f t ts tight cut found is =
    let same : is.first ∷ is.more ≡ first ∷ more = sym is.cut ∙ tight ∙ cut in
    let same_first : is.first ≡ first = cc in
    let same_more : is.more ≡ more = cc in
    let at_same : Some is.found ≡ Some f = sym is.at_first ∙ ap (λ b. token_at b is.more) same_first ∙ ap (token_at first) same_more ∙ found in
    cc

step_behind : (first : ℕ) (more left : List ℕ) (f : Found) (done ts : List Token) → after_blanks left ≡ left → left ≡ first ∷ more → token_at first more ≡ Some f → IsBehind done left ts → IsBehind (done ++ token_seen f.token ∷ []) (after_blanks (drop f.length left)) ts
step_behind first more left f done ts tight cut found behind = of_more behind.more behind.cut behind.form behind.spells
  where
    of_cases : (t : Token) (us : List Token) → ts ≡ done ++ t ∷ us → ((t ≡ End) × (us ≡ []) × (after_blanks left ≡ [])) ⊎ IsFirst t us left → IsBehind (done ++ token_seen f.token ∷ []) (after_blanks (drop f.length left)) ts
    of_cases t us is (inl e) = let never : [] ≡ first ∷ more = sym e.2 ∙ tight ∙ cut in absurd (cc)
    of_cases t us is (inr begun) =
        let same = found_first first more left f t us tight cut found begun in
        let token : t ≡ token_seen f.token = sym begun.token ∙ ap (λ g. token_seen g.token) same in
        let rest : drop begun.found.length (after_blanks left) ≡ drop f.length left = ap (λ g. drop g.length (after_blanks left)) same ∙ ap (drop f.length) tight in
        record {
          more = us;
          cut = is ∙ ap (λ u. done ++ u ∷ us) token ∙ sym (append_assoc done (token_seen f.token ∷ []) us);
          form = begun.form;
          spells = spells_tight us (drop f.length left) begun.form (subst (Spells us) rest begun.spells);
        }

    of_more : (us : List Token) → ts ≡ done ++ us → AreFormTokens us → Spells us left → IsBehind (done ++ token_seen f.token ∷ []) (after_blanks (drop f.length left)) ts
    of_more [] is form h = absurd form
    of_more (t ∷ us) is form h = of_cases t us is (first_cases t us left form h)

pub scanned_step : (bytes : List ℕ) (done : List Token) (first : ℕ) (more left : List ℕ) (f : Found) → IsScanned bytes done left → left ≡ first ∷ more → token_at first more ≡ Some f → IsScanned bytes (done ++ token_seen f.token ∷ []) (after_blanks (drop f.length left))
scanned_step bytes done first more left f is cut found =
    let token = token_seen f.token in
    let of : IsCut (first ∷ more) f = IfSome_at (IsCut (first ∷ more)) (token_at first more) f found (token_sound first more) in
    let whole : left ≡ of.own ++ of.rest = cut ∙ of.cut in
    let rest : drop f.length left ≡ of.rest = ap (λ k. drop k left) (sym of.size) ∙ ap (drop (length of.own)) whole ∙ drop-append_seam of.own of.rest in
    record {
      tight = after_blanks_twice (drop f.length left);
      front = λ t ts h.
          let behind : Spells (t ∷ ts) of.rest = subst (Spells (t ∷ ts)) rest (blanks_in_front t ts (drop f.length left) h) in
          let here : Spells (token ∷ t ∷ ts) left = from_parts token (t ∷ ts) left (record { before = []; own = of.own; rest = of.rest; blanks = All-nil IsBlank; cut = whole; spelled = of.spelled; ends = of.ends; more = behind }) in
          subst (λ us. Spells us bytes) (sym (append_assoc done (token ∷ []) (t ∷ ts))) (is.front token (t ∷ ts) here);
      form = λ ts h. subst AreFormTokens (sym (append_assoc done (token ∷ []) ts)) (is.form (token ∷ ts) (form_more token ts of.form h));
      behind = λ ts form h. step_behind first more left f done ts is.tight cut found (is.behind ts form h);
      weighs = omega (arith, is.weighs, weights-append done (token ∷ []), after_blanks_shorter (drop f.length left), length-drop f.length left, of.weighs, of.size, ap length whole, length-append of.own of.rest);
    }

-- Nothing is left

pub record IsTokenised (bytes : List ℕ) (ts : List Token) : Type 0 where
  pub spelled : Spells ts bytes × AreFormTokens ts
  pub weighs : weights ts ≤ length bytes
  pub only : (us : List Token) → AreFormTokens us → Spells us bytes → ts ≡ us

behind_end : (done ts : List Token) → IsBehind done [] ts → done ++ End ∷ [] ≡ ts
behind_end done ts behind = of_more behind.more behind.cut behind.form behind.spells
  where
    of_cases : (t : Token) (us : List Token) → ts ≡ done ++ t ∷ us → ((t ≡ End) × (us ≡ []) × (after_blanks [] ≡ [])) ⊎ IsFirst t us [] → done ++ End ∷ [] ≡ ts
    of_cases t us is (inl e) = sym (is ∙ ap (λ u. done ++ u ∷ us) e.0 ∙ ap (λ vs. done ++ End ∷ vs) e.1)
    of_cases t us is (inr begun) = let never : [] ≡ begun.first ∷ begun.more = begun.cut in absurd (cc)

    of_more : (us : List Token) → ts ≡ done ++ us → AreFormTokens us → Spells us [] → done ++ End ∷ [] ≡ ts
    of_more [] is form h = absurd form
    of_more (t ∷ us) is form h = of_cases t us is (first_cases t us [] form h)

pub scanned_end : (bytes : List ℕ) (done : List Token) → IsScanned bytes done [] → IsTokenised bytes (done ++ End ∷ [])
scanned_end bytes done is = record {
  spelled = (is.front End [] no_bytes, is.form (End ∷ []) refl);
  weighs = omega (arith, is.weighs, weights-append done (End ∷ []));
  only = λ us form h. behind_end done us (is.behind us form h);
}

-- No token is found

behind_refused : (first : ℕ) (more left : List ℕ) (done ts : List Token) → after_blanks left ≡ left → left ≡ first ∷ more → token_at first more ≡ None → IsBehind done left ts → ⊥
behind_refused first more left done ts tight cut none behind = of_more behind.more behind.form behind.spells
  where
    of_cases : (t : Token) (us : List Token) → ((t ≡ End) × (us ≡ []) × (after_blanks left ≡ [])) ⊎ IsFirst t us left → ⊥
    of_cases t us (inl e) = let never : [] ≡ first ∷ more = sym e.2 ∙ tight ∙ cut in cc
    of_cases t us (inr is) =
        let same : is.first ∷ is.more ≡ first ∷ more = sym is.cut ∙ tight ∙ cut in
        let same_first : is.first ≡ first = cc in
        let same_more : is.more ≡ more = cc in
        let never : Some is.found ≡ None = sym is.at_first ∙ ap (λ b. token_at b is.more) same_first ∙ ap (token_at first) same_more ∙ none in
        cc

    of_more : (us : List Token) → AreFormTokens us → Spells us left → ⊥
    of_more [] form h = form
    of_more (t ∷ us) form h = of_cases t us (first_cases t us left form h)

pub scanned_refused : (bytes : List ℕ) (done : List Token) (first : ℕ) (more left : List ℕ) → IsScanned bytes done left → left ≡ first ∷ more → token_at first more ≡ None → (ts : List Token) → AreFormTokens ts → Spells ts bytes → ⊥
scanned_refused bytes done first more left is cut none ts form h = behind_refused first more left done ts is.tight cut none (is.behind ts form h)

-- Bytes are spelled as tokens of the form in one way

first_twice : (t u : Token) (ts us : List Token) (s : List ℕ) (i : IsFirst t ts s) (j : IsFirst u us s) → i.found ≡ j.found
first_twice t u ts us s i j =
    let same : i.first ∷ i.more ≡ j.first ∷ j.more = sym i.cut ∙ j.cut in
    let same_first : i.first ≡ j.first = cc in
    let same_more : i.more ≡ j.more = cc in
    let at_same : Some i.found ≡ Some j.found = sym i.at_first ∙ ap (λ b. token_at b i.more) same_first ∙ ap (token_at j.first) same_more ∙ j.at_first in
    cc

end_not_first : (t : Token) (ts : List Token) (s : List ℕ) → after_blanks s ≡ [] → IsFirst t ts s → ⊥
end_not_first t ts s e i = let never : [] ≡ i.first ∷ i.more = sym e ∙ i.cut in cc

pub spelled_once : (ts us : List Token) (s : List ℕ) → AreFormTokens ts → AreFormTokens us → Spells ts s → Spells us s → ts ≡ us
spelled_once [] us s form other h g = absurd form
spelled_once (t ∷ ts) [] s form other h g = absurd other
spelled_once (t ∷ ts) (u ∷ us) s form other h g = elim (first_cases t ts s form h) [
  | inl e ↦ elim (first_cases u us s other g) [
    | inl f ↦ (λ k. (e.0 ∙ sym f.0) k ∷ (e.1 ∙ sym f.1) k)
    | inr j ↦ absurd (end_not_first u us s e.2 j)
  ]
  | inr i ↦ elim (first_cases u us s other g) [
    | inl f ↦ absurd (end_not_first t ts s f.2 i)
    | inr j ↦
        (let found : i.found ≡ j.found = first_twice t u ts us s i j in
        let token : t ≡ u = sym i.token ∙ ap (λ f. token_seen f.token) found ∙ j.token in
        let spells : Spells us (drop i.found.length (after_blanks s)) = subst (λ f. Spells us (drop f.length (after_blanks s))) (sym found) j.spells in
        let rest : ts ≡ us = spelled_once ts us (drop i.found.length (after_blanks s)) i.form j.form i.spells spells in
        λ k. token k ∷ rest k)
  ]
]
