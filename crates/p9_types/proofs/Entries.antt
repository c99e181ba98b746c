-- Levels as entries by number.
use Rattle.std.proofs.Common.{◌≡◌, ℕ, Bool, true, false, nat_eq, if◌then◌else◌, List, [], ◌∷◌, ◌++◌, Some, append-nil, append_assoc, refl, sym, ap, subst, ◌∙◌}
use Rattle.std.specs.Map.{lookup}
use Rattle.std.proofs.lemmas.Bool.{eqb-true}
use Rattle.indexmap.specs.IndexMap.{insert_entry}
use Rattle.p9_lang.specs.Members.{Part, Sought, Nowhere, One, Several}
use Rattle.p9_types.specs.declared.level.Standing.{Standing}
use Rattle.p9_types.specs.declared.level.Place.{Place}
use Rattle.p9_types.specs.Levels.{tally, together, stands_at, SameLevel, copies, Adds}
use Rattle.p9_types.specs.Standings.{part_of, copies_of, spread, entry_copies, spread_entries, place_with}
use Rattle.p9_types.proofs.Tallies.{stands_append, together_none, together_several, same_append, same_swap}

-- ADDING

pub adds_nothing : (L : List Part) → Adds L [] L
adds_nothing L = record { same = λ s. ap (stands_at s) (sym (append-nil L)) }

pub adds_then : (L P M Q N : List Part) → Adds L P M → Adds M Q N → Adds L (P ++ Q) N
adds_then L P M Q N a b = record {
  same = λ s. b.same s ∙ same_append M (L ++ P) Q Q a.same (λ t. refl) s ∙ ap (stands_at s) (append_assoc L P Q);
}

-- A STANDING

stands_copies : (s : ℕ) (b : Bool) (p : Part) → stands_at s (copies b p) ≡ (if nat_eq p.tag s then (if b then Several else One p.offset) else Nowhere)
stands_copies s true p = by (nat_eq p.tag s)
  where
    by : (c : Bool) → tally ((if c then p.offset ∷ [] else []) ++ ((if c then p.offset ∷ [] else []) ++ [])) ≡ (if c then Several else Nowhere)
    by true = refl
    by false = refl
stands_copies s false p = by (nat_eq p.tag s)
  where
    by : (c : Bool) → tally ((if c then p.offset ∷ [] else []) ++ []) ≡ (if c then One p.offset else Nowhere)
    by true = refl
    by false = refl

one_more : (x y : ℕ) (b c : Bool) (r : Sought ℕ) → together Several r ≡ together (together (if b then Several else One x) r) (if c then Several else One y)
one_more x y true true r = refl
one_more x y true false r = refl
one_more x y false true r = sym (together_several (together (One x) r))
one_more x y false false Nowhere = refl
one_more x y false false (One z) = refl
one_more x y false false Several = refl

-- one that stands there already
again : (e : ℕ × Place) (es : List (ℕ × Place)) (s : Standing) → s.tag ≡ e.0
    → SameLevel (copies true (record { offset = e.1.offset; tag = e.0 }) ++ spread_entries es) ((entry_copies e ++ spread_entries es) ++ copies_of s)
again e es s q t =
    stands_append t (copies true (record { offset = e.1.offset; tag = e.0 })) (spread_entries es)
    ∙ ap (λ x. together x (stands_at t (spread_entries es))) (stands_copies t true (record { offset = e.1.offset; tag = e.0 }))
    ∙ by (nat_eq e.0 t) (stands_at t (spread_entries es))
    ∙ sym (ap (λ x. together x (if nat_eq e.0 t then (if s.several then Several else One s.offset) else Nowhere))
    (stands_append t (entry_copies e) (spread_entries es) ∙ ap (λ x. together x (stands_at t (spread_entries es))) (stands_copies t e.1.several (record { offset = e.1.offset; tag = e.0 }))))
    ∙ sym (ap (together (stands_at t (entry_copies e ++ spread_entries es)))
    (stands_copies t s.several (part_of s) ∙ ap (λ n. if nat_eq n t then (if s.several then Several else One s.offset) else Nowhere) q))
    ∙ sym (stands_append t (entry_copies e ++ spread_entries es) (copies_of s))
  where
    by : (b : Bool) (r : Sought ℕ) → together (if b then Several else Nowhere) r
        ≡ together (together (if b then (if e.1.several then Several else One e.1.offset) else Nowhere) r) (if b then (if s.several then Several else One s.offset) else Nowhere)
    by true r = one_more e.1.offset s.offset e.1.several s.several r
    by false r = sym (together_none r)

pub inserted_same : (es : List (ℕ × Place)) (s : Standing)
    → SameLevel (spread_entries (insert_entry nat_eq es s.tag (place_with (lookup (nat_eq s.tag) es) s))) (spread_entries es ++ copies_of s)
inserted_same [] s t = ap (stands_at t) (append-nil (copies_of s))
inserted_same (e ∷ es) s t = by (nat_eq s.tag e.0) refl (inserted_same es s)
  where
    by : (b : Bool) → nat_eq s.tag e.0 ≡ b
        → SameLevel (spread_entries (insert_entry nat_eq es s.tag (place_with (lookup (nat_eq s.tag) es) s))) (spread_entries es ++ copies_of s)
        → stands_at t (spread_entries (if b then (e.0, place_with (if b then Some e.1 else lookup (nat_eq s.tag) es) s) ∷ es
        else e ∷ insert_entry nat_eq es s.tag (place_with (if b then Some e.1 else lookup (nat_eq s.tag) es) s)))
        ≡ stands_at t ((entry_copies e ++ spread_entries es) ++ copies_of s)
    by true q h = again e es s (eqb-true s.tag e.0 q) t
    by false q h =
        same_append (entry_copies e) (entry_copies e) (spread_entries (insert_entry nat_eq es s.tag (place_with (lookup (nat_eq s.tag) es) s))) (spread_entries es ++ copies_of s)
        (λ u. refl) h t
        ∙ ap (stands_at t) (sym (append_assoc (entry_copies e) (spread_entries es) (copies_of s)))

pub adds_standing : (es later : List (ℕ × Place)) (s : Standing) (p : Place) → later ≡ insert_entry nat_eq es s.tag p → p ≡ place_with (lookup (nat_eq s.tag) es) s
    → Adds (spread_entries es) (copies_of s) (spread_entries later)
adds_standing es later s p e q =
    subst (λ l. Adds (spread_entries es) (copies_of s) (spread_entries l)) (sym (e ∙ ap (insert_entry nat_eq es s.tag) q)) (record { same = inserted_same es s })

-- A LEVEL THAT IS TAKEN APART

pub spread_more : (ss : List Standing) (s : Standing) → spread (ss ++ s ∷ []) ≡ spread ss ++ copies_of s
spread_more [] s = append-nil (copies_of s)
spread_more (t ∷ ss) s = ap (λ l. copies_of t ++ l) (spread_more ss s) ∙ sym (append_assoc (copies_of t) (spread ss) (copies_of s))

spread_entries_more : (es : List (ℕ × Place)) (e : ℕ × Place) → spread_entries (es ++ e ∷ []) ≡ spread_entries es ++ entry_copies e
spread_entries_more [] e = append-nil (entry_copies e)
spread_entries_more (d ∷ es) e = ap (λ l. entry_copies d ++ l) (spread_entries_more es e) ∙ sym (append_assoc (entry_copies d) (spread_entries es) (entry_copies e))

-- the last entry goes over
pub goes_over : (ss later : List Standing) (es rest : List (ℕ × Place)) (e : ℕ × Place) (level : List Part) → es ≡ rest ++ e ∷ []
    → later ≡ ss ++ record { tag = e.0; offset = e.1.offset; several = e.1.several } ∷ []
    → Adds [] level (spread ss ++ spread_entries es) → Adds [] level (spread later ++ spread_entries rest)
goes_over ss later es rest e level p q a =
    let taken : spread_entries es ≡ spread_entries rest ++ entry_copies e = ap spread_entries p ∙ spread_entries_more rest e in
    let given : spread later ≡ spread ss ++ entry_copies e = ap spread q ∙ spread_more ss (record { tag = e.0; offset = e.1.offset; several = e.1.several }) in
    record {
      same = λ s.
          ap (stands_at s) (ap (λ l. l ++ spread_entries rest) given ∙ append_assoc (spread ss) (entry_copies e) (spread_entries rest))
          ∙ stands_append s (spread ss) (entry_copies e ++ spread_entries rest)
          ∙ ap (together (stands_at s (spread ss))) (same_swap (entry_copies e) (spread_entries rest) s ∙ ap (stands_at s) (sym taken))
          ∙ sym (stands_append s (spread ss) (spread_entries es))
          ∙ a.same s;
    }

pub all_over : (ss : List Standing) (es : List (ℕ × Place)) (level : List Part) → es ≡ [] → Adds [] level (spread ss ++ spread_entries es) → Adds [] level (spread ss)
all_over ss es level e a = subst (Adds [] level) (ap (λ l. spread ss ++ spread_entries l) e ∙ append-nil (spread ss)) a

pub none_over : (ss : List Standing) (es : List (ℕ × Place)) → ss ≡ [] → Adds [] (spread_entries es) (spread ss ++ spread_entries es)
none_over ss es e = subst (λ l. Adds [] (spread_entries es) (spread l ++ spread_entries es)) (sym e) (record { same = λ s. refl })
