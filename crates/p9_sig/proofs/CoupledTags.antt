-- Structures and unions that are written with one text are read alike.
use Rattle.std.proofs.Common.{◌≡◌, ◌⊎◌, inl, inr, ℕ, zero, suc, Bool, true, false, if◌then◌else◌, List, [], ◌∷◌, ◌++◌, slice_get, Option, Some, None, codes, refl, sym, ap, ◌∙◌, subst, append_assoc}
use Rattle.std.proofs.lemmas.Bool.{eqb-false}
use Rattle.p9_lang.specs.Names.{is_among}
use Rattle.p9_lang.specs.Types.{MemberTree, TagTree, Tags}
use Rattle.p9_lang.specs.Agreement.{open_body}
use Rattle.p9_lang.specs.TagRules.{MembersMention, BodyMentions}
use Rattle.p9_sig.specs.Parts.{Written, writes, ◌⨟◌}
use Rattle.p9_sig.specs.Texts.{opening, closing, type_text, members_text, body_text, once, tag_text_by, tag_text}
use Rattle.p9_sig.proofs.Names.{Grows, meets, met_now}
use Rattle.p9_sig.proofs.Numbers.{IsWord, split}
use Rattle.p9_sig.proofs.Reading.{Met, Alike, AlikeMembers, AlikeBodies, AlikeHeld, AlikeTag, AlikeTags, Link}
use Rattle.p9_sig.proofs.Coupling.{halves_of, fronted_of, Reads, Coupled, Couples, moved, read_so, couple_so, couple_as, couple_then, couple_writes, couple_front, couple_words, among_pushed, heads_same, tails_same}
use Rattle.p9_sig.proofs.Coupled.{firsts_same, begins_front, begins_body, body_byte, open_byte, not_again, member_grouped, coupled}

-- TEXTS OF BODIES

pub record OpenedAlike (u v : Bool) (r s : List ℕ) : Type 0 where
  pub kind : u ≡ v
  pub rest : r ≡ s

opened_alike : (u v : Bool) (r s : List ℕ) → opening u ++ r ≡ opening v ++ s → OpenedAlike u v r s
opened_alike true true r s e = record { kind = refl; rest = tails_same 60 60 r s e }
opened_alike true false r s e = absurd (eqb-false 60 123 refl (heads_same 60 123 r s e))
opened_alike false true r s e = absurd (eqb-false 123 60 refl (heads_same 123 60 r s e))
opened_alike false false r s e = record { kind = refl; rest = tails_same 123 123 r s e }

pub record NamedAlike (u v : Bool) (x y r s : List ℕ) : Type 0 where
  pub kind : u ≡ v
  pub name : x ≡ y
  pub rest : r ≡ s

closed_alike : (u : Bool) (x y r s : List ℕ) → IsWord x → IsWord y → (x ++ closing u) ++ r ≡ (y ++ closing u) ++ s → (x ≡ y) × (r ≡ s)
closed_alike true x y r s p q e =
    let z = split x y 62 62 r s p q refl refl (sym (append_assoc x (62 ∷ []) r) ∙ e ∙ append_assoc y (62 ∷ []) s) in (z.word, z.rest)
closed_alike false x y r s p q e =
    let z = split x y 125 125 r s p q refl refl (sym (append_assoc x (125 ∷ []) r) ∙ e ∙ append_assoc y (125 ∷ []) s) in (z.word, z.rest)

opaque_alike : (u v : Bool) (x y r s : List ℕ) → IsWord x → IsWord y
    → (codes "?" ++ (opening u ++ (x ++ closing u))) ++ r ≡ (codes "?" ++ (opening v ++ (y ++ closing v))) ++ s → NamedAlike u v x y r s
opaque_alike u v x y r s p q e =
    by u v (tails_same 63 63 ((opening u ++ (x ++ closing u)) ++ r) ((opening v ++ (y ++ closing v)) ++ s) e)
  where
    by : (u v : Bool) → (opening u ++ (x ++ closing u)) ++ r ≡ (opening v ++ (y ++ closing v)) ++ s → NamedAlike u v x y r s
    by true true e =
        let z = closed_alike true x y r s p q (tails_same 60 60 ((x ++ closing true) ++ r) ((y ++ closing true) ++ s) e) in
        record { kind = refl; name = z.0; rest = z.1 }
    by true false e = absurd (eqb-false 60 123 refl (heads_same 60 123 ((x ++ closing true) ++ r) ((y ++ closing false) ++ s) e))
    by false true e = absurd (eqb-false 123 60 refl (heads_same 123 60 ((x ++ closing false) ++ r) ((y ++ closing true) ++ s) e))
    by false false e =
        let z = closed_alike false x y r s p q (tails_same 123 123 ((x ++ closing false) ++ r) ((y ++ closing false) ++ s) e) in
        record { kind = refl; name = z.0; rest = z.1 }

-- the end of a body is no member
end_is_no_member : (u : Bool) (y r s : List ℕ) → IsWord y → closing u ++ r ≡ y ++ 58 ∷ s → ⊥
end_is_no_member true y r s q e = let z = split [] y 62 58 r s refl q refl refl e in eqb-false 62 58 refl z.stop
end_is_no_member false y r s q e = let z = split [] y 125 58 r s refl q refl refl e in eqb-false 125 58 refl z.stop

opaque_or_whole : (u : Bool) (ms : List MemberTree) → 63 ≡ body_byte u (Some ms) → ⊥
unfolding body_byte open_byte
opaque_or_whole true ms e = eqb-false 63 60 refl e
opaque_or_whole false ms e = eqb-false 63 123 refl e

abbrev pub AreWords : List MemberTree → Type 0
AreWords [] = Unit {0}
AreWords (m ∷ ms) = IsWord m.name × AreWords ms

abbrev pub BodyWords : Option (List MemberTree) → Type 0
BodyWords None = Unit {0}
BodyWords (Some ms) = AreWords ms

-- STRUCTURES, by what is said of those within them

module _ (A B : Tags) (R S : ℕ → Type 0) (m n : ℕ) (tags : (i j : ℕ) → R i → S j → Couples A B R S (λ M. AlikeTags A B R S m M i j) (tag_text m A i) (tag_text n B j)) where
  coupled_members : (u : Bool) (ts us : List MemberTree) → AreWords ts → AreWords us → MembersMention R ts → MembersMention S us
      → Couples A B R S (λ M. AlikeMembers (AlikeTags A B R S m M) ts us) (members_text (tag_text m A) ts ⨟ writes (closing u)) (members_text (tag_text n B) us ⨟ writes (closing u))
  coupled_members u [] [] x y a b =
      couple_front A B R S (λ M. Unit {0}) [] (writes (closing u)) (writes (closing u)) (couple_writes A B R S (closing u))
  coupled_members u [] (o ∷ us) x y a b = λ met v w r s e k h.
      let p = fronted_of [] (writes (closing u)) met v e in
      let end : record { text = closing u; met = met } ≡ p.back = let f = p.is in cc in
      let q = halves_of (writes o.name ⨟ writes (codes ":") ⨟ type_text (tag_text n B) o.type ⨟ writes (codes ";") ⨟ members_text (tag_text n B) us) (writes (closing u)) met w k in
      let c = fronted_of o.name (writes (codes ":") ⨟ type_text (tag_text n B) o.type ⨟ writes (codes ";") ⨟ members_text (tag_text n B) us) met q.first q.is_first in
      let d = fronted_of (codes ":") (type_text (tag_text n B) o.type ⨟ writes (codes ";") ⨟ members_text (tag_text n B) us) met c.back c.is in
      absurd (end_is_no_member u o.name r ((d.back.text ++ q.second.text) ++ s) y.0
      (ap (λ t. t.text ++ r) end ∙ ap (λ t. t ++ r) (sym p.text) ∙ h
      ∙ ap (λ t. t ++ s) (q.text ∙ ap (λ t. t ++ q.second.text) (c.text ∙ ap (λ t. o.name ++ t) d.text))
      ∙ ap (λ t. t ++ s) (append_assoc o.name (58 ∷ d.back.text) q.second.text)
      ∙ append_assoc o.name (58 ∷ (d.back.text ++ q.second.text)) s))
  coupled_members u (o ∷ ts) [] x y a b = λ met v w r s e k h.
      let p = fronted_of [] (writes (closing u)) met w k in
      let end : record { text = closing u; met = met } ≡ p.back = let f = p.is in cc in
      let q = halves_of (writes o.name ⨟ writes (codes ":") ⨟ type_text (tag_text m A) o.type ⨟ writes (codes ";") ⨟ members_text (tag_text m A) ts) (writes (closing u)) met v e in
      let c = fronted_of o.name (writes (codes ":") ⨟ type_text (tag_text m A) o.type ⨟ writes (codes ";") ⨟ members_text (tag_text m A) ts) met q.first q.is_first in
      let d = fronted_of (codes ":") (type_text (tag_text m A) o.type ⨟ writes (codes ";") ⨟ members_text (tag_text m A) ts) met c.back c.is in
      absurd (end_is_no_member u o.name s ((d.back.text ++ q.second.text) ++ r) x.0
      (ap (λ t. t.text ++ s) end ∙ ap (λ t. t ++ s) (sym p.text) ∙ sym h
      ∙ ap (λ t. t ++ r) (q.text ∙ ap (λ t. t ++ q.second.text) (c.text ∙ ap (λ t. o.name ++ t) d.text))
      ∙ ap (λ t. t ++ r) (append_assoc o.name (58 ∷ d.back.text) q.second.text)
      ∙ append_assoc o.name (58 ∷ (d.back.text ++ q.second.text)) r))
  coupled_members u (o ∷ ts) (z ∷ us) x y a b =
      let f = type_text (tag_text m A) o.type in
      let g = type_text (tag_text n B) z.type in
      let fs = members_text (tag_text m A) ts in
      let gs = members_text (tag_text n B) us in
      couple_as A B R S (λ M. (o.name ≡ z.name) × Alike (AlikeTags A B R S m M) o.type z.type × AlikeMembers (AlikeTags A B R S m M) ts us)
      (writes o.name ⨟ writes (codes ":") ⨟ f ⨟ writes (codes ";") ⨟ fs ⨟ writes (closing u))
      ((writes o.name ⨟ writes (codes ":") ⨟ f ⨟ writes (codes ";") ⨟ fs) ⨟ writes (closing u))
      (writes z.name ⨟ writes (codes ":") ⨟ g ⨟ writes (codes ";") ⨟ gs ⨟ writes (closing u))
      ((writes z.name ⨟ writes (codes ":") ⨟ g ⨟ writes (codes ";") ⨟ gs) ⨟ writes (closing u))
      (member_grouped (writes o.name) (writes (codes ":")) f (writes (codes ";")) fs (writes (closing u)))
      (member_grouped (writes z.name) (writes (codes ":")) g (writes (codes ";")) gs (writes (closing u)))
      (couple_so A B R S (λ M. (o.name ≡ z.name) × (Alike (AlikeTags A B R S m M) o.type z.type × AlikeMembers (AlikeTags A B R S m M) ts us))
      (λ M. (o.name ≡ z.name) × Alike (AlikeTags A B R S m M) o.type z.type × AlikeMembers (AlikeTags A B R S m M) ts us)
      (writes o.name ⨟ writes (codes ":") ⨟ f ⨟ writes (codes ";") ⨟ fs ⨟ writes (closing u))
      (writes z.name ⨟ writes (codes ":") ⨟ g ⨟ writes (codes ";") ⨟ gs ⨟ writes (closing u))
      (λ M l. (l.0, l.1.0, l.1.1))
      (couple_words A B R S (λ M. Alike (AlikeTags A B R S m M) o.type z.type × AlikeMembers (AlikeTags A B R S m M) ts us) o.name z.name 58
      (f ⨟ writes (codes ";") ⨟ fs ⨟ writes (closing u)) (g ⨟ writes (codes ";") ⨟ gs ⨟ writes (closing u)) x.0 y.0 refl
      (couple_then A B R S (λ M. Alike (AlikeTags A B R S m M) o.type z.type) (λ M. AlikeMembers (AlikeTags A B R S m M) ts us) f g
      (writes (codes ";") ⨟ fs ⨟ writes (closing u)) (writes (codes ";") ⨟ gs ⨟ writes (closing u))
      (coupled A B R S m n tags o.type z.type a.0 b.0)
      (couple_front A B R S (λ M. AlikeMembers (AlikeTags A B R S m M) ts us) (codes ";") (fs ⨟ writes (closing u)) (gs ⨟ writes (closing u))
      (coupled_members u ts us x.1 y.1 a.1 b.1)))))

  -- bodies, with their tags and kinds; the tags met before are the same if the tags are
  pub record BodiesAlike (u v : Bool) (x y : List ℕ) (a b : Option (List MemberTree)) (met : Met) (p q : Written) (r s : List ℕ) : Type 0 where
    pub kind : u ≡ v
    pub name : x ≡ y
    pub coupled : Coupled A B R S (λ M. AlikeBodies (AlikeTags A B R S m M) a b) met p q r s

  coupled_bodies : (u v : Bool) (x y : List ℕ) (a b : Option (List MemberTree)) → IsWord x → IsWord y → BodyWords a → BodyWords b → BodyMentions R a → BodyMentions S b
      → (met met' : Met) (p q : Written) (r s : List ℕ) → (x ≡ y → met' ≡ met)
      → body_text (tag_text m A) u x a met ≡ Some p → body_text (tag_text n B) v y b met' ≡ Some q → p.text ++ r ≡ q.text ++ s
      → BodiesAlike u v x y a b met p q r s
  coupled_bodies u v x y None None wx wy wa wb ra sb met met' p q r s same e k h =
      let f : record { text = codes "?" ++ (opening u ++ (x ++ closing u)); met = met } ≡ p = cc in
      let g : record { text = codes "?" ++ (opening v ++ (y ++ closing v)); met = met' } ≡ q = cc in
      let z = opaque_alike u v x y r s wx wy (ap (λ t. t.text ++ r) f ∙ h ∙ ap (λ t. t.text ++ s) (sym g)) in
      record {
        kind = z.kind;
        name = z.name;
        coupled = record {
          rest = z.rest;
          reads = moved A B R S (λ M. Unit {0}) met met p.met met q.met (ap (λ t. t.met) (sym f)) (ap (λ t. t.met) (sym g) ∙ same z.name)
              (record { same = refl; grows = λ x m. m; alike = λ M grows. tt; links = λ M grows x m. inl m });
        };
      }
  coupled_bodies u v x y None (Some us) wx wy wa wb ra sb met met' p q r s same e k h =
      absurd (opaque_or_whole v us (firsts_same 63 (body_byte v (Some us)) p.text q.text r s
      (begins_front 63 [] (writes (opening u) ⨟ writes x ⨟ writes (closing u)) met p e) (begins_body (tag_text n B) v y (Some us) met' q k) h))
  coupled_bodies u v x y (Some ts) None wx wy wa wb ra sb met met' p q r s same e k h =
      absurd (opaque_or_whole u ts (firsts_same 63 (body_byte u (Some ts)) q.text p.text s r
      (begins_front 63 [] (writes (opening v) ⨟ writes y ⨟ writes (closing v)) met' q k) (begins_body (tag_text m A) u x (Some ts) met p e) (sym h)))
  coupled_bodies u v x y (Some ts) (Some us) wx wy wa wb ra sb met met' p q r s same e k h =
      let fs = members_text (tag_text m A) ts in
      let gs = members_text (tag_text n B) us in
      let p1 = fronted_of (opening u) (writes x ⨟ writes (codes ":") ⨟ fs ⨟ writes (closing u)) met p e in
      let q1 = fronted_of (opening v) (writes y ⨟ writes (codes ":") ⨟ gs ⨟ writes (closing v)) met' q k in
      let p2 = fronted_of x (writes (codes ":") ⨟ fs ⨟ writes (closing u)) met p1.back p1.is in
      let q2 = fronted_of y (writes (codes ":") ⨟ gs ⨟ writes (closing v)) met' q1.back q1.is in
      let p3 = fronted_of (codes ":") (fs ⨟ writes (closing u)) met p2.back p2.is in
      let q3 = fronted_of (codes ":") (gs ⨟ writes (closing v)) met' q2.back q2.is in
      let o = opened_alike u v (p1.back.text ++ r) (q1.back.text ++ s)
      (sym (append_assoc (opening u) p1.back.text r) ∙ ap (λ t. t ++ r) (sym p1.text) ∙ h ∙ ap (λ t. t ++ s) q1.text ∙ append_assoc (opening v) q1.back.text s) in
      let left : p1.back.text ++ r ≡ x ++ 58 ∷ (p3.back.text ++ r) = ap (λ t. t ++ r) (p2.text ∙ ap (λ t. x ++ t) p3.text) ∙ append_assoc x (58 ∷ p3.back.text) r in
      let right : q1.back.text ++ s ≡ y ++ 58 ∷ (q3.back.text ++ s) = ap (λ t. t ++ s) (q2.text ∙ ap (λ t. y ++ t) q3.text) ∙ append_assoc y (58 ∷ q3.back.text) s in
      let z = split x y 58 58 (p3.back.text ++ r) (q3.back.text ++ s) wx wy refl refl (sym left ∙ o.rest ∙ right) in
      let there : (gs ⨟ writes (closing u)) met ≡ Some q3.back =
      ap (λ c. (gs ⨟ writes (closing c)) met) o.kind ∙ ap (λ l. (gs ⨟ writes (closing v)) l) (sym (same z.word)) ∙ q3.is in
      let c = coupled_members u ts us wa wb ra sb met p3.back q3.back r s p3.is there z.rest in
      record {
        kind = o.kind;
        name = z.word;
        coupled = record {
          rest = c.rest;
          reads = moved A B R S (λ M. AlikeMembers (AlikeTags A B R S m M) ts us) met p3.back.met p.met q3.back.met q.met
              (p1.after ∙ p2.after ∙ p3.after) (q1.after ∙ q2.after ∙ q3.after) c.reads;
        };
      }

  -- two structures
  module _ (i j : ℕ) (ri : R i) (sj : S j) (s t : TagTree) (left : slice_get A i ≡ Some s) (right : slice_get B j ≡ Some t)
      (ws : IsWord s.name) (wt : IsWord t.name) (bs : BodyWords (open_body s)) (bt : BodyWords (open_body t))
      (ms : BodyMentions R (open_body s)) (mt : BodyMentions S (open_body t)) (met : Met) (p q : Written) (r r' : List ℕ) (h : p.text ++ r ≡ q.text ++ r') where
    abbrev Like : Met → Type 0
    Like M = (s.name ≡ t.name) × AlikeHeld M (AlikeTags A B R S m M) s.name s t

    -- one with a tag that is met here
    opened : (c : ℕ) (cs : List ℕ) → s.name ≡ c ∷ cs → t.name ≡ c ∷ cs → s.is_union ≡ t.is_union
        → Reads A B R S (λ M. AlikeBodies (AlikeTags A B R S m M) (open_body s) (open_body t)) (met ++ (c ∷ cs) ∷ []) p.met q.met → Reads A B R S Like met p.met q.met
    opened c cs ex ey uv z = record {
      same = z.same;
      grows = λ x k. z.grows x (meets met (c ∷ cs) x k);
      alike = λ M sub. (ex ∙ sym ey, subst (λ w. AlikeHeld M (AlikeTags A B R S m M) w s t) (sym ex) (sub (c ∷ cs) (z.grows (c ∷ cs) (met_now met (c ∷ cs)))));
      links = λ M sub x k. by M sub x (z.links M sub x k);
    }
      where
        link : (M : Met) → Grows p.met M → (x : List ℕ) → x ≡ c ∷ cs → Link A B R S M x
        link M sub x e = record {
          depth = m;
          i = i;
          j = j;
          s = s;
          t = t;
          left_reached = ri;
          right_reached = sj;
          left = left;
          right = right;
          left_name = ex ∙ sym e;
          right_name = ey ∙ sym e;
          same_kind = uv;
          bodies = z.alike M sub;
        }

        by : (M : Met) → Grows p.met M → (x : List ℕ) → (is_among (met ++ (c ∷ cs) ∷ []) x ≡ true) ⊎ Link A B R S M x → (is_among met x ≡ true) ⊎ Link A B R S M x
        by M sub x (inl k) = elim (among_pushed met (c ∷ cs) x k) [ inl e ↦ inr (link M sub x e) | inr a ↦ inl a ]
        by M sub x (inr l) = inr l

    unnamed : s.name ≡ [] → t.name ≡ [] → body_text (tag_text m A) s.is_union [] (open_body s) met ≡ Some p → body_text (tag_text n B) t.is_union [] (open_body t) met ≡ Some q
        → Coupled A B R S Like met p q r r'
    unnamed ex ey e k =
        let z = coupled_bodies s.is_union t.is_union [] [] (open_body s) (open_body t) refl refl bs bt ms mt met met p q r r' (λ w. refl) e k h in
        record {
          rest = z.coupled.rest;
          reads = read_so A B R S (λ M. AlikeBodies (AlikeTags A B R S m M) (open_body s) (open_body t)) Like met p.met q.met
              (λ M sub a. (ex ∙ sym ey, subst (λ w. AlikeHeld M (AlikeTags A B R S m M) w s t) (sym ex) (z.kind, a))) z.coupled.reads;
        }

    named : (c : ℕ) (cs : List ℕ) (d : ℕ) (ds : List ℕ) → s.name ≡ c ∷ cs → t.name ≡ d ∷ ds → (a b : Bool) → is_among met (c ∷ cs) ≡ a → is_among met (d ∷ ds) ≡ b
        → (if a then (writes (codes "@") ⨟ writes (c ∷ cs) ⨟ writes (codes ";")) met else body_text (tag_text m A) s.is_union (c ∷ cs) (open_body s) (met ++ (c ∷ cs) ∷ [])) ≡ Some p
        → (if b then (writes (codes "@") ⨟ writes (d ∷ ds) ⨟ writes (codes ";")) met else body_text (tag_text n B) t.is_union (d ∷ ds) (open_body t) (met ++ (d ∷ ds) ∷ [])) ≡ Some q
        → Coupled A B R S Like met p q r r'
    named c cs d ds ex ey true true ia ib e k =
        let f : record { text = codes "@" ++ ((c ∷ cs) ++ codes ";"); met = met } ≡ p = cc in
        let g : record { text = codes "@" ++ ((d ∷ ds) ++ codes ";"); met = met } ≡ q = cc in
        let l : (64 ∷ ((c ∷ cs) ++ 59 ∷ [])) ++ r ≡ (64 ∷ ((d ∷ ds) ++ 59 ∷ [])) ++ r' = ap (λ t. t.text ++ r) f ∙ h ∙ ap (λ t. t.text ++ r') (sym g) in
        let tail = tails_same 64 64 (((c ∷ cs) ++ 59 ∷ []) ++ r) (((d ∷ ds) ++ 59 ∷ []) ++ r') l in
        let z = split (c ∷ cs) (d ∷ ds) 59 59 r r' (subst IsWord ex ws) (subst IsWord ey wt) refl refl
        (sym (append_assoc (c ∷ cs) (59 ∷ []) r) ∙ tail ∙ append_assoc (d ∷ ds) (59 ∷ []) r') in
        record {
          rest = z.rest;
          reads = moved A B R S Like met met p.met met q.met (ap (λ t. t.met) (sym f)) (ap (λ t. t.met) (sym g))
              (record {
                same = refl;
                grows = λ x m. m;
                alike = λ M sub. (ex ∙ z.word ∙ sym ey, subst (λ w. AlikeHeld M (AlikeTags A B R S m M) w s t) (sym ex) (sub (c ∷ cs) ia));
                links = λ M sub x m. inl m;
              });
        }
    named c cs d ds ex ey true false ia ib e k =
        absurd (not_again t.is_union (open_body t) (firsts_same 64 (body_byte t.is_union (open_body t)) p.text q.text r r'
        (begins_front 64 [] (writes (c ∷ cs) ⨟ writes (codes ";")) met p e) (begins_body (tag_text n B) t.is_union (d ∷ ds) (open_body t) (met ++ (d ∷ ds) ∷ []) q k) h))
    named c cs d ds ex ey false true ia ib e k =
        absurd (not_again s.is_union (open_body s) (firsts_same 64 (body_byte s.is_union (open_body s)) q.text p.text r' r
        (begins_front 64 [] (writes (d ∷ ds) ⨟ writes (codes ";")) met q k) (begins_body (tag_text m A) s.is_union (c ∷ cs) (open_body s) (met ++ (c ∷ cs) ∷ []) p e) (sym h)))
    named c cs d ds ex ey false false ia ib e k =
        let z = coupled_bodies s.is_union t.is_union (c ∷ cs) (d ∷ ds) (open_body s) (open_body t) (subst IsWord ex ws) (subst IsWord ey wt) bs bt ms mt
        (met ++ (c ∷ cs) ∷ []) (met ++ (d ∷ ds) ∷ []) p q r r' (λ w. ap (λ l. met ++ l ∷ []) (sym w)) e k h in
        record { rest = z.coupled.rest; reads = opened c cs ex (ey ∙ sym z.name) z.kind z.coupled.reads }

    -- one with a tag and one without
    apart : (d : ℕ) (ds : List ℕ) → IsWord (d ∷ ds) → (b : Bool) → body_text (tag_text m A) s.is_union [] (open_body s) met ≡ Some p
        → (if b then (writes (codes "@") ⨟ writes (d ∷ ds) ⨟ writes (codes ";")) met else body_text (tag_text n B) t.is_union (d ∷ ds) (open_body t) (met ++ (d ∷ ds) ∷ [])) ≡ Some q → ⊥
    apart d ds w true e k =
        not_again s.is_union (open_body s) (firsts_same 64 (body_byte s.is_union (open_body s)) q.text p.text r' r
        (begins_front 64 [] (writes (d ∷ ds) ⨟ writes (codes ";")) met q k) (begins_body (tag_text m A) s.is_union [] (open_body s) met p e) (sym h))
    apart d ds w false e k =
        let z = coupled_bodies s.is_union t.is_union [] (d ∷ ds) (open_body s) (open_body t) refl w bs bt ms mt met (met ++ (d ∷ ds) ∷ []) p q r r' (λ o. cc) e k h in
        let y = z.name in cc

    apart_too : (c : ℕ) (cs : List ℕ) → IsWord (c ∷ cs) → (b : Bool)
        → (if b then (writes (codes "@") ⨟ writes (c ∷ cs) ⨟ writes (codes ";")) met else body_text (tag_text m A) s.is_union (c ∷ cs) (open_body s) (met ++ (c ∷ cs) ∷ [])) ≡ Some p
        → body_text (tag_text n B) t.is_union [] (open_body t) met ≡ Some q → ⊥
    apart_too c cs w true e k =
        not_again t.is_union (open_body t) (firsts_same 64 (body_byte t.is_union (open_body t)) p.text q.text r r'
        (begins_front 64 [] (writes (c ∷ cs) ⨟ writes (codes ";")) met p e) (begins_body (tag_text n B) t.is_union [] (open_body t) met q k) h)
    apart_too c cs w false e k =
        let z = coupled_bodies s.is_union t.is_union (c ∷ cs) [] (open_body s) (open_body t) w refl bs bt ms mt (met ++ (c ∷ cs) ∷ []) met p q r r' (λ o. cc) e k h in
        let y = z.name in cc

    coupled_tags : (x y : List ℕ) → s.name ≡ x → t.name ≡ y → once x (body_text (tag_text m A) s.is_union x (open_body s)) met ≡ Some p
        → once y (body_text (tag_text n B) t.is_union y (open_body t)) met ≡ Some q → Coupled A B R S Like met p q r r'
    coupled_tags [] [] ex ey e k = unnamed ex ey e k
    coupled_tags [] (d ∷ ds) ex ey e k = absurd (apart d ds (subst IsWord ey wt) (is_among met (d ∷ ds)) e k)
    coupled_tags (c ∷ cs) [] ex ey e k = absurd (apart_too c cs (subst IsWord ex ws) (is_among met (c ∷ cs)) e k)
    coupled_tags (c ∷ cs) (d ∷ ds) ex ey e k = named c cs d ds ex ey (is_among met (c ∷ cs)) (is_among met (d ∷ ds)) refl refl e k

-- what is known of the structures of a list: their names are words, and they reach what they mention
pub record AreReached (A : Tags) (R : ℕ → Type 0) : Type 0 where
  pub names : (i : ℕ) (t : TagTree) → slice_get A i ≡ Some t → IsWord t.name × BodyWords (open_body t)
  pub bodies : (i : ℕ) (t : TagTree) → R i → slice_get A i ≡ Some t → BodyMentions R (open_body t)

pub all_tags : (A B : Tags) (R S : ℕ → Type 0) → AreReached A R → AreReached B S → (m n i j : ℕ) → R i → S j
    → Couples A B R S (λ M. AlikeTags A B R S m M i j) (tag_text m A i) (tag_text n B j)
all_tags A B R S a b zero n i j ri sj met p q r r' e k h = cc
all_tags A B R S a b (suc m) zero i j ri sj met p q r r' e k h = cc
all_tags A B R S a b (suc m) (suc n) i j ri sj met p q r r' e k h = by (all_tags A B R S a b m n) (slice_get A i) (slice_get B j) refl refl e k
  where
    by : ((i j : ℕ) → R i → S j → Couples A B R S (λ M. AlikeTags A B R S m M i j) (tag_text m A i) (tag_text n B j))
        → (o o' : Option TagTree) → slice_get A i ≡ o → slice_get B j ≡ o' → tag_text_by (tag_text m A) o met ≡ Some p → tag_text_by (tag_text n B) o' met ≡ Some q
        → Coupled A B R S (λ M. R i × S j × AlikeTag M (AlikeTags A B R S m M) (slice_get A i) (slice_get B j)) met p q r r'
    by tags None o' f g e k = cc
    by tags (Some s) None f g e k = cc
    by tags (Some s) (Some t) f g e k =
        let z = coupled_tags A B R S m n tags i j ri sj s t f g (a.names i s f).0 (b.names j t g).0 (a.names i s f).1 (b.names j t g).1
        (a.bodies i s ri f) (b.bodies j t sj g) met p q r r' h s.name t.name refl refl e k in
        record {
          rest = z.rest;
          reads = read_so A B R S (λ M. (s.name ≡ t.name) × AlikeHeld M (AlikeTags A B R S m M) s.name s t)
              (λ M. R i × S j × AlikeTag M (AlikeTags A B R S m M) (slice_get A i) (slice_get B j)) met p.met q.met
              (λ M sub l. (ri, sj, subst (λ o. AlikeTag M (AlikeTags A B R S m M) o (slice_get B j)) (sym f) (subst (λ o. AlikeTag M (AlikeTags A B R S m M) (Some s) o) (sym g) l))) z.reads;
        }
