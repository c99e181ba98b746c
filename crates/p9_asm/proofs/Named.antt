-- The names among the tokens of a file are names of symbols.
use Rattle.std.proofs.Common.{◌≡◌, ℕ, zero, suc, ◌==◌, ◌≤◌, leb, Bool, true, false, ◌&&◌, ◌||◌, List, [], ◌∷◌, refl, subst, arith}
use Rattle.std.proofs.lemmas.Bool.Decides.{nat_tests}
use Rattle.p9_abs.specs.Validity as validity
use Rattle.p9_lex.specs.declared.token.Dialect.{Dialect}
use Rattle.p9_lex.specs.declared.token.Token.{Token}
use Rattle.p9_lex.specs.declared.token.TokenKind.{TokenKind}
use Rattle.p9_lex.specs.declared.token.TokenKind.TheVariants as kinds
use Rattle.p9_lex.specs.Classes.{is_digit, is_upper, is_lower, is_name_start, is_name_byte}
use Rattle.p9_lex.specs.Spelling.{AllOf, IsName, Spells}
use Rattle.p9_lex.specs.Made.{is_line_end, IfEnd, AreTokens}
use Rattle.p9_asm.proofs.Options.{Each, all_each}
use Rattle.p9_facts.proofs.Noting.{both}
use Rattle.p9_asm.proofs.Spelled.{HasNames}

within_range : (a b c : ℕ) → (leb a b && leb b c) ≡ true → (a ≤ b) × (b ≤ c)
within_range a b c h =
    let parts = both (leb a b) (leb b c) h in
    (grind (arith, nat_tests, parts.0), grind (arith, nat_tests, parts.1))

graphic_start : (l u : Bool) (b : ℕ) → is_lower b ≡ l → is_upper b ≡ u → (l || u || b == 95) ≡ true → validity.IsGraphic b
graphic_start true u b e d h = let r = within_range 97 b 122 e in (omega (arith, r.0), omega (arith, r.1))
graphic_start false true b e d h = let r = within_range 65 b 90 d in (omega (arith, r.0), omega (arith, r.1))
graphic_start false false b e d h = let is : b ≡ 95 = grind (arith, nat_tests, h) in (omega (arith, is), omega (arith, is))

graphic_byte : (s : Bool) (b : ℕ) → is_name_start b ≡ s → (s || is_digit b) ≡ true → validity.IsGraphic b
graphic_byte true b e h = graphic_start (is_lower b) (is_upper b) b refl refl e
graphic_byte false b e h = let r = within_range 48 b 57 h in (omega (arith, r.0), omega (arith, r.1))

graphic_all : (s : List ℕ) → AllOf is_name_byte s → Each validity.IsGraphic s
graphic_all [] h = tt
graphic_all (b ∷ s) h = (graphic_byte (is_name_start b) b refl h.0, graphic_all s h.1)

name_proper : (name : List ℕ) → IsName name → validity.IsName name
name_proper [] h = absurd h
name_proper (b ∷ s) h =
    (omega arith, omega (arith, h.2), all_each validity.IsGraphic (b ∷ s) (graphic_byte true b h.0 refl, graphic_all s h.1))

name_spelled : (d : Dialect) (kind : TokenKind) (name bytes after : List ℕ) → kind ≡ kinds.Word name → Spells d kind bytes after → validity.IsName name
name_spelled d kind name bytes after is h =
    let P : TokenKind → Type 0 = λ k. Spells d k bytes after in
    let g = subst P is h in
    name_proper name g.1

rest_names : (ts : List Token) → ts ≡ [] → HasNames ts
rest_names [] e n t name here is = absurd (cc)
rest_names (u ∷ ts) e n t name here is = absurd (cc)

names_by : (kind : TokenKind) (ts : List Token) (P : Type 0) → (P → HasNames ts) → IfEnd kind (ts ≡ []) P → HasNames ts
names_by (kinds.Word name) ts P f h = f h
names_by (kinds.Number v u l) ts P f h = f h
names_by (kinds.Char v) ts P f h = f h
names_by (kinds.Text v) ts P f h = f h
names_by (kinds.Mark m) ts P f h = f h
names_by kinds.NewLine ts P f h = f h
names_by kinds.End ts P f h = rest_names ts h

names_cons : (t : Token) (ts : List Token) → ((name : List ℕ) → t.kind ≡ kinds.Word name → validity.IsName name) → HasNames ts → HasNames (t ∷ ts)
names_cons t ts first rest zero u name here is =
    let same : t ≡ u = cc in
    first name (rw same is)
names_cons t ts first rest (suc n) u name here is = rest n u name here is

pub tokens_names : (d : Dialect) (place : ℕ) (first joined : Bool) (bytes : List ℕ) (ts : List Token) → AreTokens d place first joined bytes ts → HasNames ts
tokens_names d place first joined bytes [] h = absurd h
tokens_names d place first joined bytes (t ∷ ts) h =
    let tok = h.1 in
    names_cons t ts (λ name is. name_spelled d t.kind name tok.bytes h.0 is tok.spelled)
    (names_by t.kind ts (AreTokens d t.end (is_line_end t.kind) true h.0 ts) (λ k. tokens_names d t.end (is_line_end t.kind) true h.0 ts k) h.2)
