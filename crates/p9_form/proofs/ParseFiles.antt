-- Whole files.
use Rattle.std.proofs.Common.{◌≡◌, ℕ, true, false, List, [], ◌∷◌, ◌++◌, Option, Some, None, refl, ap, ◌∙◌, sym, subst, append_assoc}
use Rattle.p9_first.specs.Tokens.{Token, End}
use Rattle.p9_form.specs.declared.file.Statement.{Statement}
use Rattle.p9_form.specs.declared.file.Declaration.{Declaration}
use Rattle.p9_form.specs.declared.file.File.{File}
use Rattle.p9_form.specs.Reading.{read_head}
use Rattle.p9_form.specs.Phrases.{mark, head_tokens, statements_tokens, StatementsFit, declarations_tokens, DeclarationsFit, declared, main_tokens}
use Rattle.p9_form.specs.Found.{IsBody, HasNoBody, begins_declaration, AreDeclared, HasNoDeclarations, is_end, IsMainPart, HasNoMainPart, IsWritten, IsNotWritten}
use Rattle.p9_form.proofs.ParseDeclarations.{head_sound, head_exact}
use Rattle.p9_form.proofs.ParseBodies.{same_body}
use Rattle.p9_form.proofs.ParseDeclared.{same_declarations, none_at_end, end_is}

-- `main`

main_is : (ss : List Statement) (rest : List Token) → main_tokens (Some ss) ++ rest ≡ head_tokens ++ (statements_tokens ss ++ (mark 125 ∷ rest))
main_is ss rest = ap (λ v. head_tokens ++ v) (append_assoc (statements_tokens ss) (mark 125 ∷ []) rest)

pub main_found : (names : List (List ℕ)) (ts middle : List Token) (ss : List Statement) (rest : List Token) → read_head ts ≡ Some middle → IsBody names middle ss rest → IsMainPart names ts (Some ss) rest
main_found names ts middle ss rest e b =
    (b.fits, head_sound ts middle e ∙ ap (λ v. head_tokens ++ v) b.is ∙ sym (main_is ss rest))

head_of : (names : List (List ℕ)) (ts : List Token) (ss : List Statement) (rest : List Token) → IsMainPart names ts (Some ss) rest → read_head ts ≡ Some (statements_tokens ss ++ (mark 125 ∷ rest))
head_of names ts ss rest m = ap read_head (m.1 ∙ main_is ss rest) ∙ head_exact (statements_tokens ss ++ (mark 125 ∷ rest))

pub no_head : (names : List (List ℕ)) (ts : List Token) → is_end ts ≡ false → read_head ts ≡ None → HasNoMainPart names ts
no_head names ts n h = record { no = by }
  where
    by : (main : Option (List Statement)) (rest : List Token) → IsMainPart names ts main rest → ⊥
    by None rest m = let e : is_end ts ≡ true = m.0 in cc
    by (Some ss) rest m = let e = head_of names ts ss rest m in cc

pub no_body : (names : List (List ℕ)) (ts middle : List Token) → is_end ts ≡ false → read_head ts ≡ Some middle → HasNoBody names middle → HasNoMainPart names ts
no_body names ts middle n h b = record { no = by }
  where
    by : (main : Option (List Statement)) (rest : List Token) → IsMainPart names ts main rest → ⊥
    by None rest m = let e : is_end ts ≡ true = m.0 in cc
    by (Some ss) rest m =
        let e = head_of names ts ss rest m in
        let same : middle ≡ statements_tokens ss ++ (mark 125 ∷ rest) = cc in
        b.no ss rest (record { fits = m.0; is = same })

-- `main` can be read in one way
no_main_at_end : (ss : List Statement) (ts rest : List Token) → is_end ts ≡ true → ts ≡ main_tokens (Some ss) ++ rest → ⊥
no_main_at_end ss ts rest e h =
    let here : is_end ts ≡ false = ap is_end h in
    cc

same_main : (names : List (List ℕ)) (ts : List Token) (m n : Option (List Statement)) (rest next : List Token) → IsMainPart names ts m rest → IsMainPart names ts n next → rest ≡ next
same_main names ts None None rest next a b = a.1 ∙ sym b.1
same_main names ts None (Some ss) rest next a b = absurd (no_main_at_end ss ts next a.0 b.1)
same_main names ts (Some ss) None rest next a b = absurd (no_main_at_end ss ts rest b.0 a.1)
same_main names ts (Some ss) (Some us) rest next a b =
    let both : Some (statements_tokens ss ++ (mark 125 ∷ rest)) ≡ Some (statements_tokens us ++ (mark 125 ∷ next)) = sym (head_of names ts ss rest a) ∙ head_of names ts us next b in
    let bodies : statements_tokens ss ++ (mark 125 ∷ rest) ≡ statements_tokens us ++ (mark 125 ∷ next) = cc in
    (same_body names ss us rest next a.0 b.0 bodies).1

-- Files

file_by : (main : Option (List Statement)) (names : List (List ℕ)) (ts t1 t2 t3 : List Token) (ds es : List Declaration) → names ≡ declared [] ds → AreDeclared [] ts ds t1 → IsMainPart names t1 main t2 → AreDeclared names t2 es t3 → is_end t3 ≡ true → IsWritten ts (record { before = ds; main = main; after = es })
file_by None names ts t1 t2 t3 ds es n a m b e = record {
  fits = (a.fit, none_at_end names t2 es t3 b (ap is_end m.1 ∙ m.0));
  is = a.is ∙ ap (λ v. declarations_tokens ds ++ v) (sym m.1 ∙ b.is ∙ ap (λ v. declarations_tokens es ++ v) (end_is t3 e));
}
file_by (Some ss) names ts t1 t2 t3 ds es n a m b e = record {
  fits = (a.fit, (subst (λ names. StatementsFit names ss) n m.0, subst (λ names. DeclarationsFit names es) n b.fit));
  is = a.is ∙ ap (λ v. declarations_tokens ds ++ v) (m.1 ∙ ap (λ v. main_tokens (Some ss) ++ v) (b.is ∙ ap (λ v. declarations_tokens es ++ v) (end_is t3 e)));
}

pub file_found : (names : List (List ℕ)) (ts t1 t2 t3 : List Token) (ds es : List Declaration) (main : Option (List Statement)) → names ≡ declared [] ds → AreDeclared [] ts ds t1 → IsMainPart names t1 main t2 → AreDeclared names t2 es t3 → is_end t3 ≡ true → IsWritten ts (record { before = ds; main = main; after = es })
file_found names ts t1 t2 t3 ds es main n a m b e = file_by main names ts t1 t2 t3 ds es n a m b e

-- the three parts of a file
abbrev last_tokens : File → List Token
last_tokens f = declarations_tokens f.after ++ End ∷ []

record Split (ts : List Token) (f : File) : Type 0 where
  before : AreDeclared [] ts f.before (main_tokens f.main ++ last_tokens f)
  main : IsMainPart (declared [] f.before) (main_tokens f.main ++ last_tokens f) f.main (last_tokens f)
  after : AreDeclared (declared [] f.before) (last_tokens f) f.after (End ∷ [])

end_begins : begins_declaration (End ∷ []) ≡ false
unfolding begins_declaration
end_begins = refl

main_begins : (ss : List Statement) (rest : List Token) → begins_declaration (main_tokens (Some ss) ++ rest) ≡ false
unfolding begins_declaration
main_begins ss rest = refl

split_by : (main : Option (List Statement)) (ts : List Token) (ds es : List Declaration) → IsWritten ts (record { before = ds; main = main; after = es }) → Split ts (record { before = ds; main = main; after = es })
split_by None ts ds es w =
    let empty : es ≡ [] = w.fits.1 in
    let last : declarations_tokens es ++ End ∷ [] ≡ End ∷ [] = ap (λ es. declarations_tokens es ++ End ∷ []) empty in
    record {
      before = record { fit = w.fits.0; is = w.is; no_more = ap begins_declaration last ∙ end_begins };
      main = (ap is_end last, refl);
      after = subst (λ es. AreDeclared (declared [] ds) (declarations_tokens es ++ End ∷ []) es (End ∷ [])) (sym empty) (record { fit = tt; is = refl; no_more = end_begins });
    }
split_by (Some ss) ts ds es w = record {
  before = record { fit = w.fits.0; is = w.is; no_more = main_begins ss (declarations_tokens es ++ End ∷ []) };
  main = (w.fits.1.0, refl);
  after = record { fit = w.fits.1.1; is = refl; no_more = end_begins };
}

split : (ts : List Token) (f : File) → IsWritten ts f → Split ts f
split ts f w = split_by f.main ts f.before f.after w

pub no_declarations : (ts : List Token) → HasNoDeclarations [] ts → IsNotWritten ts
no_declarations ts h = record { no = λ f w. h.no f.before (main_tokens f.main ++ last_tokens f) (split ts f w).before }

-- what stands behind the declarations is `main` and what follows it
main_behind : (names : List (List ℕ)) (ts t1 : List Token) (ds : List Declaration) (f : File) → names ≡ declared [] ds → AreDeclared [] ts ds t1 → Split ts f → IsMainPart names t1 f.main (last_tokens f)
main_behind names ts t1 ds f n a s =
    let same = same_declarations [] ts f.before ds (main_tokens f.main ++ last_tokens f) t1 s.before a in
    let named : declared [] f.before ≡ names = ap (λ ds. declared [] ds) same.0 ∙ sym n in
    subst (λ names. IsMainPart names t1 f.main (last_tokens f)) named (subst (λ t. IsMainPart (declared [] f.before) t f.main (last_tokens f)) same.1 s.main)

pub no_main_part : (names : List (List ℕ)) (ts t1 : List Token) (ds : List Declaration) → names ≡ declared [] ds → AreDeclared [] ts ds t1 → HasNoMainPart names t1 → IsNotWritten ts
no_main_part names ts t1 ds n a h = record { no = λ f w. h.no f.main (last_tokens f) (main_behind names ts t1 ds f n a (split ts f w)) }

last_behind : (names : List (List ℕ)) (ts t1 t2 : List Token) (ds : List Declaration) (main : Option (List Statement)) (f : File) → names ≡ declared [] ds → AreDeclared [] ts ds t1 → IsMainPart names t1 main t2 → Split ts f → AreDeclared names t2 f.after (End ∷ [])
last_behind names ts t1 t2 ds main f n a m s =
    let same = same_declarations [] ts f.before ds (main_tokens f.main ++ last_tokens f) t1 s.before a in
    let named : declared [] f.before ≡ names = ap (λ ds. declared [] ds) same.0 ∙ sym n in
    let rest : last_tokens f ≡ t2 = same_main names t1 f.main main (last_tokens f) t2 (main_behind names ts t1 ds f n a s) m in
    subst (λ t. AreDeclared names t f.after (End ∷ [])) rest (subst (λ names. AreDeclared names (last_tokens f) f.after (End ∷ [])) named s.after)

pub no_later_declarations : (names : List (List ℕ)) (ts t1 t2 : List Token) (ds : List Declaration) (main : Option (List Statement)) → names ≡ declared [] ds → AreDeclared [] ts ds t1 → IsMainPart names t1 main t2 → HasNoDeclarations names t2 → IsNotWritten ts
no_later_declarations names ts t1 t2 ds main n a m h = record { no = λ f w. h.no f.after (End ∷ []) (last_behind names ts t1 t2 ds main f n a m (split ts f w)) }

pub no_end : (names : List (List ℕ)) (ts t1 t2 t3 : List Token) (ds es : List Declaration) (main : Option (List Statement)) → names ≡ declared [] ds → AreDeclared [] ts ds t1 → IsMainPart names t1 main t2 → AreDeclared names t2 es t3 → is_end t3 ≡ false → IsNotWritten ts
no_end names ts t1 t2 t3 ds es main n a m b e = record { no = by }
  where
    by : (f : File) → IsWritten ts f → ⊥
    by f w =
        let last = last_behind names ts t1 t2 ds main f n a m (split ts f w) in
        let same = same_declarations names t2 es f.after t3 (End ∷ []) b last in
        let ends : is_end t3 ≡ true = ap is_end same.1 in
        cc

-- no names are declared at first
pub from_start : (names : List (List ℕ)) (begun ts t1 : List Token) (ds : List Declaration) → names ≡ [] → begun ≡ ts → AreDeclared names begun ds t1 → AreDeclared [] ts ds t1
from_start names begun ts t1 ds n e a = subst (λ ts. AreDeclared [] ts ds t1) e (subst (λ names. AreDeclared names begun ds t1) n a)
