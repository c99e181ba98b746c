-- Declarations one after the other.
use Rattle.std.proofs.Common.{◌≡◌, ℕ, ◌<◌, Bool, true, false, not, ◌&&◌, List, [], ◌∷◌, ◌++◌, length, length-append, Some, None, refl, ap, ◌∙◌, sym, subst, append_assoc, arith}
use Rattle.p9_first.specs.Tokens.{Token, End}
use Rattle.p9_first.specs.Form.{is_among, is_variable_name}
use Rattle.p9_form.specs.declared.file.First.{First}
use Rattle.p9_form.specs.declared.file.First.TheVariants as first
use Rattle.p9_form.specs.declared.file.Declaration.{Declaration}
use Rattle.p9_form.specs.Reading.{got, read_declaration}
use Rattle.p9_form.specs.Phrases.{declaration_tokens, declarations_tokens, DeclarationFits, DeclarationsFit, declared}
use Rattle.p9_form.specs.Found.{begins_declaration, is_end, AreDeclared, HasNoDeclarations}
use Rattle.p9_form.proofs.ParseDeclarations.{declaration_sound, declaration_exact}

-- declarations that were read, what is left, and the names that are declared by then
pub record AreNoted (names : List (List ℕ)) (whole : List Token) (ds : List Declaration) (left : List Token) (later : List (List ℕ)) : Type 0 where
  pub fit : DeclarationsFit names ds
  pub is : whole ≡ declarations_tokens ds ++ left
  pub named : later ≡ declared names ds

pub none_noted : (names : List (List ℕ)) (whole : List Token) → AreNoted names whole [] whole names
none_noted names whole = record { fit = tt; is = refl; named = refl }

fit_one_more : (names : List (List ℕ)) (ds : List Declaration) (d : Declaration) → DeclarationsFit names ds → DeclarationFits (declared names ds) d → DeclarationsFit names (ds ++ d ∷ [])
fit_one_more names [] d h f = (f, tt)
fit_one_more names (e ∷ ds) d h f = (h.0, fit_one_more (e.name ∷ names) ds d h.1 f)

named_one_more : (names : List (List ℕ)) (ds : List Declaration) (d : Declaration) → declared names (ds ++ d ∷ []) ≡ d.name ∷ declared names ds
named_one_more names [] d = refl
named_one_more names (e ∷ ds) d = named_one_more (e.name ∷ names) ds d

tokens_one_more : (ds : List Declaration) (d : Declaration) (rest : List Token) → declarations_tokens (ds ++ d ∷ []) ++ rest ≡ declarations_tokens ds ++ (declaration_tokens d ++ rest)
tokens_one_more [] d rest = append_assoc (declaration_tokens d) [] rest
tokens_one_more (e ∷ ds) d rest =
    append_assoc (declaration_tokens e) (declarations_tokens (ds ++ d ∷ [])) rest
    ∙ ap (λ v. declaration_tokens e ++ v) (tokens_one_more ds d rest)
    ∙ sym (append_assoc (declaration_tokens e) (declarations_tokens ds) (declaration_tokens d ++ rest))

pub one_more_noted : (names : List (List ℕ)) (whole : List Token) (ds : List Declaration) (left : List Token) (later : List (List ℕ)) (d : Declaration) (next : List Token) (name : List ℕ) (more : List Declaration) (now : List (List ℕ)) → AreNoted names whole ds left later → read_declaration later left ≡ Some (got d next) → name ≡ d.name → more ≡ ds ++ d ∷ [] → now ≡ name ∷ later → AreNoted names whole more next now
one_more_noted names whole ds left later d next name more now h e copy pushed added =
    let sound = declaration_sound later left (got d next) e in
    let longer : AreNoted names whole (ds ++ d ∷ []) next now =
    record {
      fit = fit_one_more names ds d h.fit (subst (λ n. DeclarationFits n d) h.named sound.0);
      is = h.is ∙ ap (λ v. declarations_tokens ds ++ v) sound.1 ∙ sym (tokens_one_more ds d next);
      named = added ∙ ap (λ n. n ∷ later) copy ∙ ap (λ n. d.name ∷ n) h.named ∙ sym (named_one_more names ds d);
    } in
    subst (λ list. AreNoted names whole list next now) (sym pushed) longer

some_by : (name : List ℕ) (is_long : Bool) (f : First) → 0 < length (declaration_tokens (record { name = name; is_long = is_long; first = f }))
some_by name is_long first.Extern = omega arith
some_by name is_long first.Zero = omega arith
some_by name is_long (first.Number value) = omega arith

pub declaration_shortens : (names : List (List ℕ)) (left : List Token) (d : Declaration) (next : List Token) → read_declaration names left ≡ Some (got d next) → length next < length left
declaration_shortens names left d next e =
    let sound = declaration_sound names left (got d next) e in
    omega (arith, ap length sound.1, length-append (declaration_tokens d) next, some_by d.name d.is_long d.first)

pub declarations_end : (names : List (List ℕ)) (whole : List Token) (ds : List Declaration) (left : List Token) (later : List (List ℕ)) → AreNoted names whole ds left later → begins_declaration left ≡ false → AreDeclared names whole ds left
declarations_end names whole ds left later h e = record { fit = h.fit; is = h.is; no_more = e }

begins_by : (name : List ℕ) (is_long : Bool) (f : First) (rest : List Token) → begins_declaration (declaration_tokens (record { name = name; is_long = is_long; first = f }) ++ rest) ≡ true
unfolding begins_declaration
begins_by name true first.Extern rest = refl
begins_by name false first.Extern rest = refl
begins_by name true first.Zero rest = refl
begins_by name false first.Zero rest = refl
begins_by name true (first.Number value) rest = refl
begins_by name false (first.Number value) rest = refl

-- where a declaration stands in front, more declarations are read
stands : (d : Declaration) (rest next : List Token) → declaration_tokens d ++ rest ≡ next → begins_declaration next ≡ false → ⊥
stands d rest next e h =
    let begins : begins_declaration (declaration_tokens d ++ rest) ≡ true = begins_by d.name d.is_long d.first rest in
    let here : begins_declaration (declaration_tokens d ++ rest) ≡ begins_declaration next = ap begins_declaration e in
    cc

-- a declaration in front can be read in one way
same_declaration : (names : List (List ℕ)) (d e : Declaration) (rest next : List Token) → DeclarationFits names d → DeclarationFits names e → declaration_tokens d ++ rest ≡ declaration_tokens e ++ next → (d ≡ e) × (rest ≡ next)
same_declaration names d e rest next f g h =
    let same : got d rest ≡ got e next =
    (let whole : Some (got d rest) ≡ Some (got e next) = sym (declaration_exact names d rest f) ∙ ap (λ ts. read_declaration names ts) h ∙ declaration_exact names e next g in cc) in
    (ap (λ g. g.value) same, ap (λ g. g.rest) same)

-- the declarations behind those that were read
pub record Behind (names : List (List ℕ)) (left rest : List Token) : Type 0 where
  pub declarations : List Declaration
  pub found : AreDeclared names left declarations rest

behind_by : (names : List (List ℕ)) (ds es : List Declaration) (left rest : List Token) → DeclarationsFit names ds → DeclarationsFit names es → declarations_tokens ds ++ left ≡ declarations_tokens es ++ rest → begins_declaration rest ≡ false → Behind (declared names ds) left rest
behind_by names [] es left rest f g h n = record { declarations = es; found = record { fit = g; is = h; no_more = n } }
behind_by names (d ∷ ds) [] left rest f g h n =
    absurd (stands d (declarations_tokens ds ++ left) rest (sym (append_assoc (declaration_tokens d) (declarations_tokens ds) left) ∙ h) n)
behind_by names (d ∷ ds) (e ∷ es) left rest f g h n =
    let same = same_declaration names d e (declarations_tokens ds ++ left) (declarations_tokens es ++ rest) f.0 g.0
    (sym (append_assoc (declaration_tokens d) (declarations_tokens ds) left) ∙ h ∙ append_assoc (declaration_tokens e) (declarations_tokens es) rest) in
    behind_by (d.name ∷ names) ds es left rest f.1 (subst (λ x. DeclarationsFit (x.name ∷ names) es) (sym same.0) g.1) same.1 n

refused_by : (names : List (List ℕ)) (left rest : List Token) (ds : List Declaration) → begins_declaration left ≡ true → read_declaration names left ≡ None → AreDeclared names left ds rest → ⊥
refused_by names left rest [] m r b =
    let here : begins_declaration left ≡ begins_declaration rest = ap begins_declaration b.is in
    let no_more : begins_declaration rest ≡ false = b.no_more in
    cc
refused_by names left rest (d ∷ ds) m r b =
    let read : read_declaration names left ≡ Some (got d (declarations_tokens ds ++ rest)) =
    ap (λ ts. read_declaration names ts) (b.is ∙ append_assoc (declaration_tokens d) (declarations_tokens ds) rest) ∙ declaration_exact names d (declarations_tokens ds ++ rest) b.fit.0 in
    cc

pub declarations_refused : (names : List (List ℕ)) (whole : List Token) (ds : List Declaration) (left : List Token) (later : List (List ℕ)) → AreNoted names whole ds left later → begins_declaration left ≡ true → read_declaration later left ≡ None → HasNoDeclarations names whole
declarations_refused names whole ds left later h m r = record { no = by }
  where
    by : (es : List Declaration) (rest : List Token) → AreDeclared names whole es rest → ⊥
    by es rest b =
        let behind = behind_by names ds es left rest h.fit b.fit (sym h.is ∙ b.is) b.no_more in
        refused_by later left rest behind.declarations m r (subst (λ n. AreDeclared n left behind.declarations rest) (sym h.named) behind.found)

-- declarations can be read in one way
pub same_declarations : (names : List (List ℕ)) (ts : List Token) (ds es : List Declaration) (rest next : List Token) → AreDeclared names ts ds rest → AreDeclared names ts es next → (ds ≡ es) × (rest ≡ next)
same_declarations names ts ds es rest next a b = by names ds es a.fit b.fit (sym a.is ∙ b.is)
  where
    by : (names : List (List ℕ)) (ds es : List Declaration) → DeclarationsFit names ds → DeclarationsFit names es → declarations_tokens ds ++ rest ≡ declarations_tokens es ++ next → (ds ≡ es) × (rest ≡ next)
    by names [] [] f g h = (refl, h)
    by names [] (e ∷ es) f g h =
        absurd (stands e (declarations_tokens es ++ next) rest (sym (append_assoc (declaration_tokens e) (declarations_tokens es) next) ∙ sym h) a.no_more)
    by names (d ∷ ds) [] f g h =
        absurd (stands d (declarations_tokens ds ++ rest) next (sym (append_assoc (declaration_tokens d) (declarations_tokens ds) rest) ∙ h) b.no_more)
    by names (d ∷ ds) (e ∷ es) f g h =
        let same = same_declaration names d e (declarations_tokens ds ++ rest) (declarations_tokens es ++ next) f.0 g.0
        (sym (append_assoc (declaration_tokens d) (declarations_tokens ds) rest) ∙ h ∙ append_assoc (declaration_tokens e) (declarations_tokens es) next) in
        let others = by (d.name ∷ names) ds es f.1 (subst (λ x. DeclarationsFit (x.name ∷ names) es) (sym same.0) g.1) same.1 in
        let heads : d ≡ e = same.0 in
        let tails : ds ≡ es = others.0 in
        (cc, others.1)

pub end_is : (ts : List Token) → is_end ts ≡ true → ts ≡ End ∷ []
end_is (End ∷ []) e = refl
end_is _ e = cc

begins_at_end : (ts : List Token) → is_end ts ≡ true → begins_declaration ts ≡ false
unfolding begins_declaration
begins_at_end ts e = ap begins_declaration (end_is ts e)

-- at the end no declaration is read
pub none_at_end : (names : List (List ℕ)) (ts : List Token) (ds : List Declaration) (rest : List Token) → AreDeclared names ts ds rest → is_end ts ≡ true → ds ≡ []
none_at_end names ts [] rest a e = refl
none_at_end names ts (d ∷ ds) rest a e =
    absurd (stands d (declarations_tokens ds ++ rest) ts (sym (append_assoc (declaration_tokens d) (declarations_tokens ds) rest) ∙ sym a.is) (begins_at_end ts e))

not_among : (b c : Bool) → (b && not c) ≡ true → c ≡ false
not_among true false e = refl
not_among true true e = sym e
not_among false c e = cc

-- the name of a declaration that was read is new
pub new_name : (names : List (List ℕ)) (left : List Token) (d : Declaration) (next : List Token) (name : List ℕ) → read_declaration names left ≡ Some (got d next) → name ≡ d.name → is_among names name ≡ false
new_name names left d next name e copy =
    let sound = declaration_sound names left (got d next) e in
    ap (is_among names) copy ∙ not_among (is_variable_name d.name) (is_among names d.name) sound.0.0
