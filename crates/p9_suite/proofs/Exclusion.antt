-- What the store has at names is one thing: the causes exclude each other, and files have one meaning.
use Rattle.std.proofs.Common.{◌≡◌, ℕ, List, [], ◌∷◌, map, Option, Some, None, IsSomeAnd, true, false, Result, Err, IsOk, inl, inr, refl, sym, ap, ◌∙◌, subst}
use Rattle.p9_base.specs.Outside.{Held}
use Rattle.p9_first.specs.Modules.{source_from}
use Rattle.p9_form.specs.declared.file.File.{File}
use Rattle.p9_form.specs.Items.{items_of, source_of}
use Rattle.p9_form.specs.Spelling.{HasForm, HasNoForm}
use Rattle.p9_names.specs.declared.table.Table.{Table}
use Rattle.p9_names.specs.declared.table.LinkFault.{LinkFault}
use Rattle.p9_names.specs.declared.table.LinkFault.TheVariants as links
use Rattle.p9_abs.specs.BuiltIn.{linked}
use Rattle.p9_names.specs.Answers.{Joins}
use Rattle.p9_names.proofs.Exactness.{joined_exactly}
use Rattle.p9_share.specs.Symbols.{module_of}
use Rattle.p9_suite.proofs.Once.{same_items, same_module}
use Rattle.p9_suite.specs.commands.Run.{AreFiles, IsFirst, IsAbsent, IsFormless, AreRefused}

-- The causes exclude each other

pub there_none : (bytes : List ℕ) (o : Option (List ℕ)) → o ≡ None → o ≡ Some bytes → ⊥
there_none bytes o n s = let e : None ≡ Some bytes = sym n ∙ s in cc

pub absent_files : (held : Held) (names : List (List ℕ)) (files : List File) → IsFirst IsAbsent held names → AreFiles held names files → ⊥
absent_files held [] files f a = f
absent_files held (name ∷ names) [] f a = a
absent_files held (name ∷ names) (file ∷ files) (inl f) a = there_none a.0 (held name) f a.1
absent_files held (name ∷ names) (file ∷ files) (inr f) a = absent_files held names files f.4 a.3

pub formless_some : (held : Held) (name bytes : List ℕ) (file : File) → IsFormless name (held name) → held name ≡ Some bytes → HasForm bytes (items_of file) → ⊥
formless_some held name bytes file f s h =
    let none : HasNoForm bytes = subst (λ (x : Option (List ℕ)). IsSomeAnd x HasNoForm) s f in none (items_of file) h

pub formless_files : (held : Held) (names : List (List ℕ)) (files : List File) → IsFirst IsFormless held names → AreFiles held names files → ⊥
formless_files held [] files f a = f
formless_files held (name ∷ names) [] f a = a
formless_files held (name ∷ names) (file ∷ files) (inl f) a = formless_some held name a.0 file f a.1 a.2
formless_files held (name ∷ names) (file ∷ files) (inr f) a = formless_files held names files f.4 a.3

pub absent_formless : (held : Held) (names : List (List ℕ)) → IsFirst IsAbsent held names → IsFirst IsFormless held names → ⊥
absent_formless held [] f g = f
absent_formless held (name ∷ names) (inl f) (inl g) = subst (λ (x : Option (List ℕ)). IsSomeAnd x HasNoForm) f g
absent_formless held (name ∷ names) (inl f) (inr g) = there_none g.1 (held name) f g.2
absent_formless held (name ∷ names) (inr f) (inl g) = formless_some held name f.1 f.0 g f.2 f.3
absent_formless held (name ∷ names) (inr f) (inr g) = absent_formless held names f.4 g.4

-- the bytes at the names are of one form, so files have one meaning and one symbol table each
pub same_bytes : (held : Held) (name a b : List ℕ) → held name ≡ Some a → held name ≡ Some b → b ≡ a
same_bytes held name a b s t = let e : Some a ≡ Some b = sym s ∙ t in cc

pub same_sources : (held : Held) (names : List (List ℕ)) (files others : List File) → AreFiles held names files → AreFiles held names others → map source_of files ≡ map source_of others
same_sources held [] [] [] a b = refl
same_sources held [] [] (other ∷ others) a b = absurd b
same_sources held [] (file ∷ files) others a b = absurd a
same_sources held (name ∷ names) [] others a b = absurd a
same_sources held (name ∷ names) (file ∷ files) [] a b = absurd b
same_sources held (name ∷ names) (file ∷ files) (other ∷ others) a b =
    let h : HasForm a.0 (items_of other) = subst (λ (x : List ℕ). HasForm x (items_of other)) (same_bytes held name a.0 b.0 a.1 b.1) b.2 in
    let first : source_of file ≡ source_of other = ap source_from (same_items a.0 file other a.2 h) in
    let rest : map source_of files ≡ map source_of others = same_sources held names files others a.3 b.3 in
    λ i. first i ∷ rest i

pub same_modules : (held : Held) (names : List (List ℕ)) (files others : List File) → AreFiles held names files → AreFiles held names others → map module_of files ≡ map module_of others
same_modules held [] [] [] a b = refl
same_modules held [] [] (other ∷ others) a b = absurd b
same_modules held [] (file ∷ files) others a b = absurd a
same_modules held (name ∷ names) [] others a b = absurd a
same_modules held (name ∷ names) (file ∷ files) [] a b = absurd b
same_modules held (name ∷ names) (file ∷ files) (other ∷ others) a b =
    let h : HasForm a.0 (items_of other) = subst (λ (x : List ℕ). HasForm x (items_of other)) (same_bytes held name a.0 b.0 a.1 b.1) b.2 in
    let first : module_of file ≡ module_of other = same_module a.0 file other a.2 h in
    let rest : map module_of files ≡ map module_of others = same_modules held names files others a.3 b.3 in
    λ i. first i ∷ rest i

-- files that join have no fault
pub joined_fault : (files : List File) (why : LinkFault) → Joins (linked (map module_of files)) → AreRefused files why → ⊥
joined_fault files why j r = elim (joined_exactly (linked (map module_of files)) (Err why) r.1 j) [
  | inl ok ↦ absurd (not_ok why ok)
  | inr e ↦ r.0 (is_memory why e)
]
  where
    not_ok : (why : LinkFault) → IsOk {T = Table} {E = LinkFault} (Err why) → ⊥
    not_ok why ok = let e : false ≡ true = ok in cc

    is_memory : (why : LinkFault) → ◌≡◌ {A = Result Table LinkFault} (Err why) (Err links.Memory) → why ≡ links.Memory
    is_memory why e = cc

pub refused_joined : (held : Held) (names : List (List ℕ)) (files others : List File) (why : LinkFault) → AreFiles held names files → AreRefused files why → AreFiles held names others → Joins (linked (map module_of others)) → ⊥
refused_joined held names files others why a r b j =
    joined_fault files why (subst (λ ms. Joins (linked ms)) (same_modules held names others files b a) j) r
