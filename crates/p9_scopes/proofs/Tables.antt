-- Structures and unions that come and get bodies.
use Rattle.std.proofs.Common.{◌≡◌, ℕ, zero, suc, List, [], ◌∷◌, ◌++◌, length, slice_get, slice_set, Some, None, refl, sym, ap, subst, ◌∙◌}
use Rattle.std.specs.Option.{option_map}
use Rattle.p9_lang.specs.declared.types.Tag.{Tag}
use Rattle.p9_lang.specs.declared.types.Member.{Member}
use Rattle.p9_lang.specs.Scopes.{or_else, with_body}
use Rattle.p9_lang.specs.Types.{MemberTree, Tags, tag_of, tags_of, body_of, members_of}
use Rattle.p9_lang.specs.TagRules.{NoneContainsItself}
use Rattle.p9_lang.proofs.Bodies.{LaidOut, laid_first, HaveSizes, laid_appended, laid_body, laid_out_ends}
use Rattle.std.proofs.lemmas.List.{append-nil}
use Rattle.p9_scopes.specs.Sound.{IsSound}

pub tags_end : (ts : List Tag) (t : Tag) → tags_of (ts ++ t ∷ []) ≡ tags_of ts ++ tag_of t ∷ []
tags_end [] t = refl
tags_end (u ∷ ts) t = ap (λ l. tag_of u ∷ l) (tags_end ts t)

pub first_sound : IsSound []
first_sound = record { laid = laid_first }

pub sound_ends : (tags : List Tag) → IsSound tags → NoneContainsItself (tags_of tags)
sound_ends tags s = laid_out_ends (tags_of tags) s.laid

pub tag_at : (ts : List Tag) (i : ℕ) → slice_get (tags_of ts) i ≡ option_map tag_of (slice_get ts i)
tag_at [] zero = refl
tag_at [] (suc i) = refl
tag_at (t ∷ ts) zero = refl
tag_at (t ∷ ts) (suc i) = tag_at ts i

pub tags_set : (ts : List Tag) (i : ℕ) (t : Tag) → tags_of (slice_set ts i t) ≡ slice_set (tags_of ts) i (tag_of t)
tags_set [] zero t = refl
tags_set [] (suc i) t = refl
tags_set (u ∷ ts) zero t = refl
tags_set (u ∷ ts) (suc i) t = ap (λ l. tag_of u ∷ l) (tags_set ts i t)

-- one more without a body

pub more_sound : (tags later : List Tag) (t : Tag) → IsSound tags → later ≡ tags ++ t ∷ [] → t.members ≡ None → IsSound later
more_sound tags later t s e m =
    let f = ap body_of m in
    subst IsSound (sym e) (record { laid = subst LaidOut (sym (tags_end tags t)) (laid_appended (tags_of tags) (tag_of t ∷ []) (f, tt) s.laid) })

-- a body more

pub same_sound : (tags later : List Tag) → IsSound tags → later ≡ tags → IsSound later
same_sound tags later s e = subst IsSound (sym e) s

pub body_sound : (tags later : List Tag) (n : ℕ) (members : List MemberTree) → IsSound tags → HaveSizes (tags_of tags) members
    → tags_of later ≡ with_body n members (slice_get (tags_of tags) n) (tags_of tags) → IsSound later
body_sound tags later n members s h e = record { laid = subst LaidOut (sym e) (laid_body (tags_of tags) n members h s.laid) }

set_same : {A : Type 0} (xs : List A) (i : ℕ) (x : A) → slice_get xs i ≡ Some x → slice_set xs i x ≡ xs
set_same [] zero x e = refl
set_same [] (suc i) x e = refl
set_same (y ∷ xs) zero x e = let z : x ≡ y = cc in ap (λ y. y ∷ xs) z
set_same (y ∷ xs) (suc i) x e = ap (λ l. y ∷ l) (set_same xs i x e)

pub with_no_tag : (tags : List Tag) (n : ℕ) (members : List MemberTree) → slice_get tags n ≡ None
    → tags_of tags ≡ with_body n members (slice_get (tags_of tags) n) (tags_of tags)
with_no_tag tags n members e = ap (λ o. with_body n members o (tags_of tags)) (sym (tag_at tags n ∙ ap (option_map tag_of) e))

pub with_old_body : (tags : List Tag) (n : ℕ) (members : List MemberTree) (t : Tag) (ms : List Member) → slice_get tags n ≡ Some t → t.members ≡ Some ms
    → tags_of tags ≡ with_body n members (slice_get (tags_of tags) n) (tags_of tags)
with_old_body tags n members t ms e f =
    let there : slice_get (tags_of tags) n ≡ Some (tag_of t) = tag_at tags n ∙ ap (option_map tag_of) e in
    let body : body_of t.members ≡ body_of (Some ms) = ap body_of f in
    sym (ap (λ o. with_body n members o (tags_of tags)) there
    ∙ ap (λ o. slice_set (tags_of tags) n (record (tag_of t) { members = or_else o (Some members) })) body
    ∙ ap (λ o. slice_set (tags_of tags) n (record (tag_of t) { members = o })) (sym body)
    ∙ set_same (tags_of tags) n (tag_of t) there)

pub with_new_body : (tags : List Tag) (n : ℕ) (members : List Member) (t later : Tag) → slice_get tags n ≡ Some t → t.members ≡ None
    → later ≡ record t { members = Some members }
    → tags_of (slice_set tags n later) ≡ with_body n (members_of members) (slice_get (tags_of tags) n) (tags_of tags)
with_new_body tags n members t later e f g =
    tags_set tags n later
    ∙ ap (λ y. slice_set (tags_of tags) n (tag_of y)) g
    ∙ ap (λ o. slice_set (tags_of tags) n (record (tag_of t) { members = or_else o (Some (members_of members)) })) (sym (ap body_of f))
    ∙ ap (λ o. with_body n (members_of members) o (tags_of tags)) (sym (tag_at tags n ∙ ap (option_map tag_of) e))

pub tags_length : (ts : List Tag) → length (tags_of ts) ≡ length ts
tags_length [] = refl
tags_length (t ∷ ts) = ap suc (tags_length ts)

pub nothing_more : (ts : Tags) → ts ++ [] ≡ ts
nothing_more ts = append-nil ts
