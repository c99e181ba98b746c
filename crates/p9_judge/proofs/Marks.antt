-- Structures and unions that are marked, one after the other.
use Rattle.std.proofs.Common.{◌≡◌, ◌≤◌, ◌<◌, ℕ, zero, suc, ◌&&◌, not, true, List, [], ◌∷◌, ◌++◌, length, get_or, reverse, slice_set, refl, sym, ap, ◌∙◌, arith}
use Rattle.std.specs.Prelude.{if◌then◌else◌}
use Rattle.std.proofs.lemmas.List.{reverse-append}
use Rattle.p9_lang.specs.declared.types.Tag.{Tag}
use Rattle.p9_lang.specs.Files.{mark_tag, mark_tags}
use Rattle.p9_lang.specs.Names.{is_among}
use Rattle.p9_lang.specs.Scopes.{is_enumeration}
use Rattle.p9_lang.specs.Scopes as scopes
use Rattle.p9_lang.specs.Types.{Tags, tag_of, tags_of}
use Rattle.p9_scopes.specs.declared.tag.TagName.{TagName}
use Rattle.p9_scopes.specs.Seen.{tag_name_of, tag_level_of}

pub marked_there : (tags : List Tag) (i : ℕ) (t : Tag) → i < length tags → t ≡ get_or tags i t
    → tags_of (slice_set tags i (record t { marked = true })) ≡ mark_tag i (tags_of tags)
marked_there [] zero t h e = absurd (omega arith)
marked_there [] (suc i) t h e = absurd (omega arith)
marked_there (u ∷ tags) zero t h e = ap (λ v. tag_of (record v { marked = true }) ∷ tags_of tags) e
marked_there (u ∷ tags) (suc i) t h e = let k : i < length tags = omega arith in ap (λ l. tag_of u ∷ l) (marked_there tags i t k e)

pub marked_nowhere : (tags : List Tag) (i : ℕ) → length tags ≤ i → tags_of tags ≡ mark_tag i (tags_of tags)
marked_nowhere [] zero h = refl
marked_nowhere [] (suc i) h = refl
marked_nowhere (u ∷ tags) zero h = absurd (omega arith)
marked_nowhere (u ∷ tags) (suc i) h =
    let k : length tags ≤ i = omega arith in
    ap (λ l. tag_of u ∷ l) (marked_nowhere tags i k)

mark_all : (marks : List (List ℕ)) (xs ys : List scopes.TagName) (tags : Tags)
    → mark_tags marks (xs ++ ys) tags ≡ mark_tags marks xs (mark_tags marks ys tags)
mark_all marks [] ys tags = refl
mark_all marks (t ∷ xs) ys tags =
    ap (λ r. if is_among marks t.name && not (is_enumeration t.keyword) then mark_tag t.number r else r) (mark_all marks xs ys tags)

level_end : (ts : List TagName) (t : TagName) → tag_level_of (ts ++ t ∷ []) ≡ tag_level_of ts ++ tag_name_of t ∷ []
level_end [] t = refl
level_end (u ∷ ts) t = ap (λ l. tag_name_of u ∷ l) (level_end ts t)

-- the oldest of a level is marked first
oldest_marked : (marks : List (List ℕ)) (t : TagName) (ts : List TagName) (tags : Tags)
    → mark_tags marks (tag_level_of (reverse ts)) (mark_tags marks (tag_name_of t ∷ []) tags)
    ≡ mark_tags marks (tag_level_of (reverse (t ∷ ts))) tags
oldest_marked marks t ts tags =
    sym (mark_all marks (tag_level_of (reverse ts)) (tag_name_of t ∷ []) tags)
    ∙ ap (λ l. mark_tags marks l tags) (sym (level_end (reverse ts) t))
    ∙ ap (λ l. mark_tags marks (tag_level_of l) tags) (sym (reverse-append (t ∷ []) ts))

pub mark_step : (marks : List (List ℕ)) (rest after : List TagName) (t : TagName) (before later all : Tags) → rest ≡ t ∷ after
    → later ≡ mark_tags marks (tag_name_of t ∷ []) before → mark_tags marks (tag_level_of (reverse rest)) before ≡ all
    → mark_tags marks (tag_level_of (reverse after)) later ≡ all
mark_step marks rest after t before later all e f h =
    ap (mark_tags marks (tag_level_of (reverse after))) f ∙ oldest_marked marks t after before
    ∙ ap (λ ts. mark_tags marks (tag_level_of (reverse ts)) before) (sym e) ∙ h
