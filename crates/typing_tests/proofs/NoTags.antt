-- No structures.
use Rattle.std.proofs.Common.{◌≡◌, List, [], sym, subst, arith}
use Rattle.p9_lang.specs.declared.types.Tag.{Tag}
use Rattle.p9_lang.specs.Types.{tags_of}
use Rattle.p9_lang.specs.TagRules.{NoneContainsItself}

pub none_end : (ts : List Tag) → ts ≡ [] → NoneContainsItself (tags_of ts)
none_end ts e = let P : List Tag → Type 0 = λ us. NoneContainsItself (tags_of us) in subst P (sym e) (λ i lt. absurd (omega arith))
