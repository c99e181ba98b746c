use Rattle.std.proofs.Common.{[], ◌≡◌, ◌≤◌, ◌-◌, length}
use Rattle.p9_lang.specs.Types.{type_of, tags_of}
use Rattle.p9_sig.specs.Parts.{writes}
use Rattle.p9_sig.specs.Texts.{signature_text}
use Rattle.p9_sig.specs.Writing.{tag_part, final}
use Rattle.p9_sig.proofs.writer.signature.Given as goal

abbrev pub invariant-write : goal.invariant-write
invariant-write l =
    (final (tag_part (tags_of l.tags.list)) l.writer (writes []) ≡ signature_text (tags_of l.tags.list) (type_of l.ty))
    × (length l.writer.text.items ≤ 65536)

abbrev pub decreases-write : goal.decreases-write
decreases-write l = 65537 - length l.writer.text.items
