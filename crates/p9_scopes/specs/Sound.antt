-- Structures and unions whose bodies have sizes.
use Rattle.std.specs.Prelude.{List}
use Rattle.p9_lang.specs.declared.types.Tag.{Tag}
use Rattle.p9_lang.specs.Types.{tags_of}
use Rattle.p9_lang.proofs.Bodies.{LaidOut}

-- each that has a body has a size
pub record IsSound (tags : List Tag) : Type 0 where
  pub laid : LaidOut (tags_of tags)
