-- What stands behind a declarator, as the plain data that the definitions of typing speak of.
use Rattle.p9_lang.specs.Parts as parts
use Rattle.p9_behind.specs.declared.following.Follows.{Follows}
use Rattle.p9_behind.specs.declared.following.Follows.TheVariants as follows

abbrev pub told_follows : Follows → parts.Follows
told_follows follows.NoInitialiser = parts.NoInitialiser
told_follows follows.Braces = parts.Braces
told_follows follows.Text = parts.Text
told_follows follows.Expression = parts.Expression
