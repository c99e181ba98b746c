-- What an object of a type holds, as plain data.
use Rattle.p9_cmean.specs.Contents as contents
use Rattle.p9_operators.specs.declared.content.Content.{Content}
use Rattle.p9_operators.specs.declared.content.Content.TheVariants.{Integer, Reference, Aggregate, Nothing}

abbrev pub told_content : Content → contents.Content
told_content Integer = contents.Integer
told_content Reference = contents.Reference
told_content Aggregate = contents.Aggregate
told_content Nothing = contents.Nothing
