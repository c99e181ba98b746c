-- What the program knows of a tree before it runs, as plain data.
use Rattle.p9_tree.specs.Contents as contents
use Rattle.p9_init.specs.declared.fixed.Fixed.{Fixed}
use Rattle.p9_init.specs.declared.fixed.Fixed.TheVariants.{Number, At, NotFixed}

abbrev pub told : Fixed → contents.Fixed
told (Number word) = contents.Number word
told (At symbol offset) = contents.At symbol offset
told NotFixed = contents.NotFixed
