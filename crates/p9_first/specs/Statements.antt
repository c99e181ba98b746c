-- What statements and the bodies of functions do. Statements outside the form have no clauses
-- yet: they are undefined.
use Rattle.std.specs.Prelude.{ℕ}
use Rattle.p9_first.specs.declared.tree.Kind.TheVariants as kind
use Rattle.p9_first.specs.Trees.{node, none, more}
use Rattle.p9_first.specs.Modules.{Typed, TypedRow}
use Rattle.p9_first.specs.declared.Place.{Place}
use Rattle.p9_first.specs.Cells.{Value, Missing, State}
use Rattle.p9_first.specs.Plays.{Play, Done, bind, Flow, Normal, Returned, then_go}
use Rattle.p9_first.specs.Expressions.{Surroundings, at, no_clause, value}

-- a statement, in which each loop is given so many turns
abbrev mutual
  pub statement : (turns : ℕ) → Surroundings → Typed → State → Play Flow
  statement turns around (node kind.Expression label (more e none)) s = bind (value around e s) (λ v t. Done Normal t)
  statement turns around (node kind.Block label parts) s = statements turns around parts s
  statement turns around (node k label parts) s = no_clause (at around label) s

  pub statements : (turns : ℕ) → Surroundings → TypedRow → State → Play Flow
  statements turns around none s = Done Normal s
  statements turns around (more first others) s =
      bind (statement turns around first s) (λ flow t. then_go flow t (statements turns around others))

-- what a call gives: the value that its function returned, or none
abbrev pub given : Place → Flow → Value
given call (Returned value) = value
given call _ = Missing call

-- the body of a function, which is the second part of its item
abbrev pub item_body : (turns : ℕ) → Surroundings → Typed → Place → State → Play Value
item_body turns around (node (kind.Function spec) label (more declarator (more block none))) call s =
    bind (statement turns around block s) (λ flow t. Done (given call flow) t)
item_body turns around _ call s = no_clause call s
