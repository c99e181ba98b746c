-- What `resolve` answers: a table where the modules join, and else the first refusal.
use Rattle.std.specs.Prelude.{List}
use Rattle.p9_abs.specs.declared.modules.AModule.{AModule}
use Rattle.p9_names.specs.declared.table.LinkFault.{LinkFault}
use Rattle.p9_names.specs.declared.table.LinkFault.TheVariants.{Twice, NoMain, MainType, Unresolved, Disagree, Memory}
use Rattle.p9_names.specs.declared.rules.Rule.TheVariants.{Once, Agreement}
use Rattle.p9_names.specs.Rules.{main_name}
use Rattle.p9_names.specs.Linking.{IsKept, IsFirstConflict, HasMain, HasWrongMain, AllResolved, IsFirstUnresolved}
use Rattle.p9_abs.specs.Names.{IsUndefined}

-- each name is defined once, there is a main of a right type, what is used is defined, and all agree
pub record Joins (ms : List AModule) : Type 0 where
  pub once : IsKept Once ms
  pub main : HasMain ms
  pub resolved : AllResolved ms
  pub agree : IsKept Agreement ms

-- each refusal with its cause; those before it in the order do not hold
abbrev pub IsRefusal : List AModule → LinkFault → Type 0
IsRefusal ms (Twice name i j) = IsFirstConflict Once ms name i j
IsRefusal ms NoMain = IsKept Once ms × IsUndefined ms main_name
IsRefusal ms (MainType i) = IsKept Once ms × HasWrongMain ms i
IsRefusal ms (Unresolved name i) = IsKept Once ms × HasMain ms × IsFirstUnresolved ms name i
IsRefusal ms (Disagree name i j) = IsKept Once ms × HasMain ms × AllResolved ms × IsFirstConflict Agreement ms name i j
IsRefusal ms Memory = Unit {0}
