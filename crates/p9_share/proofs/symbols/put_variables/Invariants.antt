use Rattle.std.proofs.Common.{◌≡◌, ◌++◌, map, flat_map, drop}
use Rattle.p9_form.specs.Sharing.{names_in}
use Rattle.p9_share.specs.Symbols.{variable_symbol}
use Rattle.p9_share.proofs.symbols.put_variables.Given as goal

abbrev pub invariant-loop-declaration : goal.invariant-loop-declaration
invariant-loop-declaration l =
    l.symbols.items ++ map (variable_symbol (flat_map names_in l.statements)) (drop l.declaration-index l.declarations)
    ≡ l.initial.symbols.items ++ map (variable_symbol (flat_map names_in l.statements)) l.declarations
