use Rattle.std.proofs.Common.{◌≡◌, ◌++◌, map, drop}
use Rattle.p9_share.specs.Symbols.{module_of}
use Rattle.p9_share.proofs.joining.modules_of.Given as goal

abbrev pub invariant-loop-file : goal.invariant-loop-file
invariant-loop-file l = l.modules.items ++ map module_of (drop l.file-index l.files) ≡ map module_of l.files
