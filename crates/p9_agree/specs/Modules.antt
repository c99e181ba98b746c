-- The modules of files of the form.
use Rattle.std.specs.Prelude.{◌≡◌, List, [], ◌∷◌}
use Rattle.p9_first.specs.Form.{IsFile}
use Rattle.p9_first.specs.Modules.{IsModule}
use Rattle.p9_first.specs.Trees.{row_of}
use Rattle.p9_first.specs.declared.module.Module.{Module}
use Rattle.p9_form.specs.declared.file.File.{File}
use Rattle.p9_form.specs.Items.{items_of}

-- the module has the tree of a file, and the types and meanings that typing gives its nodes
abbrev pub IsModuleOf : File → Module → Type 0
IsModuleOf file m = IsModule m × (row_of m.tree.items ≡ items_of file)

-- these are the modules of the files
abbrev pub AreModulesOf : List File → List Module → Type 0
AreModulesOf [] [] = Unit {0}
AreModulesOf [] (m ∷ ms) = ⊥
AreModulesOf (file ∷ files) [] = ⊥
AreModulesOf (file ∷ files) (m ∷ ms) = IsModuleOf file m × AreModulesOf files ms

-- Each file of the form has its module.
abbrev pub FilesHaveModules : Type 0
FilesHaveModules = (file : File) → IsFile (items_of file) → (m : Module) × IsModuleOf file m
