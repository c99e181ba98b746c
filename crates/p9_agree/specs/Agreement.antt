-- Two notions of joining: that of the modules that are linked, and that of C's meaning.
use Rattle.std.specs.Prelude.{◌↔◌, List, map, All}
use Rattle.p9_form.specs.declared.file.File.{File}
use Rattle.p9_form.specs.Items.{items_of, source_of}
use Rattle.p9_first.specs.Form.{IsFile}
use Rattle.p9_abs.specs.BuiltIn.{linked}
use Rattle.p9_names.specs.Answers.{Joins}
use Rattle.p9_share.specs.Symbols.{module_of}
use Rattle.p9_first.specs.Joins.{Join}

-- Files of the form join by name exactly where their C modules join.
abbrev pub FilesJoinAsSources : Type 0
FilesJoinAsSources =
    (files : List File) → All (λ f. IsFile (items_of f)) files → Joins (linked (map module_of files)) ↔ Join (map source_of files)
