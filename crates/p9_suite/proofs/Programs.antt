-- The executable of files that join.
use Rattle.std.proofs.Common.{ℕ, List, map, All}
use Rattle.p9_agree.proofs.Depth.{form_is_never_deep}
use Rattle.p9_first.specs.Form.{IsFile}
use Rattle.p9_form.specs.declared.file.File.{File}
use Rattle.p9_form.specs.Items.{items_of, source_of}
use Rattle.p9_form.specs.Sharing.{AreJoined, IsSmall}
use Rattle.p9_headline.specs.Executable.{IsStripped}
use Rattle.p9_headline.specs.Headline.{KeepsMeaning}
use Rattle.p9_abs.specs.BuiltIn.{linked}
use Rattle.p9_names.specs.Answers.{Joins}
use Rattle.p9_share.specs.Symbols.{module_of}
use Rattle.p9_straight.specs.Headline.{union_run, EndsInTime}
use Rattle.p9_suite.specs.commands.Run.{IsProgram}

pub program : (files : List File) (bytes : List ℕ) → All (λ f. IsFile (items_of f)) files → All IsSmall files → AreJoined files → Joins (linked (map module_of files)) → IsStripped bytes → KeepsMeaning (union_run (map source_of files)) bytes → EndsInTime (map source_of files) bytes → IsProgram files bytes
program files bytes forms smalls joined joins stripped keeps ends = record {
  joins = joins;
  stripped = stripped;
  keeps = keeps;
  has_room = λ input turns. form_is_never_deep files input turns forms smalls joined;
  ends = ends;
}
