-- What `compile` answers keeps the meaning of its files, and ends in time.
use Rattle.std.proofs.Common.{◌≡◌, ◌≤◌, ℕ, List, [], length, map, All, Result, Ok, Err, IfOk}
use Rattle.p9_aout.specs.Image.{image_of, parts_of}
use Rattle.p9_aout.specs.Spelled.{spelled}
use Rattle.p9_aout.specs.declared.format.Image.{Image}
use Rattle.p9_first.specs.Form.{IsFile}
use Rattle.p9_form.specs.declared.file.File.{File}
use Rattle.p9_form.specs.Items.{items_of, source_of}
use Rattle.p9_form.specs.Sharing.{AreJoined, IsSmall}
use Rattle.p9_straight.specs.Code.{parts_for}
use Rattle.p9_headline.specs.Executable.{IsStripped}
use Rattle.p9_headline.specs.Headline.{KeepsMeaning}
use Rattle.p9_straight.specs.Headline.{union_run, EndsInTime}
use Rattle.p9_straight.proofs.Composed.{keeps_meaning, ends_in_time}
use Rattle.p9_straight.proofs.SourceMeaning.{source_comes_to}

pub compiled_keeps : (files : List File) (bytes : List ℕ) → image_of bytes ≡ Ok (parts_for files)
    → All (λ f. IsFile (items_of f)) files → All IsSmall files → length files ≤ 16 → AreJoined files → KeepsMeaning (union_run (map source_of files)) bytes
compiled_keeps files bytes image forms smalls count joined =
    keeps_meaning files bytes (λ input turns. source_comes_to files input turns forms joined) forms smalls count joined image

pub compiled_ends : {E : Type 0} (answer : Result (List ℕ) E) (files : List File) → IfOk answer (λ bytes. image_of bytes ≡ Ok (parts_for files))
    → All (λ f. IsFile (items_of f)) files → All IsSmall files → length files ≤ 16 → AreJoined files → IfOk answer (λ bytes. EndsInTime (map source_of files) bytes)
compiled_ends (Ok bytes) files image forms smalls count joined =
    ends_in_time files bytes (λ input turns. source_comes_to files input turns forms joined) forms smalls count joined image
compiled_ends (Err why) files image forms smalls count joined = tt

-- the spelling of an image without symbols
pub spelled_stripped : {E : Type 0} (answer : Result (List ℕ) E) (image : Image) → image.syms.items ≡ []
    → IfOk answer (λ bytes. bytes ≡ spelled image) → IfOk answer (λ bytes. image_of bytes ≡ Ok (parts_of image)) → IfOk answer (λ bytes. IsStripped bytes)
spelled_stripped (Ok bytes) image none spelling is = record { image = image; no_symbols = none; spelling = spelling; is = is }
spelled_stripped (Err why) image none spelling is = tt
