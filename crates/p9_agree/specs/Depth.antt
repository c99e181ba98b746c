-- A run of files of the form is never too deep.
use Rattle.std.specs.Prelude.{◌≡◌, ℕ, List, map, All}
use Rattle.p9_first.specs.Form.{IsFile}
use Rattle.p9_form.specs.declared.file.File.{File}
use Rattle.p9_form.specs.Items.{items_of, source_of}
use Rattle.p9_form.specs.Sharing.{IsSmall, AreJoined}
use Rattle.p9_first.specs.Turns.{Outcome, Ended, Out, Undefined, Deep}
use Rattle.p9_first.specs.CRun.{source_run}
use Rattle.p9_straight.specs.FormRun.{Came, Ends, RunsOut, Fails, form_run}

-- each call of a run has had its room
abbrev pub IsNotDeep : Outcome → Type 0
IsNotDeep (Ended output text) = Unit {0}
IsNotDeep (Out output) = Unit {0}
IsNotDeep (Undefined output why place) = Unit {0}
IsNotDeep (Deep output place) = ⊥

-- Files of the form that are small and joined have room for all their calls, whatever they read.
abbrev pub FormIsNeverDeep : Type 0
FormIsNeverDeep =
    (files : List File) (input : List ℕ) (turns : ℕ) →
    All (λ f. IsFile (items_of f)) files → All IsSmall files → AreJoined files →
    IsNotDeep (source_run (map source_of files) input turns)

-- a run has come to the same output and end, or does something undefined; it isn't too deep
abbrev pub Reaches : Outcome → Came → Type 0
Reaches (Ended output text) (Ends o t) = (output ≡ o) × (text ≡ t)
Reaches (Out output) (RunsOut o) = output ≡ o
Reaches (Undefined output why place) Fails = Unit {0}
Reaches _ _ = ⊥

-- So their run is just what `main`'s statements come to by the values of variables alone: it does
-- something undefined exactly where one of them writes past its text's zero byte.
abbrev pub FormComes : Type 0
FormComes =
    (files : List File) (input : List ℕ) (turns : ℕ) →
    All (λ f. IsFile (items_of f)) files → All IsSmall files → AreJoined files →
    Reaches (source_run (map source_of files) input turns) (form_run files turns)
