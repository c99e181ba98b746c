-- What liveness needs to know of each form: which automatic it reads or writes and where it jumps
-- (`read_of`, `written_of`, `jump_of`, `act_of`), and which automatic it bars from being a candidate
-- (`barred_by`).
use Rattle.std.specs.Prelude.{ℕ, ◌==◌, ◌&&◌, ◌≡◌, nat_le, Bool, true, false, Option, Some, None, List, length, slice_get, slice_index, slice_index_or, slice_set, if◌then◌else◌}
use Rattle.p9_abs.specs.declared.instructions.Abs.{Abs}
use Rattle.p9_abs.specs.declared.forms.Location.{Location}
use Rattle.p9_abs.specs.declared.forms.Location.TheVariants.{Automatic}
use Rattle.p9_abs.specs.declared.forms.Width.{Width}
use Rattle.p9_abs.specs.declared.forms.Form.{Form}
use Rattle.p9_abs.specs.declared.forms.Form.TheVariants as forms
use Rattle.p9_abs.specs.Automatics.{falls, keep_whole_below}
use Rattle.p9_abs.specs.Steps.{bytes_of}
use Rattle.p9_flow.specs.declared.acts.Act.{Act}

abbrev pub automatic_of : Location → Option ℕ
automatic_of (Automatic v o) = Some v
automatic_of _ = None

abbrev pub read_of : Form → Option ℕ
read_of (forms.Load w from to) = automatic_of from
read_of _ = None

abbrev pub written_of : Form → Option ℕ
written_of (forms.Store w from to) = automatic_of to
written_of _ = None

abbrev pub jump_of : Form → Option ℕ
jump_of (forms.BranchPair k a b l) = Some l
jump_of (forms.BranchSign k a l) = Some l
jump_of (forms.Jump l) = Some l
jump_of _ = None

-- an automatic, where it is among the candidates
abbrev pub kept : List Bool → Option ℕ → Option ℕ
kept candidates None = None
kept candidates (Some v) = if slice_index_or candidates v false then Some v else None

-- what a form does, as far as the candidates go; no form does nothing
abbrev pub act_of : List Bool → Option Form → Act
act_of candidates None = record { next = false; jump = None; read = None; write = None }
act_of candidates (Some form) = record {
  next = falls form;
  jump = jump_of form;
  read = kept candidates (read_of form);
  write = kept candidates (written_of form);
}

-- Candidates

-- the automatic of which a location is a part of the bytes
abbrev pub part_of : List ℕ → Width → Location → Option ℕ
part_of autos w (Automatic v o) = if (o == 0) && (bytes_of w == slice_index autos v) then None else Some v
part_of autos w _ = None

-- the automatic whose address a form takes, or of which it accesses a part
abbrev pub barred_by : List ℕ → Form → Option ℕ
barred_by autos (forms.SetAddress a to) = automatic_of a
barred_by autos (forms.Load w from to) = part_of autos w from
barred_by autos (forms.Store w from to) = part_of autos w to
barred_by autos _ = None

-- that of an instruction, which bars none where it is no form
abbrev pub barred_at : List ℕ → Option Form → Option ℕ
barred_at autos None = None
barred_at autos (Some form) = barred_by autos form

abbrev pub without : List Bool → Option ℕ → List Bool
without candidates None = candidates
without candidates (Some v) = slice_set candidates v false

-- an automatic of this size is small, and the first m instructions keep it whole
abbrev pub fits_below : List Abs → ℕ → Option ℕ → ℕ → Bool
fits_below code v None m = false
fits_below code v (Some size) m = nat_le size 4 && keep_whole_below code v size (λ i. true) m

-- the candidates so far
unfoldable pub AreFitBelow : List ℕ → List Abs → ℕ → List Bool → Type 0
AreFitBelow autos code m candidates = (length candidates ≡ length autos) × ((v : ℕ) → slice_index_or candidates v false ≡ fits_below code v (slice_get autos v) m)
