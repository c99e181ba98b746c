-- Files join by name exactly where their C modules join: both say that they fit together.
use Rattle.p9_agree.specs.Agreement.{FilesJoinAsSources}
use Rattle.p9_agree.proofs.FromNames.{fit_from_names}
use Rattle.p9_agree.proofs.ToNames.{fit_to_names}
use Rattle.p9_agree.proofs.FromSources.{fit_from_sources}
use Rattle.p9_agree.proofs.ToSources.{fit_to_sources}

pub files_join_as_sources : FilesJoinAsSources
files_join_as_sources files h = (
  λ j. fit_to_sources files h (fit_from_names files h j),
  λ j. fit_to_names files h (fit_from_sources files h j),
)
