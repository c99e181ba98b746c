use Rattle.p9_sound.proofs.Labels as labels
use Rattle.p9_sound.proofs.laws.earlier_labels_stay.Goals as goal

pub returns : goal.returns
returns c = labels.earlier_labels_stay
