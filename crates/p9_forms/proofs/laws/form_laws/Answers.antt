use Rattle.p9_forms.proofs.Forms.{forms_do}
use Rattle.p9_forms.proofs.laws.form_laws.Goals as goal

pub returns : goal.returns
returns c = forms_do
