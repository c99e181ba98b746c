use Rattle.std.proofs.Common.{map, IfErr, sym, ◌∙◌, subst, List}
use Rattle.p9_form.specs.declared.file.File.{File}
use Rattle.p9_abs.specs.BuiltIn.{linked}
use Rattle.p9_names.specs.Answers.{IsRefusal}
use Rattle.p9_share.specs.Symbols.{module_of}
use Rattle.p9_share.proofs.joining.join.Goals as goal

pub returns-clause-refused : goal.returns-clause-refused
returns-clause-refused c = subst (λ (fs : List File). IfErr c.join_all.result (IsRefusal (linked (map module_of fs)))) (c.deref.ensures.value ∙ c.files.view_is) c.join_all.ensures.refused

pub returns-clause-refused_exactly : goal.returns-clause-refused_exactly
returns-clause-refused_exactly c = λ fault n r. c.join_all.ensures.refused_exactly fault n (subst (λ (fs : List File). IsRefusal (linked (map module_of fs)) fault) (sym (c.deref.ensures.value ∙ c.files.view_is)) r)
