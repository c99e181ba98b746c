use Rattle.std.proofs.Common.{[], ◌++◌, ◌∷◌, false, cond, sym, ap, ◌∙◌}
use Rattle.p9_cpp.specs.Reading.{flags_of}
use Rattle.p9_cpp.proofs.Flags.{flags_defined}
use Rattle.p9_cpp.proofs.unit.Unit.define.Goals as goal

pub returns-clause-ready : goal.returns-clause-ready
returns-clause-ready c =
    let old = c.args.self.now in (
      c.in_ok-add_flag.ensures
          ∙ ap (λ fs. cond c.is_none-is_new.result (fs ++ false ∷ []) fs) c.requires.ready.0
          ∙ flags_defined old.table.entries c.args.name c.args.definition c.in_ok-insert.field-0 c.is_none-is_new.result c.in_ok-insert.ensures.old c.is_none-is_new.ensures
          ∙ ap (λ es. flags_of es []) (sym c.in_ok-insert.ensures.entries),
      c.in_ok-insert.ensures.unique,
    )
