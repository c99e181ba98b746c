use Rattle.std.proofs.Common.{refl}
use Rattle.p9_obj.proofs.Spelled.{module_put, read_again}
use Rattle.p9_obj.proofs.writer.write_obj.Goals as goal

pub returns-clause-spelling : goal.returns-clause-spelling
returns-clause-spelling c =
    module_put c.args.m.now _ c.new-list.result.items _ _ _ refl c.new-list.ensures.items c.in_ok-put_bytes.ensures c.in_ok-put_word.ensures c.in_ok-put_module.ensures

pub returns-clause-again : goal.returns-clause-again
returns-clause-again c = λ f.
    read_again c.args.m.now _ c.requires
    (module_put c.args.m.now _ c.new-list.result.items _ _ _ refl c.new-list.ensures.items c.in_ok-put_bytes.ensures c.in_ok-put_word.ensures c.in_ok-put_module.ensures)
    f
