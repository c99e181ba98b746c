use Rattle.std.proofs.lemmas.Result.{on_ok_weaker}
use Rattle.p9_obj.proofs.Spelled.{symbol_put}
use Rattle.p9_obj.proofs.writer.put_symbol.Goals as goal

pub returns : goal.returns
returns c =
    on_ok_weaker c.put_body.result
    (symbol_put c.args.symbol.now c.binding_number.result c.kind_number.result c.args.out.now.items _ _ _ _ _ c.binding_number.ensures c.kind_number.ensures c.in_ok-put_byte.ensures c.in_ok-put_byte-2.ensures c.in_ok-put_name.ensures c.in_ok-put_signature.ensures)
    c.put_body.ensures
