use Rattle.std.proofs.Common.{◌≤◌, length, sym, ap, ◌∙◌, arith, slice_index_or}
use Rattle.p9_cpp.specs.Reading.{flag_at}
use Rattle.p9_cpp.proofs.Flags.{flag_here, no_flag}
use Rattle.p9_cpp.proofs.hidden.is_marked.Goals as goal

pub returns-in-Some : goal.returns-in-Some
returns-in-Some c =
    let e = c.in-Some.ensures.lookup in
    e.1 ∙ flag_here c.as_slice.result.now c.args.index c.in-Some.flag.now e.3.0 ∙ ap (λ fs. flag_at fs c.args.index) c.as_slice.ensures

pub returns-in-None : goal.returns-in-None
returns-in-None c =
    let e = c.in-None.ensures.lookup in
    no_flag c.as_slice.result.now c.args.index e.3 ∙ ap (λ fs. flag_at fs c.args.index) c.as_slice.ensures
