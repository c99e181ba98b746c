-- The small programs compute to what is said of them.
use Rattle.std.proofs.Common.{◌≡◌, ◌≤◌, ◌<◌, ◌⊎◌, ◌↔◌, inl, inr, ℕ, zero, suc, ◌+◌, ◌&&◌, ◌==◌, nat_lt, Bool, true, false, List, [], ◌∷◌, length, refl, sym, ap, ◌∙◌, subst, arith}
use Rattle.std.proofs.lemmas.Bool.{and_parts, true≢false, ltb-true, eqb-true}
use Rattle.p9_abs.specs.Automatics.{flows, reads_at, fills_at, IsReadAlong, IsLive}
use Rattle.p9_abs.specs.Steps.{step}
use Rattle.p9_abs.specs.Runs.{arun_of, arun_from}
use Rattle.p9_abs.specs.OneCall.{goes}
use Rattle.p9_abs.specs.Automatics.{reached}
use Rattle.p9_abs.specs.Examples.{at_depth, stored_and_read, KeptWordIsBanned, KeptWordIsFreedByReturn, OutsideIsUndefined, MisalignedIsUndefined, OverflowIsUndefined, DivisionIsUndefined, CallOfNoFunction, FloorIsUndefined, SystemStopIsUndefined, GapIsUndefined, LiveWhereRead, RegionOfStoreAndRead, CostByDepth}

pub kept_word : KeptWordIsBanned
unfolding step arun_of arun_from
kept_word = (refl, refl)

pub kept_word_freed : KeptWordIsFreedByReturn
unfolding step arun_of arun_from
kept_word_freed = (refl, refl)

pub outside : OutsideIsUndefined
unfolding step arun_of arun_from
outside = (refl, refl, refl)

pub misaligned : MisalignedIsUndefined
unfolding step arun_of arun_from
misaligned = (refl, refl, refl)

pub overflow : OverflowIsUndefined
unfolding step arun_of arun_from
overflow = (refl, refl, refl)

pub division : DivisionIsUndefined
unfolding step arun_of arun_from
division = (refl, refl, refl)

pub no_function : CallOfNoFunction
unfolding step arun_of arun_from
no_function = (refl, refl)

pub floor : FloorIsUndefined
unfolding step arun_of arun_from
floor = (refl, refl, refl)

pub system_stop : SystemStopIsUndefined
unfolding step arun_of arun_from
system_stop = (refl, refl)

pub gap : GapIsUndefined
unfolding step goes reached
gap = (refl, refl, refl)

pub cost_by_depth : CostByDepth
cost_by_depth = (refl, refl)
