-- The code of each system call is right.
use Rattle.std.proofs.Common.{arith}
use Rattle.p9_cmean.specs.SystemCalls.{Exits, Read, Write}
use Rattle.p9_systems.specs.Systems.{SystemsAreRight}
use Rattle.p9_systems.proofs.Exiting.{exits-performs}
use Rattle.p9_systems.proofs.Writing.{write-performs}
use Rattle.p9_systems.proofs.Reading.{read-performs}

pub systems_are_right : SystemsAreRight
systems_are_right counting g symbol Exits need name others active turns call s m x is fits at =
    (let f = at.matched.floor in let d = at.matched.not_deep in omega (arith, f, d), exits-performs counting g symbol need others active m call s x at)
systems_are_right counting g symbol Read need name others active turns call s m x is fits at =
    (let f = at.matched.floor in let d = at.matched.not_deep in omega (arith, f, d), read-performs counting g symbol need others active m call s x at)
systems_are_right counting g symbol Write need name others active turns call s m x is fits at =
    (let f = at.matched.floor in let d = at.matched.not_deep in omega (arith, f, d), write-performs counting g symbol need others active m call s x at)
