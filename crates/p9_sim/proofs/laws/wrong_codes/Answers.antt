use Rattle.p9_sim.proofs.Going.{printed_twice, read_behind_exit, other_text}
use Rattle.p9_sim.proofs.Refusing.{register_over_call, right_first, countdown}
use Rattle.p9_sim.proofs.laws.wrong_codes.Goals as goal

pub returns-clause-register : goal.returns-clause-register
returns-clause-register c = register_over_call

pub returns-clause-order : goal.returns-clause-order
returns-clause-order c = right_first

pub returns-clause-countdown : goal.returns-clause-countdown
returns-clause-countdown c = countdown

pub returns-clause-printed : goal.returns-clause-printed
returns-clause-printed c = printed_twice

pub returns-clause-read : goal.returns-clause-read
returns-clause-read c = read_behind_exit

pub returns-clause-text : goal.returns-clause-text
returns-clause-text c = other_text
