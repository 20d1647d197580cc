-- The raised sum fits 64 bits; the quotient is at most the cycles, so that it fits 32 bits, and with the start ticks too.
use mathlib.Core.Path.{sym}
use native.Mathlib.Nat.{div-lt_iff_lt-mul, div-zero, zero-add}
use native.Mathlib.Omega.{arith}
use Rattle.plan_rules.specs.Quantities.{ticks}
use borrow.Author.Rules.{rules}
use Rattle.plan_rules.proofs.quantities.ticks_of.Goals as goal

pub returns-then-speed-eq0 : goal.returns-then-speed-eq0
unfolding ticks
returns-then-speed-eq0 c = rw (c.if-speed-eq0.true, div-zero) (sym (zero-add _))

pub overflow_cast-result-2 : goal.overflow_cast-result-2
overflow_cast-result-2 c = record { fits = (div-lt_iff_lt-mul {k = c.args.speed} (omega arith)).1 (omega arith) }

pub returns : goal.returns
unfolding ticks
returns c = search rules
