use Prim.Native.Nat.{pred, ◌-◌}
use mathlib.Core.Path.{◌≡◌, refl}
use native.Mathlib.Omega.{arith}
use borrow.Author.Tests.{ne_eqb}
use Rattle.dispatcher.proofs.columns.last_within.Goals as goal

pub returns-then-last-le-MOST_TASKS : goal.returns-then-last-le-MOST_TASKS
returns-then-last-le-MOST_TASKS c =
    let last = c.args.last in
    let place : pred last ≡ last - 1 = omega arith in
    rw (ne_eqb _ 0 c.if-last-eq0.false, place) refl
