use Prim.Native.Nat.{ℕ, ◌<◌}
use lib.ListN.{get_or}
use borrow.Author.Rules.{rules}
use native.Mathlib.Omega.{arith}
use Rattle.std.proofs.Common.{◌≡◌, refl}
use Rattle.std.specs.List.{range_with_len}
use Rattle.std.proofs.lemmas.Iterator.{cases_from_all, YieldsList-from_range}
use Rattle.std.proofs.lemmas.List.FromFn.{get_or-range_with_len, length-range_with_len}
use Rattle.knapsack.specs.Offered.{entry_of}
use Rattle.lagrangian.specs.TimedCores.{timing_at}
use Rattle.timed_sets.proofs.partners.has_same_levels.Goals as goal

pub returns : goal.returns
returns c = λ same.
    let args = c.args in
    let levels = args.timed.levels in
    let alike : ℕ → Type 0 = λ (l : ℕ).
    ((timing_at args.timings.now args.j).ticks l ≡ (timing_at args.timings.now args.i).ticks l)
    × (entry_of args.cost.now args.j l ≡ entry_of args.cost.now args.i l) in
    let found = rw same at (cases_from_all _ _ _ alike (λ _. Unit {0}) c.all.ensures.ran (YieldsList-from_range 0 levels levels refl (omega arith)) (λ level q is. (search rules, search rules)) (λ level q is. tt)) in
    let each : (l : ℕ) → l < levels → alike l = λ l under.
    let is : get_or (range_with_len 0 levels) l 0 ≡ l = omega (arith, get_or-range_with_len 0 levels l 0 under) in
    rw is at (found l 0 (omega arith) (omega (arith, length-range_with_len 0 levels))) in
    record { ticks = λ l under. (each l under).0; costs = λ l under. (each l under).1 }
