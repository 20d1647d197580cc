use mathlib.Core.List.{[], ◌∷◌}
use mathlib.Core.Path.{◌≡◌}
use native.Mathlib.Omega.{arith}
use borrow.Author.Rules.{rules}
use Prim.Native.Nat.{ℕ, ◌-◌, ◌<◌}
use lib.ListN.{length, length-append, get_or}
use Rattle.std.proofs.lemmas.Slice.Zip.{zip_end, zip_turn}
use Rattle.ranges.specs.Limits.{most_tasks}
use Rattle.dispatcher.specs.Places.{place_within, next_placed, all_ticks_placed}
use Rattle.dispatcher.proofs.columns.Columns.ticks_by_number.Goals as goal
use Rattle.dispatcher.proofs.columns.Columns.ticks_by_number.Goals.{In-Some}

-- the pair of this turn stands at the index that the turns so far come to
its_turn : (c : goal.In-Some) →
    let columns = c.args.self.now in
    let n = length c.loop-number.yielded in
    (n < length columns.numbers.now) × (n < length columns.ticks.now) × ((d : ℕ) → c.in-Some.number.now ≡ get_or columns.numbers.now n d)
    × ((d : ℕ) → c.in-Some.ticks.now ≡ get_or columns.ticks.now n d)
its_turn c =
    zip_turn c.args.self.now.numbers.now c.args.self.now.ticks.now c.loop-number.yielded c.into_iter-number-iterator.result
    c.loop-number.number-iterator c.next.new.self c.next.result (search rules) (search rules) c.loop-number.yielded_by
    (c.in-Some.number, c.in-Some.ticks) c.in-Some.is c.next.ensures.steps

place_below : (c : goal.In-Some) → c.in-Some.number.now - 1 < most_tasks
place_below c =
    let turn = its_turn c in
    rw (turn.2 0) (place_within _ c.args.self.now.well_formed.numbers_rise _ turn.0)

pub bounds-placed-number : goal.bounds-placed-number
bounds-placed-number c = place_below (goal.at.bounds-placed-number c).In-Some

pub loop-number-preserved : goal.loop-number-preserved
loop-number-preserved c =
    let rise = c.args.self.now.well_formed.numbers_rise in
    let at = c.loop-number in
    let turn = its_turn (goal.at.loop-number-preserved c).In-Some in
    rw (length-append at.yielded ((c.in-Some.number, c.in-Some.ticks) ∷ []), turn.2 0)
    (omega (arith, turn.0), next_placed _ _ _ rise _ _ at.invariant.1 turn.0 _ (turn.3 0))

pub returns : goal.returns
returns c =
    let columns = c.args.self.now in
    let at = c.loop-number in
    let ok = columns.well_formed in
    let turns = zip_end columns.numbers.now columns.ticks.now at.yielded c.into_iter-number-iterator.result at.number-iterator c.next.new.self c.next.result
    (search rules) (search rules) at.yielded_by c.in-None.is c.next.ensures.steps in
    let all : length at.yielded ≡ length columns.numbers.now = omega (arith, turns, ok.one_job_each) in
    all_ticks_placed _ _ _ ok.numbers_rise ok.one_job_each (rw all at at.invariant.1)
