use Prim.Native.Nat.{ℕ, ◌<◌}
use mathlib.Core.Bool.{true}
use mathlib.Core.List.{[], ◌∷◌}
use mathlib.Core.Path.{◌≡◌, refl, sym, ◌∙◌}
use native.Mathlib.Omega.{arith}
use borrow.Author.Tests.{eqb-true}
use lib.Dec.{eqb}
use lib.ListN.{length, length-append, get_or}
use borrow.Author.Rules.{rules}
use Rattle.std.proofs.lemmas.Slice.Zip.{zip_end, zip_turn}
use Rattle.laws.specs.Search.{every}
use Rattle.dispatcher.specs.Columns.{column_fits}
use Rattle.dispatcher.specs.ColumnLaws.{three_are_true, lengths_refused, column_refused, next_number, all_columns_fit}
use Rattle.dispatcher.specs.TestLaws.{every_next}
use Rattle.dispatcher.proofs.columns.columns_fit.Goals as goal
use Rattle.dispatcher.proofs.columns.columns_fit.Goals.{After-column_fits, Else-not-same_lengths, In-Some}

-- the lengths are the same
lengths : (c : goal.Else-not-same_lengths) →
    let args = c.args in
    let n = length args.numbers.now in
    (eqb (length args.periods.now) n ≡ true) × (eqb (length args.windows.now) n ≡ true) × (eqb (length args.ticks.now) n ≡ true)
lengths c = three_are_true _ _ _ (sym c.same_lengths.ensures ∙ c.if-not-same_lengths.false)

-- the pair of this turn stands at the index that the turns so far come to
its_turn : (c : goal.In-Some) →
    let args = c.args in
    let n = length c.loop-number.yielded in
    (n < length args.numbers.now) × (n < length args.periods.now) × ((d : ℕ) → c.in-Some.number.now ≡ get_or args.numbers.now n d)
    × ((d : ℕ) → c.in-Some.period.now ≡ get_or args.periods.now n d)
its_turn c =
    zip_turn c.args.numbers.now c.args.periods.now c.loop-number.yielded c.into_iter-number-iterator.result c.loop-number.number-iterator
    c.next.new.self c.next.result (search rules) (search rules) c.loop-number.yielded_by (c.in-Some.number, c.in-Some.period) c.in-Some.is
    c.next.ensures.steps

-- the test of a column is the definition's
is_tested : (c : goal.After-column_fits) →
    let args = c.args in
    column_fits args.numbers.now args.periods.now (length c.loop-number.yielded) ≡ c.column_fits.result
unfolding column_fits
is_tested c =
    let turn = its_turn (goal.at.After-column_fits c).In-Some in
    rw (c.column_fits.ensures, c.loop-number.invariant.1, turn.2 0, turn.3 0) refl

pub loop-number-init : goal.loop-number-init
unfolding every
loop-number-init c = (eqb-true _ _ (lengths (goal.at.loop-number-init c).Else-not-same_lengths).0, refl, refl)

pub returns-then-not-same_lengths : goal.returns-then-not-same_lengths
returns-then-not-same_lengths c = lengths_refused _ _ _ _ (sym c.same_lengths.ensures ∙ c.if-not-same_lengths.true)

pub returns-then-not-column_fits : goal.returns-then-not-column_fits
returns-then-not-column_fits c =
    let turn = its_turn (goal.at.returns-then-not-column_fits c).In-Some in
    column_refused _ _ _ _ _ turn.0 (is_tested (goal.at.returns-then-not-column_fits c).After-column_fits ∙ c.if-not-column_fits.true)

pub loop-number-preserved : goal.loop-number-preserved
loop-number-preserved c =
    let at = c.loop-number in
    let args = c.args in
    let turn = its_turn (goal.at.loop-number-preserved c).In-Some in
    rw (length-append at.yielded ((c.in-Some.number, c.in-Some.period) ∷ [])) (
      at.invariant.0,
      turn.2 0 ∙ next_number args.numbers.now _,
      every_next (column_fits args.numbers.now args.periods.now) _ at.invariant.2
          (is_tested (goal.at.loop-number-preserved c).After-column_fits ∙ c.if-not-column_fits.false),
    )

pub returns : goal.returns
returns c =
    let args = c.args in
    let at = c.loop-number in
    let turns = zip_end args.numbers.now args.periods.now at.yielded c.into_iter-number-iterator.result at.number-iterator c.next.new.self c.next.result
    (search rules) (search rules) at.yielded_by c.in-None.is c.next.ensures.steps in
    all_columns_fit _ _ _ _ (length at.yielded) (omega (arith, turns, at.invariant.0)) (lengths (goal.at.returns c).Else-not-same_lengths) at.invariant.2
