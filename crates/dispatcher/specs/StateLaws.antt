-- Which states fit a core, part by part.
use Prim.Native.Nat.{ℕ, pred, ◌≤◌, ◌<◌}
use Rattle.std.proofs.Math.Bool.{Bool}
use Rattle.std.specs.Prelude.{true, false, ◌↔◌, ◌≡◌, get_or}
use Rattle.std.proofs.Math.Path.{refl}
use Rattle.std.proofs.Math.Dec.{leb, ltb, eqb}
use borrow.Author.Tests.{lt-ltb, le-ltb, ltb-true, le-leb, leb-true, eqb-false, ne_eqb}
use Rattle.laws.specs.SearchFacts.{every_iff}
use Rattle.laws.specs.Truth.{or_is_true}
use Rattle.ranges.specs.Limits.{most_tasks}
use Rattle.dispatch.specs.Rows.{CoreTasks}
use Rattle.dispatcher.specs.ColumnLaws.{three_are_true}
use Rattle.dispatcher.specs.States.{ticks_of, left_fits, last_fits, state_fits}
use Rattle.dispatcher.specs.declared.DispatchState.{DispatchState}

module _ (core : CoreTasks) (i : ℕ) where
  pub ticks_of_task : i < core.size → ticks_of core i ≡ core.ticks i
  unfolding ticks_of
  ticks_of_task l = rw (lt-ltb i core.size l)

  pub no_ticks_beyond : core.size ≤ i → ticks_of core i ≡ 0
  unfolding ticks_of
  no_ticks_beyond beyond = rw (le-ltb i core.size beyond)

pub record FittingState (core : CoreTasks) (span : ℕ) (s : DispatchState) : Type 0 where
  pub tick_below : s.tick < span
  pub left_at_most : (i : ℕ) → i < most_tasks → get_or s.left i 0 ≤ ticks_of core i
  pub last_has_ticks : (s.last ≡ 0 → ⊥) → 0 < ticks_of core (pred s.last)

module _ (core : CoreTasks) (span : ℕ) (s : DispatchState) where
  left_fits_iff : (left_fits core s.left ≡ true) ↔ ((i : ℕ) → i < most_tasks → get_or s.left i 0 ≤ ticks_of core i)
  unfolding left_fits
  left_fits_iff =
      let fits : ℕ → Bool = λ i. leb (get_or s.left i 0) (ticks_of core i) in (
        λ e i l. leb-true (get_or s.left i 0) (ticks_of core i) ((every_iff fits most_tasks).0 e i l),
        λ each. (every_iff fits most_tasks).1 (λ i l. le-leb (get_or s.left i 0) (ticks_of core i) (each i l)),
      )

  last_fits_iff : (last_fits core s.last ≡ true) ↔ ((s.last ≡ 0 → ⊥) → 0 < ticks_of core (pred s.last))
  unfolding last_fits
  last_fits_iff =
      let none = eqb s.last 0 in
      let has = ltb 0 (ticks_of core (pred s.last)) in (
        λ e some. ltb-true 0 (ticks_of core (pred s.last)) ((or_is_true none has).0 e (ne_eqb s.last 0 some)),
        λ each. (or_is_true none has).1 (λ f. lt-ltb 0 (ticks_of core (pred s.last)) (each (eqb-false s.last 0 f))),
      )

  pub state_fits_iff : (state_fits core span s ≡ true) ↔ FittingState core span s
  unfolding state_fits
  state_fits_iff = (
    λ e.
        let all = three_are_true (ltb s.tick span) (left_fits core s.left) (last_fits core s.last) e in
        record {
          tick_below = ltb-true s.tick span all.0;
          left_at_most = left_fits_iff.0 all.1;
          last_has_ticks = last_fits_iff.0 all.2;
        },
    λ fit.
        rw (
          lt-ltb s.tick span fit.tick_below,
          left_fits_iff.1 fit.left_at_most,
          last_fits_iff.1 fit.last_has_ticks,
        )
        refl,
  )

  -- what the tests answer one after another
  pub late_tick_refused : span ≤ s.tick → false ≡ state_fits core span s
  unfolding state_fits
  late_tick_refused late = rw (le-ltb s.tick span late) refl

  module _ (below : s.tick < span) where
    pub left_refused : left_fits core s.left ≡ false → false ≡ state_fits core span s
    unfolding state_fits
    left_refused fails = rw (lt-ltb s.tick span below, fails) refl

    pub last_decides : left_fits core s.left ≡ true → last_fits core s.last ≡ state_fits core span s
    unfolding state_fits
    last_decides fits = rw (lt-ltb s.tick span below, fits) refl
