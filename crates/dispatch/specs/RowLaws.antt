-- A row is written run by run: what has run, which slots are filled, and how far the row has come.
use Rattle.std.specs.Prelude.{ℕ, suc, ◌+◌, ◌-◌, ◌≤◌, ◌<◌, Bool, true, false, cond, List, Some, None, ◌≡◌, refl, eqb, length, get_or, set}
use Rattle.std.proofs.Common.{⊎_elim, ap₂, ◌∙◌, le_refl, arith, length-set, get_or-set_same, get_or-set_other, eqb-true}
use Rattle.std.proofs.Math.Path.{sym, ap}
use Rattle.std.proofs.Math.Seq.{take-length}
use Rattle.std.proofs.lemmas.Bool.{eqb-false}
use Rattle.laws.specs.Below.{below_suc, lt_or_le}
use Rattle.laws.specs.JoinedLaws.{list_of-same, take_is-list_of}
use Rattle.dispatch.specs.Chosen.{number_of, of_number}
use Rattle.dispatch.specs.Columns.{ColumnsOk, Filled, NextRelease, NoRelease, RanEarliest, RanFor, Released, column_row, column_tasks}
use Rattle.dispatch.specs.DispatchLaws.{left_at, ready_at, left_at_start, slot_is_choice, slot_is_earliest}
use Rattle.dispatch.specs.Earliest.{chosen_le_size, earliest_cong, earliest_is_choice}
use Rattle.dispatch.specs.ReleaseLaws.{until_release}
use Rattle.dispatch.specs.Rows.{CoreTasks, after_release, due_at, earliest, slot_of}
use Rattle.dispatch.specs.Runs.{Uninterrupted, after_ticks, after_ticks-other, left_after_ticks, slot_in_run}
use Rattle.dispatch.specs.SelectedTasks.{numbered}
use Rattle.dispatch.specs.declared.Run.{Run}

pub none_ran : (ticks : ℕ) (left : List ℕ) → RanFor None ticks left left
none_ran ticks left = record { same_length = refl; left = λ i. sym (after_ticks-other 0 ticks i (get_or left i 0) (λ e. omega arith)) }

pub one_ran : (task ticks : ℕ) (left : List ℕ) → task < length left →
    RanFor (Some task) ticks left (set left task (get_or left task 0 - ticks))
unfolding after_ticks
one_ran task ticks left within = record { same_length = length-set left task _; left = λ i. go i (eqb (suc i) (suc task)) refl }
  where
    go : (i : ℕ) (b : Bool) → eqb (suc i) (suc task) ≡ b →
        get_or (set left task (get_or left task 0 - ticks)) i 0 ≡ cond (eqb (suc i) (suc task)) (get_or left i 0 - ticks) (get_or left i 0)
    go i true e =
        let here : task ≡ i = omega (arith, eqb-true (suc i) (suc task) e) in
        rw (e, here, get_or-set_same left i _ 0 (omega arith))
    go i false e = rw e (get_or-set_other left task i _ 0 (λ here. eqb-false (suc i) (suc task) e (omega arith)))

pub ran_is_task : {periods windows before after : List ℕ} {tick soonest : ℕ} {run : Run} →
    RanEarliest periods windows tick soonest before after run → number_of run.task ≤ length periods
ran_is_task ran = rw ran.is_earliest (chosen_le_size (earliest_is_choice _ _ _))

pub fill_starts : (slots : List ℕ) (from slot : ℕ) → Filled slots slots from from slot
fill_starts slots from slot = record { same_length = refl; inside = λ u l m. omega arith; earlier = λ u l. refl }

pub fill_next : (before after : List ℕ) (from i slot : ℕ) → Filled before after from i slot → from ≤ i → i < length before →
    Filled before (set after i slot) from (i + 1) slot
fill_next before after from i slot so_far l within = record {
  same_length = length-set after i slot ∙ so_far.same_length;
  inside = λ u later sooner.
      below_suc (λ u. from ≤ u → get_or (set after i slot) u 0 ≡ slot) i
      (λ u m later. get_or-set_other after i u slot 0 (λ e. omega arith) ∙ so_far.inside u later m)
      (λ later. get_or-set_same after i slot 0 (omega (arith, so_far.same_length)))
      u (omega arith) later;
  earlier = λ u m. get_or-set_other after i u slot 0 (λ e. omega arith) ∙ so_far.earlier u m;
}

module _ (numbers periods windows ticks : List ℕ) where
  abbrev core : CoreTasks
  core = column_tasks periods windows ticks

  abbrev shown : ℕ → ℕ
  shown u = numbered (λ j. get_or numbers j 0) (slot_of core u)

  -- the slots before `tick` are filled, the columns' tasks have `left` left, and the next release is no sooner than `soonest`
  pub record RowSoFar (tick soonest : ℕ) (left slots : List ℕ) : Type 0 where
    pub are_left : (i : ℕ) → i < length periods → get_or left i 0 ≡ left_at core tick i
    pub no_release : NoRelease periods (length periods) tick soonest
    pub written : (u : ℕ) → u < tick → get_or slots u 0 ≡ shown u

  module _ (ok : ColumnsOk numbers periods windows ticks) where
    is_task : (i : ℕ) → i < length periods → i < length ticks
    is_task i l = omega (arith, ok.one_job_each)

    pub row_starts : (left slots : List ℕ) → ((i : ℕ) → i < length periods → get_or left i 0 ≡ 0) → RowSoFar 0 0 left slots
    row_starts left slots nothing = record {
      are_left = λ i l. nothing i l ∙ sym (left_at_start core i (is_task i l));
      no_release = record { none = λ i u l from before. omega arith };
      written = λ u l. omega arith;
    }

    module _ (tick end soonest next : ℕ) (left ready after slots filled : List ℕ) (run : Run) (so_far : RowSoFar tick soonest left slots)
        (released : Released periods ticks tick left ready) (next_is : NextRelease periods (length periods) tick end next)
        (ran : RanEarliest periods windows tick next ready after run)
        (fills : Filled slots filled tick run.end (numbered (λ j. get_or numbers j 0) (number_of run.task))) where
      is_ready : (i : ℕ) → i < length periods → get_or ready i 0 ≡ ready_at core tick i
      unfolding ready_at after_release
      is_ready i l = released.ready i l ∙ ap (after_release core tick i) (so_far.are_left i l)

      is_slot : number_of run.task ≡ slot_of core tick
      unfolding due_at
      is_slot =
          ran.is_earliest
          ∙ earliest_cong _ _ (due_at core tick) (ready_at core tick) (length periods) is_ready (λ i l has. refl)
          ∙ ap (earliest _ _) (sym ok.one_job_each)
          ∙ sym (slot_is_earliest core tick)

      is_run : Uninterrupted core tick (run.end - tick)
      is_run = record {
        period_above_0 = λ i l. ok.dues_ok.periods_ok.above_0 i (omega (arith, ok.one_job_each));
        no_release = λ i u l later before.
            next_is.no_release.none i u (omega (arith, ok.one_job_each)) later (omega (arith, ran.until.later, ran.until.within));
        enough_left = λ k e.
            let enough = of_number (λ i. run.end ≤ tick + get_or ready i 0) run.task k (is_slot ∙ e) ran.until.enough_left in
            omega (arith, enough, is_ready k (omega (arith, chosen_le_size (slot_is_choice core tick), ok.one_job_each)));
      }

      pub row_goes_on : RowSoFar run.end next after filled
      row_goes_on =
          let whole : tick + (run.end - tick) ≡ run.end = omega (arith, ran.until.later) in
          record {
            are_left = λ i l.
                ran.ran.left i
                ∙ ap₂ (λ (task left : ℕ). after_ticks task (run.end - tick) i left) is_slot (is_ready i l)
                ∙ sym (rw whole at (left_after_ticks core tick (run.end - tick) is_run (omega (arith, ran.until.later)) i (is_task i l)));
            no_release = until_release next_is ran.until.later;
            written = λ u l.
                ⊎_elim
                (λ (before : u < tick). fills.earlier u before ∙ so_far.written u before)
                (λ (from : tick ≤ u).
                fills.inside u from l
                ∙ ap (numbered (λ j. get_or numbers j 0))
                (is_slot ∙ sym (slot_in_run core tick (run.end - tick) is_run u from (omega arith))))
                (lt_or_le u tick);
          }

  pub row_ends : (tick soonest : ℕ) (left slots : List ℕ) → tick ≡ length slots → RowSoFar tick soonest left slots →
      slots ≡ column_row numbers periods windows ticks (length slots)
  unfolding column_row
  row_ends tick soonest left slots all so_far =
      sym (take-length slots)
      ∙ take_is-list_of slots 0 (length slots) (le_refl (length slots))
      ∙ list_of-same _ shown (length slots) (λ u l. so_far.written u (rw all l))
