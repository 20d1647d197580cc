-- A state's places after a tick.
use Rattle.std.specs.Prelude.{ℕ, suc, pred, ◌-◌, ◌≤◌, ◌<◌, List, ◌⊎◌, ◌≡◌, length, get_or, set}
use Rattle.std.proofs.Common.{inl, inr, sym, ◌∙◌, le_of_eq, arith, length-set, get_or-set_same, get_or-set_other}
use Rattle.std.proofs.Math.Decide.{ℕ_discrete}
use Rattle.std.proofs.Math.Seq.{take-length}
use Rattle.laws.specs.JoinedLaws.{list_of-same, take_is-list_of}
use Rattle.laws.specs.Lists.{list_of}
use Rattle.ranges.specs.Limits.{most_tasks}
use Rattle.dispatch.specs.DispatchLaws.{after_run-self, after_run-other}
use Rattle.dispatch.specs.Rows.{after_run}

module _ (left : List ℕ) (places : length left ≡ most_tasks) where
  -- nothing changes
  unchanged : (f : ℕ → ℕ) → ((i : ℕ) → get_or left i 0 ≡ f i) → left ≡ list_of f most_tasks
  unchanged f same =
      sym (rw places at (take-length left))
      ∙ take_is-list_of left 0 most_tasks (le_of_eq (sym places))
      ∙ list_of-same _ f most_tasks (λ i l. same i)

-- the place of one task, counted from 1, changes
module _ (left : List ℕ) (places : length left ≡ most_tasks) (i : ℕ) (within : suc i ≤ most_tasks) where
  changed : (v : ℕ) (f : ℕ → ℕ) → v ≡ f i → ((k : ℕ) → (suc k ≡ suc i → ⊥) → get_or left k 0 ≡ f k) → set left i v ≡ list_of f most_tasks
  changed v f here elsewhere = unchanged (set left i v) (length-set left i v ∙ places) f (λ k. go k (same_or_other k))
    where
      same_or_other : (k : ℕ) → (k ≡ i) ⊎ (k ≡ i → ⊥)
      same_or_other k = go₂ (ℕ_discrete k i)
        where
          go₂ : Dec (k ≡ i) → (k ≡ i) ⊎ (k ≡ i → ⊥)
          go₂ (yes e) = inl e
          go₂ (no n) = inr n

      go : (k : ℕ) → (k ≡ i) ⊎ (k ≡ i → ⊥) → get_or (set left i v) k 0 ≡ f k
      go k (inl e) = rw e (get_or-set_same left i v 0 (omega arith) ∙ here)
      go k (inr other) = get_or-set_other left i k v 0 other ∙ elsewhere k (λ e. other (omega arith))

  pub run_placed : set left i (get_or left i 0 - 1) ≡ list_of (λ k. after_run (suc i) k (get_or left k 0)) most_tasks
  run_placed =
      let one_less : get_or left i 0 - 1 ≡ pred (get_or left i 0) = omega arith in
      changed (get_or left i 0 - 1) (λ k. after_run (suc i) k (get_or left k 0)) (one_less ∙ sym (after_run-self i (get_or left i 0)))
      (λ k other. sym (after_run-other (suc i) k (get_or left k 0) other))

module _ (left : List ℕ) (places : length left ≡ most_tasks) where
  pub none_runs : left ≡ list_of (λ i. after_run 0 i (get_or left i 0)) most_tasks
  none_runs = unchanged left places (λ i. after_run 0 i (get_or left i 0)) (λ i. sym (after_run-other 0 i (get_or left i 0) (λ e. omega arith)))

  -- with the number that the code has
  pub task_ran : (task : ℕ) → 0 < task → task ≤ most_tasks →
      set left (task - 1) (get_or left (task - 1) 0 - 1) ≡ list_of (λ k. after_run task k (get_or left k 0)) most_tasks
  task_ran task above within =
      let number : suc (task - 1) ≡ task = omega arith in rw number at (run_placed left places (task - 1) (omega arith))
