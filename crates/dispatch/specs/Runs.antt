-- A run: ticks one after another in which the same task runs, or none. A row may be worked out run by run, for a run is so
-- many ticks of the definition.
use Prim.Native.Nat.{ℕ, zero, suc, pred, ◌+◌, ◌-◌, ◌%◌, ◌≤◌, ◌<◌}
use Rattle.std.specs.Prelude.{Bool, true, false, cond, ◌≡◌, refl, eqb}
use Rattle.std.proofs.Math.Path.{sym}
use Rattle.std.proofs.Common.{ap₂, ◌∙◌, add-zero, arith, eq-eqb, ne_eqb}
use Rattle.std.proofs.Math.Nat.{add-suc}
use Rattle.laws.specs.DivisionLaws.{suc_div_of_other}
use Rattle.dispatch.specs.DispatchLaws.{left_at, ready_at, slot_is_choice, left_after_run}
use Rattle.dispatch.specs.DispatchLaws.{after_release-between, after_run-self, after_run-other, after_run-le}
use Rattle.dispatch.specs.Earliest.{Choice, choice_unique, chosen_le_size}
use Rattle.dispatch.specs.Rows.{CoreTasks, due_at, after_run, slot_of}

-- for r ticks from t on no job is released but in tick t, and the task that runs in tick t has ticks left for all of them
pub record Uninterrupted (core : CoreTasks) (t r : ℕ) : Type 0 where
  pub period_above_0 : (i : ℕ) → i < core.size → 0 < core.period i
  pub no_release : (i u : ℕ) → i < core.size → t < u → u < t + r → u % core.period i ≡ 0 → ⊥
  pub enough_left : (k : ℕ) → slot_of core t ≡ suc k → r ≤ ready_at core t k

-- the ticks left of task i after r ticks in which task `number` ran
unfoldable pub after_ticks : (number r i left : ℕ) → ℕ
after_ticks number r i left = cond (eqb (suc i) number) (left - r) left

after_ticks-self : (i r left : ℕ) → after_ticks (suc i) r i left ≡ left - r
unfolding after_ticks
after_ticks-self i r left = rw (eq-eqb (suc i) (suc i) refl)

pub after_ticks-other : (number r i left : ℕ) → (suc i ≡ number → ⊥) → after_ticks number r i left ≡ left
unfolding after_ticks
after_ticks-other number r i left n = rw (ne_eqb (suc i) number n)

no_ticks : (number i left : ℕ) → left ≡ after_ticks number 0 i left
unfolding after_ticks
no_ticks number i left = go (eqb (suc i) number)
  where
    go : (b : Bool) → left ≡ cond b (left - 0) left
    go true = omega arith
    go false = refl

one_tick_more : (number r i left : ℕ) → after_run number i (after_ticks number r i left) ≡ after_ticks number (suc r) i left
unfolding after_ticks after_run
one_tick_more number r i left = go (eqb (suc i) number)
  where
    go : (b : Bool) → cond b (pred (cond b (left - r) left)) (cond b (left - r) left) ≡ cond b (left - suc r) left
    go true = let one_less : pred (left - r) ≡ left - suc r = omega arith in one_less
    go false = refl

-- who runs stays the choice while the due ticks stay, if there are ticks left for one more
choice_after_run : {due left due₂ left₂ : ℕ → ℕ} {n number : ℕ} → ((i : ℕ) → i < n → due₂ i ≡ due i) →
    ((i : ℕ) → i < n → left₂ i ≡ after_run number i (left i)) → ((k : ℕ) → number ≡ suc k → 1 < left k) →
    Choice due left n number → Choice due₂ left₂ n number
choice_after_run same ran more (Choice.idle all) =
    Choice.idle (λ i l. ran i l ∙ after_run-other 0 i _ (λ e. omega arith) ∙ all i l)
choice_after_run {left = left} {n = n} same ran more (Choice.runs k l has first lower) =
    Choice.runs
    k
    l
    (omega (arith, ran k l, after_run-self k (left k), more k refl))
    (λ i m some. omega (arith, same k l, same i m, first i m (omega (arith, ran i m, after_run-le (suc k) i (left i)))))
    (λ i m some.
    let below : i < n = omega arith in
    omega (arith, same k l, same i below, lower i m (omega (arith, ran i below, after_run-le (suc k) i (left i)))))

-- a tick with no release after tick t
module _ (core : CoreTasks) (t : ℕ) (above : (i : ℕ) → i < core.size → 0 < core.period i)
    (between : (i : ℕ) → i < core.size → suc t % core.period i ≡ 0 → ⊥) where
  ready_next : (i : ℕ) → i < core.size → ready_at core (suc t) i ≡ after_run (slot_of core t) i (ready_at core t i)
  unfolding ready_at
  ready_next i l = after_release-between core (suc t) i (left_at core (suc t) i) (between i l) ∙ left_after_run core t i l

  due_next : (i : ℕ) → i < core.size → due_at core (suc t) i ≡ due_at core t i
  unfolding due_at
  due_next i l = rw (suc_div_of_other t (core.period i) (above i l) (between i l))

  slot_next : ((k : ℕ) → slot_of core t ≡ suc k → 1 < ready_at core t k) → slot_of core (suc t) ≡ slot_of core t
  slot_next more = choice_unique (slot_is_choice core (suc t)) (choice_after_run due_next ready_next more (slot_is_choice core t))

module _ (core : CoreTasks) (t r : ℕ) (run : Uninterrupted core t r) where
  -- where dispatching stands x ticks after t
  record InRun (x : ℕ) : Type 0 where
    same_slot : slot_of core (t + x) ≡ slot_of core t
    ready : (i : ℕ) → i < core.size → ready_at core (t + x) i ≡ after_ticks (slot_of core t) x i (ready_at core t i)

  left_after : (x : ℕ) → InRun x → (i : ℕ) → i < core.size →
      left_at core (suc (t + x)) i ≡ after_ticks (slot_of core t) (suc x) i (ready_at core t i)
  left_after x so_far i l =
      left_after_run core (t + x) i l
      ∙ ap₂ (λ (slot left : ℕ). after_run slot i left) so_far.same_slot (so_far.ready i l)
      ∙ one_tick_more (slot_of core t) x i (ready_at core t i)

  one_more : (x : ℕ) → suc x < r → InRun x → InRun (suc x)
  unfolding ready_at
  one_more x l so_far =
      let between : (i : ℕ) → i < core.size → suc (t + x) % core.period i ≡ 0 → ⊥ =
      λ i m. run.no_release i (suc (t + x)) m (omega arith) (omega arith) in
      let more : (k : ℕ) → slot_of core (t + x) ≡ suc k → 1 < ready_at core (t + x) k =
      λ k e.
      let runs : slot_of core t ≡ suc k = sym so_far.same_slot ∙ e in
      let its_left : ready_at core (t + x) k ≡ after_ticks (suc k) x k (ready_at core t k) =
      rw runs at (so_far.ready k (omega (arith, chosen_le_size (slot_is_choice core t)))) in
      omega (arith, its_left, after_ticks-self k x (ready_at core t k), run.enough_left k runs) in
      record {
        same_slot = rw add-suc (slot_next core (t + x) run.period_above_0 between more ∙ so_far.same_slot);
        ready = λ i m.
            rw add-suc (after_release-between core (suc (t + x)) i (left_at core (suc (t + x)) i) (between i m) ∙ left_after x so_far i m);
      }

  in_run : (x : ℕ) → x < r → InRun x
  in_run zero l = record { same_slot = rw add-zero; ready = λ i m. rw add-zero (no_ticks (slot_of core t) i (ready_at core t i)) }
  in_run (suc x) l = one_more x l (in_run x (omega arith))

  pub slot_in_run : (u : ℕ) → t ≤ u → u < t + r → slot_of core u ≡ slot_of core t
  slot_in_run u from before =
      let here : t + (u - t) ≡ u = omega arith in rw here at (in_run (u - t) (omega arith)).same_slot

  pub left_after_ticks : 0 < r → (i : ℕ) → i < core.size → left_at core (t + r) i ≡ after_ticks (slot_of core t) r i (ready_at core t i)
  left_after_ticks some i l =
      let all : suc (r - 1) ≡ r = omega arith in
      let end : suc (t + (r - 1)) ≡ t + r = omega arith in
      rw (end, all) at (left_after (r - 1) (in_run (r - 1) (omega arith)) i l)
