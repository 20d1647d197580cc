-- One entry of a pattern changed: what becomes of its set, its cost, its key and its demand.
use Rattle.std.specs.Prelude.{ℕ, zero, suc, ◌+◌, ◌*◌, ◌^◌, ◌≤◌, ◌<◌, Bool, List, [], ◌∷◌, ◌≢◌, ◌≡◌, refl, length, get_or, set}
use Rattle.std.proofs.Common.{le_refl, arith, length-set, get_or-set_same, get_or-set_other}
use Rattle.std.proofs.Math.Nat.{le_step}
use Rattle.laws.specs.Below.{below_suc}
use Rattle.laws.specs.Sums.{sum}
use Rattle.laws.specs.SumLaws.{sum_cong}
use Rattle.edf.specs.Demand.{demand_at, jobs_due, ticks_due}
use Rattle.assignment.specs.Keeping.{Keeps, done, refused, kept}
use Rattle.assignment.specs.Keys.{key_base, plan_key}
use Rattle.knapsack.specs.Offers.{Offer, entry_cost, pattern_cost}
use Rattle.lagrangian.specs.TimedCores.{Timing, entry_ticks, pattern_tasks, timing_in}

-- an item that runs may run at any level
pub changed_keeps : {levels : ℕ} {S : List Bool} {pattern : List ℕ} → Keeps levels S pattern → (i c : ℕ) → 0 < get_or pattern i 0 → 0 < c →
    c ≤ levels → Keeps levels S (set pattern i c)
changed_keeps done i c runs some within = absurd (omega arith)
changed_keeps (refused keeps) zero c runs some within = absurd (omega arith)
changed_keeps (refused keeps) (suc i) c runs some within = refused (changed_keeps keeps i c runs some within)
changed_keeps (kept d h keeps) zero zero runs some within = absurd (omega arith)
changed_keeps (kept d h keeps) zero (suc l) runs some within = kept l within keeps
changed_keeps (kept d h keeps) (suc i) c runs some within = kept d h (changed_keeps keeps i c runs some within)

-- k is how many items come after item i
pub changed_key : (pattern : List ℕ) (i c k : ℕ) → length pattern ≡ suc (i + k) →
    plan_key (set pattern i c) + get_or pattern i 0 * key_base ^ k ≡ plan_key pattern + c * key_base ^ k
unfolding plan_key
changed_key [] i c k long = absurd (omega arith)
changed_key (d ∷ pattern) zero c k long =
    let others : k ≡ length pattern = omega (arith, long) in
    rw others (omega arith)
changed_key (d ∷ pattern) (suc i) c k long =
    rw (length-set pattern i c) (omega (arith, changed_key pattern i c k (omega (arith, long))))

pub changed_cost : (offers : List Offer) (pattern : List ℕ) (i c : ℕ) (blank : Offer) → i < length offers → i < length pattern →
    pattern_cost offers (set pattern i c) + entry_cost (get_or offers i blank) (get_or pattern i 0)
    ≡ pattern_cost offers pattern + entry_cost (get_or offers i blank) c
unfolding pattern_cost
changed_cost [] pattern i c blank within there = absurd (omega arith)
changed_cost (offer ∷ offers) [] i c blank within there = absurd (omega arith)
changed_cost (offer ∷ offers) (d ∷ pattern) zero c blank within there = omega arith
changed_cost (offer ∷ offers) (d ∷ pattern) (suc i) c blank within there =
    omega (arith, changed_cost offers pattern i c blank (omega arith) (omega arith))

-- sums that differ in one term
sum_but_one : (f g : ℕ → ℕ) (n k : ℕ) → k < n → ((i : ℕ) → i < n → i ≢ k → f i ≡ g i) → sum f n + g k ≡ sum g n + f k
unfolding sum
sum_but_one f g zero k l same = absurd (omega arith)
sum_but_one f g (suc n) k l same =
    below_suc (λ k. ((i : ℕ) → i < suc n → i ≢ k → f i ≡ g i) → sum f (suc n) + g k ≡ sum g (suc n) + f k) n
    (λ k m same. omega (arith, sum_but_one f g n k m (λ i h. same i (le_step h)), same n (le_refl (suc n)) (λ e. omega arith)))
    (λ same. omega (arith, sum_cong f g n (λ i h. same i (le_step h) (λ e. omega arith))))
    k l same

pub changed_demand : (timings : List Timing) (pattern : List ℕ) (i c x : ℕ) → i < length timings → i < length pattern →
    demand_at (pattern_tasks timings (set pattern i c)) x + entry_ticks (timing_in timings i) (get_or pattern i 0) * jobs_due (pattern_tasks timings pattern) i x
    ≡ demand_at (pattern_tasks timings pattern) x + entry_ticks (timing_in timings i) c * jobs_due (pattern_tasks timings pattern) i x
unfolding demand_at pattern_tasks jobs_due
changed_demand timings pattern i c x within there =
    let f = ticks_due (pattern_tasks timings (set pattern i c)) x in
    let g = ticks_due (pattern_tasks timings pattern) x in
    rw (get_or-set_same pattern i c 0 there) at
    (sum_but_one f g (length timings) i within (λ k l other. rw (get_or-set_other pattern i k c 0 other) refl))
