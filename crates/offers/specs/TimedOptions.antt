-- When the jobs of each task are due, as the search is told it: word w of task i has place i × 10 + w.
use Rattle.std.specs.Prelude.{ℕ, zero, suc, ◌+◌, ◌-◌, ◌*◌, ◌≤◌, ◌<◌, List, ◌⊎◌, ◌≡◌, refl, length, get_or, set}
use Rattle.std.proofs.Common.{inl, inr, ⊎_elim, ap, ◌∙◌, arith, length-set, get_or-set_same, get_or-set_other}
use Rattle.laws.specs.Below.{lt_or_le}
use Rattle.ranges.specs.Limits.{most_levels, most_tasks}
use Rattle.instance.specs.Held.{Sound, problem_in, held_level}
use Rattle.instance.specs.Node.{Problem, level_at, level_count, no_level, task_at}
use Rattle.instance.specs.declared.Instance.{Instance}
use Rattle.instance.specs.declared.Level.{Level}
use Rattle.instance.specs.declared.Task.{Task}
use Rattle.plan_rules.specs.Quantities.{ticks}
use Rattle.plan_rules.specs.Windows.{window}
use Rattle.lagrangian.specs.TimedCores.{timing_width}

-- the period, the window, and the ticks of a job at each level
unfoldable pub word_of : Problem → Task → ℕ → ℕ
word_of p t zero = t.period
word_of p t (suc zero) = window t
word_of p t (suc (suc l)) = ticks p.start t.cycles (level_at p l).speed

-- word by word

pub word_0 : (p : Problem) (t : Task) {w : ℕ} → w ≡ 0 → t.period ≡ word_of p t w
unfolding word_of
word_0 p t is = rw is refl

pub word_1 : (p : Problem) (t : Task) {w : ℕ} → w ≡ 1 → window t ≡ word_of p t w
unfolding word_of
word_1 p t is = rw is refl

pub word_of_level : (inst : Instance) (sound : Sound inst) (t : Task) (w : ℕ) → 2 ≤ w → w < level_count (problem_in inst) + 2 → {l : ℕ} → l ≡ w - 2 →
    ticks inst.start t.cycles (get_or inst.levels l no_level).speed ≡ word_of (problem_in inst) t w
unfolding word_of problem_in
word_of_level inst sound t zero two below is = absurd (omega arith)
word_of_level inst sound t (suc zero) two below is = absurd (omega arith)
word_of_level inst sound t (suc (suc n)) two below {l} is =
    let same : l ≡ n = omega arith in
    rw same (ap (λ (v : Level). ticks inst.start t.cycles v.speed) (held_level inst sound n (omega arith)))

-- the words whose places are below `end`
pub record TimingsOffered (p : Problem) (end : ℕ) (timings : List ℕ) : Type 0 where
  pub long : length timings ≡ most_tasks * timing_width
  pub word : (i w : ℕ) → w < level_count p + 2 → i * timing_width + w < end → get_or timings (i * timing_width + w) 0 ≡ word_of p (task_at p i) w

pub no_timing_offered : (p : Problem) (timings : List ℕ) → length timings ≡ most_tasks * timing_width → TimingsOffered p 0 timings
no_timing_offered p timings long = record { long = long; word = λ i w h none. absurd (omega arith) }

module _ (p : Problem) (levels : level_count p ≤ most_levels) (i : ℕ) (timings : List ℕ) where
  module _ (w x : ℕ) (within : i < most_tasks) (below : w < level_count p + 2) (before : TimingsOffered p (i * timing_width + w) timings)
      (is : x ≡ word_of p (task_at p i) w) where
    word_after : (j v : ℕ) → v < level_count p + 2 → (j * timing_width + v < i * timing_width + w) ⊎ (i * timing_width + w ≤ j * timing_width + v) →
        j * timing_width + v < i * timing_width + (w + 1) → get_or (set timings (i * timing_width + w) x) (j * timing_width + v) 0 ≡ word_of p (task_at p j) v
    word_after j v h (inl earlier) k =
        get_or-set_other timings (i * timing_width + w) (j * timing_width + v) x 0 (λ e. omega arith) ∙ before.word j v h earlier
    word_after j v h (inr later) k =
        let task : j ≡ i = omega arith in
        let same : v ≡ w = omega arith in
        rw (task, same) (get_or-set_same timings (i * timing_width + w) x 0 (omega (arith, before.long)) ∙ is)

    -- one word more of task i
    pub word_offered : TimingsOffered p (i * timing_width + (w + 1)) (set timings (i * timing_width + w) x)
    word_offered =
        record {
          long = length-set timings (i * timing_width + w) x ∙ before.long;
          word = λ j v h. word_after j v h (lt_or_le _ _);
        }

  -- every word of task i
  pub timing_offered : TimingsOffered p (i * timing_width + (level_count p + 2)) timings → TimingsOffered p (i * timing_width + timing_width) timings
  timing_offered all =
      record {
        long = all.long;
        word = λ j w h k. all.word j w h (⊎_elim (λ earlier. omega arith) (λ later. omega arith) (lt_or_le j i));
      }

pub next_place : (i : ℕ) → (i + 1) * timing_width ≡ i * timing_width + timing_width
next_place i = omega arith
