-- Document 02 (b): what is reckoned for each core of a table, and which switching words are in range.
use Rattle.std.specs.Prelude.{ℕ, cond, List, leb, Err}
use Rattle.laws.specs.Lists.{list_of}
use Rattle.ranges.specs.Limits.{most_switching_energy, most_switching_time}
use Rattle.instance.specs.Node.{Problem, span}
use Rattle.gaps.specs.Sleeping.{row_slept}
use Rattle.gaps.specs.declared.SleepCosts.{SleepCosts}
use Rattle.gaps.specs.declared.Slept.{Slept}
use Rattle.refusals.specs.Refusals.{◌and_then◌, Verdict, accepted}
use Rattle.refusals.specs.declared.Refusal.TheVariants.{SwitchingWord}
use Rattle.sleep.specs.Rows.{busy_at}

-- 11: "a switching word out of range, place 0 or 1", the energy "in that order" before the time
unfoldable pub switching_passes : (energy time : ℕ) → Verdict
switching_passes energy time =
    cond (leb energy most_switching_energy) accepted (Err (SwitchingWord 0))
    and_then cond (leb time most_switching_time) accepted (Err (SwitchingWord 1))

-- what gaps cost on a node with this idle power
abbrev pub costs_of : Problem → (energy time : ℕ) → SleepCosts
costs_of p energy time = record { idle = p.idle; energy = energy; time = time }

-- "for each awake core, the least idle energy and the number of sleeps": of core k, whose row has no gap where it is off
unfoldable pub core_slept : Problem → List ℕ → (energy time k : ℕ) → Slept
core_slept p table energy time k = row_slept (costs_of p energy time) (busy_at p table k) (span p)

unfoldable pub least_energies : Problem → List ℕ → (energy time : ℕ) → List ℕ
least_energies p table energy time = list_of (λ k. (core_slept p table energy time k).energy) p.cores

unfoldable pub sleep_counts : Problem → List ℕ → (energy time : ℕ) → List ℕ
sleep_counts p table energy time = list_of (λ k. (core_slept p table energy time k).sleeps) p.cores
