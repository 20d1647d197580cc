-- Document 02 (e), "Counting stops at the first tick too many": what is promised of the count of a job, over the slots of its
-- core's row from its release to the next, of which `window` stand before its due tick. Its words are defined in `JobCounts` of
-- crate `job_counts`.
use Rattle.std.specs.Prelude.{ℕ, ◌≤◌, List, [], ◌∷◌, map, ◌↔◌, ◌≡◌, refl, length, take}
use Rattle.job_counts.proofs.JobCountLaws.{right_iff, over_iff, over_in_front_iff_read, reads_all_unless_over}
use Rattle.job_counts.specs.JobCounts.{kind_number, count_job, TooMany, HasItsTicks}
use Rattle.job_counts.specs.declared.CountKind.TheVariants.{Short, Right, Over}

pub record CountExact (slots : List ℕ) (number window ticks : ℕ) : Type 0 where
  pub numbers : map kind_number (Short ∷ Right ∷ Over ∷ []) ≡ 0 ∷ 1 ∷ 2 ∷ []
  -- right exactly when the job has its ticks in its window and no slot after it
  pub right : window ≤ length slots → ((count_job slots number window ticks).kind ≡ Right) ↔ HasItsTicks slots number window ticks
  -- over exactly when some slot is too many, "one from its due tick on included", also where the job is short in its window
  pub over : ((count_job slots number window ticks).kind ≡ Over) ↔ ((x : ℕ) × TooMany slots number window ticks x)
  -- "up to and with that one where over": the slots that were read show it, and no fewer do
  pub read_where_over : (count_job slots number window ticks).kind ≡ Over → (m : ℕ) → m ≤ length slots →
      ((count_job (take m slots) number window ticks).kind ≡ Over) ↔ ((count_job slots number window ticks).read ≤ m)
  -- "else the whole period"
  pub read_else : ((count_job slots number window ticks).kind ≡ Over → ⊥) → (count_job slots number window ticks).read ≡ length slots

pub demand_of_counting : (slots : List ℕ) (number window ticks : ℕ) → CountExact slots number window ticks
demand_of_counting slots number window ticks =
    record {
      numbers = refl;
      right = right_iff slots number window ticks;
      over = over_iff slots number window ticks;
      read_where_over = λ e m short. over_in_front_iff_read slots number window ticks m short e;
      read_else = reads_all_unless_over slots number window ticks;
    }
