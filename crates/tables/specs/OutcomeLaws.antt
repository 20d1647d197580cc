-- The outcome of tabling, case by case; and of a plan that passes, for an instance that was read.
use Rattle.std.specs.Prelude.{ℕ, ◌<◌, ◌≤◌, List, ◌≡◌, refl, length, Ok, Err}
use Rattle.std.proofs.Math.Path.{ap}
use Rattle.std.proofs.Common.{◌∙◌}
use borrow.Author.Tests.{le-leb, lt-leb}
use Rattle.laws.specs.Lists.{onto}
use Rattle.instance.specs.Node.{Problem}
use Rattle.refusals.specs.Refusals.{room, Verdict, accepted}
use Rattle.refusals.specs.declared.Refusal.{Refusal}
use Rattle.refusals.specs.declared.Refusal.TheVariants.{ShortBuffer}
use Rattle.tables.specs.Outcomes.{TableOutcome, table_outcome_of, table_outcome, table_where}
use Rattle.plan_rules.specs.Plans.{plan_passes}
use Rattle.tables.specs.Tables.{table_of, table_size}
use Rattle.refusals.specs.RoomLaws.{enough_room}
use Rattle.instance.specs.SiteFile.{problem_of}
use Rattle.refusals.specs.VerdictLaws.{and_then-accepts}

-- the answer and the buffer that make an outcome
pub record Gives (answer : Verdict) (table : List ℕ) (outcome : TableOutcome) : Type 0 where
  pub same_answer : answer ≡ outcome.answer
  pub same_table : table ≡ outcome.table

gives_itself : {answer : Verdict} {table : List ℕ} → Gives answer table (record { answer = answer; table = table })
gives_itself = record { same_answer = refl; same_table = refl }

module _ (p : Problem) (plan buffer : List ℕ) where
  pub short_buffer_is_refused : (n : ℕ) → n ≡ table_size p → length buffer < n →
      Gives (Err (ShortBuffer n)) buffer (table_outcome_of (Ok p) plan buffer)
  unfolding room
  short_buffer_is_refused n size short = rw (← size, lt-leb n (length buffer) short) gives_itself

  pub plan_is_refused : {r : Refusal} → table_size p ≤ length buffer → plan_passes p plan ≡ Err r →
      Gives (Err r) buffer (table_outcome_of (Ok p) plan buffer)
  unfolding room
  plan_is_refused fits e = rw (le-leb (table_size p) (length buffer) fits, e) gives_itself

  pub table_is_written : table_size p ≤ length buffer → plan_passes p plan ≡ accepted →
      Gives accepted (onto (table_of p plan) buffer) (table_outcome_of (Ok p) plan buffer)
  unfolding room
  table_is_written fits e = rw (le-leb (table_size p) (length buffer) fits, e) gives_itself

module _ (words : List ℕ) (p : Problem) (read : problem_of words ≡ Ok p) where
  pub passing_plan_is_tabled : (plan buffer : List ℕ) → plan_passes p plan ≡ accepted → table_size p ≤ length buffer →
      table_outcome words plan buffer ≡ record { answer = accepted; table = onto (table_of p plan) buffer }
  unfolding table_outcome
  passing_plan_is_tabled plan buffer passes enough =
      let passes_all = (and_then-accepts (room (table_size p) buffer) (plan_passes p plan)).1 (enough_room (table_size p) buffer enough, passes) in
      ap (λ r. table_outcome_of r plan buffer) read ∙ ap (λ v. table_where v (table_of p plan) buffer) passes_all
