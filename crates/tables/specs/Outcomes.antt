-- The whole outcome of tabling, for every list of words: the answer, and what the lent buffer holds afterwards; and how a
-- call ends. "Order: words are taken from the front, each tested for 2, 3, 4; then 6; then 7 (length before choices); then
-- 8."
use Rattle.std.specs.Prelude.{ℕ, List, [], ◌∷◌, Ok, Err}
use Rattle.laws.specs.Lists.{onto}
use Rattle.refusals.specs.Endings.{lent, Ends, read_then, needed_for}
use Rattle.instance.specs.Node.{Problem}
use Rattle.refusals.specs.Refusals.{Reading, room, ◌and_then◌, Verdict, accepted}
use Rattle.instance.specs.SiteFile.{problem_of}
use Rattle.plan_rules.specs.Plans.{choices_pass, cores_fit, plan_passes}
use Rattle.tables.specs.Tables.{table_of, table_size}

pub record TableOutcome : Type 0 where
  pub answer : Verdict
  pub table : List ℕ

abbrev pub table_where : Verdict → List ℕ → List ℕ → TableOutcome
table_where (Ok tt) table buffer = record { answer = accepted; table = onto table buffer }
table_where (Err r) table buffer = record { answer = Err r; table = buffer }

abbrev pub table_outcome_of : Reading Problem → List ℕ → List ℕ → TableOutcome
table_outcome_of (Err r) plan buffer = record { answer = Err r; table = buffer }
table_outcome_of (Ok p) plan buffer =
    table_where (room (table_size p) buffer and_then plan_passes p plan) (table_of p plan) buffer

unfoldable pub table_outcome : List ℕ → List ℕ → List ℕ → TableOutcome
table_outcome words plan buffer = table_outcome_of (problem_of words) plan buffer

-- "then 6; then 7 (length before choices); then 8"
abbrev pub TablingEnds : List ℕ → List ℕ → List ℕ → Verdict → List ℕ → Type 0
TablingEnds words plan buffer answer after =
    Ends
    (read_then (problem_of words) (λ p. room (table_size p) buffer and_then choices_pass p plan and_then cores_fit p plan))
    (2 ∷ 3 ∷ 4 ∷ 6 ∷ 7 ∷ 8 ∷ [])
    (lent (needed_for table_size (problem_of words)) buffer after ∷ [])
    answer
