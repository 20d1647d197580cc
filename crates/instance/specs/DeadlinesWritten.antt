-- The deadlines: what is taken changes deadlines only, is valid, and written so; and what is so is taken.
use Rattle.std.specs.Prelude.{ℕ, suc, Bool, true, false, cond, ◌⊎◌, ◌≢◌, ◌≡◌, refl, List, [], ◌∷◌, ◌++◌, eqb, length}
use Rattle.std.proofs.Common.{inl, inr, sym, ap, ◌∙◌, append-nil, arith, eqb-true, ne_eqb}
use Rattle.std.proofs.lemmas.Bool.{eqb-false}
use Rattle.formats.specs.Formats.{done}
use Rattle.formats.specs.Written.{then, nothing, goes_on}
use Rattle.formats.specs.Written as Written
use Rattle.instance.specs.PeriodEnds.{at_period_ends, period_ends_count, due_at_period_ends, OtherDeadlines, same_count}
use Rattle.instance.specs.RangeLaws.{between_in_range, in_range_between, deadline_count_says, task_count_is_deadline_count}
use Rattle.instance.specs.SiteFile.{SiteFormat, due_within, with_deadline, with_deadlines, is_deadline_count, deadline_section, deadlines}
use Rattle.instance.specs.TasksWritten.{EachValid, each_more}
use Rattle.instance.specs.Valid.{words_of_deadlines, DueAtPeriodEnd, WritesDeadlines, ended, counted_0, each_task}
use Rattle.instance.specs.declared.Task.{Task}

record EachDeadline (ts due : List Task) (words rest : List ℕ) : Type 0 where
  same : OtherDeadlines ts due
  task : EachValid ts → EachValid due
  written : words ≡ words_of_deadlines due ++ rest

each_deadline : (ts : List Task) {due : List Task} {words rest : List ℕ} → (with_deadlines ts).Writes due words rest →
    EachDeadline ts due words rest
unfolding with_deadlines with_deadline words_of_deadlines at_period_ends
each_deadline [] nothing = record { same = record { but_deadlines = refl }; task = λ each. each; written = refl }
each_deadline (t ∷ ts) (then (then (Written.word d passes) nothing) (then {a = us} more nothing)) =
    let others = each_deadline ts more in
    record {
      same = record { but_deadlines = ap (λ (vs : List Task). due_within t.period t ∷ vs) others.same.but_deadlines };
      task = λ each.
          let valid = each 0 (omega arith) in
          each_more (due_within d t) us
          (record { period = valid.period; cycles = valid.cycles; penalty = valid.penalty; deadline = between_in_range passes })
          (others.task (λ i l. each (suc i) (omega arith)));
      written = rw others.written;
    }

-- what is read after the tasks ts, in the words up to `rest`
pub record DeadlinesWritten (ts due : List Task) (words rest : List ℕ) : Type 0 where
  pub same : OtherDeadlines ts due
  pub task : EachValid ts → EachValid due
  pub written : DueAtPeriodEnd ts → rest ≡ [] → WritesDeadlines due words

section_written : (ts : List Task) {due : List Task} (count : ℕ) {words rest : List ℕ} → is_deadline_count (length ts) count ≡ true →
    (cond (eqb count 0) (done ts) (with_deadlines ts)).Writes due words rest → DeadlinesWritten ts due (count ∷ words) rest
section_written ts count is = go (eqb count 0) refl (deadline_count_says is)
  where
    either : Bool → SiteFormat (List Task)
    either b = cond b (done ts) (with_deadlines ts)

    go : (b : Bool) {due : List Task} {words rest : List ℕ} → eqb count 0 ≡ b → (count ≡ 0) ⊎ (count ≡ length ts) →
        (either b).Writes due words rest → DeadlinesWritten ts due (count ∷ words) rest
    go true is_0 says nothing =
        record {
          same = record { but_deadlines = refl };
          task = λ each. each;
          written = λ due none. rw (eqb-true count 0 is_0, none) (counted_0 due);
        }
    go false not_0 (inl none) more = absurd (eqb-false count 0 not_0 none)
    go false {due} not_0 (inr all) more =
        let each = each_deadline ts more in
        let counts : count ≡ length due = all ∙ sym (same_count each.same) in
        record {
          same = each.same;
          task = each.task;
          written = λ at_end none. rw (counts, each.written, none, append-nil (words_of_deadlines due)) each_task;
        }

pub deadlines_written : (ts : List Task) {due : List Task} {words rest : List ℕ} → (deadlines ts).Writes due words rest →
    DeadlinesWritten ts due words rest
unfolding deadlines deadline_section
deadlines_written ts Written.UnlessEndedWrites.ended =
    record { same = record { but_deadlines = refl }; task = λ each. each; written = λ due none. ended due }
deadlines_written ts (goes_on w (then (Written.word count passes) more)) = section_written ts count passes more

each_written : (ts : List Task) (rest : List ℕ) → EachValid ts →
    (with_deadlines (at_period_ends ts)).Writes ts (words_of_deadlines ts ++ rest) rest
unfolding with_deadlines with_deadline words_of_deadlines at_period_ends
each_written [] rest each = nothing
each_written (t ∷ ts) rest each =
    then (then (Written.word t.deadline (in_range_between (each 0 (omega arith)).deadline)) nothing)
    (then (each_written ts rest (λ i l. each (suc i) (omega arith))) nothing)

pub valid_deadlines : (ts : List Task) {words : List ℕ} → EachValid ts → WritesDeadlines ts words →
    (deadlines (at_period_ends ts)).Writes ts words []
unfolding deadlines deadline_section is_deadline_count at_period_ends words_of_deadlines
valid_deadlines ts each (ended due) = rw (due_at_period_ends ts due) Written.UnlessEndedWrites.ended
valid_deadlines ts each (counted_0 due) = rw (due_at_period_ends ts due) (goes_on 0 (then (Written.word 0 refl) nothing))
valid_deadlines [] each each_task = goes_on 0 (then (Written.word 0 refl) nothing)
valid_deadlines (t ∷ ts) each each_task =
    let count = length (t ∷ ts) in
    let some : count ≢ 0 = λ none. omega (arith, none) in
    let passes : is_deadline_count (length (at_period_ends (t ∷ ts))) count ≡ true =
    rw (period_ends_count (t ∷ ts)) (task_count_is_deadline_count count) in
    let written = rw append-nil at (each_written (t ∷ ts) [] each) in
    goes_on count
    (then {b = t ∷ ts} {middle = words_of_deadlines (t ∷ ts)} {rest = []} (Written.word count passes) (rw (ne_eqb count 0 some) written))
