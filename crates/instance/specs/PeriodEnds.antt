-- The same tasks, each due when its period ends, as a tasks section has them. Whatever their deadlines, tasks are as many,
-- of the same span, and written in the same words.
use Rattle.std.specs.Prelude.{ℕ, suc, ◌≡◌, refl, List, [], ◌∷◌, length}
use Rattle.std.proofs.Common.{sym, ap, ◌∙◌, arith}
use Rattle.laws.specs.Multiples.{lcm}
use Rattle.instance.specs.Node.{span_from}
use Rattle.instance.specs.SiteFile.{due_within}
use Rattle.instance.specs.Valid.{words_of_tasks, DueAtPeriodEnd}
use Rattle.instance.specs.declared.Task.{Task}

unfoldable pub at_period_ends : List Task → List Task
at_period_ends [] = []
at_period_ends (t ∷ ts) = due_within t.period t ∷ at_period_ends ts

pub period_ends_count : (ts : List Task) → length (at_period_ends ts) ≡ length ts
unfolding at_period_ends
period_ends_count [] = refl
period_ends_count (t ∷ ts) = ap suc (period_ends_count ts)

period_ends_span : (s : ℕ) (ts : List Task) → span_from s (at_period_ends ts) ≡ span_from s ts
unfolding at_period_ends span_from
period_ends_span s [] = refl
period_ends_span s (t ∷ ts) = period_ends_span (lcm s t.period) ts

period_ends_words : (ts : List Task) → words_of_tasks (at_period_ends ts) ≡ words_of_tasks ts
unfolding at_period_ends words_of_tasks
period_ends_words [] = refl
period_ends_words (t ∷ ts) = rw (period_ends_words ts)

-- tasks that are due then already
pub due_at_period_ends : (ts : List Task) → DueAtPeriodEnd ts → at_period_ends ts ≡ ts
unfolding at_period_ends
due_at_period_ends [] due = refl
due_at_period_ends (t ∷ ts) due =
    let here : t.deadline ≡ t.period = due.each 0 (omega arith) in
    let others : DueAtPeriodEnd ts = record { each = λ i l. due.each (suc i) (omega arith) } in
    rw (due_at_period_ends ts others, ← here)

-- the tasks `due` are the tasks ts but for their deadlines
pub record OtherDeadlines (ts due : List Task) : Type 0 where
  pub but_deadlines : at_period_ends due ≡ at_period_ends ts

module _ {ts due : List Task} (same : OtherDeadlines ts due) where
  pub same_count : length due ≡ length ts
  same_count = sym (period_ends_count due) ∙ ap length same.but_deadlines ∙ period_ends_count ts

  pub same_span : (s : ℕ) → span_from s due ≡ span_from s ts
  same_span s = sym (period_ends_span s due) ∙ ap (span_from s) same.but_deadlines ∙ period_ends_span s ts

  pub same_words : words_of_tasks due ≡ words_of_tasks ts
  same_words = sym (period_ends_words due) ∙ ap words_of_tasks same.but_deadlines ∙ period_ends_words ts
