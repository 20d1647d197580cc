-- Code that takes the whole site file: what its sections say together.
use Rattle.std.specs.Prelude.{ℕ, ◌≤◌, ◌<◌, ◌≡◌, List, take, Ok, Err}
use Rattle.std.proofs.Math.Path.{sym, ap}
use Rattle.std.proofs.Common.{◌∙◌}
use Rattle.refusals.specs.declared.Refusal.{Refusal}
use Rattle.formats.specs.ReaderLaws.{first_refused, then_takes, takes_done, taken_is_written}
use Rattle.formats.specs.Readers.{Left, start_of, Takes, mapped}
use Rattle.formats.specs.Taking.{take_end}
use Rattle.instance.specs.DeadlinesWritten.{deadlines_written}
use Rattle.instance.specs.Node.{Problem, span, stored}
use Rattle.instance.specs.Outcomes.{instance_outcome}
use Rattle.instance.specs.PeriodEnds.{same_span}
use Rattle.instance.specs.Sections.{levels_in, TakesLevels, tasks_in, TakesTasks, TakesDeadlines}
use Rattle.instance.specs.SiteFile.{settings, levels, tasks, deadlines, site_file, problem_of, reading_of}
use Rattle.instance.specs.declared.Instance.{Instance}
use Rattle.instance.specs.declared.levels.Levels.{Levels}
use Rattle.instance.specs.declared.site.Settings.{Settings}
use Rattle.instance.specs.declared.tasks.Tasks.{Tasks}

pub refused_whole : (words : List ℕ) {r : Refusal} {after : Left} → Takes (start_of words) site_file.take (Err r) after →
    Err r ≡ instance_outcome words
unfolding instance_outcome problem_of
refused_whole words takes = ap (λ t. mapped stored (reading_of t)) (sym takes.leaves)

-- the first section that is refused
module _ {words : List ℕ} {r : Refusal} where
  pub no_settings : {after : Left} → Takes (start_of words) settings.take (Err r) after → Err r ≡ instance_outcome words
  unfolding site_file
  no_settings takes = refused_whole words {after = start_of words} (first_refused _ takes)

  module _ {s : Settings} {s_after : Left} (settings_taken : Takes (start_of words) settings.take (Ok s) s_after) where
    pub no_levels : {after : Left} → TakesLevels s_after (Err r) after → Err r ≡ instance_outcome words
    unfolding site_file
    no_levels levels = refused_whole words {after = start_of words} (then_takes _ settings_taken (first_refused _ levels.takes))

    module _ {l : Levels} {l_after : Left} (levels_taken : TakesLevels s_after (Ok l) l_after) where
      pub no_tasks : {after : Left} → TakesTasks l_after (Err r) after → Err r ≡ instance_outcome words
      unfolding site_file
      no_tasks tasks =
          refused_whole words {after = start_of words} (then_takes _ settings_taken (then_takes _ levels_taken.takes (first_refused _ tasks.takes)))

      module _ {t : Tasks} {t_after : Left} (tasks_taken : TakesTasks l_after (Ok t) t_after) where
        pub no_deadlines : {d : Tasks} {after : Left} → TakesDeadlines t_after t (Err r) after d → Err r ≡ instance_outcome words
        unfolding site_file
        no_deadlines dates =
            refused_whole words {after = start_of words}
            (then_takes _ settings_taken (then_takes _ levels_taken.takes (then_takes _ tasks_taken.takes (first_refused _ dates.takes))))

        pub words_left : {d : Tasks} {d_after end : Left} → TakesDeadlines t_after t (Ok tt) d_after d → Takes d_after take_end (Err r) end →
            Err r ≡ instance_outcome words
        unfolding site_file
        words_left dates over =
            refused_whole words {after = start_of words}
            (then_takes _ settings_taken
            (then_takes _ levels_taken.takes (then_takes _ tasks_taken.takes (then_takes _ dates.takes (first_refused _ over)))))

-- all sections
module _ {words : List ℕ} {s : Settings} {l : Levels} {t d : Tasks} {s_after l_after t_after d_after end : Left}
    (settings_taken : Takes (start_of words) settings.take (Ok s) s_after) (levels_taken : TakesLevels s_after (Ok l) l_after)
    (tasks_taken : TakesTasks l_after (Ok t) t_after) (dates : TakesDeadlines t_after t (Ok tt) d_after d) (over : Takes d_after take_end (Ok tt) end) where
  abbrev read : Problem
  read = record { weights = s.weights; cores = s.cores; idle = s.idle; start = s.start; levels = levels_in l; tasks = tasks_in d }

  site_taken : Takes (start_of words) site_file.take (Ok read) end
  unfolding site_file
  site_taken =
      then_takes _ settings_taken
      (then_takes _ levels_taken.takes
      (then_takes _ tasks_taken.takes (then_takes _ dates.takes (then_takes _ over (takes_done _)))))

  -- what is handed over
  abbrev held : Instance
  held =
      record {
        weights = s.weights;
        cores = s.cores;
        idle = s.idle;
        start = s.start;
        levelcount = l.count;
        levels = l.array;
        taskcount = d.count;
        tasks = d.array;
        span = d.span;
      }

  -- deadlines leave the span as it is
  span_is_read : d.span ≡ span read
  unfolding span
  span_is_read =
      let written = deadlines_written _ (taken_is_written (deadlines (tasks_in t)) dates.takes) in
      dates.same_span ∙ tasks_taken.read.spans ∙ sym (same_span written.same 1)

  held_is_stored : held ≡ stored read
  unfolding stored
  held_is_stored = λ i.
      record {
        weights = s.weights;
        cores = s.cores;
        idle = s.idle;
        start = s.start;
        levelcount = sym levels_taken.filled.count i;
        levels = levels_taken.filled.is_padded i;
        taskcount = sym dates.filled.count i;
        tasks = dates.filled.is_padded i;
        span = span_is_read i;
      }

  pub site_is_read : Ok held ≡ instance_outcome words
  unfolding instance_outcome problem_of
  site_is_read = ap Ok held_is_stored ∙ ap (λ t. mapped stored (reading_of t)) (sym site_taken.leaves)
