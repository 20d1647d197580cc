-- Reading accepts exactly the words that write valid instances, each as the instance that they write.
use Rattle.std.specs.Prelude.{ℕ, suc, ◌≡◌, refl, List, [], ◌∷◌, ◌++◌, Ok}
use Rattle.std.proofs.Common.{ap, ◌∙◌, append_assoc, arith}
use Rattle.ranges.specs.Limits
use Rattle.formats.specs.Taking.{Taken}
use Rattle.formats.specs.TimesLaws.{times_written, many_written}
use Rattle.formats.specs.Written.{Outcome, took, turned, then, nothing}
use Rattle.formats.specs.Written as Written
use Rattle.instance.specs.DeadlinesWritten.{deadlines_written, valid_deadlines}
use Rattle.instance.specs.LevelsWritten.{rising_in_range, rising_rises, levels_rise, rising_levels, valid_speeds, valid_powers}
use Rattle.instance.specs.Node.{Problem, level_count, task_count, no_level, span, span_from}
use Rattle.instance.specs.PeriodEnds.{period_ends_count, same_count, same_span, same_words}
use Rattle.instance.specs.RangeLaws.{between_in_range, in_range_between}
use Rattle.instance.specs.SettingsWritten.{SettingWritten, absent, given, setting_written, setting_at_most, settings_written}
use Rattle.instance.specs.SiteFile.{settings, level, last_after, levels, task, tasks, site_file, reading_of, problem_of}
use Rattle.instance.specs.TasksWritten.{tasks_written, valid_tasks}
use Rattle.instance.specs.Valid.{InRange, Valid, words_of_levels, words_of_tasks, WritesSettings, three, four, five, WritesDeadlines, Writes, sections}

record Read (p : Problem) (words : List ℕ) : Type 0 where
  valid : Valid p
  written : Writes p words

-- the sections one after the other
apart : (p : Problem) (front back : List ℕ) →
    front ++ level_count p ∷ words_of_levels p.levels ++ task_count p ∷ words_of_tasks p.tasks ++ back
    ≡ front ++ (level_count p ∷ (words_of_levels p.levels ++ (task_count p ∷ (words_of_tasks p.tasks ++ back))))
apart p front back =
    append_assoc (front ++ level_count p ∷ words_of_levels p.levels) (task_count p ∷ words_of_tasks p.tasks) back
    ∙ append_assoc front (level_count p ∷ words_of_levels p.levels) (task_count p ∷ words_of_tasks p.tasks ++ back)

writes_settings : {p : Problem} {count : ℕ} {idle_words start_words rest : List ℕ} → InRange Limits.settings_without_idle Limits.settings_with_start count →
    SettingWritten Limits.settings_with_idle Limits.most_idle_power p.idle start_words count idle_words →
    SettingWritten Limits.settings_with_start Limits.most_start_ticks p.start rest count start_words →
    (front : List ℕ) × WritesSettings p front × (count ∷ p.weights.energy ∷ p.weights.penalty ∷ p.cores ∷ idle_words ≡ front ++ rest)
writes_settings {p} {count} range (absent fewer none) (absent also nothing_to_start) =
    let three_words : count ≡ Limits.settings_without_idle = omega (arith, range.at_least) in
    rw three_words (_, three none nothing_to_start, refl)
writes_settings {p} {count} range (given enough most) (absent fewer nothing_to_start) =
    let four_words : count ≡ Limits.settings_with_idle = omega arith in
    rw four_words (_, four nothing_to_start, refl)
writes_settings {p} {count} range (given enough most) (given more many) =
    let five_words : count ≡ Limits.settings_with_start = omega (arith, range.at_most) in
    rw five_words (_, five, refl)
writes_settings {p} {count} range (absent fewer none) (given more many) = absurd (omega arith)

writes_sections : {p : Problem} {level_number task_number : ℕ} {words level_words task_words deadline_words : List ℕ} →
    (front : List ℕ) × WritesSettings p front × (words ≡ front ++ level_number ∷ level_words) → level_count p ≡ level_number →
    level_words ≡ words_of_levels p.levels ++ task_number ∷ task_words → task_count p ≡ task_number →
    task_words ≡ words_of_tasks p.tasks ++ deadline_words → WritesDeadlines p.tasks deadline_words →
    Writes p words
writes_sections {p} {deadline_words} (front, settings, are) level_number levels task_number tasks deadlines =
    rw (are, ← level_number, levels, ← task_number, tasks, ← apart p front deadline_words) (sections settings deadlines)

site_file_read : {p : Problem} {words : List ℕ} (rest : List ℕ) → site_file.Writes p words rest → Read p words
unfolding site_file settings levels tasks last_after span_from span
site_file_read rest
    (then
    (then (Written.word count t_passes) (then (Written.word energy e_passes) (then (Written.word penalty p_passes) (then (Written.word cores c_passes) (then idle_words (then start_words nothing))))))
    (then
    (then (Written.word level_number l_passes) some_levels)
    (then
    (then (Written.word task_number n_passes) some_tasks)
    (then some_deadlines (then Written.EndWrites.ended nothing))))) =
    let ls = times_written (λ before. level (last_after no_level before)) level_number [] some_levels in
    let ts = times_written (λ before. task (span_from 1 before)) task_number [] some_tasks in
    let rise = levels_rise ls.many in
    let spanned = tasks_written ts.many in
    let dated = rw ts.are at (deadlines_written _ some_deadlines) in
    let idle = setting_written Limits.settings_with_idle Limits.most_idle_power count idle_words in
    let start = setting_written Limits.settings_with_start Limits.most_start_ticks count start_words in
    let counts = same_count dated.same ∙ ts.count in
    rw ls.are (record {
      valid =
          record {
            energy_weight = between_in_range e_passes;
            penalty_weight = between_in_range p_passes;
            cores = between_in_range c_passes;
            idle = setting_at_most idle;
            start = setting_at_most start;
            level_count_bound = rw ls.count (between_in_range l_passes);
            level = λ l below.
                record {
                  speed = rising_in_range rise.0.speed_rises l below;
                  power = rising_in_range rise.0.power_rises l below;
                };
            speed_rises = λ l below. rising_rises rise.0.speed_rises l (suc l) (omega arith) below;
            power_rises = λ l below. rising_rises rise.0.power_rises l (suc l) (omega arith) below;
            task_count_bound = rw counts (between_in_range n_passes).at_most;
            task = dated.task spanned.task;
            span_at_most = rw (same_span dated.same 1) (spanned.span_at_most (omega arith));
          };
      written =
          writes_sections (writes_settings (between_in_range t_passes) idle start) ls.count rise.1 counts
          (rw (same_words dated.same) spanned.written)
          (dated.written spanned.due refl);
    })

site_file_writes : {p : Problem} {words : List ℕ} → Valid p → Writes p words → site_file.Writes p words []
unfolding site_file levels tasks last_after span_from span
site_file_writes {p} v (sections {settings = front} {deadlines = back} settings_words deadline_words) =
    let task_number : InRange 0 Limits.most_tasks (task_count p) = omega (arith, v.task_count_bound) in
    let ls = rising_levels [] p.levels (task_count p ∷ words_of_tasks p.tasks ++ back) (valid_speeds v) (valid_powers v) in
    let ts = many_written (λ before. task (span_from 1 before)) (valid_tasks [] p.tasks back (omega arith) v.task v.span_at_most) in
    rw (apart p front back)
    (then
    (settings_written v settings_words _)
    (then
    (then (Written.word _ (in_range_between v.level_count_bound)) (many_written (λ before. level (last_after no_level before)) ls))
    (then
    (then (Written.word _ (in_range_between task_number)) (rw (period_ends_count p.tasks) at ts))
    (then (valid_deadlines p.tasks v.task deadline_words) (then Written.EndWrites.ended nothing)))))

accepted_read : (words : List ℕ) {p : Problem} → problem_of words ≡ Ok p → Read p words
unfolding problem_of
accepted_read words {p} = go (site_file.sound 0 words)
  where
    go : {t : Taken Problem} → Outcome 4 site_file.Writes 0 words t → reading_of t ≡ Ok p → Read p words
    go (turned r number place) same = let z : ◌≡◌ {A = ℕ} 0 1 = cc in absurd (omega arith)
    go (took {a = q} {rest = rest} writes consumed) same = let q_is_p : q ≡ p = cc in rw q_is_p at (site_file_read rest writes)

pub accepted_is_valid : (words : List ℕ) {p : Problem} → problem_of words ≡ Ok p → Valid p
accepted_is_valid words e = (accepted_read words e).valid

pub accepted_is_written : (words : List ℕ) {p : Problem} → problem_of words ≡ Ok p → Writes p words
accepted_is_written words e = (accepted_read words e).written

pub valid_is_accepted : {p : Problem} {words : List ℕ} → Valid p → Writes p words → problem_of words ≡ Ok p
unfolding problem_of
valid_is_accepted v writes = ap reading_of (site_file.complete 0 (site_file_writes v writes)).1
