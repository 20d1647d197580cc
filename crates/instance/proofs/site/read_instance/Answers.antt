-- `site::read_instance` meets its contract: the first section that is refused is the answer, or all of them are.
use Rattle.std.specs.Prelude.{Err}
use Rattle.std.proofs.Common.{◌≡◌, rules}
use Rattle.instance.specs.OutcomeLaws.{outcome_is_promised}
use Rattle.instance.specs.SiteLaws.{no_settings, no_levels, no_tasks, no_deadlines, words_left, site_is_read}
use Rattle.instance.proofs.site.read_instance.Goals as goal

pub returns-in_err-settings : goal.returns-in_err-settings
returns-in_err-settings c =
    let e : c.from_residual.result ≡ Err c.in_err-settings.field-0.0 = search rules in
    let all = outcome_is_promised _ _ (no_settings (rw c.new-reader.ensures at c.in_err-settings.ensures)) in
    rw e (record { value = all.0; promise = all.1 })

pub returns-in_err-levels : goal.returns-in_err-levels
returns-in_err-levels c =
    let e : c.from_residual-in_err-levels.result ≡ Err c.in_err-levels.field-0.0 = search rules in
    let all = outcome_is_promised _ _ (no_levels (rw c.new-reader.ensures at c.in_ok-settings.ensures) c.in_err-levels.ensures) in
    rw e (record { value = all.0; promise = all.1 })

pub returns-in_err-tasks : goal.returns-in_err-tasks
returns-in_err-tasks c =
    let e : c.from_residual-in_err-tasks.result ≡ Err c.in_err-tasks.field-0.0 = search rules in
    let all = outcome_is_promised _ _ (no_tasks (rw c.new-reader.ensures at c.in_ok-settings.ensures) c.in_ok-levels.ensures c.in_err-tasks.ensures) in
    rw e (record { value = all.0; promise = all.1 })

pub returns-in_err-deadlines_next : goal.returns-in_err-deadlines_next
returns-in_err-deadlines_next c =
    let e : c.from_residual-in_err-deadlines_next.result ≡ Err c.in_err-deadlines_next.field-0.0 = search rules in
    let all = outcome_is_promised _ _ (no_deadlines (rw c.new-reader.ensures at c.in_ok-settings.ensures) c.in_ok-levels.ensures c.in_ok-tasks.ensures c.in_err-deadlines_next.ensures) in
    rw e (record { value = all.0; promise = all.1 })

pub returns-in_err-end : goal.returns-in_err-end
returns-in_err-end c =
    let e : c.from_residual-in_err-end.result ≡ Err c.in_err-end.field-0.0 = search rules in
    let all = outcome_is_promised _ _ (words_left (rw c.new-reader.ensures at c.in_ok-settings.ensures) c.in_ok-levels.ensures c.in_ok-tasks.ensures c.in_ok-deadlines_next.ensures c.in_err-end.ensures) in
    rw e (record { value = all.0; promise = all.1 })

pub returns : goal.returns
returns c =
    let all = outcome_is_promised _ _ (site_is_read (rw c.new-reader.ensures at c.in_ok-settings.ensures) c.in_ok-levels.ensures c.in_ok-tasks.ensures c.in_ok-deadlines_next.ensures c.in_ok-end.ensures) in
    record { value = all.0; promise = all.1 }
