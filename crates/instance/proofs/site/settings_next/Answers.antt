-- `site::settings_next` meets its contract.
use Rattle.std.specs.Prelude.{Err}
use Rattle.std.proofs.Common.{◌≡◌, rules}
use Rattle.formats.specs.ReaderLaws.{first_refused, then_takes, takes_done}
use Rattle.instance.specs.SiteFile.{settings}
use Rattle.instance.proofs.site.settings_next.Goals as goal

pub returns-in_err-count : goal.returns-in_err-count
unfolding settings
returns-in_err-count c = let e : c.from_residual.result ≡ Err c.in_err-count.field-0.0 = search rules in
    rw e (first_refused _ c.in_err-count.ensures.takes)

pub returns-in_err-energy : goal.returns-in_err-energy
unfolding settings
returns-in_err-energy c = let e : c.from_residual-in_err-energy.result ≡ Err c.in_err-energy.field-0.0 = search rules in
    rw e (then_takes _ c.in_ok-count.ensures.takes
    (first_refused _ c.in_err-energy.ensures.takes))

pub returns-in_err-penalty : goal.returns-in_err-penalty
unfolding settings
returns-in_err-penalty c = let e : c.from_residual-in_err-penalty.result ≡ Err c.in_err-penalty.field-0.0 = search rules in
    rw e (then_takes _ c.in_ok-count.ensures.takes
    (then_takes _ c.in_ok-energy.ensures.takes
    (first_refused _ c.in_err-penalty.ensures.takes)))

pub returns-in_err-cores : goal.returns-in_err-cores
unfolding settings
returns-in_err-cores c = let e : c.from_residual-in_err-cores.result ≡ Err c.in_err-cores.field-0.0 = search rules in
    rw e (then_takes _ c.in_ok-count.ensures.takes
    (then_takes _ c.in_ok-energy.ensures.takes
    (then_takes _ c.in_ok-penalty.ensures.takes
    (first_refused _ c.in_err-cores.ensures.takes))))

pub returns-in_err-idle : goal.returns-in_err-idle
unfolding settings
returns-in_err-idle c = let e : c.from_residual-in_err-idle.result ≡ Err c.in_err-idle.field-0.0 = search rules in
    rw e (then_takes _ c.in_ok-count.ensures.takes
    (then_takes _ c.in_ok-energy.ensures.takes
    (then_takes _ c.in_ok-penalty.ensures.takes
    (then_takes _ c.in_ok-cores.ensures.takes
    (first_refused _ c.in_err-idle.ensures)))))

pub returns-in_err-start : goal.returns-in_err-start
unfolding settings
returns-in_err-start c = let e : c.from_residual-in_err-start.result ≡ Err c.in_err-start.field-0.0 = search rules in
    rw e (then_takes _ c.in_ok-count.ensures.takes
    (then_takes _ c.in_ok-energy.ensures.takes
    (then_takes _ c.in_ok-penalty.ensures.takes
    (then_takes _ c.in_ok-cores.ensures.takes
    (then_takes _ c.in_ok-idle.ensures
    (first_refused _ c.in_err-start.ensures))))))

pub returns : goal.returns
unfolding settings
returns c = then_takes _ c.in_ok-count.ensures.takes
    (then_takes _ c.in_ok-energy.ensures.takes
    (then_takes _ c.in_ok-penalty.ensures.takes
    (then_takes _ c.in_ok-cores.ensures.takes
    (then_takes _ c.in_ok-idle.ensures
    (then_takes _ c.in_ok-start.ensures
    (takes_done _))))))
