use Rattle.std.specs.Prelude.{Err}
use Rattle.std.proofs.Common.{◌≡◌, rules}
use mathlib.Core.Path.{sym, ◌∙◌}
use native.Mathlib.Omega.{arith}
use Rattle.checks.specs.CheckLaws.{check_accepts}
use Rattle.sleep.specs.HeldSleeps.{held_cores}
use Rattle.sleep.specs.OutcomeLaws.{switching_is_refused, short_energies_are_refused, short_sleeps_are_refused, table_is_refused, lists_are_written}
use Rattle.tables.specs.Periods.{valid_is_periodic}
use Rattle.sleep.proofs.reckoning.sleep_read.Goals as goal

pub returns-in_err-passes : goal.returns-in_err-passes
returns-in_err-passes c =
    let e : c.from_residual.result ≡ Err c.in_err-passes.field-0.0 = search rules in
    rw e (switching_is_refused _ _ _ _ _ _ _ (sym c.in_err-passes.ensures))

pub returns-then-energies-cores : goal.returns-then-energies-cores
returns-then-energies-cores c =
    short_energies_are_refused _ _ _ _ _ _ _ (sym c.in_ok-passes.ensures) _ (held_cores _) c.if-energies-cores.true

pub returns-then-sleeps-cores : goal.returns-then-sleeps-cores
returns-then-sleeps-cores c =
    short_sleeps_are_refused _ _ _ _ _ _ _ (sym c.in_ok-passes.ensures) _ (held_cores _) (omega (arith, c.if-energies-cores.false))
    c.if-sleeps-cores.true

pub returns-in_err-table_passes : goal.returns-in_err-table_passes
returns-in_err-table_passes c =
    let e : c.from_residual-in_err-table_passes.result ≡ Err c.in_err-table_passes.field-0.0 = search rules in
    rw e
    (table_is_refused _ _ _ _ _ _ _ (sym c.in_ok-passes.ensures)
    (omega (arith, held_cores c.args.inst, c.if-energies-cores.false)) (omega (arith, held_cores c.args.inst, c.if-sleeps-cores.false))
    (sym c.in_err-table_passes.ensures))

pub fill_slept-requires : goal.fill_slept-requires
fill_slept-requires c =
    let s = c.requires in
    record {
      sound = s;
      table_len = ((check_accepts _ (valid_is_periodic s.valid) _ _).0 (sym c.in_ok-table_passes.ensures)).1.table_length;
      inst_in_bounds = omega (arith, held_cores c.args.inst, c.if-energies-cores.false);
      inst_in_bounds_2 = omega (arith, held_cores c.args.inst, c.if-sleeps-cores.false);
    }

pub returns : goal.returns
returns c =
    let given =
    lists_are_written _ _ _ _ _ _ _ (sym c.in_ok-passes.ensures)
    (omega (arith, held_cores c.args.inst, c.if-energies-cores.false)) (omega (arith, held_cores c.args.inst, c.if-sleeps-cores.false))
    (sym c.in_ok-table_passes.ensures) in
    record {
      same_answer = given.same_answer;
      same_energies = c.fill_slept.ensures.energies_after ∙ given.same_energies;
      same_sleeps = c.fill_slept.ensures.sleeps_after ∙ given.same_sleeps;
    }
