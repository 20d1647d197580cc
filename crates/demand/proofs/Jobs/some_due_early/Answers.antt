-- No pair of the two columns passes the test, so none at an index does.
use Rattle.std.proofs.Common.{◌≡◌, ℕ, ◌<◌, ◌≤◌, Bool, true, false, List, length, MatchBool, sym, ◌∙◌, arith, rules, tests}
use Rattle.std.specs.List.{AllWithin, HoldsAt, zip}
use Rattle.std.proofs.lemmas.Bool.{false≢true}
use Rattle.std.proofs.lemmas.Iterator.{cases_from_any, YieldsList-from_slice, YieldsList-from_zip}
use Rattle.std.proofs.lemmas.Slice.Zip.{get_or-zip, length-zip}
use Rattle.demand.specs.UnmetTicks.{DueAtRelease}
use Rattle.demand.proofs.Jobs.some_due_early.Goals as goal

none_early_from_none : (r : Bool) (windows periods : List ℕ) → length windows ≡ length periods →
    MatchBool r ((k : ℕ) × (k < length (zip windows periods)) × HoldsAt (λ p. p.0 < p.1) (zip windows periods) k)
    (AllWithin (λ p. p.1 ≤ p.0) (zip windows periods) 0 (length (zip windows periods))) →
    r ≡ false → DueAtRelease periods windows (length periods)
none_early_from_none true windows periods same found answer = absurd (false≢true (sym answer))
none_early_from_none false windows periods same all_pass answer = record {
  none_early = λ i l.
      let pair = all_pass i (0, 0) (omega arith) (rw length-zip (omega arith)) in
      rw (get_or-zip windows periods i (0, 0) (omega arith) l) at pair;
}

pub returns : goal.returns
returns c =
    let tested = cases_from_any c.any.new.self _ _ (λ p. p.0 < p.1) (λ p. p.1 ≤ p.0) c.any.ensures.ran
    (YieldsList-from_zip (YieldsList-from_slice c.args.self.now.windows.now cc) (YieldsList-from_slice c.args.self.now.periods.now cc))
    (λ x q k. search (rules, tests)) (λ x q k. search (rules, tests)) in
    let columns = c.args.self.now.well_formed in
    none_early_from_none _ _ _ (columns.one_window_each ∙ sym columns.one_period_each) tested
