-- Every pair of the two lists passes the test, or one doesn't.
use Rattle.std.proofs.Common.{◌≡◌, ℕ, ◌<◌, ◌≤◌, Bool, true, false, List, length, MatchBool, sym, arith, rules, tests}
use Rattle.std.specs.List.{AllWithin, HoldsAt, zip}
use Rattle.std.proofs.Math.ListN.{get_or}
use Rattle.std.proofs.Math.Dec.{leb}
use Rattle.std.proofs.lemmas.Iterator.{cases_from_all, YieldsList-from_slice, YieldsList-from_zip}
use Rattle.std.proofs.lemmas.Slice.Zip.{get_or-zip, length-zip}
use borrow.Author.Tests.{le-leb, leb-true, lt-leb}
use Rattle.laws.specs.Search.{every}
use Rattle.laws.specs.SearchFacts.{every_iff}
use Rattle.ranges.specs.Limits.{most_tasks}
use Rattle.dispatcher.specs.TestLaws.{one_fails}
use Rattle.dispatcher.proofs.columns.left_within.Goals as goal

module _ (left most : List ℕ) (places : length left ≡ most_tasks) (same : length most ≡ most_tasks) where
  its_pair : (P : ℕ × ℕ → Type 0) (i : ℕ) → i < most_tasks → P (get_or (zip left most) i (0, 0)) → P (get_or left i 0, get_or most i 0)
  its_pair P i l p = rw (get_or-zip left most i (0, 0) (omega (arith, places)) (omega (arith, same))) at p

  every_pair : (r : Bool) →
      MatchBool r (AllWithin (λ p. p.0 ≤ p.1) (zip left most) 0 (length (zip left most)))
      ((k : ℕ) × (k < length (zip left most)) × HoldsAt (λ p. p.1 < p.0) (zip left most) k) →
      r ≡ every (λ i. leb (get_or left i 0) (get_or most i 0)) most_tasks
  every_pair true pass =
      sym ((every_iff _ _).1 (λ i l.
      le-leb _ _ (its_pair (λ p. p.0 ≤ p.1) i l (pass i (0, 0) (omega arith) (rw length-zip (omega (arith, places, same)))))))
  every_pair false fails =
      let within : fails.0 < most_tasks = omega (arith, places, rw length-zip at fails.1) in
      one_fails _ _ fails.0 within (lt-leb _ _ (its_pair (λ p. p.1 < p.0) fails.0 within (fails.2 (0, 0))))

pub returns : goal.returns
returns c =
    let tested = cases_from_all c.all.new.self _ _ (λ p. p.0 ≤ p.1) (λ p. p.1 < p.0) c.all.ensures.ran
    (YieldsList-from_zip (YieldsList-from_slice c.args.left.now cc) (YieldsList-from_slice c.args.most.now cc))
    (λ x q k. (search rules, leb-true _ _ (search rules))) (λ x q k. search (rules, tests)) in
    every_pair _ _ (search rules) (search rules) _ tested
