-- A word between two numbers is in their range, and a penalty and a count of deadlines are what the papers say.
use Rattle.std.specs.Prelude.{ℕ, ◌≤◌, ◌≡◌, refl, Bool, true, false, ◌||◌, ◌⊎◌, ◌≢◌, leb, eqb}
use Rattle.std.proofs.Math.Bool.{or-true, or-false, and-eq-true_iff}
use Rattle.std.proofs.Common.{inl, inr, arith, leb-true, le-leb, eqb-true, eq-eqb, ne_eqb}
use Rattle.ranges.specs.Limits
use Rattle.formats.specs.Taking.{between}
use Rattle.formats.specs.WordLaws.{between_passes}
use Rattle.instance.specs.SiteFile.{is_penalty, is_deadline_count}
use Rattle.instance.specs.Valid.{InRange}

pub between_in_range : {low high w : ℕ} → between low high w ≡ true → InRange low high w
unfolding between
between_in_range {low} {high} {w} e =
    let both = (and-eq-true_iff (leb low w) (leb w high)).0 e in
    record { at_least = leb-true low w both.0; at_most = leb-true w high both.1 }

pub in_range_between : {low high w : ℕ} → InRange low high w → between low high w ≡ true
in_range_between {low} {high} {w} h = between_passes low high w h.at_least h.at_most

pub is_penalty_in_range : {w : ℕ} → is_penalty w ≡ true → InRange 1 Limits.most_penalty w ⊎ (w ≡ Limits.may_not_be_refused)
unfolding is_penalty
is_penalty_in_range {w} = go (between 1 Limits.most_penalty w) refl
  where
    go : (b : Bool) → between 1 Limits.most_penalty w ≡ b → (b || eqb w Limits.may_not_be_refused) ≡ true →
        InRange 1 Limits.most_penalty w ⊎ (w ≡ Limits.may_not_be_refused)
    go true b e = inl (between_in_range b)
    go false b e = inr (eqb-true w Limits.may_not_be_refused e)

pub in_range_is_penalty : {w : ℕ} → InRange 1 Limits.most_penalty w ⊎ (w ≡ Limits.may_not_be_refused) → is_penalty w ≡ true
unfolding is_penalty
in_range_is_penalty {w} (inl h) = rw (in_range_between h)
in_range_is_penalty {w} (inr e) = rw (eq-eqb w Limits.may_not_be_refused e, or-true)

-- every penalty is a word from 1 to that of a task that may not be refused
pub penalty_in_range : {w : ℕ} → is_penalty w ≡ true → InRange 1 Limits.may_not_be_refused w
penalty_in_range {w} is = go (is_penalty_in_range is)
  where
    go : InRange 1 Limits.most_penalty w ⊎ (w ≡ Limits.may_not_be_refused) → InRange 1 Limits.may_not_be_refused w
    go (inl h) = omega arith
    go (inr e) = omega arith

pub other_is_penalty : (w : ℕ) → 1 ≤ w → w ≢ Limits.may_not_be_refused → leb w Limits.most_penalty ≡ is_penalty w
unfolding is_penalty between
other_is_penalty w above other = rw (le-leb 1 w above, ne_eqb w Limits.may_not_be_refused other, or-false)

pub deadline_count_says : {n count : ℕ} → is_deadline_count n count ≡ true → (count ≡ 0) ⊎ (count ≡ n)
unfolding is_deadline_count
deadline_count_says {n} {count} = go (eqb count 0) refl
  where
    go : (b : Bool) → eqb count 0 ≡ b → (b || eqb count n) ≡ true → (count ≡ 0) ⊎ (count ≡ n)
    go true b e = inl (eqb-true count 0 b)
    go false b e = inr (eqb-true count n e)

pub deadline_count_in_range : {n count : ℕ} → is_deadline_count n count ≡ true → InRange 0 n count
deadline_count_in_range {n} {count} is = go (deadline_count_says is)
  where
    go : (count ≡ 0) ⊎ (count ≡ n) → InRange 0 n count
    go (inl none) = omega arith
    go (inr all) = omega arith

pub task_count_is_deadline_count : (n : ℕ) → is_deadline_count n n ≡ true
unfolding is_deadline_count
task_count_is_deadline_count n = rw (eq-eqb n n refl, or-true)
