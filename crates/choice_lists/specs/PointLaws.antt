-- Entries of a list are stored behind the others, which stay as they are.
use Rattle.std.specs.Prelude.{ℕ, suc, ◌+◌, ◌-◌, ◌≤◌, ◌<◌, ◌≡◌, List, length, drop, set}
use Rattle.std.proofs.Common.{ap, ◌∙◌, le_refl, zero-add, arith, length-drop, length-take-le, get_or-take, get_or-drop}
use Rattle.std.proofs.Math.ListN.{length-set}
use Rattle.std.proofs.Math.Seq.{get_or-set_same, get_or-set_other}
use Rattle.assignment.specs.LeastLaws.{least_below-alike}
use Rattle.choice_lists.specs.Listed.{before, nothing, part, point_at, least_listed, PointSmall, Listed}
use Rattle.choice_lists.specs.Sweep.{Older}
use Rattle.assignment.specs.Values.{Value, lesser, least_below}
use Rattle.knapsack.specs.declared.relaxing.Choice.{Choice}

-- a list is that of its entries
pub least_listed-alike : (points₀ points : List Choice) (from count : ℕ) (rest : ℕ → Value) (w : ℕ) →
    ((i : ℕ) → i < from + count → point_at points i ≡ point_at points₀ i) →
    least_listed points from count rest w ≡ least_listed points₀ from count rest w
unfolding least_listed
least_listed-alike points₀ points from count rest w same =
    least_below-alike count _ _
    (λ i below.
    rw (same (from + i) (omega arith)))

pub least_listed-more : (points : List Choice) {from to : ℕ} (rest : ℕ → Value) (w : ℕ) → from ≤ to →
    least_listed points from (suc to - from) rest w
    ≡ lesser (least_listed points from (to - from) rest w) (before (point_at points to) rest w)
unfolding least_listed least_below
least_listed-more points {from} {to} rest w ordered =
    let more : suc to - from ≡ suc (to - from) = omega arith in
    let last : from + (to - from) ≡ to = omega arith in
    rw (more, last)

-- entries that stay make the same list

pub point_older : {used : ℕ} {points₀ points : List Choice} → Older used points₀ points → (p : ℕ) → p < used →
    point_at points p ≡ point_at points₀ p
point_older older p below = older.as_before p below

pub listed_older : {capacity n places from to used : ℕ} {f : (ℕ → Value) → ℕ → Value} {points₀ points : List Choice} →
    Older used points₀ points → to ≤ used → Listed capacity n places f points₀ from to → Listed capacity n places f points from to
listed_older {capacity} {n} {places} {from} {to} {points₀ = points₀} {points} older below listed =
    record {
      ordered = listed.ordered;
      there = omega (arith, older.same_length, listed.there);
      least = λ rest falling w under.
          least_listed-alike points₀ points from (to - from) rest w
          (λ i less. older.as_before i (omega (arith, listed.ordered)))
          ∙ listed.least rest falling w under;
      small = λ p after less. rw (point_older older p (omega arith)) (listed.small p after less);
    }

-- the entries of a part

pub part_length : (points : List Choice) (from to : ℕ) → to ≤ length points → length (part points from to) ≡ to - from
part_length points from to there = length-take-le (to - from) (drop from points) (omega (arith, length-drop from points))

pub part_entry : (points : List Choice) (from to i : ℕ) → from + i < to → point_at (part points from to) i ≡ point_at points (from + i)
part_entry points from to i below =
    get_or-take (to - from) (drop from points) i nothing (omega arith) ∙ get_or-drop from points i nothing

-- what is small of every entry from `from` to `to` is small in the part
pub part_small : {capacity n places : ℕ} (points : List Choice) (from to : ℕ) → to ≤ length points →
    ((p : ℕ) → from ≤ p → p < to → PointSmall capacity n places (point_at points p)) →
    (p : ℕ) → 0 ≤ p → p < length (part points from to) → PointSmall capacity n places (point_at (part points from to) p)
part_small points from to there small p after below =
    let within : from + p < to = omega (arith, part_length points from to there) in
    rw (part_entry points from to p within) (small (from + p) (omega arith) within)

pub part_listed : (points : List Choice) (from to : ℕ) → to ≤ length points → (rest : ℕ → Value) (w : ℕ) →
    least_listed (part points from to) 0 (length (part points from to) - 0) rest w ≡ least_listed points from (to - from) rest w
unfolding least_listed
part_listed points from to there rest w =
    let all : length (part points from to) - 0 ≡ to - from = omega (arith, part_length points from to there) in
    rw all
    (least_below-alike (to - from) _ _
    (λ i below. ap (λ (point : Choice). before point rest w) (rw zero-add (part_entry points from to i (omega arith)))))

-- a list is listed as a part of its own
pub listed_part : {capacity n places from to : ℕ} {f : (ℕ → Value) → ℕ → Value} {points : List Choice} →
    Listed capacity n places f points from to →
    Listed capacity n places f (part points from to) 0 (length (part points from to))
listed_part {from = from} {to} {points = points} listed =
    record {
      ordered = omega arith;
      there = le_refl _;
      least = λ rest falling w under. part_listed points from to listed.there rest w ∙ listed.least rest falling w under;
      small = part_small points from to listed.there listed.small;
    }

-- an entry is put behind the others
pub entry_put_older : (points : List Choice) (p : ℕ) (point : Choice) → Older p points (set points p point)
entry_put_older points p point =
    record {
      same_length = length-set points p point;
      as_before = λ i below. get_or-set_other points p i point nothing (λ same. absurd (omega arith));
    }

pub entry_put : (points : List Choice) (p : ℕ) (point : Choice) → p < length points → point_at (set points p point) p ≡ point
entry_put points p point there = get_or-set_same points p point nothing there
