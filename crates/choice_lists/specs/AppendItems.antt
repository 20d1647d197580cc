-- An item is appended level after level.
use Rattle.std.specs.Prelude.{ℕ, zero, suc, ◌+◌, ◌-◌, ◌≤◌, ◌<◌, ◌≡◌, ◌⊎◌, List}
use Rattle.std.proofs.Math.Path.{refl, sym, ap, subst}
use Rattle.std.proofs.Common.{◌∙◌, inl, inr, add-zero, mul-le-mul_right}
use Rattle.std.proofs.Math.Nat.{le_refl, suc-mul}
use native.Mathlib.Omega.{arith}
use Rattle.laws.specs.Below.{lt_or_le}
use Rattle.choice_lists.specs.Appended.{LevelRoom, LevelAppended, ItemRoom, ItemAppended}
use Rattle.assignment.specs.LeastLaws.{lesser_none, least_below-alike}
use Rattle.choice_lists.specs.Listed.{before, point_at, least_listed, PointSmall}
use Rattle.choice_lists.specs.PointLaws.{least_listed-alike, point_older}
use Rattle.knapsack.specs.RelaxedItems.{choice_of}
use Rattle.choice_lists.specs.Spread.{sum_of, least_sums, Sound, ItemFits}
use Rattle.choice_lists.specs.SpreadItems.{sums_small, sum_sound, at_level_over, at_level_sums}
use Rattle.assignment.specs.ValueLaws.{lesser_assoc}
use Rattle.assignment.specs.Values.{Value, pair, lesser, least_below}
use Rattle.knapsack.specs.declared.relaxing.Choice.{Choice}
use Rattle.knapsack.specs.declared.relaxing.Front.{Front}

-- the least of two lists, one behind the other

least_below-parts : (n m : ℕ) (f : ℕ → Value) → least_below (n + m) f ≡ lesser (least_below n f) (least_below m (λ i. f (n + i)))
unfolding least_below
least_below-parts n zero f = rw add-zero (sym (lesser_none (least_below n f)))
least_below-parts n (suc m) f =
    let more : n + suc m ≡ suc (n + m) = omega arith in
    rw (more, least_below-parts n m f) (lesser_assoc _ _ _)

least_listed-parts : (points : List Choice) {from mid to : ℕ} (rest : ℕ → Value) (w : ℕ) → from ≤ mid → mid ≤ to →
    least_listed points from (to - from) rest w
    ≡ lesser (least_listed points from (mid - from) rest w) (least_listed points mid (to - mid) rest w)
unfolding least_listed
least_listed-parts points {from} {mid} {to} rest w first second =
    let all : to - from ≡ (mid - from) + (to - mid) = omega arith in
    ap (λ (count : ℕ). least_below count (λ i. before (point_at points (from + i)) rest w)) all
    ∙ least_below-parts (mid - from) (to - mid) (λ i. before (point_at points (from + i)) rest w)
    ∙ ap (lesser (least_below (mid - from) (λ i. before (point_at points (from + i)) rest w)))
    (least_below-alike (to - mid) _ _ (λ i below. let same : from + (mid - from + i) ≡ mid + i = omega arith in rw same))

module _ {front : Front} {from to used : ℕ} {load cost : List ℕ} where
  pub append_no_level : (points : List Choice) → ItemAppended front from to used load cost points 0 points used
  unfolding least_listed least_below
  append_no_level points =
      let no_entry : used - used ≡ 0 = omega arith in
      record {
        older = record { same_length = refl; as_before = λ i below. refl };
        ordered = le_refl used;
        few = omega arith;
        least = λ rest w under. rw no_entry;
        small = λ n places sum small p after below. absurd (omega arith);
      }

  module _ {points₀ : List Choice} (fits : ItemRoom front from to used load cost points₀) {l : ℕ} (under : l < front.core.levels)
      {points : List Choice} {end : ℕ} (sofar : ItemAppended front from to used load cost points₀ l points end)
      {choice : Choice} (chosen : choice ≡ choice_of load cost front l) where
    -- the entries that are read stay
    read_same : (p : ℕ) → p < to → point_at points p ≡ point_at points₀ p
    read_same p below = point_older sofar.older p (omega (arith, fits.behind))

    sums_same : (rest : ℕ → Value) (w : ℕ) →
        least_sums choice points from (to - from) rest w ≡ least_sums choice points₀ from (to - from) rest w
    unfolding least_sums
    sums_same rest w = least_below-alike (to - from) _ _ (λ i below. ap (λ (x : Choice). before (sum_of choice x) rest w) (read_same (from + i) (omega arith)))

    item_stays : ItemFits front from to load cost points
    item_stays =
        let item = fits.item in
        record {
          affordable = item.affordable;
          places_limited = item.places_limited;
          digit_is = item.digit_is;
          ordered = item.ordered;
          there = omega (arith, item.there, sofar.older.same_length);
          small = λ p after below. rw (read_same p below) (item.small p after below);
        }

    pub level_room : choice.load ≤ front.core.capacity → LevelRoom front.core.capacity choice from to end points
    level_room room =
        record {
          sums = sums_small item_stays under chosen room;
          behind = omega (arith, fits.behind, sofar.ordered);
          room = omega (arith, fits.room, sofar.few, sofar.older.same_length, suc-mul l (to - from), mul-le-mul_right (to - from) under);
        }

    pub append_no_room : front.core.capacity < choice.load → ItemAppended front from to used load cost points₀ (suc l) points end
    unfolding least_below
    append_no_room over =
        record {
          older = sofar.older;
          ordered = sofar.ordered;
          few = omega (arith, sofar.few, suc-mul l (to - from));
          least = λ rest w below.
              sofar.least rest w below
              ∙ sym
              (ap (lesser _) (at_level_over fits.item under chosen over (least_listed points₀ from (to - from) rest) below)
              ∙ lesser_none _);
          small = sofar.small;
        }

    pub append_one_level : {points' : List Choice} {end' : ℕ} → choice.load ≤ front.core.capacity →
        LevelAppended front.core.capacity choice from to end points points' end' →
        ItemAppended front from to used load cost points₀ (suc l) points' end'
    unfolding least_below
    append_one_level {points'} {end'} room level =
        record {
          older =
              record {
                same_length = level.older.same_length ∙ sofar.older.same_length;
                as_before = λ i below.
                    level.older.as_before i (omega (arith, sofar.ordered)) ∙ sofar.older.as_before i below;
              };
          ordered = omega (arith, sofar.ordered, level.ordered);
          few = omega (arith, sofar.few, level.few, suc-mul l (to - from));
          least = λ rest w below.
              least_listed-parts points' rest w sofar.ordered level.ordered
              ∙ ap (λ (v : Value). lesser v (least_listed points' end (end' - end) rest w))
              (least_listed-alike points points' used (end - used) rest w
              (λ i less. level.older.as_before i (omega (arith, sofar.ordered)))
              ∙ sofar.least rest w below)
              ∙ ap (lesser _)
              (level.least rest w below ∙ sums_same rest w ∙ at_level_sums fits.item under chosen rest w);
          small = λ n places sum small p after below. new n places sum small p after below (lt_or_le p end);
        }
      where
        new : (n places : ℕ) → n + places ≡ front.places →
            ((p : ℕ) → from ≤ p → p < to → PointSmall front.core.capacity n places (point_at points₀ p)) →
            (p : ℕ) → used ≤ p → p < end' → (p < end) ⊎ (end ≤ p) → PointSmall front.core.capacity (suc n) places (point_at points' p)
        new n places sum small p after below (inl less) =
            rw (point_older level.older p less)
            (sofar.small n places sum small p after less)
        new n places sum small p after below (inr behind) =
            level.small (suc n) places
            (λ q later less.
            subst (λ (x : Choice). Sound (suc n) places (pair (choice.cost + x.cost) (choice.key + x.key))) (sym (read_same q less))
            (sum_sound fits.item under chosen room sum (small q later less)))
            p behind below
