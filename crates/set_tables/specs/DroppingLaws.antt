-- The sets without the next item and those with it. Where the largest of all these is served, each is; where the set with the next item is not,
-- none that has it is.
use Rattle.std.specs.Prelude.{ℕ, suc, ◌+◌, ◌-◌, ◌*◌, ◌/◌, ◌%◌, ◌^◌, ◌≤◌, ◌<◌, true, false, cond, List, ◌⊎◌, ◌≢◌, ◌≡◌, refl, length, get_or, set}
use Rattle.std.proofs.Common.{inl, inr, sym, ap, ◌∙◌, mul_assoc, pow-suc, arith, below_more, length-set, pow-add, pow_pos, shr-shr, get_or-set_same, get_or-set_other}
use Rattle.std.proofs.Math.Nat.{mul-add-div_right, zero-div}
use Rattle.std.proofs.Math.Pow.{high, ones_lt, ones_split}
use Rattle.laws.specs.Below.{lt_or_le}
use Rattle.laws.specs.Truth.{false_not_true, not_true_is_false}
use Rattle.assignment.specs.Words.{no_cost}
use Rattle.lagrangian.specs.declared.Timed.{Timed}
use Rattle.timed_parts.specs.ServableLaws.{fewer_items_served}
use Rattle.timed_parts.specs.TickColumns.{Includes, served_at}
use Rattle.set_tables.specs.DroppedTables.{Dropped, NoneFrom, SetsFrom}

-- what stands above the last m digits does not show in them
last_digit : (front m p x : ℕ) → p < m → (front * 2 ^ m + x) / 2 ^ p % 2 ≡ x / 2 ^ p % 2
last_digit front m p x last =
    let k = m - p - 1 in
    let exponent : m ≡ suc k + p = omega arith in
    let power : front * 2 ^ m ≡ front * 2 ^ suc k * 2 ^ p =
    ap (λ (j : ℕ). front * 2 ^ j) exponent ∙ ap (λ (j : ℕ). front * j) (pow-add 2 (suc k) p) ∙ sym (mul_assoc front (2 ^ suc k) (2 ^ p)) in
    let even : front * 2 ^ suc k ≡ front * (2 ^ k * 2) = ap (λ (j : ℕ). front * j) (pow-suc 2 k) in
    rw (power, mul-add-div_right (pow_pos p) (front * 2 ^ suc k) x) (omega (arith, even))

-- the other digits are those of the front
first_digit : (front m p x : ℕ) → x < 2 ^ m → m ≤ p → (front * 2 ^ m + x) / 2 ^ p ≡ front / 2 ^ (p - m)
first_digit front m p x below first =
    let exponent : p ≡ m + (p - m) = omega arith in
    ap (λ (j : ℕ). (front * 2 ^ m + x) / 2 ^ j) exponent ∙ sym (shr-shr (front * 2 ^ m + x) m (p - m)) ∙ ap (λ (j : ℕ). j / 2 ^ (p - m)) (high front m below)

-- of two sets with the same items before the last m, the one that has the last items of the other includes it
last_items_included : (n m front y x : ℕ) → y < 2 ^ m → x < 2 ^ m → ((p : ℕ) → p < m → y / 2 ^ p % 2 ≡ 0 → x / 2 ^ p % 2 ≡ 0) →
    Includes n (front * 2 ^ m + y) (front * 2 ^ m + x)
last_items_included n m front y x y_below x_below has_these = record { out_of_both = λ i l. go (n - 1 - i) (lt_or_le (n - 1 - i) m) }
  where
    go : (p : ℕ) → (p < m) ⊎ (m ≤ p) → (front * 2 ^ m + y) / 2 ^ p % 2 ≡ 0 → (front * 2 ^ m + x) / 2 ^ p % 2 ≡ 0
    go p (inl last) out = last_digit front m p x last ∙ has_these p last (sym (last_digit front m p y last) ∙ out)
    go p (inr first) out = rw (first_digit front m p x x_below first) (rw (first_digit front m p y y_below first) at out)

-- a set that has none of the last m items, with some of these
some_added : (n m front x : ℕ) → x < 2 ^ m → Includes n (front * 2 ^ m + x) (front * 2 ^ m)
some_added n m front x below =
    let none : front * 2 ^ m + 0 ≡ front * 2 ^ m = omega arith in
    rw none at (last_items_included n m front x 0 below (pow_pos m) (λ p last out. rw (zero-div (2 ^ p)) refl))

-- and with all of these
all_added : (n m front x : ℕ) → x < 2 ^ m → Includes n (front * 2 ^ m + (2 ^ m - 1)) (front * 2 ^ m + x)
all_added n m front x below = last_items_included n m front (2 ^ m - 1) x (ones_lt m) below (λ p last out. absurd (is_one p last out))
  where
    is_one : (p : ℕ) → p < m → (2 ^ m - 1) / 2 ^ p % 2 ≡ 0 → ⊥
    is_one p last out =
        let k = m - p - 1 in
        let exponent : m ≡ suc k + p = omega arith in
        let digits : (2 ^ m - 1) / 2 ^ p ≡ 2 ^ suc k - 1 =
        ap (λ (j : ℕ). (2 ^ j - 1) / 2 ^ p) exponent ∙ ap (λ (j : ℕ). j / 2 ^ p) (ones_split (suc k) p) ∙ high (2 ^ suc k - 1) p (ones_lt p) in
        omega (arith, rw digits at out, pow-suc 2 k, pow_pos k)

pub all_sets : (n : ℕ) {costs : List ℕ} → 2 ^ n ≤ length costs → SetsFrom n 0 0 costs
all_sets n room =
    let all : n - 0 ≡ n = omega arith in
    record { within = omega arith; front = 0; none_of_these = omega arith; of_items = rw all (omega arith); costs_for_all = room }

-- half of the sets have the next item
module _ {n item set : ℕ} {costs : List ℕ} (ready : SetsFrom n item set costs) (more : item ≢ n) {half : ℕ} (is_half : half ≡ 2 ^ (n - item - 1)) where
  halves : 2 ^ (n - item) ≡ 2 * half
  halves =
      let longer : n - item ≡ suc (n - item - 1) = omega (arith, ready.within) in
      ap (λ (k : ℕ). 2 ^ k) longer ∙ pow-suc 2 (n - item - 1) ∙ omega arith

  half_of_next : 2 ^ (n - (item + 1)) ≡ half
  half_of_next = let exponent : n - (item + 1) ≡ n - item - 1 = omega arith in rw exponent (sym is_half)

  numbered : set ≡ ready.front * 2 * half
  numbered = let doubled = ap (λ (k : ℕ). ready.front * k) halves in omega (arith, ready.none_of_these, doubled)

  pub with_next_below : set + half + half ≤ 2 ^ n
  with_next_below = omega (arith, ready.of_items, halves)

  each_has_next : (x : ℕ) → x < half → Includes n (set + half + x) (set + half)
  each_has_next x h =
      let number : set + half ≡ (ready.front * 2 + 1) * 2 ^ (n - item - 1) = rw (← is_half) (omega (arith, numbered)) in
      rw number (some_added n (n - item - 1) (ready.front * 2 + 1) x (rw is_half at h))

  largest_has_all : (y : ℕ) → set ≤ y → y < set + 2 ^ (n - item) → Includes n (set + half + half - 1) y
  largest_has_all y from within =
      let m = n - item in
      let largest : ready.front * 2 ^ m + (2 ^ m - 1) ≡ set + half + half - 1 = omega (arith, ready.none_of_these, halves, pow_pos m) in
      let this : ready.front * 2 ^ m + (y - set) ≡ y = omega (arith, ready.none_of_these) in
      rw (largest, this) at (all_added n m ready.front (y - set) (omega arith))

  module _ {after : List ℕ} (same_places : length after ≡ length costs) where
    sets_from : (front : ℕ) {s : ℕ} → s ≡ front * half → s + half ≤ 2 ^ n → SetsFrom n (item + 1) s after
    sets_from front number below =
        record {
          within = omega (arith, ready.within);
          front = front;
          none_of_these = rw half_of_next number;
          of_items = rw half_of_next below;
          costs_for_all = omega (arith, ready.costs_for_all);
        }

    pub without_next : SetsFrom n (item + 1) set after
    without_next = sets_from (ready.front * 2) numbered (omega (arith, with_next_below))

    pub with_next : SetsFrom n (item + 1) (set + half) after
    with_next = sets_from (ready.front * 2 + 1) (omega (arith, numbered)) with_next_below

-- so many costs become none, one after the other

module _ {from : ℕ} {costs₀ : List ℕ} where
  pub no_cost_yet : NoneFrom from 0 costs₀ costs₀
  no_cost_yet = record { places = refl; none = λ x h. absurd (omega arith); others = λ y h. refl }

  pub one_cost_more : {x : ℕ} {costs : List ℕ} → NoneFrom from x costs₀ costs → from + x < length costs →
      NoneFrom from (x + 1) costs₀ (set costs (from + x) no_cost)
  one_cost_more {x} {costs} so_far room =
      record {
        places = length-set costs (from + x) no_cost ∙ so_far.places;
        none =
            below_more (λ y. get_or (set costs (from + x) no_cost) (from + y) 0 ≡ no_cost) x
            (λ y h. get_or-set_other costs (from + x) (from + y) no_cost 0 (λ same. omega arith) ∙ so_far.none y h)
            (get_or-set_same costs (from + x) no_cost 0 room);
        others = elsewhere;
      }
    where
      elsewhere : (y : ℕ) → (y < from) ⊎ (from + (x + 1) ≤ y) → get_or (set costs (from + x) no_cost) y 0 ≡ get_or costs₀ y 0
      elsewhere y (inl before) = get_or-set_other costs (from + x) y no_cost 0 (λ same. omega arith) ∙ so_far.others y (inl before)
      elsewhere y (inr behind) =
          get_or-set_other costs (from + x) y no_cost 0 (λ same. omega arith) ∙ so_far.others y (inr (omega arith))

-- a cost stays where its set is served

module _ {timed : Timed} {timings column : List ℕ} where
  all_stay : {from size : ℕ} {costs : List ℕ} → ((y : ℕ) → from ≤ y → y < from + size → served_at timed timings column y ≡ true) →
      Dropped timed timings column from size costs costs
  all_stay served = record { places = refl; cost = λ y from within. rw (served y from within) refl; others = λ y out. refl }

  pub one_stays : {n item set : ℕ} {costs : List ℕ} → item ≡ n → served_at timed timings column set ≡ true →
      Dropped timed timings column set (2 ^ (n - item)) costs costs
  one_stays {n} {item} {set} last served =
      let none : n - item ≡ 0 = omega arith in
      let one : 2 ^ (n - item) ≡ 1 = ap (λ (k : ℕ). 2 ^ k) none in
      all_stay (λ y from within. let this : y ≡ set = omega arith in rw this served)

  -- first some sets are dropped, then those after them
  dropped_after : {from size more : ℕ} {before between after : List ℕ} → Dropped timed timings column from size before between →
      Dropped timed timings column (from + size) more between after → Dropped timed timings column from (size + more) before after
  dropped_after {from} {size} {more} {before} {between} {after} first second =
      record {
        places = second.places ∙ first.places;
        cost = λ y above within. go y above within (lt_or_le y (from + size));
        others = elsewhere;
      }
    where
      go : (y : ℕ) → from ≤ y → y < from + (size + more) → (y < from + size) ⊎ (from + size ≤ y) →
          get_or after y 0 ≡ cond (served_at timed timings column y) (get_or before y 0) no_cost
      go y above within (inl earlier) = second.others y (inl earlier) ∙ first.cost y above earlier
      go y above within (inr later) = rw (← first.others y (inr later)) (second.cost y later (omega arith))

      elsewhere : (y : ℕ) → (y < from) ⊎ (from + (size + more) ≤ y) → get_or after y 0 ≡ get_or before y 0
      elsewhere y (inl earlier) = second.others y (inl (omega arith)) ∙ first.others y (inl earlier)
      elsewhere y (inr later) = second.others y (inr (omega arith)) ∙ first.others y (inr (omega arith))

  -- none is served that has the items of a set which is not
  none_stays : {x size : ℕ} {before after : List ℕ} → served_at timed timings column x ≡ false →
      ((d : ℕ) → d < size → Includes timed.items (x + d) x) → NoneFrom x size before after → Dropped timed timings column x size before after
  none_stays {x} {size} {before} {after} unserved more gone =
      record { places = gone.places; cost = none; others = gone.others }
    where
      none : (y : ℕ) → x ≤ y → y < x + size → get_or after y 0 ≡ cond (served_at timed timings column y) (get_or before y 0) no_cost
      none y from within =
          let this : x + (y - x) ≡ y = omega arith in
          let has_these = rw this at (more (y - x) (omega arith)) in
          let also : served_at timed timings column y ≡ false =
          not_true_is_false (served_at timed timings column y) (λ served. false_not_true unserved (fewer_items_served timed timings column has_these served)) in
          rw also (rw this at (gone.none (y - x) (omega arith)))

  pub all_sets_dropped : {before after : List ℕ} → Dropped timed timings column 0 (2 ^ (timed.items - 0)) before after →
      Dropped timed timings column 0 (2 ^ timed.items) before after
  all_sets_dropped drop = let all : timed.items - 0 ≡ timed.items = omega arith in rw all at drop

  module _ {item set : ℕ} {costs : List ℕ} (ready : SetsFrom timed.items item set costs) (more : item ≢ timed.items) {half : ℕ}
      (is_half : half ≡ 2 ^ (timed.items - item - 1)) where
    pub largest_served : {before : List ℕ} → served_at timed timings column (set + half + half - 1) ≡ true →
        Dropped timed timings column set (2 ^ (timed.items - item)) before before
    largest_served served =
        all_stay (λ y from within. fewer_items_served timed timings column (largest_has_all ready more is_half y from within) served)

    pub next_unserved : {before after : List ℕ} → served_at timed timings column (set + half) ≡ false → NoneFrom (set + half) half before after →
        Dropped timed timings column (set + half) (2 ^ (timed.items - (item + 1))) before after
    next_unserved unserved gone = rw (half_of_next ready more is_half) (none_stays unserved (each_has_next ready more is_half) gone)

    pub both_dropped : {before between after : List ℕ} → Dropped timed timings column set (2 ^ (timed.items - (item + 1))) before between →
        Dropped timed timings column (set + half) (2 ^ (timed.items - (item + 1))) between after →
        Dropped timed timings column set (2 ^ (timed.items - item)) before after
    both_dropped without with_next =
        let twice : half + half ≡ 2 ^ (timed.items - item) = omega (arith, halves ready more is_half) in
        let size = half_of_next ready more is_half in
        rw twice at (dropped_after (rw size at without) (rw size at with_next))
