-- In every knapsack more room is no worse.
use Rattle.std.specs.Prelude.{ℕ, suc, ◌*◌, ◌-◌, ◌^◌, ◌≤◌, ◌<◌, ◌≡◌, Bool, true, false, cond, leb}
use Rattle.std.proofs.Math.Path.{refl}
use Rattle.std.proofs.Common.{inl, inr, arith, le-leb, leb-true}
use Rattle.knapsack.specs.Offers.{Offer}
use Rattle.choice_lists.specs.Listed.{Falling}
use Rattle.assignment.specs.Keys.{key_base}
use Rattle.knapsack.specs.Knapsacks.{at_level}
use Rattle.knapsack.specs.KnapsackSteps.{with_item}
use Rattle.assignment.specs.Values.{Value, none, pair, add, least_below, AtMost, to_none, Attained}
use Rattle.assignment.specs.ValueLaws.{at_most-refl, at_most-trans, add_mono, least_below-below, least_below-attained}

pub falling_flat : {capacity : ℕ} {rest : ℕ → Value} (v : Value) → ((u : ℕ) → u ≤ capacity → rest u ≡ v) →
    Falling capacity rest
falling_flat v flat =
    record { no_worse = λ u w le under. rw (flat u (omega arith), flat w under) (at_most-refl v) }

pub falling_same : {capacity : ℕ} {f g : ℕ → Value} → ((u : ℕ) → u ≤ capacity → f u ≡ g u) → Falling capacity f →
    Falling capacity g
falling_same same falling =
    record {
      no_worse = λ u w le under. rw (same u (omega arith), same w under) at (falling.no_worse u w le under);
    }

least_below-mono : (n : ℕ) (f g : ℕ → Value) → ((l : ℕ) → AtMost (f l) (g l)) → AtMost (least_below n f) (least_below n g)
least_below-mono n f g below = go (least_below n g) (least_below-attained n g)
  where
    go : (v : Value) → Attained (λ (l : ℕ). l < n) g v → AtMost (least_below n f) v
    go v (inl e) = rw e to_none
    go v (inr (l, h, e)) = rw e (at_most-trans (least_below-below n f h) (below l))

module _ (offer : Offer) (places : ℕ) {capacity : ℕ} {rest : ℕ → Value} (falling : Falling capacity rest) where
  at_level-falls : (u w l : ℕ) → u ≤ w → w ≤ capacity → AtMost (at_level offer places rest w l) (at_level offer places rest u l)
  unfolding at_level
  at_level-falls u w l le under = go (leb (offer.load l) u) refl
    where
      first : Value
      first = pair (offer.cost l) (suc l * key_base ^ places)

      go : (b : Bool) → leb (offer.load l) u ≡ b →
          AtMost (cond (leb (offer.load l) w) (add first (rest (w - offer.load l))) none)
          (cond b (add first (rest (u - offer.load l))) none)
      go false e = to_none
      go true e =
          let room = leb-true (offer.load l) u e in
          rw (le-leb (offer.load l) w (omega arith))
          (add_mono (at_most-refl first) (falling.no_worse _ _ (omega arith) (omega arith)))

  pub falling_with_item : (levels : ℕ) → Falling capacity (with_item levels offer places rest)
  unfolding with_item
  falling_with_item levels =
      record { no_worse = λ u w le under. least_below-mono levels _ _ (λ l. at_level-falls u w l le under) }
