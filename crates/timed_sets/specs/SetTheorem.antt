-- What the search of one set up to a limit finds is its least value, whatever the cores, the loads and the refusals are; or the limit.
use Rattle.std.specs.Prelude.{ℕ, zero, suc, ◌^◌, ◌≤◌, ◌<◌, Bool, true, false, ◌⊎◌, ◌≡◌, refl, length, replicate}
use mathlib.Core.List.{List, [], ◌∷◌, ◌++◌}
use Rattle.std.proofs.Math.Logic.{inl, inr}
use Rattle.std.proofs.Common.{sym, ap, ◌∙◌}
use native.Mathlib.Omega.{arith}
use Rattle.laws.specs.Below.{lt_or_le}
use Rattle.laws.specs.Lists.{list_of}
use Rattle.laws.specs.Truth.{and_is_true}
use Rattle.assignment.specs.Assignment.{Item}
use Rattle.assignment.specs.CoreTables.{Admitted, pattern_worth}
use Rattle.assignment.specs.Keeping.{Keeps}
use Rattle.assignment.specs.Limits.{most_items}
use Rattle.assignment.specs.SetLaws.{Numbered, numbered, set_number-below}
use Rattle.assignment.specs.Sets.{set_number}
use Rattle.assignment.specs.Values.{none, pair, AtMost, cheaper, tied, Attained}
use Rattle.assignment.specs.Words.{no_cost, words_none, words_pair}
use Rattle.assignment.specs.ValueLaws.{at_most-trans, none_above}
use Rattle.knapsack.specs.Offered.{offer_at, offers_of}
use Rattle.knapsack.specs.Offers.{Offer, entry_cost, pattern_cost}
use Rattle.values.specs.Worths.{worth_of}
use Rattle.values.specs.declared.value.Worth.{Worth}
use Rattle.lagrangian.specs.TimedItems.{timed_core, TimedItems}
use Rattle.lagrangian.specs.FrontKeyLaws.{power_above_0}
use Rattle.lagrangian.specs.Reached.{worth_on, passing, Reached}
use Rattle.lagrangian.specs.ReachedPatterns.{reached_pattern, pattern_reached}
use Rattle.lagrangian.specs.TimedCores.{timed_options, timings_of}
use Rattle.lagrangian.specs.declared.Timed.{Timed}
use Rattle.timed_sets.specs.Exchange.{Partners, DueNoSooner}
use Rattle.timed_parts.specs.Nodes.{Stands}
use Rattle.timed_sets.specs.Found.{ordered, FoundFrom, SmallWorth, LeastInTime, LowerInTime, FoundUpTo, is_least, is_limit, OneInTime, NoneCheaper, CostUpTo, least_cost, limit_cost, none_yet}
use Rattle.timed_parts.specs.NodeLaws.{stands_at_start}
use Rattle.timed_sets.specs.OrderLaws.{InOrder, some_in_order}
use Rattle.timed_sets.specs.LeastReached.{LeastFrom}
use Rattle.timed_parts.specs.declared.Node.{Node}

-- offers of the same costs
data SameCosts : List Offer → List Offer → Type 0 where
  nothing : SameCosts [] []
  more : {o o' : Offer} {os os' : List Offer} → ((l : ℕ) → o.cost l ≡ o'.cost l) → SameCosts os os' → SameCosts (o ∷ os) (o' ∷ os')

pattern_cost_same : {os os' : List Offer} → SameCosts os os' → (pattern : List ℕ) → pattern_cost os pattern ≡ pattern_cost os' pattern
unfolding pattern_cost entry_cost
pattern_cost_same nothing pattern = refl
pattern_cost_same (more here others) [] = refl
pattern_cost_same (more here others) (zero ∷ pattern) = omega (arith, pattern_cost_same others pattern)
pattern_cost_same (more here others) (suc l ∷ pattern) = omega (arith, here l, pattern_cost_same others pattern)

joined : {os os' ps ps' : List Offer} → SameCosts os os' → SameCosts ps ps' → SameCosts (os ++ ps) (os' ++ ps')
joined nothing others = others
joined (more here before) others = more here (joined before others)

offered_same : (load cost : List ℕ) (n : ℕ) → SameCosts (list_of (offer_at load cost) n) (list_of (offer_at [] cost) n)
unfolding list_of offer_at
offered_same load cost zero = nothing
offered_same load cost (suc n) = joined (offered_same load cost n) (more (λ l. refl) nothing)

-- costs do not depend on loads
pub loads_do_not_matter : (load cost : List ℕ) (n : ℕ) (pattern : List ℕ) → pattern_cost (offers_of load cost n) pattern ≡ pattern_cost (offers_of [] cost n) pattern
unfolding offers_of
loads_do_not_matter load cost n pattern = pattern_cost_same (offered_same load cost n) pattern

abbrev pub start_at : ℕ → Node
start_at set = record { item = 0; level = 0; rest = set; cost = 0; key = 0; ticks = replicate most_items 0 }

pub start_stands : (timed : Timed) (timings cost : List ℕ) (set : ℕ) → set < 2 ^ timed.items →
    (q : List ℕ) × (T : List Bool) × Stands timed timings cost (start_at set) q T
start_stands timed timings cost set below =
    let its = numbered timed.items set below in
    ([], its.set, rw its.number at (stands_at_start timed timings cost its.set its.of_items))

pub none_is_small : (timed : Timed) → SmallWorth timed none_yet
none_is_small timed = record { at_most_none = omega arith; real = λ below. absurd (omega arith); digits = power_above_0 timed.items }

-- sets of one number are the same
same_set : (n : ℕ) (S T : List Bool) → length S ≡ n → length T ≡ n → set_number n S ≡ set_number n T → S ≡ T
unfolding set_number
same_set zero [] [] of_items also same = refl
same_set zero (b ∷ S) T of_items also same = absurd (omega (arith, of_items))
same_set zero [] (b ∷ T) of_items also same = absurd (omega (arith, also))
same_set (suc n) [] T of_items also same = absurd (omega (arith, of_items))
same_set (suc n) (b ∷ S) [] of_items also same = absurd (omega (arith, also))
same_set (suc n) (true ∷ S) (true ∷ T) of_items also same =
    ap (λ (rest : List Bool). true ∷ rest) (same_set n S T (omega (arith, of_items)) (omega (arith, also)) (omega (arith, same)))
same_set (suc n) (false ∷ S) (false ∷ T) of_items also same =
    ap (λ (rest : List Bool). false ∷ rest) (same_set n S T (omega (arith, of_items)) (omega (arith, also)) (omega (arith, same)))
same_set (suc n) (true ∷ S) (false ∷ T) of_items also same = absurd (omega (arith, same, set_number-below n T))
same_set (suc n) (false ∷ S) (true ∷ T) of_items also same = absurd (omega (arith, same, set_number-below n S))

module _ {timed : Timed} {set : ℕ} {timings cost : List ℕ} {r : Worth} where
  -- a lower value that is attained, or none
  lower_is_least : SmallWorth timed r → LowerInTime timed set timings cost r →
      ((S : List Bool) → length S ≡ timed.items → set_number timed.items S ≡ set →
      Attained (λ (pattern : List ℕ). Keeps timed.levels S pattern × ((timed_core timed timings cost).admits pattern ≡ true))
      (worth_on (timed_core timed timings cost)) (worth_of r)) →
      LeastInTime timed set timings cost r
  unfolding timed_options pattern_worth worth_on
  lower_is_least small lower attained =
      record {
        least = λ cores load items S of_items is.
            record {
              below = λ pattern admitted.
                  rw (loads_do_not_matter load cost timed.items pattern) (lower.lower S of_items is pattern admitted.keeps admitted.admitted);
              attained = in_options cores load items S (attained S of_items is);
            };
        small = small;
      }
    where
      in_options : (cores : ℕ) (load : List ℕ) (items : List Item) (S : List Bool) →
          Attained (λ (pattern : List ℕ). Keeps timed.levels S pattern × ((timed_core timed timings cost).admits pattern ≡ true))
          (worth_on (timed_core timed timings cost)) (worth_of r) →
          let o = timed_options cores timed.levels timed.span (timings_of timings timed.items) (offers_of load cost timed.items) items in
          Attained (Admitted o S) (pattern_worth o) (worth_of r)
      in_options cores load items S (inl e) = inl e
      in_options cores load items S (inr (pattern, (keeps, met), e)) =
          inr (pattern, record { keeps = keeps; admitted = met }, rw (loads_do_not_matter load cost timed.items pattern) e)

  module _ {most : Worth} {partners : List ℕ} (ready : TimedItems timed timings) (are_partners : Partners timed timings cost timed.items partners)
      (under : set < 2 ^ timed.items) (small : SmallWorth timed r)
      (found : (q : List ℕ) (T : List Bool) → Stands timed timings cost (start_at set) q T → FoundFrom timed timings cost partners (start_at set) q T most r) where
    from : (S : List Bool) → length S ≡ timed.items → set_number timed.items S ≡ set →
        LeastFrom (ordered timed timings partners) (timed_core timed timings cost) [] S 0 (worth_of most) (worth_of r)
    from S of_items is = (found [] S (rw is at (stands_at_start timed timings cost S of_items))).least

    -- what is found comes no later than a pattern in order
    before_ordered : (S : List Bool) → length S ≡ timed.items → set_number timed.items S ≡ set → {pattern : List ℕ} →
        (one : InOrder timed timings cost partners S pattern) → AtMost (worth_of r) (worth_on (timed_core timed timings cost) one.ordered)
    unfolding worth_on
    before_ordered S of_items is one =
        (from S of_items is).below _
        (pattern_reached (passing (ordered timed timings partners) (timed_core timed timings cost)) [] one.keeps
        ((and_is_true _ _).1 (one.admitted, one.in_order)))

    -- it is the limit, or what an admitted pattern of the set is worth
    limit_or_attained : (worth_of r ≡ worth_of most) ⊎ OneInTime timed set timings cost r
    limit_or_attained =
        let its = numbered timed.items set under in go its (from its.set its.of_items its.number).attained
      where
        go : (its : Numbered timed.items set) → (worth_of r ≡ worth_of most) ⊎ Reached (timed_core timed timings cost) [] its.set 0 (worth_of r) →
            (worth_of r ≡ worth_of most) ⊎ OneInTime timed set timings cost r
        go its (inl e) = inl e
        go its (inr reached) =
            let (pattern, keeps, met, worth) = reached_pattern (timed_core timed timings cost) reached in
            inr (record {
              one = λ S of_items is.
                  let same = same_set timed.items S its.set of_items its.of_items (is ∙ sym its.number) in
                  (pattern, (rw same keeps, met), worth);
            })

    -- what is found from the start where no partner is due sooner
    pub found_up_to : DueNoSooner timings timed.items partners → FoundUpTo timed set timings cost most r
    unfolding worth_on
    found_up_to no_sooner = go limit_or_attained
      where
        -- a pattern in order comes no later than each
        no_later : {S : List Bool} {pattern : List ℕ} → (one : InOrder timed timings cost partners S pattern) →
            AtMost (worth_on (timed_core timed timings cost) one.ordered) (worth_on (timed_core timed timings cost) pattern)
        no_later one = tied one.same_cost (one.no_larger_key no_sooner)

        lower : LowerInTime timed set timings cost r
        lower =
            record {
              lower = λ S of_items is pattern keeps met.
                  let one = some_in_order ready are_partners of_items pattern keeps met in
                  at_most-trans (before_ordered S of_items is one) (no_later one);
            }

        go : (worth_of r ≡ worth_of most) ⊎ OneInTime timed set timings cost r → FoundUpTo timed set timings cost most r
        go (inl e) = is_limit e lower
        go (inr attained) = is_least (lower_is_least small lower (λ S of_items is. inr (attained.one S of_items is)))

    -- what is found from the start whatever partners there are
    pub cost_up_to : CostUpTo timed set timings cost most r
    unfolding worth_on
    cost_up_to = go limit_or_attained
      where
        at_most_cost : {c k : ℕ} → AtMost (worth_of r) (pair c k) → r.cost ≤ c
        at_most_cost {c} {k} before = by_size (lt_or_le r.cost no_cost) before
          where
            by_pair : {a x : ℕ} → AtMost (pair a x) (pair c k) → a ≤ c
            by_pair (cheaper less) = omega arith
            by_pair (tied same first) = omega arith

            by_size : (r.cost < no_cost) ⊎ (no_cost ≤ r.cost) → AtMost (worth_of r) (pair c k) → r.cost ≤ c
            by_size (inl real) before = by_pair (rw (words_pair r.cost r.key real) at before)
            by_size (inr dear) before = absurd (none_above (rw (words_none r.cost r.key dear) at before))

        lower : NoneCheaper timed set timings cost r.cost
        lower =
            record {
              none_cheaper = λ S of_items is pattern keeps met.
                  let one = some_in_order ready are_partners of_items pattern keeps met in
                  rw (← one.same_cost) (at_most_cost (before_ordered S of_items is one));
            }

        go : (worth_of r ≡ worth_of most) ⊎ OneInTime timed set timings cost r → CostUpTo timed set timings cost most r
        go (inl e) = limit_cost e lower
        go (inr attained) = least_cost attained lower

  module _ {most : Worth} where
    pub least_without_limit : FoundUpTo timed set timings cost most r → worth_of most ≡ none → SmallWorth timed r → LeastInTime timed set timings cost r
    least_without_limit (is_least least) no_limit small = least
    least_without_limit (is_limit e lower) no_limit small = lower_is_least small lower (λ S of_items is. inl (e ∙ no_limit))
