-- Every admitted pattern has one of its set that is in order and costs as much: items out of order are exchanged as long as there are such.
-- Where no partner is due sooner it comes no later.
use Prim.Native.Nat.{ℕ, zero, suc, ◌+◌, ◌-◌, ◌*◌, ◌^◌, ◌≤◌, ◌<◌}
use Rattle.std.proofs.Math.Bool.{Bool, true, false, not}
use mathlib.Core.List.{List, [], ◌∷◌, ◌++◌, append_assoc}
use Rattle.std.specs.Prelude.{◌⊎◌, ◌↔◌, ◌≡◌, length}
use Rattle.std.proofs.Common.{inl, inr, ap, ◌∙◌, le_refl}
use Rattle.std.proofs.Math.Path.{refl}
use Rattle.std.proofs.Math.Nat.{le_step}
use native.Mathlib.Omega.{arith}
use borrow.Author.Tests.{ltb-true, leb-true, lt-ltb, le-leb, not-true, not-false}
use Rattle.std.proofs.Math.ListN.{get_or, get_or-append}
use Rattle.laws.specs.Search.{every}
use Rattle.laws.specs.SearchFacts.{every_iff}
use Rattle.laws.specs.Truth.{and_is_true, or_is_true, false_not_true}
use Rattle.assignment.specs.Keeping.{Keeps}
use Rattle.assignment.specs.Keys.{key_base, plan_key}
use Rattle.assignment.specs.Values.{Value}
use Rattle.lagrangian.specs.AdmittedLaws.{counted}
use Rattle.lagrangian.specs.TimedItems.{timed_core, TimedItems}
use Rattle.lagrangian.specs.PatternLaws.{entry_between, timing_of_lem}
use Rattle.lagrangian.specs.Reached.{passing, Reached}
use Rattle.lagrangian.specs.ReachedPatterns.{reached_pattern}
use Rattle.lagrangian.specs.TimedCores.{Timing, entry_ticks, timing_at, timing_in, timings_of}
use Rattle.lagrangian.specs.declared.Timed.{Timed}
use Rattle.timed_sets.specs.Exchange.{Partners, DueNoSooner, HigherFirst, LongerFirst, OutOfOrder, LevelHigherFirst, LevelLongerFirst, LevelOutOfOrder, is_higher_first, is_longer_first, is_out_of_order, is_in_order, exchanged, urgency}
use Rattle.timed_sets.specs.ExchangeLaws.{first_sooner, exchanged_keeps, exchanged_cost, exchanged_key, exchanged_admitted, exchanged_measure}
use Rattle.timed_parts.specs.Nodes.{Stands}
use Rattle.timed_sets.specs.Found.{ordered}
use Rattle.timed_sets.specs.PartnerLaws.{digit_of_key}
use Rattle.timed_parts.specs.declared.Node.{Node}

-- the test and what it says

higher_first : {timings : List Timing} {pattern : List ℕ} {j i : ℕ} → (is_higher_first timings pattern j i ≡ true) ↔ HigherFirst timings pattern j i
unfolding is_higher_first
higher_first = (
  λ is.
      let both = (and_is_true _ _).0 is in
      let others = (and_is_true _ _).0 both.1 in
      record { due_no_sooner = leb-true _ _ both.0; higher = ltb-true _ _ others.0; no_more_ticks = leb-true _ _ others.1 },
  λ turned.
      (and_is_true _ _).1
      (le-leb _ _ turned.due_no_sooner, (and_is_true _ _).1 (lt-ltb _ _ turned.higher, le-leb _ _ turned.no_more_ticks)),
)

longer_first : {timings : List Timing} {pattern : List ℕ} {j i : ℕ} → (is_longer_first timings pattern j i ≡ true) ↔ LongerFirst timings pattern j i
unfolding is_longer_first
longer_first = (
  λ is.
      let both = (and_is_true _ _).0 is in
      record { due_sooner = ltb-true _ _ both.0; more_ticks = ltb-true _ _ both.1 },
  λ turned. (and_is_true _ _).1 (lt-ltb _ _ turned.due_sooner, lt-ltb _ _ turned.more_ticks),
)

by_test : {timings : List Timing} {pattern : List ℕ} {j i : ℕ} → is_out_of_order timings pattern (suc j) i ≡ true → OutOfOrder timings pattern j i
unfolding is_out_of_order
by_test {timings} {pattern} {j} {i} is =
    let both = (and_is_true _ _).0 is in
    record { runs = ltb-true _ _ both.0; turned = go (is_higher_first timings pattern j i) refl ((or_is_true _ _).0 both.1) }
  where
    go : (b : Bool) → is_higher_first timings pattern j i ≡ b → (is_higher_first timings pattern j i ≡ false → is_longer_first timings pattern j i ≡ true) →
        HigherFirst timings pattern j i ⊎ LongerFirst timings pattern j i
    go true is otherwise = inl (higher_first.0 is)
    go false is otherwise = inr (longer_first.0 (otherwise is))

to_test : {timings : List Timing} {pattern : List ℕ} {j i : ℕ} → OutOfOrder timings pattern j i → is_out_of_order timings pattern (suc j) i ≡ true
unfolding is_out_of_order
to_test {timings} {pattern} {j} {i} out =
    (and_is_true _ _).1 (lt-ltb _ _ out.runs, (or_is_true _ _).1 (λ not_higher. go not_higher out.turned))
  where
    go : is_higher_first timings pattern j i ≡ false → HigherFirst timings pattern j i ⊎ LongerFirst timings pattern j i →
        is_longer_first timings pattern j i ≡ true
    go not_higher (inl turned) = absurd (false_not_true not_higher (higher_first.1 turned))
    go not_higher (inr turned) = longer_first.1 turned

-- a test that some number below n passes
one_passes : (f : ℕ → Bool) (n : ℕ) → every (λ i. not (f i)) n ≡ false → (i : ℕ) × (i < n) × (f i ≡ true)
unfolding every
one_passes f zero fails = absurd (false_not_true fails refl)
one_passes f (suc n) fails = go (every (λ i. not (f i)) n) refl (one_passes f n)
  where
    go : (b : Bool) → every (λ i. not (f i)) n ≡ b → (every (λ i. not (f i)) n ≡ false → (i : ℕ) × (i < n) × (f i ≡ true)) →
        (i : ℕ) × (i < suc n) × (f i ≡ true)
    go false none before = let (i, l, passes) = before none in (i, le_step l, passes)
    go true all before = (n, le_refl (suc n), not-false (f n) (rw all at fails))

-- an admitted pattern of the set that is in order and costs as much as another, with no larger key where no partner is due sooner
pub record InOrder (timed : Timed) (timings cost partners : List ℕ) (S : List Bool) (pattern : List ℕ) : Type 0 where
  pub ordered : List ℕ
  pub keeps : Keeps timed.levels S ordered
  pub admitted : (timed_core timed timings cost).admits ordered ≡ true
  pub in_order : is_in_order (timings_of timings timed.items) partners ordered ≡ true
  pub same_cost : (timed_core timed timings cost).cost ordered ≡ (timed_core timed timings cost).cost pattern
  pub no_larger_key : DueNoSooner timings timed.items partners → plan_key ordered ≤ plan_key pattern

-- what each exchange lowers: the urgency, or else the key
abbrev measure : Timed → (timings pattern : List ℕ) → ℕ
measure timed timings pattern = urgency timed timings pattern * key_base ^ timed.items + plan_key pattern

module _ {timed : Timed} {timings cost partners : List ℕ} {S : List Bool} (ready : TimedItems timed timings)
    (are_partners : Partners timed timings cost timed.items partners) (of_items : length S ≡ timed.items) where
  -- where no partner is due sooner, each exchange lowers the key
  exchange_lowers_key : (pattern : List ℕ) → Keeps timed.levels S pattern → (j i : ℕ) → i < timed.items → get_or partners i 0 ≡ suc j →
      OutOfOrder (timings_of timings timed.items) pattern j i → DueNoSooner timings timed.items partners →
      plan_key (exchanged pattern j i) < plan_key pattern
  exchange_lowers_key pattern keeps j i within is out no_sooner = go out.turned
    where
      go : HigherFirst (timings_of timings timed.items) pattern j i ⊎ LongerFirst (timings_of timings timed.items) pattern j i →
          plan_key (exchanged pattern j i) < plan_key pattern
      go (inl turned) = exchanged_key ready within of_items keeps (are_partners.partner i j within is) out turned
      go (inr turned) =
          absurd (omega (
            arith,
            no_sooner.no_sooner i j within is,
            first_sooner ready within of_items keeps (are_partners.partner i j within is) out turned,
          ))

  -- an item and its partner exchanged
  one_exchange : (pattern : List ℕ) → Keeps timed.levels S pattern → (timed_core timed timings cost).admits pattern ≡ true →
      (partner i : ℕ) → i < timed.items → get_or partners i 0 ≡ partner → is_out_of_order (timings_of timings timed.items) pattern partner i ≡ true →
      ((p : List ℕ) → measure timed timings p < measure timed timings pattern → Keeps timed.levels S p → (timed_core timed timings cost).admits p ≡ true →
      InOrder timed timings cost partners S p) →
      InOrder timed timings cost partners S pattern
  unfolding is_out_of_order
  one_exchange pattern keeps met zero i within is turned smaller = absurd (false_not_true refl turned)
  one_exchange pattern keeps met (suc j) i within is turned smaller =
      let its = are_partners.partner i j within is in
      let out = by_test turned in
      let found = smaller (exchanged pattern j i) (exchanged_measure ready within of_items keeps its out) (exchanged_keeps ready within of_items keeps its out)
      (exchanged_admitted ready within of_items keeps its out met) in
      record {
        ordered = found.ordered;
        keeps = found.keeps;
        admitted = found.admitted;
        in_order = found.in_order;
        same_cost = found.same_cost ∙ exchanged_cost ready within of_items keeps its out;
        no_larger_key = λ no_sooner.
            omega (arith, found.no_larger_key no_sooner, exchange_lowers_key pattern keeps j i within is out no_sooner);
      }

  by_measure : (n : ℕ) (pattern : List ℕ) → measure timed timings pattern < n → Keeps timed.levels S pattern → (timed_core timed timings cost).admits pattern ≡ true →
      InOrder timed timings cost partners S pattern
  unfolding is_in_order
  by_measure zero pattern below keeps met = absurd (omega arith)
  by_measure (suc n) pattern below keeps met =
      go (is_in_order (timings_of timings timed.items) partners pattern) refl (λ p less. by_measure n p (omega arith))
    where
      go : (b : Bool) → is_in_order (timings_of timings timed.items) partners pattern ≡ b →
          ((p : List ℕ) → measure timed timings p < measure timed timings pattern → Keeps timed.levels S p → (timed_core timed timings cost).admits p ≡ true →
          InOrder timed timings cost partners S p) →
          InOrder timed timings cost partners S pattern
      go true is smaller =
          record { ordered = pattern; keeps = keeps; admitted = met; in_order = is; same_cost = refl; no_larger_key = λ no_sooner. omega arith }
      go false is smaller =
          let (i, l, turned) = one_passes (λ i. is_out_of_order (timings_of timings timed.items) pattern (get_or partners i 0) i) _ is in
          one_exchange pattern keeps met (get_or partners i 0) i (omega (arith, counted ready)) refl turned smaller

  pub some_in_order : (pattern : List ℕ) → Keeps timed.levels S pattern → (timed_core timed timings cost).admits pattern ≡ true →
      InOrder timed timings cost partners S pattern
  some_in_order pattern = by_measure (suc (measure timed timings pattern)) pattern (omega arith)

-- at a level that puts the next item and its partner out of order nothing is reached in order
module _ {timed : Timed} {timings cost partners : List ℕ} {node : Node} {q : List ℕ} {T : List Bool} (ready : TimedItems timed timings)
    (are_partners : Partners timed timings cost timed.items partners) (stands : Stands timed timings cost node q (true ∷ T))
    (out : LevelOutOfOrder timings partners node) where
  within : node.item < timed.items
  within = omega (arith, stands.behind)

  earlier : out.partner < node.item
  earlier = (are_partners.partner node.item out.partner within out.is_partner).earlier

  -- the two in a pattern that goes on from there
  front_out_of_order : (r : List ℕ) →
      OutOfOrder (timings_of timings timed.items) (q ++ (suc node.level ∷ []) ++ r) out.partner node.item
  unfolding entry_ticks
  front_out_of_order r = record { runs = rw its (omega arith); turned = go out.turned }
    where
      its : get_or (q ++ (suc node.level ∷ []) ++ r) node.item 0 ≡ suc node.level
      its = rw (← stands.front) (entry_between q (suc node.level) r)

      partners_entry : get_or (q ++ (suc node.level ∷ []) ++ r) out.partner 0 ≡ get_or q out.partner 0
      partners_entry =
          ap (λ (p : List ℕ). get_or p out.partner 0) (append_assoc q (suc node.level ∷ []) r)
          ∙ get_or-append q ((suc node.level ∷ []) ++ r) 0 out.partner (omega (arith, stands.front, earlier))

      here : timing_in (timings_of timings timed.items) node.item ≡ timing_at timings node.item
      here = timing_of_lem timings timed.items node.item within

      there : timing_in (timings_of timings timed.items) out.partner ≡ timing_at timings out.partner
      there = timing_of_lem timings timed.items out.partner (omega (arith, within, earlier))

      go : LevelHigherFirst timings node out.partner ⊎ LevelLongerFirst timings node out.partner →
          HigherFirst (timings_of timings timed.items) (q ++ (suc node.level ∷ []) ++ r) out.partner node.item
          ⊎ LongerFirst (timings_of timings timed.items) (q ++ (suc node.level ∷ []) ++ r) out.partner node.item
      go (inl turned) =
          let chosen = digit_of_key stands.choices out.partner (node.item - suc out.partner) (omega (arith, stands.front, earlier)) in
          inl (record {
            due_no_sooner = rw (here, there) turned.due_no_sooner;
            higher = rw (its, partners_entry) (omega (arith, turned.higher, rw (← stands.key) at chosen));
            no_more_ticks = rw (its, partners_entry, ← stands.ticks out.partner, here) turned.no_more_ticks;
          })
      go (inr turned) =
          inr (record {
            due_sooner = rw (here, there) turned.due_sooner;
            more_ticks = rw (its, partners_entry, ← stands.ticks out.partner, here) turned.more_ticks;
          })

  pub out_of_order_is_not_reached : {u : Value} →
      Reached (passing (ordered timed timings partners) (timed_core timed timings cost)) (q ++ (suc node.level ∷ [])) T 0 u → ⊥
  unfolding is_in_order
  out_of_order_is_not_reached reached =
      let (r, keeps, met, worth) = reached_pattern _ reached in
      let pattern = q ++ (suc node.level ∷ []) ++ r in
      let in_order = ((and_is_true ((timed_core timed timings cost).admits pattern) (ordered timed timings partners pattern)).0 met).1 in
      let turned : ℕ → Bool = λ i.
      is_out_of_order (timings_of timings timed.items) pattern (get_or partners i 0) i in
      let kept : turned node.item ≡ false =
      not-true (turned node.item)
      ((every_iff (λ i. not (turned i)) (length (timings_of timings timed.items))).0 in_order node.item (rw (counted ready) within)) in
      false_not_true (rw out.is_partner at kept) (to_test (front_out_of_order r))
