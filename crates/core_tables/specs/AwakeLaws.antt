-- Costs alone are true costs and the surplus, so that the least of the ones less the surplus is the least of the others.
use Prim.Native.Nat.{ℕ, zero, suc, pred, ◌+◌, ◌-◌, ◌*◌, ◌≤◌, ◌<◌}
use Rattle.std.specs.Prelude.{◌≡◌, Bool, ltb, length}
use Rattle.std.proofs.Math.Path.{refl, sym, ap}
use Rattle.std.proofs.Common.{◌∙◌, inl, inr, mul-add, zero-mul, mul-zero, sub-add_cancel, leb-true, lt-ltb}
use Rattle.std.proofs.Math.Bool.{cond}
use mathlib.Core.List.{List, [], ◌∷◌}
use Rattle.std.proofs.Math.Nat.{suc_inj, suc-mul}
use native.Mathlib.Omega.{arith}
use Rattle.assignment.specs.AlikeLaws.{Alike}
use Rattle.assignment.specs.Assignment.{Item, Options}
use Rattle.assignment.specs.CoreTables.{Admitted, pattern_worth, CoreTable}
use Rattle.assignment.specs.Keeping.{Keeps, done, refused, kept}
use Rattle.assignment.specs.KeepingLaws.{kept_items_lem}
use Rattle.assignment.specs.Values.{Value, pair, AtMost, cheaper, tied, Attained, Least}
use Rattle.assignment.specs.ValueLaws.{none_above}
use Rattle.knapsack.specs.Offers.{Offer, entry_load, entry_cost, pattern_load, pattern_cost, load_options}
use Rattle.core_tables.specs.AwakeCores.{size, idle_load, awake_options, alone_cost, OfferedAlone, surplus, take_off}

-- what a load pays for and what it leaves make the whole span
whole_span : (unit : ℕ) {span load : ℕ} → load ≤ span → unit * (span - load) + unit * load ≡ unit * span
whole_span unit {span} {load} fits = sym (mul-add unit (span - load) load) ∙ ap (λ (x : ℕ). unit * x) (sub-add_cancel fits)

-- no item, no load
empty_load : {levels : ℕ} {T : List Bool} {pattern : List ℕ} (offers : List Offer) → Keeps levels T pattern → size T ≡ 0 → pattern_load offers pattern ≡ 0
unfolding pattern_load entry_load size
empty_load [] keeps empty = refl
empty_load (o ∷ offers) done empty = refl
empty_load (o ∷ offers) (refused keeps) empty = omega (arith, empty_load offers keeps (omega arith))
empty_load (o ∷ offers) (kept l h keeps) empty = absurd (omega arith)

module _ {levels span unit : ℕ} where
  others_alone : {offer alone : Offer} {offers alones : List Offer} → OfferedAlone levels span unit (offer ∷ offers) (alone ∷ alones) →
      OfferedAlone levels span unit offers alones
  others_alone given =
      record {
        for_all = suc_inj given.for_all;
        same_load = λ i l h. given.same_load (suc i) l (omega arith);
        alone_cost_lem = λ i l h. given.alone_cost_lem (suc i) l (omega arith);
      }

  alone_load : {T : List Bool} {pattern : List ℕ} (offers alone : List Offer) → OfferedAlone levels span unit offers alone →
      length T ≡ length offers → Keeps levels T pattern → pattern_load alone pattern ≡ pattern_load offers pattern
  unfolding pattern_load entry_load
  alone_load [] [] given beside keeps = refl
  alone_load [] (a ∷ alone) given beside keeps = absurd (omega (arith, given.for_all))
  alone_load (o ∷ offers) [] given beside keeps = absurd (omega (arith, given.for_all))
  alone_load (o ∷ offers) (a ∷ alone) given beside done = absurd (omega arith)
  alone_load (o ∷ offers) (a ∷ alone) given beside (refused keeps) =
      ap (λ (x : ℕ). 0 + x) (alone_load offers alone (others_alone given) (suc_inj beside) keeps)
  alone_load (o ∷ offers) (a ∷ alone) given beside (kept l h keeps) =
      omega (arith, given.same_load 0 l (omega arith) h, alone_load offers alone (others_alone given) (suc_inj beside) keeps)

  -- without a subtraction, and true also of no item
  alone_sum : {T : List Bool} {pattern : List ℕ} (offers alone : List Offer) → OfferedAlone levels span unit offers alone →
      length T ≡ length offers → Keeps levels T pattern → pattern_load offers pattern ≤ span →
      pattern_cost alone pattern + unit * pattern_load offers pattern ≡ pattern_cost offers pattern + size T * (unit * span)
  unfolding pattern_load pattern_cost entry_load entry_cost size alone_cost
  alone_sum [] [] given beside done fits = omega arith
  alone_sum [] [] given beside (refused keeps) fits = absurd (omega arith)
  alone_sum [] [] given beside (kept l h keeps) fits = absurd (omega arith)
  alone_sum [] (a ∷ alone) given beside keeps fits = absurd (omega (arith, given.for_all))
  alone_sum (o ∷ offers) [] given beside keeps fits = absurd (omega (arith, given.for_all))
  alone_sum (o ∷ offers) (a ∷ alone) given beside done fits = absurd (omega arith)
  alone_sum (o ∷ offers) (a ∷ alone) given beside (refused keeps) fits =
      omega (arith, alone_sum offers alone (others_alone given) (suc_inj beside) keeps (omega arith))
  alone_sum (o ∷ offers) (a ∷ alone) given beside (kept l h keeps) fits =
      omega (
        arith,
        given.alone_cost_lem 0 l (omega arith) h (omega arith),
        whole_span unit {span = span} {load = o.load l} (omega arith),
        alone_sum offers alone (others_alone given) (suc_inj beside) keeps (omega arith),
      )

  pub core_cost_lem : {T : List Bool} {pattern : List ℕ} (offers alone : List Offer) → OfferedAlone levels span unit offers alone →
      length T ≡ length offers → Keeps levels T pattern → pattern_load offers pattern ≤ span →
      pattern_cost alone pattern ≡ surplus (unit * span) (size T) + (pattern_cost offers pattern + unit * idle_load span offers pattern)
  unfolding surplus idle_load
  core_cost_lem {T} {pattern} offers alone given beside keeps fits =
      rw (kept_items_lem keeps) (go (size T) (empty_load offers keeps) (alone_sum offers alone given beside keeps fits))
    where
      go : (count : ℕ) → (count ≡ 0 → pattern_load offers pattern ≡ 0) →
          pattern_cost alone pattern + unit * pattern_load offers pattern ≡ pattern_cost offers pattern + count * (unit * span) →
          pattern_cost alone pattern
          ≡ surplus (unit * span) count + (pattern_cost offers pattern + unit * cond (ltb 0 count) (span - pattern_load offers pattern) 0)
      go zero none sum = let nothing = none refl in let paid : unit * pattern_load offers pattern ≡ 0 = rw nothing (mul-zero unit) in omega arith
      go (suc k) none sum = rw (lt-ltb 0 (suc k) (omega arith)) (omega (arith, suc-mul k (unit * span), whole_span unit fits))

pub taken_off : (s d : ℕ) {a b x y : ℕ} → s ≤ a → b ≡ s + d → AtMost (pair a x) (pair b y) → AtMost (pair (a - s) x) (pair d y)
taken_off s d {a} enough sum (cheaper h) = let less : a - s < d = omega arith in cheaper less
taken_off s d {a} enough sum (tied e h) = let same : a - s ≡ d = omega arith in tied same h

-- where each cost is another plus the same number, the least of the ones less that number is the least of the others
module _ {Has Has' : List ℕ → Type 0} {cost other key : List ℕ → ℕ} (s : ℕ) (there : (a : List ℕ) → Has a → Has' a)
    (back : (a : List ℕ) → Has' a → Has a) (sum : (a : List ℕ) → Has a → cost a ≡ s + other a) where
  pub least_less : {v : Value} → Least Has (λ a. pair (cost a) (key a)) v → Least Has' (λ a. pair (other a) (key a)) (take_off s v)
  unfolding take_off
  least_less {v} least = go least.attained least.below
    where
      worth : List ℕ → Value
      worth a = pair (cost a) (key a)

      go : {v : Value} → Attained Has worth v → ((a : List ℕ) → Has a → AtMost v (worth a)) → Least Has' (λ a. pair (other a) (key a)) (take_off s v)
      go (inl e) below =
          rw e
          (record { below = λ a has. absurd (none_above (rw e at (below a (back a has)))); attained = inl refl })
      go (inr (b, has, e)) below =
          let rest : cost b - s ≡ other b = omega (arith, sum b has) in
          rw e
          (record {
            below = λ a has'. taken_off s (other a) (omega (arith, sum b has)) (sum a (back a has')) (rw e at (below a (back a has')));
            attained = inr (b, there b has, ap (λ (c : ℕ). pair c (key b)) rest);
          })

module _ {levels span unit : ℕ} {offers alone : List Offer} (cores : ℕ) (items : List Item) (given : OfferedAlone levels span unit offers alone)
    (all : length offers ≡ length items) where
  plain : Options
  plain = load_options cores levels span alone items

  awake : Options
  awake = awake_options cores levels span unit offers items

  module _ (T : List Bool) (of_items : length T ≡ length items) where
    admitted_awake : {pattern : List ℕ} → Admitted plain T pattern → Admitted awake T pattern
    unfolding plain awake load_options awake_options
    admitted_awake admitted =
        record { keeps = admitted.keeps; admitted = rw (alone_load offers alone given (of_items ∙ sym all) admitted.keeps) at admitted.admitted }

    admitted_alone : {pattern : List ℕ} → Admitted awake T pattern → Admitted plain T pattern
    unfolding plain awake load_options awake_options
    admitted_alone admitted =
        record { keeps = admitted.keeps; admitted = rw (alone_load offers alone given (of_items ∙ sym all) admitted.keeps) admitted.admitted }

    pub admitted_cost : {pattern : List ℕ} → Admitted (load_options cores levels span alone items) T pattern →
        (load_options cores levels span alone items).core_cost pattern
        ≡ surplus (unit * span) (size T) + (awake_options cores levels span unit offers items).core_cost pattern
    unfolding plain awake load_options awake_options
    admitted_cost admitted =
        core_cost_lem offers alone given (of_items ∙ sym all) admitted.keeps (leb-true _ span (admitted_awake admitted).admitted)

  -- the table of the items alone, less the surplus of each set, is that of a core that pays for its idle ticks
  pub awake_core_table : {table : List Bool → Value} → CoreTable (load_options cores levels span alone items) table →
      CoreTable (awake_options cores levels span unit offers items) (λ T. take_off (surplus (unit * span) (size T)) (table T))
  unfolding plain awake load_options awake_options pattern_worth
  awake_core_table core =
      record {
        least = λ T of_items.
            least_less (surplus (unit * span) (size T)) (λ a. admitted_awake T of_items) (λ a. admitted_alone T of_items) (λ a.
            admitted_cost T of_items) (core.least T of_items);
      }

-- where idle ticks cost nothing, items alone cost what they cost together
pub free_alike : {levels span : ℕ} {offers alone : List Offer} (cores : ℕ) (items : List Item) → OfferedAlone levels span 0 offers alone →
    length offers ≡ length items → Alike (load_options cores levels span alone items) (awake_options cores levels span 0 offers items)
unfolding load_options awake_options surplus
free_alike {levels} {span} {offers} {alone} cores items given all =
    record {
      same_cores = refl;
      same_levels = refl;
      same_items = refl;
      same_admits = λ T of_items pattern keeps. rw (alone_load offers alone given (of_items ∙ sym all) keeps);
      same_cost = λ T of_items pattern admitted.
          let counted = admitted_cost cores items given all T of_items admitted in
          omega (arith, zero-mul span, mul-zero (pred (size T)));
    }
