-- How large values grow: what 64-bit numbers have to hold.
use Rattle.std.specs.Prelude.{ℕ, zero, suc, ◌+◌, ◌*◌, ◌^◌, ◌≤◌, ◌<◌, ◌≡◌, Bool, List, length}
use Rattle.std.proofs.Common.{sym, ◌∙◌, inl, inr, one-mul, suc-mul, arith}
use Rattle.assignment.specs.Assignment.{Options}
use Rattle.assignment.specs.Values.{Value, none, pair, add, Attained, Within}
use Rattle.assignment.specs.Keys.{key_base, plan_key, weight}
use Rattle.assignment.specs.Keeping.{Keeps}
use Rattle.assignment.specs.KeyLaws.{keeps_in_base, keeps_length, key_below}
use Rattle.assignment.specs.CoreTables.{Admitted, pattern_worth, CoreTable}
use Rattle.assignment.specs.Partition.{Parts, moved, best}
use Rattle.assignment.specs.SplitLaws.{part_length, rest_length, SplitAt, least_split-attained}
use Rattle.assignment.specs.CoreSplits.{core_split_plan, core_split_key, merged}

-- none, or a cost of at most `most` with the key of a plan that keeps exactly the set, with no choice above `choices`
pub data Bounded (choices most : ℕ) (S : List Bool) : Value → Type 0 where
  absent : Bounded choices most S none
  present : (cost : ℕ) {plan : List ℕ} → cost ≤ most → Keeps choices S plan → Bounded choices most S (pair cost (plan_key plan))

-- a table of such values, one for each set of n items
pub record BoundedTable (choices n most : ℕ) (table : List Bool → Value) : Type 0 where
  pub entry : (S : List Bool) → length S ≡ n → Bounded choices most S (table S)

-- where each choice is a digit, the keys have n digits
pub bounded_within : {choices n most : ℕ} {table : List Bool → Value} → choices < key_base → BoundedTable choices n most table →
    (S : List Bool) → length S ≡ n → Within most (key_base ^ n) (table S)
bounded_within {choices} {n} {most} small bounded S of_items = go (bounded.entry S of_items)
  where
    go : {v : Value} → Bounded choices most S v → Within most (key_base ^ n) v
    go absent = Within.absent
    go (present cost cheap keeps) =
        let in_plan = keeps_length keeps ∙ of_items in
        Within.present cheap (rw in_plan at (key_below (keeps_in_base small keeps)))

-- a table of least values, where no admitted pattern costs more than `most`
pub core_table_bounded : {o : Options} {table : List Bool → Value} {most : ℕ} → CoreTable o table →
    ((T : List Bool) → length T ≡ length o.items → (pattern : List ℕ) → Admitted o T pattern → o.core_cost pattern ≤ most) →
    BoundedTable o.levels (length o.items) most table
unfolding pattern_worth
core_table_bounded {o} {table} {most} core cheap = record { entry = λ T of_items. go T of_items (core.least T of_items).attained }
  where
    go : (T : List Bool) → length T ≡ length o.items → {v : Value} → Attained (Admitted o T) (pattern_worth o) v → Bounded o.levels most T v
    go T of_items (inl e) = rw e absent
    go T of_items (inr (pattern, admitted, e)) = rw e (present (o.core_cost pattern) (cheap T of_items pattern admitted) admitted.keeps)

sum_bounded : (c : ℕ) {levels a b : ℕ} {S T R : List Bool} {u v : Value} → Parts S T R → Bounded levels a T u →
    Bounded (c * levels) b R v →
    Bounded (suc c * levels) (b + a) S (add (add (pair 0 (c * levels * weight T)) u) v)
unfolding add
sum_bounded c parts absent rest = absent
sum_bounded c parts (present x low top) absent = absent
sum_bounded c parts (present x low top) (present y cheap rest) =
    let (plan, split) = merged {c = c} parts top rest in
    rw (sym (core_split_key split)) (present (0 + x + y) (omega arith) (core_split_plan split))

-- on c cores more the costs add up
pub best_bounded : {levels n most : ℕ} {table : List Bool → Value} → BoundedTable levels n most table → (c : ℕ) →
    BoundedTable (suc c * levels) n (suc c * most) (best levels table c)
unfolding best moved
best_bounded {levels} {n} {most} bounded zero =
    record { entry = λ S of_items. rw (one-mul levels, one-mul most) (bounded.entry S of_items) }
best_bounded {levels} {n} {most} {table} bounded (suc c) =
    record { entry = λ S of_items. go of_items (least_split-attained S _) (best_bounded bounded c) }
  where
    go : {S : List Bool} {v : Value} → length S ≡ n →
        SplitAt S (λ T R. add (moved (suc c * levels) table T) (best levels table c R)) v →
        BoundedTable (suc c * levels) n (suc c * most) (best levels table c) →
        Bounded (suc (suc c) * levels) (suc (suc c) * most) S v
    go of_items s below =
        let top = bounded.entry s.part (part_length s.parts ∙ of_items) in
        let rest = below.entry s.others (rest_length s.parts ∙ of_items) in
        rw (s.value, suc-mul (suc c) most) (sum_bounded (suc c) s.parts top rest)
