-- From a table of one core's least values, a partition's value is the least worth of the plans that keep exactly its set on its
-- cores.
use Prim.Native.Nat.{ℕ, zero, suc, ◌*◌, ◌<◌}
use Rattle.std.specs.Prelude.{◌≡◌, refl, ◌⊎◌, Bool, true, List, ◌∷◌, length}
use Rattle.std.proofs.Math.Path.{sym, ap}
use Rattle.std.proofs.Common.{ap₂, ◌∙◌, one-mul, zero-add, eq-or-lt_of_le, arith}
use Rattle.std.proofs.Math.Logic.{inl, inr}
use Rattle.assignment.specs.Assignment.{Options, core_pattern, cores_cost}
use Rattle.assignment.specs.Values.{Value, pair, add, AtMost, Attained, Least}
use Rattle.assignment.specs.ValueLaws.{at_most-refl, at_most-trans, add_mono}
use Rattle.assignment.specs.Keys.{weight}
use Rattle.assignment.specs.Keeping.{Keeps, done, refused, kept, Runs, kept_worth}
use Rattle.assignment.specs.KeepingLaws.{refused_runs, level_runs}
use Rattle.assignment.specs.CoreTables.{Admitted, pattern_worth, CoreTable}
use Rattle.assignment.specs.Partition.{Parts, least_split, moved, best}
use Rattle.assignment.specs.SplitLaws.{part_length, rest_length, least_split-below, SplitAt, least_split-attained}
use Rattle.assignment.specs.CoreSplits.{CoreSplit, core_split_parts, core_split_top, core_split_rest, core_split_plan, some_core_split, merged, core_split_pattern, core_split_lower, core_split_key}

-- core 0 runs a pattern as it is
pattern_itself : {levels : ℕ} {T : List Bool} {pattern : List ℕ} → Keeps levels T pattern → core_pattern levels 0 pattern ≡ pattern
unfolding core_pattern
pattern_itself done = refl
pattern_itself {levels} (refused k) = ap₂ ◌∷◌ (refused_runs levels 0) (pattern_itself k)
pattern_itself {levels} (kept d h k) = ap₂ ◌∷◌ (level_runs levels 0 d h (omega arith)) (pattern_itself k)

-- cores cost the same where what each runs does
pub cores_cost_same : (o o' : Options) (k : ℕ) (plan plan' : List ℕ) →
    ((j : ℕ) → j < k → o.core_cost (core_pattern o.levels j plan) ≡ o'.core_cost (core_pattern o'.levels j plan')) →
    cores_cost o k plan ≡ cores_cost o' k plan'
unfolding cores_cost
cores_cost_same o o' zero plan plan' same = refl
cores_cost_same o o' (suc k) plan plan' same =
    rw (same k (omega arith), cores_cost_same o o' k plan plan' (λ j h. same j (omega arith)))

module _ (o : Options) where
  one_core_worth : {T : List Bool} {pattern : List ℕ} → Keeps o.levels T pattern → kept_worth o 1 pattern ≡ pattern_worth o pattern
  unfolding kept_worth pattern_worth cores_cost
  one_core_worth keeps = rw (pattern_itself keeps, zero-add)

  one_core : {T : List Bool} {pattern : List ℕ} → Admitted o T pattern → Runs o 1 T pattern
  one_core admitted =
      record {
        keeps = rw one-mul admitted.keeps;
        cores_admit = λ k h.
            let first_core : k ≡ 0 = omega arith in
            rw (first_core, pattern_itself admitted.keeps) admitted.admitted;
      }

  one_core_admits : {T : List Bool} {pattern : List ℕ} → Runs o 1 T pattern → Admitted o T pattern
  one_core_admits runs =
      let keeps = rw one-mul at runs.keeps in
      record { keeps = keeps; admitted = rw (pattern_itself keeps) at (runs.cores_admit 0 (omega arith)) }

  module _ {c : ℕ} {S T R : List Bool} {plan top rest : List ℕ} (split : CoreSplit o.levels c S T R plan top rest) where
    -- the worth of a plan is that of its parts
    core_split_worth : kept_worth o (suc c) plan
        ≡ add (add (pair 0 (c * o.levels * weight T)) (pattern_worth o top)) (kept_worth o c rest)
    unfolding kept_worth pattern_worth add cores_cost
    core_split_worth =
        let below = cores_cost_same o o c plan rest (λ j h. ap o.core_cost (core_split_lower h split)) in
        rw (core_split_pattern split) (ap₂ pair (omega arith) (core_split_key split))

    -- a plan's cores admit what they run where those of its parts do

    core_split_admitted : Runs o (suc c) S plan → Admitted o T top
    core_split_admitted runs =
        record {
          keeps = core_split_top split;
          admitted = rw (core_split_pattern split) at (runs.cores_admit c (omega arith));
        }

    core_split_runs_rest : Runs o (suc c) S plan → Runs o c R rest
    core_split_runs_rest runs =
        record {
          keeps = core_split_rest split;
          cores_admit = λ k h. rw (core_split_lower h split) at (runs.cores_admit k (omega arith));
        }

    core_split_runs : Admitted o T top → Runs o c R rest → Runs o (suc c) S plan
    core_split_runs on_top on_rest =
        record { keeps = core_split_plan split; cores_admit = λ k h. admits k (eq-or-lt_of_le h) }
      where
        admits : (k : ℕ) → (suc k ≡ suc c) ⊎ (suc k < suc c) → o.admits (core_pattern o.levels k plan) ≡ true
        admits k (inl e) = let d : k ≡ c = omega arith in rw (d, core_split_pattern split) on_top.admitted
        admits k (inr h) =
            let under : k < c = omega arith in rw (core_split_lower under split) (on_rest.cores_admit k under)

module _ {o : Options} {table : List Bool → Value} (core : CoreTable o table) where
  abbrev BestOn : ℕ → List Bool → Type 0
  BestOn c S = Least (Runs o (suc c) S) (kept_worth o (suc c)) (best o.levels table c S)

  one_core_least : (S : List Bool) → length S ≡ length o.items → BestOn 0 S
  unfolding best
  one_core_least S of_items =
      record {
        below = λ pattern runs.
            let admitted = one_core_admits o runs in
            rw (one_core_worth o admitted.keeps) ((core.least S of_items).below pattern admitted);
        attained = go (core.least S of_items).attained;
      }
    where
      go : {v : Value} → Attained (Admitted o S) (pattern_worth o) v → Attained (Runs o 1 S) (kept_worth o 1) v
      go (inl e) = inl e
      go (inr (pattern, admitted, e)) = inr (pattern, one_core o admitted, e ∙ sym (one_core_worth o admitted.keeps))

  module _ (c : ℕ) (rest_least : (R : List Bool) → length R ≡ length o.items → BestOn c R) (S : List Bool)
      (of_items : length S ≡ length o.items) where
    abbrev sum : List Bool → List Bool → Value
    sum T R = add (moved (suc c * o.levels) table T) (best o.levels table c R)

    split_below : (plan : List ℕ) → Runs o (suc (suc c)) S plan → AtMost (least_split S sum) (kept_worth o (suc (suc c)) plan)
    unfolding moved
    split_below plan runs =
        let q = some_core_split runs.keeps in
        let parts = core_split_parts q.split in
        let top = (core.least q.part (part_length parts ∙ of_items)).below q.top (core_split_admitted o q.split runs) in
        let rest = (rest_least q.others (rest_length parts ∙ of_items)).below q.rest (core_split_runs_rest o q.split runs) in
        at_most-trans (least_split-below sum parts)
        (rw (core_split_worth o q.split) (add_mono (add_mono (at_most-refl _) top) rest))

    parts_attained : {T R : List Bool} {u v : Value} → Parts S T R → Attained (Admitted o T) (pattern_worth o) u →
        Attained (Runs o (suc c) R) (kept_worth o (suc c)) v →
        Attained (Runs o (suc (suc c)) S) (kept_worth o (suc (suc c))) (add (add (pair 0 (suc c * o.levels * weight T)) u) v)
    unfolding add kept_worth pattern_worth
    parts_attained parts (inl d) rest = inl (rw d)
    parts_attained parts (inr (top, on_top, d)) (inl e) = inl (rw (d, e))
    parts_attained parts (inr (top, on_top, d)) (inr (rest, on_rest, e)) =
        let (plan, p) = merged {c = suc c} parts on_top.keeps on_rest.keeps in
        inr (plan, core_split_runs o p on_top on_rest, rw (d, e) (sym (core_split_worth o p)))

    split_attained : {v : Value} → SplitAt S sum v → Attained (Runs o (suc (suc c)) S) (kept_worth o (suc (suc c))) v
    unfolding moved
    split_attained s =
        let top = (core.least s.part (part_length s.parts ∙ of_items)).attained in
        let rest = (rest_least s.others (rest_length s.parts ∙ of_items)).attained in
        rw s.value (parts_attained s.parts top rest)

  pub best_least : (c : ℕ) (S : List Bool) → length S ≡ length o.items →
      Least (Runs o (suc c) S) (kept_worth o (suc c)) (best o.levels table c S)
  unfolding best
  best_least zero S of_items = one_core_least S of_items
  best_least (suc c) S of_items =
      record {
        below = split_below c (best_least c) S of_items;
        attained = split_attained c (best_least c) S of_items (least_split-attained S _);
      }
