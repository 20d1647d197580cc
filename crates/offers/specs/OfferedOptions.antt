-- The arrays that the search is offered, and the problem's options that they stand for: task i at level l has place
-- i × 8 + l.
use Rattle.std.specs.Prelude.{ℕ, ◌+◌, ◌*◌, ◌≤◌, ◌<◌, Bool, false, List, ◌⊎◌, ◌≡◌, length, get_or, set}
use Rattle.std.proofs.Common.{inl, inr, ⊎_elim, ◌∙◌, arith, length-set, get_or-set_same, get_or-set_other, below_more}
use Rattle.laws.specs.Below.{lt_or_le}
use Rattle.ranges.specs.Limits.{most_levels, most_tasks}
use Rattle.instance.specs.Node.{Problem, level_count, task_at, task_count, span}
use Rattle.offers.specs.OptionsOf.{item_of, offer_of, offered_cost}

-- task i at level l: a load that no core takes is never chosen, and its cost does not matter
pub record LevelOffered (p : Problem) (load cost : List ℕ) (i l : ℕ) : Type 0 where
  pub same_load : get_or load (i * most_levels + l) 0 ≡ (offer_of p (task_at p i)).load l
  pub same_cost : (offer_of p (task_at p i)).load l ≤ span p → get_or cost (i * most_levels + l) 0 ≡ offered_cost p (task_at p i) l

-- the levels of the tasks whose places are below `end`
pub record LevelsOffered (p : Problem) (end : ℕ) (load cost : List ℕ) : Type 0 where
  pub load_length : length load ≡ most_tasks * most_levels
  pub cost_length : length cost ≡ most_tasks * most_levels
  pub level : (i l : ℕ) → l < level_count p → i * most_levels + l < end → LevelOffered p load cost i l

-- the first n tasks
pub record OptionsOffered (p : Problem) (n : ℕ) (load cost refusal : List ℕ) (must : List Bool) : Type 0 where
  pub levels : LevelsOffered p (n * most_levels) load cost
  pub refusal_length : length refusal ≡ most_tasks
  pub must_length : length must ≡ most_tasks
  pub same_refusal : (i : ℕ) → i < n → get_or refusal i 0 ≡ (item_of p (task_at p i)).refusal
  pub same_must : (i : ℕ) → i < n → get_or must i false ≡ (item_of p (task_at p i)).must

pub offered_level : {p : Problem} {load cost : List ℕ} → level_count p ≤ most_levels → LevelsOffered p (task_count p * most_levels) load cost →
    (i l : ℕ) → i < task_count p → l < level_count p → LevelOffered p load cost i l
offered_level few o i l h k = o.level i l k (omega arith)

pub nothing_offered : (p : Problem) (load cost refusal : List ℕ) (must : List Bool) → length load ≡ most_tasks * most_levels →
    length cost ≡ most_tasks * most_levels → length refusal ≡ most_tasks → length must ≡ most_tasks →
    OptionsOffered p 0 load cost refusal must
nothing_offered p load cost refusal must loads costs refusals musts =
    record {
      levels = record { load_length = loads; cost_length = costs; level = λ i l h none. absurd (omega arith) };
      refusal_length = refusals;
      must_length = musts;
      same_refusal = λ i none. absurd (omega arith);
      same_must = λ i none. absurd (omega arith);
    }

-- what an array holds below n, and one place more
module _ {A : Type 0} (f : ℕ → A) (blank : A) where
  stored_more : (xs : List A) (n : ℕ) (x : A) → n < length xs → ((i : ℕ) → i < n → get_or xs i blank ≡ f i) → x ≡ f n →
      (i : ℕ) → i < n + 1 → get_or (set xs n x) i blank ≡ f i
  stored_more xs n x room stored next =
      below_more
      _
      n
      (λ i h. get_or-set_other xs n i x blank (λ e. omega arith) ∙ stored i h)
      (get_or-set_same xs n x blank room ∙ next)

module _ (p : Problem) (levels : level_count p ≤ most_levels) (i : ℕ) (load cost : List ℕ) where
  module _ (l x y : ℕ) (within : i < most_tasks) (below : l < level_count p) (before : LevelsOffered p (i * most_levels + l) load cost)
      (same_load : x ≡ (offer_of p (task_at p i)).load l)
      (same_cost : x ≤ span p → y ≡ offered_cost p (task_at p i) l) where
    level_after : (j m : ℕ) → m < level_count p → (j * most_levels + m < i * most_levels + l) ⊎ (i * most_levels + l ≤ j * most_levels + m) →
        j * most_levels + m < i * most_levels + (l + 1) →
        LevelOffered p (set load (i * most_levels + l) x) (set cost (i * most_levels + l) y) j m
    level_after j m h (inl earlier) k =
        let old = before.level j m h earlier in
        let other : j * most_levels + m ≡ i * most_levels + l → ⊥ = λ e. omega arith in
        record {
          same_load = get_or-set_other load _ _ x 0 other ∙ old.same_load;
          same_cost = λ fits. get_or-set_other cost _ _ y 0 other ∙ old.same_cost fits;
        }
    level_after j m h (inr later) k =
        let task : j ≡ i = omega arith in
        let level : m ≡ l = omega arith in
        rw (task, level)
        (record {
          same_load = get_or-set_same load _ x 0 (omega (arith, before.load_length)) ∙ same_load;
          same_cost = λ fits. get_or-set_same cost _ y 0 (omega (arith, before.cost_length)) ∙ same_cost (rw same_load fits);
        })

    -- one level more of task i
    pub level_offered : LevelsOffered p (i * most_levels + (l + 1)) (set load (i * most_levels + l) x) (set cost (i * most_levels + l) y)
    level_offered =
        record {
          load_length = length-set load _ x ∙ before.load_length;
          cost_length = length-set cost _ y ∙ before.cost_length;
          level = λ j m h. level_after j m h (lt_or_le _ _);
        }

  -- every level of task i
  pub task_offered : LevelsOffered p (i * most_levels + level_count p) load cost → LevelsOffered p (i * most_levels + most_levels) load cost
  task_offered all =
      record {
        load_length = all.load_length;
        cost_length = all.cost_length;
        level = λ j l h k. all.level j l h (⊎_elim (λ earlier. omega arith) (λ later. omega arith) (lt_or_le j i));
      }

-- one task more
pub options_offered : (p : Problem) (n : ℕ) (load cost refusal : List ℕ) (must : List Bool) (lent_load lent_cost : List ℕ) (x : ℕ) (b : Bool) →
    n < most_tasks → OptionsOffered p n lent_load lent_cost refusal must → LevelsOffered p (n * most_levels + most_levels) load cost →
    x ≡ (item_of p (task_at p n)).refusal → b ≡ (item_of p (task_at p n)).must →
    OptionsOffered p (n + 1) load cost (set refusal n x) (set must n b)
options_offered p n load cost refusal must lent_load lent_cost x b room before levels same_refusal same_must =
    record {
      levels =
          record {
            load_length = levels.load_length;
            cost_length = levels.cost_length;
            level = λ i l h k. levels.level i l h (omega arith);
          };
      refusal_length = length-set refusal n x ∙ before.refusal_length;
      must_length = length-set must n b ∙ before.must_length;
      same_refusal =
          stored_more (λ i. (item_of p (task_at p i)).refusal) 0 refusal n x (omega (arith, before.refusal_length)) before.same_refusal same_refusal;
      same_must =
          stored_more (λ i. (item_of p (task_at p i)).must) false must n b (omega (arith, before.must_length)) before.same_must same_must;
    }
