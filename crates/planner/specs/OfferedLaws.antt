-- What is offered for a problem is what its cores admit and cost, and what its refusals cost.
use Prim.Native.Nat.{ℕ, zero, suc, pred, ◌+◌, ◌*◌, ◌/◌, ◌%◌, ◌≤◌, ◌<◌}
use Rattle.std.specs.Prelude.{Bool, true, false, not, ◌&&◌, List, [], ◌∷◌, ◌≡◌, ◌↔◌, leb, eqb, length, get_or}
use Rattle.std.proofs.Math.Bool.{cond}
use Rattle.std.proofs.Math.Path.{refl, sym, ap}
use Rattle.std.proofs.Common.{◌∙◌, mul_assoc, le_of_eq, arith, leb-true, le-leb, take_all}
use Rattle.std.proofs.Math.Nat.{div-eq_of_lt, mod-eq_of_lt, mul-zero, mul-add}
use Rattle.std.proofs.Math.Dec.{eqb-suc-zero}
use Rattle.laws.specs.JoinedLaws.{length-list_of, get_d-list_of, list_of-same, take_is-list_of}
use Rattle.laws.specs.Lists.{list_of}
use Rattle.laws.specs.SumLaws.{sum_cong, sum_scaled}
use Rattle.laws.specs.SumOrderLaws.{sum_from_first, total_is_sum}
use Rattle.laws.specs.Sums.{sum}
use Rattle.laws.specs.Truth.{false_not_true, not_true_is_false}
use Rattle.ranges.specs.Limits.{most_levels}
use Rattle.instance.specs.Node.{Problem, level_count, level_at, no_task, task_at, task_count, span}
use Rattle.instance.specs.Valid.{Valid, DueAtPeriodEnd}
use Rattle.plan_rules.specs.FitLaws.{fits_iff_load}
use Rattle.plan_rules.specs.Quantities
use Rattle.plan_rules.specs.Quantities.{choice_at, is_refused, level_of, ticks, jobs, job_ticks, ticks_on, load_on, core_load}
use Rattle.prices.specs.Prices.{busy_energy, kept_count, is_awake, idle_ticks, core_energy}
use Rattle.assignment.specs.AlikeLaws.{Alike}
use Rattle.assignment.specs.Keeping.{Keeps, done, refused, kept, kept_items}
use Rattle.assignment.specs.KeyLaws.{keeps_length}
use Rattle.knapsack.specs.Offered.{offer_at, offers_of}
use Rattle.knapsack.specs.Offers.{Offer, entry_load, entry_cost, pattern_load, pattern_cost}
use Rattle.core_tables.specs.AwakeCores.{size, idle_load, awake_options, no_offer, OfferedAlone}
use Rattle.values.specs.Items.{item_at, items_of}
use Rattle.offers.specs.OfferedOptions.{LevelOffered, LevelsOffered, OptionsOffered, offered_level}
use Rattle.planner.specs.OptionsLaws.{item_count, item_at_lem}
use Rattle.offers.specs.OptionsOf.{jobs_of, load_at, item_of, offer_of, offers_in, idle_cost, options_of}

-- a pattern has no choice above the levels
pub keeps_choice : {most : ℕ} {T : List Bool} {pattern : List ℕ} → Keeps most T pattern → (i : ℕ) → choice_at pattern i ≤ most
keeps_choice done i = omega arith
keeps_choice (refused k) zero = omega arith
keeps_choice (refused k) (suc i) = keeps_choice k i
keeps_choice (kept d h k) zero = h
keeps_choice (kept d h k) (suc i) = keeps_choice k i

-- the items that a pattern keeps, counted one after the other
size_is_sum : (pattern : List ℕ) → size (kept_items pattern) ≡ sum (λ i. cond (not (is_refused pattern i)) 1 0) (length pattern)
unfolding size kept_items sum
size_is_sum [] = refl
size_is_sum (c ∷ pattern) =
    ap (λ (k : ℕ). cond (not (eqb c 0)) 1 0 + k) (size_is_sum pattern)
    ∙ sym (sum_from_first (λ i. cond (not (is_refused (c ∷ pattern) i)) 1 0) (length pattern))

-- a test that passes exactly where a number is at most another is the test of that
decided : (a b : ℕ) (t : Bool) → (t ≡ true) ↔ (a ≤ b) → leb a b ≡ t
decided a b true iff = le-leb a b (iff.0 refl)
decided a b false iff = not_true_is_false _ (λ e. false_not_true refl (iff.1 (leb-true a b e)))

module _ (p : Problem) where
  module _ (i : ℕ) where
    -- what choice c asks of core 0 for task i, as the problem says it
    load_of : ℕ → ℕ
    load_of c = jobs p i * cond (not (eqb c 0) && eqb (pred c / level_count p) 0) (ticks p.start (task_at p i).cycles (level_at p (pred c % level_count p)).speed) 0

    entry_load_lem : (c : ℕ) → c ≤ level_count p → entry_load (offer_of p (task_at p i)) c ≡ load_of c
    unfolding entry_load load_of offer_of load_at jobs_of jobs
    entry_load_lem zero low = sym (mul-zero (jobs p i))
    entry_load_lem (suc l) low = rw (eqb-suc-zero, div-eq_of_lt low, mod-eq_of_lt low) refl

    entry_cost_lem : (c : ℕ) → c ≤ level_count p →
        entry_cost (offer_of p (task_at p i)) c ≡ p.weights.energy * (load_of c * (level_at p (pred c % level_count p)).power)
    unfolding entry_cost load_of offer_of load_at jobs_of jobs
    entry_cost_lem zero low = omega (arith, mul-zero (jobs p i))
    entry_cost_lem (suc l) low = rw (eqb-suc-zero, div-eq_of_lt low, mod-eq_of_lt low) refl

  -- a choice of a pattern is on core 0
  kept_on_core : (c : ℕ) → c ≤ level_count p → not (eqb c 0) ≡ (not (eqb c 0) && eqb (pred c / level_count p) 0)
  kept_on_core zero low = refl
  kept_on_core (suc l) low = rw (eqb-suc-zero, div-eq_of_lt low) refl

  module _ {T : List Bool} {pattern : List ℕ} (keeps : Keeps (level_count p) T pattern) (of_items : length T ≡ task_count p) where
    one_per_task : length pattern ≡ task_count p
    one_per_task = keeps_length keeps ∙ of_items

    -- sums over offers are sums over tasks
    by_task : (part : Offer → ℕ → ℕ) (total : List Offer → List ℕ → ℕ) → ((pattern : List ℕ) → total [] pattern ≡ 0) →
        ((offer : Offer) (offers : List Offer) (c : ℕ) (pattern : List ℕ) → total (offer ∷ offers) (c ∷ pattern) ≡ part offer c + total offers pattern) →
        (f : ℕ → ℕ) → ((i : ℕ) → i < task_count p → part (offer_of p (task_at p i)) (choice_at pattern i) ≡ f i) →
        total (offers_in p) pattern ≡ sum f (task_count p)
    unfolding offers_in
    by_task part total none more f same =
        let offer : ℕ → Offer = λ i. offer_of p (task_at p i) in
        total_is_sum (offer 0) part total none more (list_of offer (task_count p)) pattern (one_per_task ∙ sym (length-list_of offer (task_count p)))
        ∙ rw (length-list_of offer (task_count p))
        (sum_cong _ _ _ (λ i h. rw (get_d-list_of offer (task_count p) i (offer 0) h) (same i h)))

    pub tasks_load : pattern_load (offers_in p) pattern ≡ core_load p pattern 0
    unfolding pattern_load core_load load_on ticks_on Quantities.keeps job_ticks load_of
    tasks_load =
        by_task entry_load pattern_load (λ pattern. refl) (λ offer offers c pattern. refl) (load_on p pattern 0)
        (λ i h. entry_load_lem i (choice_at pattern i) (keeps_choice keeps i))

    tasks_cost : pattern_cost (offers_in p) pattern ≡ p.weights.energy * busy_energy p pattern 0
    unfolding pattern_cost busy_energy load_on ticks_on Quantities.keeps job_ticks load_of
    tasks_cost =
        by_task entry_cost pattern_cost (λ pattern. refl) (λ offer offers c pattern. refl)
        (λ i. p.weights.energy * (load_on p pattern 0 i * (level_at p (level_of p pattern i)).power))
        (λ i h. entry_cost_lem i (choice_at pattern i) (keeps_choice keeps i))
        ∙ sum_scaled p.weights.energy _ (task_count p)

    tasks_kept : size (kept_items pattern) ≡ kept_count p pattern 0
    unfolding kept_count Quantities.keeps
    tasks_kept =
        size_is_sum pattern
        ∙ rw one_per_task
        (sum_cong _ _ (task_count p) (λ i h. ap (λ (b : Bool). cond b 1 0) (kept_on_core (choice_at pattern i) (keeps_choice keeps i))))

    tasks_idle : idle_load (span p) (offers_in p) pattern ≡ idle_ticks p pattern 0
    unfolding idle_load idle_ticks is_awake
    tasks_idle = rw (tasks_kept, tasks_load) refl

  -- awake cores cost what the problem's cores do
  pub awake_cost : {T : List Bool} {pattern : List ℕ} → Keeps (level_count p) T pattern → length T ≡ task_count p →
      pattern_cost (offers_in p) pattern + idle_cost p * idle_load (span p) (offers_in p) pattern ≡ p.weights.energy * core_energy p pattern 0
  unfolding core_energy idle_cost
  awake_cost keeps of_items = rw (tasks_cost keeps of_items, tasks_idle keeps of_items, mul-add, mul_assoc) refl

  -- where no deadline is before the period's end, the cores of the problem's options admit and cost what awake cores do
  pub awake_alike : Valid p → DueAtPeriodEnd p.tasks → Alike (awake_options p.cores (level_count p) (span p) (idle_cost p) (offers_in p) (options_of p).items) (options_of p)
  unfolding awake_options options_of
  awake_alike v due =
      record {
        same_cores = refl;
        same_levels = refl;
        same_items = refl;
        same_admits = λ T of_items pattern keeps.
            rw (tasks_load keeps (of_items ∙ item_count p))
            (decided _ _ _ (fits_iff_load p v pattern 0 (λ i h. due.each i h)));
        same_cost = λ T of_items pattern admitted. awake_cost admitted.keeps (of_items ∙ item_count p);
      }

  pub offers_beside_items : length (offers_in p) ≡ length (options_of p).items
  unfolding offers_in
  offers_beside_items = length-list_of (λ i. offer_of p (task_at p i)) (task_count p) ∙ sym (item_count p)

-- the arrays have what each task costs alone
pub offered_alone : {p : Problem} {load cost : List ℕ} → Valid p → LevelsOffered p (task_count p * most_levels) load cost →
    OfferedAlone (level_count p) (span p) (idle_cost p) (offers_in p) (offers_of load cost (task_count p))
unfolding offers_in offers_of offer_at no_offer
offered_alone {p} {load} {cost} v o =
    record {
      for_all = length-list_of _ n ∙ sym (length-list_of _ n);
      same_load = λ i l h k. rw (listed i h, offered i h) (at i l h k).same_load;
      alone_cost_lem = λ i l h k fits. rw (listed i h, offered i h) ((at i l h k).same_cost (rw (listed i h) at fits));
    }
  where
    n : ℕ
    n = task_count p

    below : (i : ℕ) → i < length (list_of (λ i. offer_of p (task_at p i)) n) → i < n
    below i h = rw (length-list_of (λ i. offer_of p (task_at p i)) n) at h

    at : (i l : ℕ) → i < length (list_of (λ i. offer_of p (task_at p i)) n) → l < level_count p → LevelOffered p load cost i l
    at i l h k = offered_level v.level_count_bound.at_most o i l (below i h) k

    listed : (i : ℕ) → i < length (list_of (λ i. offer_of p (task_at p i)) n) → get_or (list_of (λ i. offer_of p (task_at p i)) n) i no_offer ≡ offer_of p (task_at p i)
    listed i h = get_d-list_of (λ i. offer_of p (task_at p i)) n i no_offer (below i h)

    offered : (i : ℕ) → i < length (list_of (λ i. offer_of p (task_at p i)) n) → get_or (list_of (offer_at load cost) n) i no_offer ≡ offer_at load cost i
    offered i h = get_d-list_of (offer_at load cost) n i no_offer (below i h)

-- refusals as they are offered
pub offered_items : {p : Problem} {load cost refusal : List ℕ} {must : List Bool} → OptionsOffered p (task_count p) load cost refusal must →
    items_of refusal must (task_count p) ≡ (options_of p).items
unfolding items_of item_at
offered_items {p} {load} {cost} {refusal} {must} o =
    list_of-same (item_at refusal must) (λ i. get_or (options_of p).items i (item_of p no_task)) (task_count p)
    (λ i h. same_item i h ∙ sym (item_at_lem p i))
    ∙ sym (take_is-list_of (options_of p).items (item_of p no_task) (task_count p) (le_of_eq (sym (item_count p))))
    ∙ take_all _ _ (le_of_eq (item_count p))
  where
    same_item : (i : ℕ) → i < task_count p → item_at refusal must i ≡ item_of p (task_at p i)
    same_item i h = λ k. record { refusal = o.same_refusal i h k; must = o.same_must i h k }
