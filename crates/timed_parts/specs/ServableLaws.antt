-- Sets with fewer items are served where those with more are. Where the items of a set are not served at their fewest ticks, no pattern of a
-- set that has them is admitted.
use Prim.Native.Nat.{ℕ, zero, suc, ◌+◌, ◌-◌, ◌*◌, ◌/◌, ◌%◌, ◌^◌, ◌≤◌, ◌<◌}
use Rattle.std.specs.Prelude.{Option, is_none, Bool, true, false, cond, List, [], ◌∷◌, ◌≡◌, length, set, replicate}
use Rattle.std.proofs.Math.Path.{refl, ap}
use Rattle.std.proofs.Common.{sym, ◌∙◌, le_refl, zero-add, pow-suc, length-set, pow-add, pow_pos, get_or-set_same, get_or-set_other}
use Rattle.std.proofs.Math.Nat.{div-eq_of_lt, le_trans, mul-add-div_right, mul-le-mul_right, zero-div}
use native.Mathlib.Omega.{arith}
use borrow.Author.Count.{below_more}
use Rattle.std.proofs.Math.ListN.{get_or}
use Rattle.laws.specs.SumLaws.{sum_zero}
use Rattle.laws.specs.Truth.{false_not_true, not_true_is_false}
use Rattle.dispatch.specs.Rows.{CoreTasks}
use Rattle.edf.specs.Demand.{demand_at, ticks_due}
use Rattle.edf.specs.DemandLaws.{meets_demand_within}
use Rattle.demand.specs.UnmetTicks.{UnmetTick}
use Rattle.demand.specs.UnmetTickLaws.{unmet_tick_decides}
use Rattle.assignment.specs.Keeping.{Keeps, done, refused, kept}
use Rattle.assignment.specs.Limits.{most_items}
use Rattle.assignment.specs.SetLaws.{set_number-below}
use Rattle.assignment.specs.Sets.{set_number}
use Rattle.lagrangian.specs.AdmittedLaws.{counted}
use Rattle.lagrangian.specs.DemandBounds.{SameTasks, same_tasks_meet}
use Rattle.lagrangian.specs.TimedItems.{TimedItems, timed_core}
use Rattle.lagrangian.specs.PatternLaws.{timing_of_lem}
use Rattle.lagrangian.specs.TimedCores.{entry_ticks, pattern_tasks, timing_at, timing_in, timings_of, timing_width}
use Rattle.lagrangian.specs.declared.Timed.{Timed}
use Rattle.timed_parts.specs.BoundLaws.{fewer_ticks_meet}
use Rattle.timed_parts.specs.TickColumns.{column_jobs, in_set, SetColumn, set_jobs, served_at, FewestTicks, FewestColumn, Includes, NoneServes}

-- the first item's bit does not show in those of the others
first_bit_off : (b : Bool) (n i r : ℕ) → i < n → (cond b (2 ^ n) 0 + r) / 2 ^ (n - 1 - i) % 2 ≡ r / 2 ^ (n - 1 - i) % 2
first_bit_off false n i r l = rw zero-add refl
first_bit_off true n i r l =
    let m = n - 1 - i in
    let all : n ≡ suc i + m = omega arith in
    let power : 2 ^ n ≡ 2 ^ suc i * 2 ^ m = ap (λ (k : ℕ). 2 ^ k) all ∙ pow-add 2 (suc i) m in
    let divided : (2 ^ n + r) / 2 ^ m ≡ 2 ^ suc i + r / 2 ^ m = rw power (mul-add-div_right (pow_pos m) (2 ^ suc i) r) in
    rw divided (omega (arith, pow-suc 2 i))

-- the bits of a set's number are its flags
flag_in_set : (n : ℕ) (S : List Bool) → length S ≡ n → (i : ℕ) → i < n → in_set n (set_number n S) i ≡ cond (get_or S i false) 1 0
unfolding set_number
flag_in_set zero S of_items i l = absurd (omega arith)
flag_in_set (suc n) [] of_items i l = absurd (omega arith)
flag_in_set (suc n) (false ∷ S) of_items zero l =
    let all : suc n - 1 - 0 ≡ n = omega arith in
    rw (zero-add, all, div-eq_of_lt (set_number-below n S)) refl
flag_in_set (suc n) (true ∷ S) of_items zero l =
    let all : suc n - 1 - 0 ≡ n = omega arith in
    let one : 1 * 2 ^ n ≡ 2 ^ n = omega arith in
    let divided : (2 ^ n + set_number n S) / 2 ^ n ≡ 1 + set_number n S / 2 ^ n = rw one at (mul-add-div_right (pow_pos n) 1 (set_number n S)) in
    rw (all, divided, div-eq_of_lt (set_number-below n S)) refl
flag_in_set (suc n) (b ∷ S) of_items (suc i) l =
    let same : suc n - 1 - suc i ≡ n - 1 - i = omega arith in
    rw same (first_bit_off b n i (set_number n S) (omega arith) ∙ flag_in_set n S (omega arith) i (omega arith))

module _ {levels : ℕ} where
  not_run_flag : {S : List Bool} {pattern : List ℕ} → Keeps levels S pattern → (i : ℕ) → get_or pattern i 0 ≡ 0 → get_or S i false ≡ false
  not_run_flag done i out = refl
  not_run_flag (refused keeps) zero out = refl
  not_run_flag (kept d h keeps) zero out = absurd (omega arith)
  not_run_flag (refused keeps) (suc i) out = not_run_flag keeps i out
  not_run_flag (kept d h keeps) (suc i) out = not_run_flag keeps i out

  run_flag : {S : List Bool} {pattern : List ℕ} → Keeps levels S pattern → (i l : ℕ) → get_or pattern i 0 ≡ suc l → get_or S i false ≡ true
  run_flag done i l is = absurd (omega arith)
  run_flag (refused keeps) zero l is = absurd (omega arith)
  run_flag (kept d h keeps) zero l is = refl
  run_flag (refused keeps) (suc i) l is = run_flag keeps i l is
  run_flag (kept d h keeps) (suc i) l is = run_flag keeps i l is

  -- an item is in a pattern's set where the pattern runs it, and else not
  module _ (n : ℕ) {S : List Bool} {pattern : List ℕ} (keeps : Keeps levels S pattern) (of_items : length S ≡ n) (i : ℕ) (item : i < n) where
    pub not_run_not_in_set : get_or pattern i 0 ≡ 0 → in_set n (set_number n S) i ≡ 0
    not_run_not_in_set out = flag_in_set n S of_items i item ∙ rw (not_run_flag keeps i out) refl

    run_in_set : (l : ℕ) → get_or pattern i 0 ≡ suc l → in_set n (set_number n S) i ≡ 1
    run_in_set l is = flag_in_set n S of_items i item ∙ rw (run_flag keeps i l is) refl

pub run_level_below : {levels : ℕ} {S : List Bool} {pattern : List ℕ} → Keeps levels S pattern → (i l : ℕ) → get_or pattern i 0 ≡ suc l → l < levels
run_level_below done i l is = absurd (omega arith)
run_level_below (refused keeps) zero l is = absurd (omega arith)
run_level_below (refused keeps) (suc i) l is = run_level_below keeps i l is
run_level_below (kept d h keeps) zero l is = omega arith
run_level_below (kept d h keeps) (suc i) l is = run_level_below keeps i l is

module _ {timings : List ℕ} {i : ℕ} where
  pub at_first_level : FewestTicks timings i 1 (get_or timings (i * timing_width + 2) 0)
  unfolding timing_at
  at_first_level =
      record {
        at_most = λ l h.
            let first : i * timing_width + 2 + l ≡ i * timing_width + 2 = omega arith in
            rw first (le_refl (get_or timings (i * timing_width + 2) 0));
      }

  pub at_one_level_more : {k ticks r : ℕ} → FewestTicks timings i k ticks → r ≤ ticks → r ≤ get_or timings (i * timing_width + 2 + k) 0 →
      FewestTicks timings i (k + 1) r
  unfolding timing_at
  at_one_level_more {k} {r = r} so_far fewer here =
      record { at_most = below_more (λ l. r ≤ (timing_at timings i).ticks l) k (λ l h. le_trans fewer (so_far.at_most l h)) here }

module _ {timed : Timed} {timings : List ℕ} where
  pub no_column_yet : FewestColumn timed timings 0 (replicate most_items 0)
  no_column_yet = record { places = refl; fewest = λ i l. absurd (omega arith) }

  pub one_item_more : {k : ℕ} {column : List ℕ} {ticks : ℕ} → FewestColumn timed timings k column → k < most_items →
      FewestTicks timings k timed.levels ticks → FewestColumn timed timings (k + 1) (set column k ticks)
  one_item_more {k} {column} {ticks} so_far room few =
      record {
        places = length-set column k ticks ∙ so_far.places;
        fewest =
            below_more (λ i. FewestTicks timings i timed.levels (get_or (set column k ticks) i 0)) k
            (λ i l. rw (get_or-set_other column k i ticks 0 (λ same. omega arith)) (so_far.fewest i l))
            (rw (get_or-set_same column k ticks 0 (omega (arith, so_far.places))) few);
      }

-- the column of a set, item after item

module _ {n x : ℕ} {column : List ℕ} where
  pub no_set_column_yet : SetColumn n x column 0 (replicate most_items 0)
  no_set_column_yet = record { places = refl; at = λ i l. absurd (omega arith) }

  pub one_of_set_more : {k : ℕ} {of_set : List ℕ} {ticks : ℕ} → SetColumn n x column k of_set → k < most_items →
      ticks ≡ in_set n x k * get_or column k 0 → SetColumn n x column (k + 1) (set of_set k ticks)
  one_of_set_more {k} {of_set} {ticks} so_far room is =
      record {
        places = length-set of_set k ticks ∙ so_far.places;
        at =
            below_more (λ i. get_or (set of_set k ticks) i 0 ≡ in_set n x i * get_or column i 0) k
            (λ i l. get_or-set_other of_set k i ticks 0 (λ same. omega arith) ∙ so_far.at i l)
            (get_or-set_same of_set k ticks 0 (omega (arith, so_far.places)) ∙ is);
      }

-- a set with fewer items has no item more
in_no_more : {n y x : ℕ} → Includes n y x → (i : ℕ) → i < n → in_set n x i ≤ in_set n y i
in_no_more {n} {y} {x} includes i l = go (in_set n y i) refl
  where
    go : (b : ℕ) → in_set n y i ≡ b → in_set n x i ≤ in_set n y i
    go zero out = omega (arith, includes.out_of_both i l out)
    go (suc b) is = omega arith

module _ (timed : Timed) (timings column : List ℕ) where
  set_tasks : {x : ℕ} {of_set : List ℕ} → SetColumn timed.items x column timed.items of_set →
      SameTasks (column_jobs timed timings of_set) (set_jobs timed timings column x)
  unfolding column_jobs set_jobs
  set_tasks made = record { size = refl; period = λ i l. refl; window = λ i l. refl; ticks = made.at }

  pub unmet_tick_serves : {x : ℕ} {of_set : List ℕ} → SetColumn timed.items x column timed.items of_set →
      {r : Option ℕ} → UnmetTick (column_jobs timed timings of_set) timed.span r → is_none r ≡ served_at timed timings column x
  unfolding served_at
  unmet_tick_serves made {r} answer = unmet_tick_decides _ timed.span r answer ∙ same_tasks_meet _ _ (set_tasks made) timed.span

  pub fewer_items_served : {y x : ℕ} → Includes timed.items y x → served_at timed timings column y ≡ true → served_at timed timings column x ≡ true
  unfolding served_at set_jobs
  fewer_items_served {y} {x} includes served =
      fewer_ticks_meet (set_jobs timed timings column x) (set_jobs timed timings column y) refl (λ i. refl) (λ i. refl)
      (λ i l. mul-le-mul_right (get_or column i 0) (in_no_more includes i l)) timed.span served

  pub no_items_served : served_at timed timings column 0 ≡ true
  unfolding served_at set_jobs demand_at
  no_items_served =
      (meets_demand_within (set_jobs timed timings column 0) timed.span).1 (λ x within.
      omega (arith, sum_zero (ticks_due (set_jobs timed timings column 0) x) timed.items (λ i l. rw (zero-div (2 ^ (timed.items - 1 - i))) (omega arith))))

module _ {timed : Timed} {timings column : List ℕ} (ready : TimedItems timed timings) (few : FewestColumn timed timings timed.items column) (x : ℕ) where
  no_fewer : (S : List Bool) → length S ≡ timed.items → Includes timed.items (set_number timed.items S) x → {pattern : List ℕ} →
      Keeps timed.levels S pattern → (i : ℕ) → i < timed.items →
      in_set timed.items x i * get_or column i 0 ≤ entry_ticks (timing_in (timings_of timings timed.items) i) (get_or pattern i 0)
  unfolding entry_ticks
  no_fewer S of_items includes {pattern} keeps i l = go (get_or pattern i 0) refl
    where
      go : (e : ℕ) → get_or pattern i 0 ≡ e →
          in_set timed.items x i * get_or column i 0 ≤ entry_ticks (timing_in (timings_of timings timed.items) i) e
      go zero out =
          rw (includes.out_of_both i l (not_run_not_in_set timed.items keeps of_items i l out)) (omega arith)
      go (suc level) is =
          let once : in_set timed.items x i ≤ 1 = omega arith in
          rw (timing_of_lem timings timed.items i l)
          (omega (arith, mul-le-mul_right (get_or column i 0) once, (few.fewest i l).at_most level (run_level_below keeps i level is)))

  -- the pattern's tasks, with the ticks of the set's items in the column
  abbrev fewest_tasks : List ℕ → CoreTasks
  fewest_tasks pattern =
      let tasks = pattern_tasks (timings_of timings timed.items) pattern in
      record { size = tasks.size; period = tasks.period; window = tasks.window; ticks = λ i. in_set timed.items x i * get_or column i 0 }

  same_jobs : (pattern : List ℕ) → SameTasks (fewest_tasks pattern) (set_jobs timed timings column x)
  unfolding set_jobs pattern_tasks
  same_jobs pattern =
      record {
        size = counted ready;
        period = λ i l. ap (λ (t : _). t.period) (timing_of_lem timings timed.items i (rw (counted ready) at l));
        window = λ i l. ap (λ (t : _). t.window) (timing_of_lem timings timed.items i (rw (counted ready) at l));
        ticks = λ i l. refl;
      }

  pub none_serves : served_at timed timings column x ≡ false → NoneServes timed x timings
  unfolding served_at pattern_tasks
  none_serves unserved =
      record {
        refused = λ S of_items includes cost pattern keeps.
            not_true_is_false ((timed_core timed timings cost).admits pattern) (λ met.
            false_not_true unserved
            (sym (same_tasks_meet (fewest_tasks pattern) (set_jobs timed timings column x) (same_jobs pattern) timed.span)
            ∙ fewer_ticks_meet (fewest_tasks pattern) (pattern_tasks (timings_of timings timed.items) pattern) refl (λ i. refl) (λ i. refl)
            (λ i l. no_fewer S of_items includes keeps i (rw (counted ready) at l)) timed.span met));
      }

-- a pattern whose items have the column's ticks is admitted where its set is served so
module _ {timed : Timed} {timings : List ℕ} (column : List ℕ) (ready : TimedItems timed timings) {S : List Bool} (of_items : length S ≡ timed.items)
    {pattern : List ℕ} (keeps : Keeps timed.levels S pattern)
    (have : (i l : ℕ) → i < timed.items → get_or pattern i 0 ≡ suc l → get_or column i 0 ≡ (timing_at timings i).ticks l) where
  column_ticks : (i : ℕ) → i < timed.items →
      entry_ticks (timing_at timings i) (get_or pattern i 0) ≡ in_set timed.items (set_number timed.items S) i * get_or column i 0
  unfolding entry_ticks
  column_ticks i l = go (get_or pattern i 0) refl
    where
      go : (e : ℕ) → get_or pattern i 0 ≡ e → entry_ticks (timing_at timings i) e ≡ in_set timed.items (set_number timed.items S) i * get_or column i 0
      go zero out = rw (not_run_not_in_set timed.items keeps of_items i l out) (omega arith)
      go (suc level) is = rw (run_in_set timed.items keeps of_items i l level is) (omega (arith, have i level l is))

  pattern_tasks_lem : SameTasks (pattern_tasks (timings_of timings timed.items) pattern) (set_jobs timed timings column (set_number timed.items S))
  unfolding set_jobs pattern_tasks
  pattern_tasks_lem =
      record {
        size = counted ready;
        period = λ i l. ap (λ (t : _). t.period) (timing_of_lem timings timed.items i (rw (counted ready) at l));
        window = λ i l. ap (λ (t : _). t.window) (timing_of_lem timings timed.items i (rw (counted ready) at l));
        ticks = λ i l.
            let item = rw (counted ready) at l in
            rw (timing_of_lem timings timed.items i item) (column_ticks i item);
      }

  pub pattern_served : (cost : List ℕ) → (timed_core timed timings cost).admits pattern ≡ served_at timed timings column (set_number timed.items S)
  unfolding served_at
  pattern_served cost = same_tasks_meet _ _ pattern_tasks_lem timed.span
