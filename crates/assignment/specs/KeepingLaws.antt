-- What one choice of a plan has each core run, and which items a core keeps.
use Rattle.std.specs.Prelude.{ℕ, zero, suc, ◌+◌, ◌*◌, ◌/◌, ◌%◌, ◌<◌, ◌≡◌, refl, ◌≢◌, Bool, true, false, cond, not, List, [], ◌∷◌, eqb, length}
use Rattle.std.proofs.Common.{ap, ◌∙◌, zero-lt-suc, mod-lt, arith, eq-eqb, ne_eqb}
use Rattle.std.proofs.Math.Arith.{digits_div, digits_mod}
use Rattle.std.proofs.Math.Dec.{eqb-suc-zero}
use Rattle.assignment.specs.Assignment.{on_core, core_pattern}
use Rattle.assignment.specs.Keeping.{Keeps, done, refused, kept, kept_items, core_set}

pub refused_runs : (levels k : ℕ) → on_core levels k 0 ≡ 0
unfolding on_core
refused_runs levels k = refl

pub kept_runs : (levels k d : ℕ) → on_core levels k (suc d) ≡ cond (eqb (d / levels) k) (suc (d % levels)) 0
unfolding on_core
kept_runs levels k d = rw eqb-suc-zero

-- level l of core k is choice 1 + k × levels + l, and has that core alone run it

pub level_runs : (levels k d : ℕ) {l : ℕ} → l < levels → d ≡ k * levels + l → on_core levels k (suc d) ≡ suc l
level_runs levels k d h e = kept_runs levels k d ∙ rw (e, digits_div k h, digits_mod k h, eq-eqb k k refl)

pub other_runs : (levels k d : ℕ) → d / levels ≢ k → on_core levels k (suc d) ≡ 0
other_runs levels k d h = kept_runs levels k d ∙ rw (ne_eqb (d / levels) k h)

pub some_level : (cores levels : ℕ) {d : ℕ} → d < cores * levels → zero < levels
some_level cores zero h = absurd (omega arith)
some_level cores (suc levels) h = zero-lt-suc levels

-- a pattern keeps the items that it keeps, and what a core runs is a pattern

pub kept_items_lem : {most : ℕ} {S : List Bool} {plan : List ℕ} → Keeps most S plan → kept_items plan ≡ S
unfolding kept_items
kept_items_lem done = refl
kept_items_lem (refused k) = ap (λ (S : List Bool). false ∷ S) (kept_items_lem k)
kept_items_lem (kept d h k) = rw eqb-suc-zero (ap (λ (S : List Bool). true ∷ S) (kept_items_lem k))

pub core_keeps : (cores levels k : ℕ) {S : List Bool} {plan : List ℕ} → Keeps (cores * levels) S plan →
    Keeps levels (core_set levels k plan) (core_pattern levels k plan)
unfolding core_set kept_items core_pattern
core_keeps cores levels k done = done
core_keeps cores levels k (refused keeps) = rw (refused_runs levels k) (refused (core_keeps cores levels k keeps))
core_keeps cores levels k (kept {plan = plan} d h keeps) =
    rw (kept_runs levels k d) (go (eqb (d / levels) k) (core_keeps cores levels k keeps))
  where
    go : (here : Bool) → Keeps levels (kept_items (core_pattern levels k plan)) (core_pattern levels k plan) →
        Keeps levels
        (not (eqb (cond here (suc (d % levels)) 0) 0) ∷ kept_items (core_pattern levels k plan))
        (cond here (suc (d % levels)) 0 ∷ core_pattern levels k plan)
    go true tail = rw eqb-suc-zero (kept (d % levels) (mod-lt d (some_level cores levels h)) tail)
    go false tail = refused tail

pub core_set-length : (levels k : ℕ) (plan : List ℕ) → length (core_set levels k plan) ≡ length plan
unfolding core_set kept_items core_pattern
core_set-length levels k [] = refl
core_set-length levels k (c ∷ plan) = ap suc (core_set-length levels k plan)
