-- A plan on cores 0 to c is a pattern, moved to core c, beside a plan on the cores below c.
use Rattle.std.specs.Prelude.{ℕ, suc, ◌+◌, ◌*◌, ◌-◌, ◌/◌, ◌<◌, ◌≡◌, refl, Bool, true, false, List, [], ◌∷◌, length}
use Rattle.std.proofs.Common.{sym, ap₂, ◌∙◌, suc-mul, div-lt_iff_lt-mul, arith}
use Rattle.std.proofs.Math.Decide.{dec_lt}
use Rattle.std.proofs.Math.Arith.{digits_div}
use Rattle.assignment.specs.Assignment.{core_pattern}
use Rattle.assignment.specs.Keys.{plan_key, weight}
use Rattle.assignment.specs.Partition.{Parts, first, second}
use Rattle.assignment.specs.SplitLaws.{part_length, rest_length}
use Rattle.assignment.specs.Keeping.{Keeps, done, refused, kept}
use Rattle.assignment.specs.KeepingLaws.{refused_runs, level_runs, other_runs, some_level}
use Rattle.assignment.specs.KeyLaws.{keeps_length}

-- of a plan that keeps S: what it keeps on core c is T, as `top` does on core 0; the rest is R, as in `rest`
pub data CoreSplit (levels c : ℕ) : (S T R : List Bool) → (plan top rest : List ℕ) → Type 0 where
  nothing : CoreSplit levels c [] [] [] [] [] []
  neither : {S T R : List Bool} {plan top rest : List ℕ} →
      CoreSplit levels c S T R plan top rest →
      CoreSplit levels c (false ∷ S) (false ∷ T) (false ∷ R) (0 ∷ plan) (0 ∷ top) (0 ∷ rest)
  on_this_core : {S T R : List Bool} {plan top rest : List ℕ} (d l : ℕ) →
      l < levels → d ≡ c * levels + l → CoreSplit levels c S T R plan top rest →
      CoreSplit levels c (true ∷ S) (true ∷ T) (false ∷ R) (suc d ∷ plan) (suc l ∷ top) (0 ∷ rest)
  below : {S T R : List Bool} {plan top rest : List ℕ} (d : ℕ) →
      d < c * levels → CoreSplit levels c S T R plan top rest →
      CoreSplit levels c (true ∷ S) (false ∷ T) (true ∷ R) (suc d ∷ plan) (0 ∷ top) (suc d ∷ rest)

-- what a plan is made of

pub core_split_parts : {levels c : ℕ} {S T R : List Bool} {plan top rest : List ℕ} →
    CoreSplit levels c S T R plan top rest → Parts S T R
core_split_parts nothing = Parts.nothing
core_split_parts (neither p) = Parts.neither (core_split_parts p)
core_split_parts (on_this_core d l h e p) = first (core_split_parts p)
core_split_parts (below d h p) = second (core_split_parts p)

pub core_split_top : {levels c : ℕ} {S T R : List Bool} {plan top rest : List ℕ} →
    CoreSplit levels c S T R plan top rest → Keeps levels T top
core_split_top nothing = done
core_split_top (neither p) = refused (core_split_top p)
core_split_top (on_this_core d l h e p) = kept l h (core_split_top p)
core_split_top (below d h p) = refused (core_split_top p)

pub core_split_rest : {levels c : ℕ} {S T R : List Bool} {plan top rest : List ℕ} →
    CoreSplit levels c S T R plan top rest → Keeps (c * levels) R rest
core_split_rest nothing = done
core_split_rest (neither p) = refused (core_split_rest p)
core_split_rest (on_this_core d l h e p) = refused (core_split_rest p)
core_split_rest (below d h p) = kept d h (core_split_rest p)

pub core_split_plan : {levels c : ℕ} {S T R : List Bool} {plan top rest : List ℕ} →
    CoreSplit levels c S T R plan top rest → Keeps (suc c * levels) S plan
core_split_plan nothing = done
core_split_plan (neither p) = refused (core_split_plan p)
core_split_plan {levels} {c} (on_this_core d l h e p) = kept d (omega (arith, suc-mul c levels)) (core_split_plan p)
core_split_plan {levels} {c} (below d h p) = kept d (omega (arith, suc-mul c levels)) (core_split_plan p)

-- every plan is split so, and every two parts make a plan

pub record SomeCoreSplit (levels c : ℕ) (S : List Bool) (plan : List ℕ) : Type 0 where
  pub part : List Bool
  pub others : List Bool
  pub top : List ℕ
  pub rest : List ℕ
  pub split : CoreSplit levels c S part others plan top rest

pub some_core_split : {levels c : ℕ} {S : List Bool} {plan : List ℕ} →
    Keeps (suc c * levels) S plan → SomeCoreSplit levels c S plan
some_core_split done = record { part = []; others = []; top = []; rest = []; split = nothing }
some_core_split (refused k) =
    let q = some_core_split k in
    record {
      part = false ∷ q.part;
      others = false ∷ q.others;
      top = 0 ∷ q.top;
      rest = 0 ∷ q.rest;
      split = neither q.split;
    }
some_core_split {levels} {c} (kept {S} {plan} d h k) = go (dec_lt d (c * levels)) (some_core_split k)
  where
    go : Dec (d < c * levels) → SomeCoreSplit levels c S plan → SomeCoreSplit levels c (true ∷ S) (suc d ∷ plan)
    go (yes under) q =
        record {
          part = false ∷ q.part;
          others = true ∷ q.others;
          top = 0 ∷ q.top;
          rest = suc d ∷ q.rest;
          split = below d under q.split;
        }
    go (no over) q =
        let l = d - c * levels in
        record {
          part = true ∷ q.part;
          others = false ∷ q.others;
          top = suc l ∷ q.top;
          rest = 0 ∷ q.rest;
          split = on_this_core d l (omega (arith, suc-mul c levels)) (omega arith) q.split;
        }

pub merged : {levels c : ℕ} {S T R : List Bool} {top rest : List ℕ} → Parts S T R →
    Keeps levels T top → Keeps (c * levels) R rest → (plan : List ℕ) × CoreSplit levels c S T R plan top rest
merged Parts.nothing done done = ([], nothing)
merged (Parts.neither s) (refused k) (refused j) = let (plan, p) = merged s k j in (0 ∷ plan, neither p)
merged {levels} {c} (first s) (kept l h k) (refused j) =
    let (plan, p) = merged s k j in (suc (c * levels + l) ∷ plan, on_this_core (c * levels + l) l h refl p)
merged (second s) (refused k) (kept d h j) = let (plan, p) = merged s k j in (suc d ∷ plan, below d h p)

-- what the cores run of it

pub core_split_pattern : {levels c : ℕ} {S T R : List Bool} {plan top rest : List ℕ} →
    CoreSplit levels c S T R plan top rest → core_pattern levels c plan ≡ top
unfolding core_pattern
core_split_pattern nothing = refl
core_split_pattern {levels} {c} (neither p) = ap₂ ◌∷◌ (refused_runs levels c) (core_split_pattern p)
core_split_pattern {levels} {c} (on_this_core d l h e p) = ap₂ ◌∷◌ (level_runs levels c d h e) (core_split_pattern p)
core_split_pattern {levels} {c} (below d h p) =
    let lower = (div-lt_iff_lt-mul (some_level c levels h)).1 h in
    ap₂ ◌∷◌ (other_runs levels c d (omega arith)) (core_split_pattern p)

pub core_split_lower : {levels c k : ℕ} {S T R : List Bool} {plan top rest : List ℕ} → k < c →
    CoreSplit levels c S T R plan top rest → core_pattern levels k plan ≡ core_pattern levels k rest
unfolding core_pattern
core_split_lower under nothing = refl
core_split_lower under (neither p) = ap₂ ◌∷◌ refl (core_split_lower under p)
core_split_lower {levels} {c} {k} under (on_this_core d l h e p) =
    let here : d / levels ≡ c = rw e (digits_div c h) in
    ap₂ ◌∷◌ (other_runs levels k d (omega arith) ∙ sym (refused_runs levels k)) (core_split_lower under p)
core_split_lower under (below d h p) = ap₂ ◌∷◌ refl (core_split_lower under p)

-- its key, from those of its parts
pub core_split_key : {levels c : ℕ} {S T R : List Bool} {plan top rest : List ℕ} →
    CoreSplit levels c S T R plan top rest → plan_key plan ≡ c * levels * weight T + plan_key top + plan_key rest
unfolding plan_key weight
core_split_key nothing = omega arith
core_split_key (neither p) = let tail = core_split_key p in omega arith
core_split_key (on_this_core {S} {T} {plan = plan} {top} d l h e p) =
    let tail = core_split_key p in
    let in_plan : length plan ≡ length T = keeps_length (core_split_plan p) ∙ sym (part_length (core_split_parts p)) in
    rw (e, in_plan, keeps_length (core_split_top p)) (omega arith)
core_split_key (below {R = R} {plan = plan} d h p) =
    let tail = core_split_key p in
    let in_plan : length plan ≡ length R = keeps_length (core_split_plan p) ∙ sym (rest_length (core_split_parts p)) in
    rw (in_plan, keeps_length (core_split_rest p)) (omega arith)
