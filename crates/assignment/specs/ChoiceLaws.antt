-- The chosen value is the least total cost and key of the allowed plans.
use Rattle.std.specs.Prelude.{ℕ, zero, suc, pred, ◌<◌, ◌≡◌, refl, ◌⊎◌, Bool, true, false, cond, List, [], ◌∷◌, length}
use Rattle.std.proofs.Common.{zero-le, sym, ap, ap₂, ◌∙◌, inl, inr, true≢false, suc-ne-zero, arith}
use Rattle.std.proofs.Math.Dec.{eqb-suc-zero}
use Rattle.assignment.specs.Assignment.{Item, Options, refused_cost, total_cost, ChoicesAllowed, more, Allowed}
use Rattle.assignment.specs.Values.{Value, none, pair, add, AtMost, to_none, Attained, Least}
use Rattle.assignment.specs.ValueLaws.{at_most-refl, at_most-trans, add_mono, lesser_first, lesser_second, lesser_either}
use Rattle.assignment.specs.Keeping.{Keeps, done, refused, kept, Runs, kept_worth, plan_worth}
use Rattle.assignment.specs.CoreTables.{CoreTable}
use Rattle.assignment.specs.Partition.{best}
use Rattle.assignment.specs.SplitLaws.{best_mono}
use Rattle.assignment.specs.PartitionLaws.{best_least}
use Rattle.assignment.specs.Choice.{least_holding, refusals, chosen}

-- the set holds every item that must be kept
pub data Holds : List Item → List Bool → Type 0 where
  nothing : Holds [] []
  without : {item : Item} {items : List Item} {S : List Bool} → item.must ≡ false → Holds items S →
      Holds (item ∷ items) (false ∷ S)
  with_it : {item : Item} {items : List Item} {S : List Bool} → Holds items S → Holds (item ∷ items) (true ∷ S)

pub holds_length : {items : List Item} {S : List Bool} → Holds items S → length S ≡ length items
holds_length nothing = refl
holds_length (without e h) = ap suc (holds_length h)
holds_length (with_it h) = ap suc (holds_length h)

least_holding-below : {items : List Item} {S : List Bool} (f : List Bool → Value) → Holds items S →
    AtMost (least_holding items f) (f S)
unfolding least_holding
least_holding-below f nothing = at_most-refl (f [])
least_holding-below f (without e h) = at_most-trans (lesser_first _ _) (rw e (least_holding-below (λ S. f (false ∷ S)) h))
least_holding-below f (with_it h) = at_most-trans (lesser_second _ _) (least_holding-below (λ S. f (true ∷ S)) h)

least_holding-attained : (items : List Item) (f : List Bool → Value) → Attained (Holds items) f (least_holding items f)
unfolding least_holding
least_holding-attained [] f = inr ([], nothing, refl)
least_holding-attained (item ∷ items) f =
    go item.must refl (lesser_either _ _) (least_holding-attained items out) (least_holding-attained items in_it)
  where
    out : List Bool → Value
    out S = f (false ∷ S)

    in_it : List Bool → Value
    in_it S = f (true ∷ S)

    go : {u v w : Value} (must : Bool) → item.must ≡ must → (w ≡ cond must none u) ⊎ (w ≡ v) →
        Attained (Holds items) out u → Attained (Holds items) in_it v → Attained (Holds (item ∷ items)) f w
    go true e (inl d) a b = inl d
    go false e (inl d) (inl a) b = inl (d ∙ a)
    go false e (inl d) (inr (S, h, a)) b = inr (false ∷ S, without e h, d ∙ a)
    go must e (inr d) a (inl b) = inl (d ∙ b)
    go must e (inr d) a (inr (S, h, b)) = inr (true ∷ S, with_it h, d ∙ b)

-- an allowed plan keeps exactly one set, which holds every item that must be kept

pub record KeptSet (most : ℕ) (items : List Item) (plan : List ℕ) : Type 0 where
  pub set : List Bool
  pub keeps : Keeps most set plan
  pub holds : Holds items set

pub kept_set : {most : ℕ} {items : List Item} {plan : List ℕ} → ChoicesAllowed most items plan → KeptSet most items plan
kept_set ChoicesAllowed.none = record { set = []; keeps = done; holds = nothing }
kept_set {most} (more {item} {items} {c = zero} {plan} allowed choices) = go item.must refl (kept_set choices)
  where
    go : (must : Bool) → item.must ≡ must → KeptSet most items plan → KeptSet most (item ∷ items) (0 ∷ plan)
    go true e s = absurd (allowed.kept e refl)
    go false e s = record { set = false ∷ s.set; keeps = refused s.keeps; holds = without e s.holds }
kept_set (more {c = suc d} allowed choices) =
    let s = kept_set choices in
    record { set = true ∷ s.set; keeps = kept d allowed.in_range s.keeps; holds = with_it s.holds }

choices_allowed : {most : ℕ} {items : List Item} {S : List Bool} {plan : List ℕ} → Keeps most S plan →
    Holds items S → ChoicesAllowed most items plan
choices_allowed done nothing = ChoicesAllowed.none
choices_allowed (refused k) (without e h) =
    more (record { in_range = zero-le; kept = λ must z. true≢false (sym must ∙ e) }) (choices_allowed k h)
choices_allowed (kept d under k) (with_it h) =
    more (record { in_range = under; kept = λ must z. suc-ne-zero d z }) (choices_allowed k h)

refused_cost_lem : {most : ℕ} {items : List Item} {S : List Bool} {plan : List ℕ} → Keeps most S plan → Holds items S →
    refused_cost items plan ≡ refusals items S
unfolding refused_cost refusals
refused_cost_lem done nothing = refl
refused_cost_lem (refused k) (without e h) = rw (refused_cost_lem k h)
refused_cost_lem (kept d under k) (with_it h) = rw (eqb-suc-zero, refused_cost_lem k h)

plan_worth_lem : {most : ℕ} (o : Options) {S : List Bool} {plan : List ℕ} → Keeps most S plan → Holds o.items S →
    plan_worth o plan ≡ add (pair (refusals o.items S) 0) (kept_worth o o.cores plan)
unfolding plan_worth kept_worth total_cost add
plan_worth_lem o k holds = let refusal = refused_cost_lem k holds in ap₂ pair (omega arith) (omega arith)

-- the least values of exactly a set on all cores, of which there is one at least
pub all_cores_least : {o : Options} {table : List Bool → Value} → CoreTable o table → 0 < o.cores → (S : List Bool) →
    length S ≡ length o.items →
    Least (Runs o o.cores S) (kept_worth o o.cores) (best o.levels table (pred o.cores) S)
all_cores_least {o} core some_core S of_items =
    let last : suc (pred o.cores) ≡ o.cores = omega arith in
    rw last at (best_least core (pred o.cores) S of_items)

set_attained : (o : Options) {S : List Bool} → Holds o.items S → {v : Value} →
    Attained (Runs o o.cores S) (kept_worth o o.cores) v →
    Attained (Allowed o) (plan_worth o) (add (pair (refusals o.items S) 0) v)
unfolding add
set_attained o holds (inl e) = inl (rw e)
set_attained o {S} holds (inr (plan, runs, e)) =
    inr (
      plan,
      record { choices = choices_allowed runs.keeps holds; cores_admit = runs.cores_admit },
      ap (add (pair (refusals o.items S) 0)) e ∙ sym (plan_worth_lem o runs.keeps holds),
    )

pub chosen_least : {o : Options} {table : List Bool → Value} → CoreTable o table → 0 < o.cores →
    Least (Allowed o) (plan_worth o) (chosen o.levels o.items table (pred o.cores))
unfolding chosen
chosen_least {o} {table} core some_core = record { below = lower; attained = go (least_holding-attained o.items with_refusals) }
  where
    on_all_cores : List Bool → Value
    on_all_cores = best o.levels table (pred o.cores)

    with_refusals : List Bool → Value
    with_refusals S = add (pair (refusals o.items S) 0) (on_all_cores S)

    lower : (plan : List ℕ) → Allowed o plan → AtMost (least_holding o.items with_refusals) (plan_worth o plan)
    lower plan allowed =
        let s = kept_set allowed.choices in
        let runs : Runs o o.cores s.set plan = record { keeps = s.keeps; cores_admit = allowed.cores_admit } in
        let least = all_cores_least core some_core s.set (holds_length s.holds) in
        at_most-trans (least_holding-below with_refusals s.holds)
        (rw (plan_worth_lem o s.keeps s.holds) (add_mono (at_most-refl _) (least.below plan runs)))

    go : {v : Value} → Attained (Holds o.items) with_refusals v → Attained (Allowed o) (plan_worth o) v
    go (inl e) = inl e
    go (inr (S, holds, e)) =
        rw e (set_attained o holds (all_cores_least core some_core S (holds_length holds)).attained)

-- lower tables make lower choices
pub chosen_mono : {f g : List Bool → Value} (levels : ℕ) (items : List Item) →
    ((T : List Bool) → length T ≡ length items → AtMost (f T) (g T)) → (c : ℕ) →
    AtMost (chosen levels items f c) (chosen levels items g c)
unfolding chosen
chosen_mono {f} {g} levels items lower c = go (least_holding-attained items (with_refusals g))
  where
    with_refusals : (List Bool → Value) → List Bool → Value
    with_refusals table S = add (pair (refusals items S) 0) (best levels table c S)

    go : {v : Value} → Attained (Holds items) (with_refusals g) v → AtMost (least_holding items (with_refusals f)) v
    go (inl e) = rw e to_none
    go (inr (S, holds, e)) =
        rw e
        (at_most-trans (least_holding-below (with_refusals f) holds)
        (add_mono (at_most-refl _) (best_mono levels (length items) lower c S (holds_length holds))))
