-- A knapsack's value is the least worth of the patterns that keep exactly its set, so knapsacks at the capacity are the table
-- of a core that takes load up to it.
use Rattle.std.specs.Prelude.{ℕ, suc, ◌*◌, ◌-◌, ◌^◌, ◌≤◌, ◌<◌, ◌≡◌, refl, Bool, true, false, cond, List, [], ◌∷◌, leb, length}
use Rattle.std.proofs.Common.{sym, ap, ◌∙◌, inl, inr, ⊎_elim, zero-add, zero-mul, arith, le-leb, leb-true}
use Rattle.std.proofs.Math.Nat.{suc_inj}
use Rattle.assignment.specs.Assignment.{Item, Options}
use Rattle.assignment.specs.CoreTables.{Admitted, pattern_worth, CoreTable, Keyed, absent, present}
use Rattle.assignment.specs.Keeping.{Keeps, done, refused, kept}
use Rattle.assignment.specs.KeyLaws.{keeps_length}
use Rattle.assignment.specs.Keys.{key_base, plan_key}
use Rattle.assignment.specs.Values.{Value, none, pair, add, least_below, AtMost, Attained, Least}
use Rattle.assignment.specs.ValueLaws.{at_most-refl, at_most-trans, add_mono, least_below-below, least_below-attained}
use Rattle.knapsack.specs.Knapsacks.{at_level, knapsack, Fitting, offered_worth}
use Rattle.knapsack.specs.Offers.{Offer, entry_load, entry_cost, pattern_load, pattern_cost, load_options}

-- what one entry more in front adds

skipped_worth : (offer : Offer) (offers : List Offer) (pattern : List ℕ) →
    offered_worth (offer ∷ offers) (0 ∷ pattern) ≡ offered_worth offers pattern
unfolding offered_worth pattern_cost entry_cost plan_key
skipped_worth offer offers pattern = simp (zero-mul, zero-add)

run_worth : (offer : Offer) (offers : List Offer) (pattern : List ℕ) (l : ℕ) →
    offered_worth (offer ∷ offers) (suc l ∷ pattern)
    ≡ add (pair (offer.cost l) (suc l * key_base ^ length pattern)) (offered_worth offers pattern)
unfolding offered_worth pattern_cost entry_cost plan_key add
run_worth offer offers pattern l = refl

at_level-fits : (offer : Offer) (places : ℕ) (rest : ℕ → Value) {w l : ℕ} → offer.load l ≤ w →
    at_level offer places rest w l ≡ add (pair (offer.cost l) (suc l * key_base ^ places)) (rest (w - offer.load l))
unfolding at_level
at_level-fits offer places rest {w} {l} h = rw (le-leb (offer.load l) w h)

knapsack_below : {levels : ℕ} (offers : List Offer) {T : List Bool} {pattern : List ℕ} (w : ℕ) → length T ≡ length offers →
    Keeps levels T pattern → pattern_load offers pattern ≤ w →
    AtMost (knapsack levels offers T w) (offered_worth offers pattern)
unfolding knapsack pattern_load entry_load offered_worth pattern_cost plan_key
knapsack_below [] w beside done fits = at_most-refl (pair 0 0)
knapsack_below [] w beside (refused k) fits = absurd (omega arith)
knapsack_below [] w beside (kept l h k) fits = absurd (omega arith)
knapsack_below (offer ∷ offers) w beside done fits = absurd (omega arith)
knapsack_below (offer ∷ offers) w beside (refused {plan = pattern} k) fits =
    rw skipped_worth (knapsack_below offers w (suc_inj beside) k (omega arith))
knapsack_below {levels} (offer ∷ offers) w beside (kept {S = T} {plan = pattern} l h k) fits =
    let room : offer.load l ≤ w = omega arith in
    let places : length pattern ≡ length offers = keeps_length k ∙ suc_inj beside in
    at_most-trans (least_below-below levels (at_level offer (length offers) (knapsack levels offers T) w) h)
    (rw (at_level-fits offer (length offers) (knapsack levels offers T) room, run_worth offer offers pattern l, places)
    (add_mono (at_most-refl _) (knapsack_below offers (w - offer.load l) (suc_inj beside) k (omega arith))))

-- v is what some pattern that keeps exactly the set, in load at most w, is worth, or none
abbrev KnapsackAttains : ℕ → List Offer → List Bool → ℕ → Value → Type 0
KnapsackAttains levels offers T w = Attained (Fitting levels offers T w) (offered_worth offers)

skipped_attained : {levels : ℕ} {offer : Offer} {offers : List Offer} {T : List Bool} {w : ℕ} {v : Value} →
    KnapsackAttains levels offers T w v → KnapsackAttains levels (offer ∷ offers) (false ∷ T) w v
unfolding pattern_load entry_load
skipped_attained (inl e) = inl e
skipped_attained (inr (pattern, fitting, e)) =
    inr (0 ∷ pattern, record { keeps = refused fitting.keeps; fits = omega (arith, fitting.fits) }, rw skipped_worth e)

level_attained : {levels : ℕ} {offer : Offer} {offers : List Offer} {T : List Bool} {w l : ℕ} (rest : ℕ → Value) → l < levels →
    length T ≡ length offers → ((u : ℕ) → KnapsackAttains levels offers T u (rest u)) →
    KnapsackAttains levels (offer ∷ offers) (true ∷ T) w (at_level offer (length offers) rest w l)
unfolding pattern_load entry_load at_level add
level_attained {levels} {offer} {offers} {T} {w} {l} rest h beside tail =
    go (leb (offer.load l) w) refl (tail (w - offer.load l))
  where
    left : ℕ
    left = w - offer.load l

    head : Value
    head = pair (offer.cost l) (suc l * key_base ^ length offers)

    go : (t : Bool) → leb (offer.load l) w ≡ t → KnapsackAttains levels offers T left (rest left) →
        KnapsackAttains levels (offer ∷ offers) (true ∷ T) w (cond t (add head (rest left)) none)
    go false e a = inl refl
    go true e (inl d) = inl (rw d)
    go true e (inr (pattern, fitting, d)) =
        let room = leb-true (offer.load l) w e in
        let places : length pattern ≡ length offers = keeps_length fitting.keeps ∙ beside in
        inr (
          suc l ∷ pattern,
          record { keeps = kept l h fitting.keeps; fits = omega (arith, fitting.fits) },
          ap (add head) d ∙ rw (run_worth offer offers pattern l, places),
        )

knapsack_attained : (levels : ℕ) (offers : List Offer) (T : List Bool) (w : ℕ) → length T ≡ length offers →
    KnapsackAttains levels offers T w (knapsack levels offers T w)
unfolding knapsack offered_worth pattern_cost plan_key pattern_load
knapsack_attained levels [] [] w beside = inr ([], record { keeps = done; fits = omega arith }, refl)
knapsack_attained levels [] (b ∷ T) w beside = inl refl
knapsack_attained levels (offer ∷ offers) [] w beside = inl refl
knapsack_attained levels (offer ∷ offers) (false ∷ T) w beside =
    skipped_attained (knapsack_attained levels offers T w (suc_inj beside))
knapsack_attained levels (offer ∷ offers) (true ∷ T) w beside =
    go (least_below-attained levels (at_level offer (length offers) (knapsack levels offers T) w))
    (λ u. knapsack_attained levels offers T u (suc_inj beside))
  where
    at_each : ℕ → Value
    at_each = at_level offer (length offers) (knapsack levels offers T) w

    go : Attained (λ (l : ℕ). l < levels) at_each (least_below levels at_each) →
        ((u : ℕ) → KnapsackAttains levels offers T u (knapsack levels offers T u)) →
        KnapsackAttains levels (offer ∷ offers) (true ∷ T) w (least_below levels at_each)
    go (inl e) tail = inl e
    go (inr (l, h, e)) tail = rw e (level_attained (knapsack levels offers T) h (suc_inj beside) tail)

pub knapsack_least : (levels : ℕ) (offers : List Offer) (T : List Bool) (w : ℕ) → length T ≡ length offers →
    Least (Fitting levels offers T w) (offered_worth offers) (knapsack levels offers T w)
knapsack_least levels offers T w beside =
    record {
      below = λ pattern fitting. knapsack_below offers w beside fitting.keeps fitting.fits;
      attained = knapsack_attained levels offers T w beside;
    }

-- so its key is that of such a pattern
pub knapsack_keyed : (levels : ℕ) (offers : List Offer) (T : List Bool) (w : ℕ) → length T ≡ length offers →
    Keyed levels T (knapsack levels offers T w)
unfolding offered_worth
knapsack_keyed levels offers T w beside = go (knapsack_attained levels offers T w beside)
  where
    go : {v : Value} → KnapsackAttains levels offers T w v → Keyed levels T v
    go (inl e) = rw e absent
    go (inr (pattern, fitting, e)) = rw e (present _ fitting.keeps)

pub knapsack_table : (cores levels capacity : ℕ) (offers : List Offer) (items : List Item) → length offers ≡ length items →
    CoreTable (load_options cores levels capacity offers items) (λ T. knapsack levels offers T capacity)
unfolding load_options pattern_worth offered_worth
knapsack_table cores levels capacity offers items all =
    record { least = λ T beside. go T (knapsack_least levels offers T capacity (beside ∙ sym all)) }
  where
    o : Options
    o = load_options cores levels capacity offers items

    go : (T : List Bool) → Least (Fitting levels offers T capacity) (offered_worth offers) (knapsack levels offers T capacity) →
        Least (Admitted o T) (pattern_worth o) (knapsack levels offers T capacity)
    go T least =
        record {
          below = λ pattern admitted.
              least.below pattern record { keeps = admitted.keeps; fits = leb-true _ capacity admitted.admitted };
          attained =
              ⊎_elim inl
              (λ found.
              let fitting = found.1 in
              inr (found.0, record { keeps = fitting.keeps; admitted = le-leb _ capacity fitting.fits }, found.2))
              least.attained;
        }
