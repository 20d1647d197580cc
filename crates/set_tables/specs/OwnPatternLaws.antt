-- The own pattern of a set: no admitted pattern of the set comes before it, and its key and its cost are sums over the items.
use Prim.Native.Nat.{ℕ, zero, suc, ◌+◌, ◌-◌, ◌*◌, ◌^◌, ◌≤◌, ◌<◌}
use Rattle.std.specs.Prelude.{Bool, cond, ◌⊎◌, ◌≡◌, get_or}
use Rattle.std.proofs.Math.Bool.{true, false}
use mathlib.Core.List.{List, [], ◌∷◌, ◌++◌, append_assoc, append-nil}
use Rattle.std.proofs.Common.{inl, inr, sym, ap, ◌∙◌, le_of_suc-le-suc, mul-le-mul_right}
use Rattle.std.proofs.Math.Path.{refl}
use native.Mathlib.Omega.{arith}
use borrow.Author.Tests.{le-leb}
use Rattle.std.proofs.Math.ListN.{length, length-append}
use Rattle.laws.specs.JoinedLaws.{length-list_of, get_d-list_of}
use Rattle.laws.specs.Lists.{list_of}
use Rattle.assignment.specs.Keeping.{Keeps, done, refused, kept}
use Rattle.assignment.specs.KeyLaws.{keeps_length}
use Rattle.assignment.specs.Keys.{key_base, plan_key}
use Rattle.assignment.specs.SetLaws.{set_number-below}
use Rattle.assignment.specs.Sets.{set_number}
use Rattle.assignment.specs.Values.{Value, pair, AtMost, cheaper, tied}
use Rattle.assignment.specs.ValueLaws.{at_most-refl, at_most-trans}
use Rattle.assignment.specs.Words.{no_cost}
use Rattle.knapsack.specs.Offered.{entry_of, offer_at, offers_of}
use Rattle.knapsack.specs.Offers.{Offer, entry_cost, pattern_cost}
use Rattle.lagrangian.specs.AdmittedLaws.{reached_within_window}
use Rattle.lagrangian.specs.Lagrangians.{least_priced}
use Rattle.lagrangian.specs.PatternLaws.{cost_of_none, cost_of_run, no_front_no_cost}
use Rattle.lagrangian.specs.Reached.{OneCore, worth_on, Reached, whole, passed, runs}
use Rattle.lagrangian.specs.ReachedPatterns.{pattern_reached}
use Rattle.lagrangian.specs.TimedCores.{timing_at}
use Rattle.lagrangian.specs.TimedItems.{timed_core, TimedReady}
use Rattle.lagrangian.specs.declared.Timed.{Timed}
use Rattle.timed_parts.specs.ServableLaws.{pattern_served}
use Rattle.timed_parts.specs.TickColumns.{served_at}
use Rattle.set_tables.specs.DroppedTables.{Dropped}
use Rattle.set_tables.specs.LiftedTables.{NumberedBy}
use Rattle.set_tables.specs.OwnLevelLaws.{own_below, own_comes_first}
use Rattle.set_tables.specs.OwnPatterns.{own_level, own_from, own_pattern, OwnUpTo, OwnTable}
use Rattle.set_tables.specs.declared.own.OwnColumns.{OwnColumns}

-- one entry of a pattern in place of another

cost_between : (offers : List Offer) (q r : List ℕ) (c d : ℕ) (blank : Offer) → length q < length offers →
    pattern_cost offers (q ++ (c ∷ r)) + entry_cost (get_or offers (length q) blank) d
    ≡ pattern_cost offers (q ++ (d ∷ r)) + entry_cost (get_or offers (length q) blank) c
unfolding pattern_cost
cost_between [] q r c d blank within = absurd (omega arith)
cost_between (offer ∷ offers) [] r c d blank within = omega arith
cost_between (offer ∷ offers) (e ∷ q) r c d blank within = omega (arith, cost_between offers q r c d blank (le_of_suc-le-suc within))

key_between : (q r : List ℕ) (c d : ℕ) → plan_key (q ++ (c ∷ r)) + d * key_base ^ length r ≡ plan_key (q ++ (d ∷ r)) + c * key_base ^ length r
unfolding plan_key
key_between [] r c d = omega arith
key_between (e ∷ q) r c d = rw (length-append q (c ∷ r), length-append q (d ∷ r)) (omega (arith, key_between q r c d))

-- of two values that differ by what one entry costs and by its digit, that comes first whose entry does
exchanged_first : {a b x y c d l m : ℕ} (power : ℕ) → a + d ≡ b + c → x + suc m * power ≡ y + suc l * power → (c < d) ⊎ ((c ≡ d) × (l ≤ m)) →
    AtMost (pair a x) (pair b y)
exchanged_first {a} {b} power costs keys (inl less) = let cheaper_so : a < b = omega arith in cheaper cheaper_so
exchanged_first {a} {b} {x} {y} {l = l} {m} power costs keys (inr (same, no_later)) =
    let as_cheap : a ≡ b = omega arith in
    let digit : suc l ≤ suc m = omega arith in
    let no_larger : x ≤ y = omega (arith, mul-le-mul_right power digit) in
    tied as_cheap no_larger

module _ {timed : Timed} {timings cost : List ℕ} (ready : TimedReady timed timings cost) where
  abbrev core : OneCore
  core = timed_core timed timings cost

  abbrev own : ℕ → ℕ
  own i = own_level timings cost i timed.levels

  abbrev own_after : ℕ → List Bool → List ℕ
  own_after = own_from timings cost timed.levels

  offered_between : (q r : List ℕ) (l m : ℕ) → length q < timed.items →
      core.cost (q ++ (suc l ∷ r)) + entry_of cost (length q) m ≡ core.cost (q ++ (suc m ∷ r)) + entry_of cost (length q) l
  unfolding offers_of entry_cost offer_at
  offered_between q r l m within =
      rw (get_d-list_of (offer_at [] cost) timed.items (length q) (offer_at [] cost 0) within) at
      (cost_between (list_of (offer_at [] cost) timed.items) q r (suc l) (suc m) (offer_at [] cost 0)
      (rw (length-list_of (offer_at [] cost) timed.items) within))

  -- an item at its own level comes no later than at another
  own_entry_first : (q r : List ℕ) (l : ℕ) → length q < timed.items → l < timed.levels → (timing_at timings (length q)).ticks l ≤ (timing_at timings (length q)).window →
      AtMost (worth_on core (q ++ (suc (own (length q)) ∷ r))) (worth_on core (q ++ (suc l ∷ r)))
  unfolding worth_on
  own_entry_first q r l item level within =
      exchanged_first (key_base ^ length r) (offered_between q r (own (length q)) l item) (key_between q r (suc (own (length q))) (suc l))
      (own_comes_first timings cost (length q) timed.levels l level (le-leb _ _ within)).1

  -- nor do items at their own levels, after any front
  own_front_first : {q : List ℕ} {T : List Bool} {level : ℕ} {v : Value} → length q + length T ≡ timed.items → Reached core q T level v →
      AtMost (worth_on core (q ++ own_after (length q) T)) v
  unfolding own_from
  own_front_first {q} all (whole met) = rw (append-nil q) (at_most-refl (worth_on core q))
  own_front_first {q} {T = false ∷ T} all (passed reached) =
      let longer : length (q ++ (0 ∷ [])) ≡ suc (length q) = length-append q (0 ∷ []) ∙ omega arith in
      let later = own_front_first {q = q ++ (0 ∷ [])} (omega (arith, longer, all)) reached in
      rw (longer, append_assoc q (0 ∷ []) (own_after (suc (length q)) T)) at later
  own_front_first {q} {T = true ∷ T} all (runs l from within reached) =
      let longer : length (q ++ (suc l ∷ [])) ≡ suc (length q) = length-append q (suc l ∷ []) ∙ omega arith in
      let item : length q < timed.items = omega (arith, all) in
      let later = own_front_first {q = q ++ (suc l ∷ [])} (omega (arith, longer, all)) reached in
      let rest = own_after (suc (length q)) T in
      at_most-trans (own_entry_first q rest l item within (reached_within_window ready.timed_items cost q l item reached))
      (rw (longer, append_assoc q (suc l ∷ []) rest) at later)

  pub own_first : (S : List Bool) → length S ≡ timed.items → (pattern : List ℕ) → Keeps timed.levels S pattern → core.admits pattern ≡ true →
      AtMost (worth_on core (own_pattern timed timings cost S)) (worth_on core pattern)
  own_first S of_items pattern keeps met = own_front_first {q = []} (omega (arith, of_items)) (pattern_reached core [] keeps met)

  module _ (some : 1 ≤ timed.levels) where
    pub own_kept : (i : ℕ) (S : List Bool) → Keeps timed.levels S (own_after i S)
    unfolding own_from
    own_kept i [] = done
    own_kept i (false ∷ S) = refused (own_kept (suc i) S)
    own_kept i (true ∷ S) = kept (own i) (own_below timings cost i timed.levels some) (own_kept (suc i) S)

    module _ {columns : OwnColumns} (known : OwnUpTo timed timings cost timed.items columns) where
      own_key_from : (i : ℕ) (S : List Bool) → i + length S ≡ timed.items → plan_key (own_after i S) ≡ least_priced columns.digits i S
      unfolding own_from plan_key least_priced
      own_key_from i [] all = refl
      own_key_from i (false ∷ S) all = omega (arith, own_key_from (suc i) S (omega arith))
      own_key_from i (true ∷ S) all =
          let place : timed.items - 1 - i ≡ length S = omega arith in
          rw (keeps_length (own_kept (suc i) S))
          (omega (arith, rw place at (known.its_digit i (omega arith)), own_key_from (suc i) S (omega arith)))

      pub own_key : (S : List Bool) → length S ≡ timed.items → plan_key (own_pattern timed timings cost S) ≡ least_priced columns.digits 0 S
      own_key S of_items = own_key_from 0 S (omega (arith, of_items))

      own_cost_from : (q : List ℕ) (T : List Bool) → length q + length T ≡ timed.items → core.admits (q ++ own_after (length q) T) ≡ true →
          core.cost (q ++ own_after (length q) T) ≡ core.cost q + least_priced columns.costs (length q) T
      unfolding own_from least_priced
      own_cost_from q [] all met = rw (append-nil q) (omega arith)
      own_cost_from q (false ∷ T) all met =
          let longer : length (q ++ (0 ∷ [])) ≡ suc (length q) = length-append q (0 ∷ []) ∙ omega arith in
          let e = append_assoc q (0 ∷ []) (own_after (suc (length q)) T) in
          let later = own_cost_from (q ++ (0 ∷ [])) T (omega (arith, longer, all)) (rw (longer, e) met) in
          omega (arith, rw (longer, e) at later, cost_of_none cost timed.items q (omega (arith, all)))
      own_cost_from q (true ∷ T) all met =
          let l = own (length q) in
          let longer : length (q ++ (suc l ∷ [])) ≡ suc (length q) = length-append q (suc l ∷ []) ∙ omega arith in
          let item : length q < timed.items = omega (arith, all) in
          let e = append_assoc q (suc l ∷ []) (own_after (suc (length q)) T) in
          let later = own_cost_from (q ++ (suc l ∷ [])) T (omega (arith, longer, all)) (rw (longer, e) met) in
          let reached = pattern_reached core (q ++ (suc l ∷ [])) (own_kept (suc (length q)) T) (rw e met) in
          let within = le-leb _ _ (reached_within_window ready.timed_items cost q l item reached) in
          omega (arith, rw (longer, e) at later, cost_of_run cost timed.items q item l, known.its_cost (length q) item within)

      pub own_cost : (S : List Bool) → length S ≡ timed.items → core.admits (own_pattern timed timings cost S) ≡ true →
          core.cost (own_pattern timed timings cost S) ≡ least_priced columns.costs 0 S
      own_cost S of_items met = own_cost_from [] S (omega (arith, of_items)) met ∙ omega (arith, no_front_no_cost (offers_of [] cost timed.items))

      own_entry : (i : ℕ) (S : List Bool) (j l : ℕ) → get_or (own_after i S) j 0 ≡ suc l → l ≡ own (i + j)
      unfolding own_from
      own_entry i [] j l is = absurd (omega arith)
      own_entry i (false ∷ S) zero l is = absurd (omega arith)
      own_entry i (true ∷ S) zero l is = let this : i + 0 ≡ i = omega arith in rw this (omega arith)
      own_entry i (false ∷ S) (suc j) l is = let next : i + suc j ≡ suc i + j = omega arith in rw next (own_entry (suc i) S j l is)
      own_entry i (true ∷ S) (suc j) l is = let next : i + suc j ≡ suc i + j = omega arith in rw next (own_entry (suc i) S j l is)

      own_served : (S : List Bool) → length S ≡ timed.items →
          core.admits (own_pattern timed timings cost S) ≡ served_at timed timings columns.ticks (set_number timed.items S)
      own_served S of_items =
          pattern_served columns.ticks ready.timed_items of_items (own_kept 0 S)
          (λ i l item is.
          let this : 0 + i ≡ i = omega arith in
          known.its_ticks i item ∙ ap (timing_at timings i).ticks (sym (rw this at (own_entry 0 S i l is)))) cost

      -- the table of all sets: the sums of their items, none where a set is not served so
      pub own_table : {sums keys costs : List ℕ} → NumberedBy timed.items (least_priced columns.costs 0) sums →
          NumberedBy timed.items (least_priced columns.digits 0) keys → Dropped timed timings columns.ticks 0 (2 ^ timed.items) sums costs →
          OwnTable timed timings cost costs keys
      own_table {sums} {keys} {costs} summed digits dropped =
          record { its_cost = its_cost; its_key = λ S of_items. digits.at S of_items ∙ sym (own_key S of_items) }
        where
          its_cost : (S : List Bool) → length S ≡ timed.items → get_or costs (set_number timed.items S) 0
              ≡ cond (core.admits (own_pattern timed timings cost S)) (core.cost (own_pattern timed timings cost S)) no_cost
          its_cost S of_items =
              dropped.cost (set_number timed.items S) (omega arith) (omega (arith, set_number-below timed.items S))
              ∙ rw (← own_served S of_items) (go (core.admits (own_pattern timed timings cost S)) refl)
            where
              go : (t : Bool) → core.admits (own_pattern timed timings cost S) ≡ t →
                  cond t (get_or sums (set_number timed.items S) 0) no_cost ≡ cond t (core.cost (own_pattern timed timings cost S)) no_cost
              go true met = summed.at S of_items ∙ sym (own_cost S of_items met)
              go false unmet = refl
