-- What is at hand once planning with room for every plan and table has answered, and what listing that plan comes to.
use Rattle.refusals.specs.Refusals.{accepted}
use Rattle.std.specs.Prelude.{ℕ, ◌*◌, ◌≤◌, List, ◌≡◌, refl, length, take, Result, Ok, Err}
use Rattle.std.proofs.Math.Option.{Option, none, some}
use Rattle.std.proofs.Common.{ap, ◌∙◌, arith, length-take}
use Rattle.instance.specs.Held.{problem_in, held_taskcount}
use Rattle.ranges.specs.Limits.{most_cores, most_span, most_tasks}
use Rattle.instance.specs.Node.{task_count}
use Rattle.instance.specs.Valid.{Valid}
use Rattle.instance.specs.declared.Instance.{Instance}
use Rattle.refusals.specs.declared.Refusal.{Refusal}
use Rattle.refusals.specs.declared.Refusal.TheVariants.{NoPlan}
use Rattle.tables.specs.HeldTables.{table_size_at_most}
use Rattle.prices.specs.Prices.{price_of}
use Rattle.instance.specs.ReadLaws.{HoldsProblemOf}
use Rattle.tables.specs.TableLaws.{length-table_of}
use Rattle.tables.specs.Tables.{table_of, table_size}
use Rattle.prices.specs.declared.amounts.Price.{Price}
use Rattle.planner.specs.EndingLaws.{best_plan_length}
use Rattle.planner.specs.Endings.{plan_found}
use Rattle.planner.specs.Outcomes.{plan_answered, plan_outcome}
use Rattle.planner.specs.PlannedLaws.{where_room}
use Rattle.planner.specs.Planning.{best_plan}
use Rattle.refusals.specs.RoomLaws.{enough_room, front_of_onto}
use Rattle.listing_lines.specs.ListingLines.{plan_lines}
use Rattle.listing_lines.specs.Placing.{Room, Put, put_from_start}
use Rattle.listings.specs.Listing.{most_listing, listing_of_plan}
use Rattle.listings.specs.ListingLength.{listing_of_plan_fits}
use Rattle.listings.specs.Outcomes.{list_given, list_where, problem_list_outcome}

-- the first n were all there
pub front_within : (n : ℕ) (xs : List ℕ) → length (take n xs) ≡ n → n ≤ length xs
front_within n xs whole = omega (arith, length-take n xs)

-- what is at hand once planning has answered a price: the plan and its table at the fronts of the buffers
pub record AtHand (inst : Instance) (price : Price) (plan table : List ℕ) : Type 0 where
  pub its_price : price ≡ price_of (problem_in inst) plan
  pub one_choice_per_task : length plan ≡ task_count (problem_in inst)
  pub whole_table : length table ≡ table_size (problem_in inst)
  pub found : plan_found (best_plan (problem_in inst)) ≡ accepted
  pub lines : listing_of_plan (problem_in inst) (best_plan (problem_in inst)) ≡ plan_lines (problem_in inst) plan table

-- planning with room for every plan and every table
module _ (words : List ℕ) (inst : Instance) (held : HoldsProblemOf words inst) (plan table : List ℕ)
    (plan_room : most_tasks ≤ length plan) (table_room : most_cores * most_span ≤ length table)
    (answer : Result Price Refusal) (answered : answer ≡ (plan_outcome words plan table).answer) where
  answered_outcome : plan_outcome words plan table ≡ plan_answered (problem_in inst) (best_plan (problem_in inst)) plan table
  answered_outcome =
      let p = problem_in inst in
      let v = held.sound.valid in
      where_room words plan table p held.problem accepted
      (rw (
        enough_room (task_count p) plan (omega (arith, v.task_count_bound)),
        enough_room (table_size p) table (omega (arith, table_size_at_most p v)),
      ) refl)

  outcome_is : (best : Option (List ℕ)) → best_plan (problem_in inst) ≡ best →
      plan_outcome words plan table ≡ plan_answered (problem_in inst) best plan table
  outcome_is best e = answered_outcome ∙ ap (λ (best : Option (List ℕ)). plan_answered (problem_in inst) best plan table) e

  pub no_plan_outcome : (out : List ℕ) {r : Refusal} → answer ≡ Err r →
      list_given (Err r) out ≡ problem_list_outcome (problem_in inst) out
  no_plan_outcome out {r} said = go (best_plan (problem_in inst)) refl
    where
      go : (best : Option (List ℕ)) → best_plan (problem_in inst) ≡ best →
          list_given (Err r) out ≡ list_where (plan_found best) (listing_of_plan (problem_in inst) best) out
      go none e =
          let outcome = outcome_is none e in
          let same : r ≡ NoPlan = cc in
          ap (λ (r : Refusal). list_given (Err r) out) same
      go (some plan) e = let outcome = outcome_is (some plan) e in let z : ◌≡◌ {A = ℕ} 0 1 = cc in absurd (omega arith)

  pub planned_at_hand : (plan_after table_after : List ℕ) {price : Price} → plan_after ≡ (plan_outcome words plan table).plan →
      table_after ≡ (plan_outcome words plan table).table → answer ≡ Ok price →
      (size : ℕ) → size ≡ table_size (problem_in inst) →
      AtHand inst price (take inst.taskcount plan_after) (take size table_after)
  planned_at_hand plan_after table_after {price} planned tabled said size whole = go (best_plan (problem_in inst)) refl
    where
      go : (best : Option (List ℕ)) → best_plan (problem_in inst) ≡ best →
          AtHand inst price (take inst.taskcount plan_after) (take size table_after)
      go none e = let outcome = outcome_is none e in let z : ◌≡◌ {A = ℕ} 0 1 = cc in absurd (omega arith)
      go (some best) e =
          let p = problem_in inst in
          let outcome = outcome_is (some best) e in
          let front : take inst.taskcount plan_after ≡ best =
          rw (planned, outcome, held_taskcount inst held.sound) (front_of_onto best plan (best_plan_length p e)) in
          let rows : take size table_after ≡ table_of p best =
          rw (tabled, outcome, whole) (front_of_onto (table_of p best) table (length-table_of p best)) in
          let price_is : price ≡ price_of p best = cc in
          rw (front, rows)
          (record {
            its_price = price_is;
            one_choice_per_task = best_plan_length p e;
            whole_table = length-table_of p best;
            found = ap plan_found e;
            lines = ap (listing_of_plan p) e;
          })

module _ {inst : Instance} {price : Price} {plan table : List ℕ} (hand : AtHand inst price plan table) (out : List ℕ) where
  pub room_for_lines : Valid (problem_in inst) → most_listing ≤ length out → Room out 0 (plan_lines (problem_in inst) plan table)
  room_for_lines v enough =
      let few = rw hand.lines at (listing_of_plan_fits (problem_in inst) v) in record { fits = omega (arith, few) }

  pub lines_outcome : {after : List ℕ} {n : ℕ} → Put out 0 (plan_lines (problem_in inst) plan table) after n →
      list_given (Ok n) after ≡ problem_list_outcome (problem_in inst) out
  lines_outcome put = let listed = put_from_start put in rw (hand.found, hand.lines, listed.0, listed.1) refl
