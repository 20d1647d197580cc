-- A round of the search: what partition and keeping find over the table as it stands is the best plan where the entries of that
-- plan's cores are exact, and where they find none there is none.
use Prim.Native.Nat.{ℕ, zero, suc, pred, ◌*◌, ◌%◌, ◌^◌, ◌≤◌, ◌<◌}
use Rattle.std.specs.Prelude.{◌≡◌, refl, ◌⊎◌, Bool, List, length, get_or}
use Rattle.std.proofs.Math.Path.{sym, subst}
use Rattle.std.proofs.Common.{ap, ◌∙◌, inl, inr, arith}
use Rattle.laws.specs.Below.{lt_or_le}
use Rattle.assignment.specs.Assignment.{Item, Options}
use Rattle.assignment.specs.Choice.{chosen}
use Rattle.assignment.specs.CoreTables.{LowerTable}
use Rattle.assignment.specs.Keeping.{core_set}
use Rattle.assignment.specs.KeepingLaws.{core_set-length}
use Rattle.assignment.specs.Keys.{key_base, digits}
use Rattle.assignment.specs.Limits.{most_cost}
use Rattle.assignment.specs.SearchTheorem.{BestAnswers, search_finds_best}
use Rattle.assignment.specs.Sets.{set_number, table_at, Tabled}
use Rattle.assignment.specs.SetLaws.{set_number-below}
use Rattle.assignment.specs.SettledTheorem.{chosen_none, chosen_settled}
use Rattle.assignment.specs.Values.{Value, pair}
use Rattle.assignment.specs.Words.{no_cost, words_none, words_pair}
use Rattle.core_tables.specs.AwakeCores.{size, surplus}
use Rattle.core_tables.specs.ChargedLaws.{charged_entry, charged_tabled, charged_limited, charged_keyed}
use Rattle.core_tables.specs.ChargedTables.{ChargeReady, ChargedBelow}
use Rattle.core_tables.specs.SetSizes.{items_in-set}
use Rattle.partition.specs.Tables.{OneCoreTable, one_core_table}
use Rattle.search.specs.Found.{found_value}
use Rattle.search.specs.FoundLaws.{items_counted, few_choices, found_key}
use Rattle.search.specs.Limits.{ShapeLimited, SearchReady}
use Rattle.search.specs.declared.Shape.{Shape}
use Rattle.values.specs.Items.{items_of}
use Rattle.values.specs.Worths.{worth_of}
use Rattle.values.specs.declared.value.Worth.{Worth}
use Rattle.raising.specs.ChargedOptions.{with_items, charged_once, CostsCounted, least_charged, lower_charged}
use Rattle.set_tables.specs.CoreSets.{core_set_number}
use Rattle.raising.specs.ExactTables.{exact_table, exact_core_table, least_unique}
use Rattle.raising.specs.RaisedTables.{Raised}

-- what is offered for refusing
pub record RefusalsOffered (n : ℕ) (refusal : List ℕ) (must : List Bool) : Type 0 where
  pub refusals_for_all : n ≤ length refusal
  pub musts_for_all : n ≤ length must
  pub refusals_limited : (i : ℕ) → i < n → get_or refusal i 0 ≤ most_cost

-- each core of a plan runs a set that may not be tried again
pub record AllSettled (shape : Shape) (key : ℕ) (left : List ℕ) : Type 0 where
  pub core : (k : ℕ) → k < shape.cores → get_or left (core_set_number shape.items shape.levels k key) 0 ≡ 0

digits_length : (n key : ℕ) → length (digits n key) ≡ n
unfolding digits
digits_length zero key = refl
digits_length (suc n) key = ap suc (digits_length n (key % key_base ^ n))

-- what a round asks
pub record RoundReady (shape : Shape) (whole : ℕ) (refusal : List ℕ) (must : List Bool) (costs keys : List ℕ) : Type 0 where
  pub limits : ShapeLimited shape
  pub offered : RefusalsOffered shape.items refusal must
  pub chargeable : ChargeReady shape.items whole costs
  pub table : OneCoreTable shape.items shape.levels costs keys

-- what it finds: the value of the charged table
pub record RoundFound (shape : Shape) (whole : ℕ) (refusal : List ℕ) (must : List Bool) (costs keys : List ℕ) (worth : Worth) : Type 0 where
  pub after : List ℕ
  pub charged : ChargedBelow shape.items whole (2 ^ shape.items) costs after
  pub same_length : length after ≡ length costs
  pub is : worth_of worth ≡ found_value shape refusal must after keys

pub charged_ready : {shape : Shape} {whole : ℕ} {refusal : List ℕ} {must : List Bool} {costs keys after : List ℕ} →
    RoundReady shape whole refusal must costs keys → ChargedBelow shape.items whole (2 ^ shape.items) costs after →
    length after ≡ length costs → SearchReady shape refusal must after keys
charged_ready {shape} {keys = keys} ready charged same_length =
    let small = ready.table.small in
    let before : Tabled shape.items (key_base ^ shape.items) (table_at shape.items _ keys) _ keys =
    record {
      costs_for_all = small.costs_for_all;
      marks_for_all = small.keys_for_all;
      holds = λ S of_items. refl;
      cost_bound = small.cost_bound;
      key_bound_lem = small.key_bound_lem;
    } in
    record {
      shape_limited = ready.limits;
      refusals_for_all = ready.offered.refusals_for_all;
      musts_for_all = ready.offered.musts_for_all;
      refusals_limited = ready.offered.refusals_limited;
      core_table =
          one_core_table (charged_tabled before charged same_length) (charged_limited charged small.real_bound)
          (λ T of_items. charged_keyed keys charged T of_items (ready.table.keyed T of_items));
    }

-- the key of a value that was found is that of a plan
pub found_key_below : {shape : Shape} {whole : ℕ} {refusal : List ℕ} {must : List Bool} {costs keys : List ℕ} {worth : Worth} →
    RoundReady shape whole refusal must costs keys → RoundFound shape whole refusal must costs keys worth → worth.cost < no_cost →
    worth.key < key_base ^ shape.items
found_key_below {worth = worth} ready found real =
    found_key (charged_ready ready found.charged found.same_length) worth.cost worth.key found.is real

module _ {shape : Shape} {refusal : List ℕ} {must : List Bool} {o : Options} {whole : ℕ} {costs keys left : List ℕ}
    (limits : ShapeLimited shape) (offered : RefusalsOffered shape.items refusal must) (same_levels : o.levels ≡ shape.levels)
    (counted : CostsCounted whole shape.items o) (raised : Raised o whole shape.items costs keys left) where
  items : List Item
  items = items_of refusal must shape.items

  of_shape : length items ≡ shape.items
  unfolding items
  of_shape = items_counted refusal must shape.items

  pub round_ready : RoundReady shape whole refusal must costs keys
  round_ready =
      record {
        limits = limits;
        offered = offered;
        chargeable =
            record { few_items = limits.items; costs_for_all = raised.small.costs_for_all; surplus_counted = raised.surplus_counted };
        table = record { small = raised.small; keyed = λ S of_items. rw same_levels at (raised.keyed S of_items) };
      }

  cost_counted : (T : List Bool) → length T ≡ shape.items → (cost key : ℕ) → table_at shape.items costs keys T ≡ pair cost key →
      surplus whole (size T) ≤ cost
  unfolding table_at
  cost_counted T of_items cost key entry = go (lt_or_le (get_or costs x 0) no_cost)
    where
      x : ℕ
      x = set_number shape.items T

      go : (get_or costs x 0 < no_cost) ⊎ (no_cost ≤ get_or costs x 0) → surplus whole (size T) ≤ cost
      go (inl real) =
          let same = rw (words_pair _ _ real) at entry in
          let here : get_or costs x 0 ≡ cost = cc in
          rw (← here) (rw (items_in-set shape.items T of_items) at (raised.surplus_counted x (set_number-below shape.items T) real))
      go (inr dear) =
          let same = rw (words_none _ _ dear) at entry in
          let z : ◌≡◌ {A = ℕ} 0 1 = cc in
          absurd (omega arith)

  module _ {worth : Worth} (found : RoundFound shape whole refusal must costs keys worth) where
    true_options : Options
    true_options = charged_once whole (with_items shape.cores items o)

    value_of : List Bool → Value
    value_of = table_at shape.items found.after keys

    lower_once : LowerTable true_options value_of
    unfolding true_options value_of items charged_once
    lower_once =
        record {
          keyed = λ T of_items. charged_keyed keys found.charged T (of_items ∙ of_shape) (raised.keyed T (of_items ∙ of_shape));
          lower = λ T of_items pattern admitted.
              rw (charged_entry keys found.charged T (of_items ∙ of_shape))
              (lower_charged counted shape.cores items T (of_items ∙ of_shape) (cost_counted T (of_items ∙ of_shape))
              (raised.lower T (of_items ∙ of_shape)) pattern admitted);
        }

    exact_once : (T : List Bool) → length T ≡ shape.items → get_or left (set_number shape.items T) 0 ≡ 0 →
        value_of T ≡ exact_table true_options T
    unfolding true_options value_of items charged_once
    exact_once T of_items settled =
        least_unique
        (rw (charged_entry keys found.charged T of_items)
        (least_charged counted shape.cores items T of_items (raised.least_where_settled T of_items settled)))
        ((exact_core_table true_options).least T (of_items ∙ sym of_shape))

    cores_exact : AllSettled shape worth.key left → (k : ℕ) → k < shape.cores →
        let S = core_set o.levels k (digits (length items) worth.key) in
        value_of S ≡ exact_table true_options S
    unfolding items core_set_number
    cores_exact settled k h =
        exact_once _ (core_set-length o.levels k (digits (length items) worth.key) ∙ digits_length (length items) worth.key ∙ of_shape)
        (rw (same_levels, of_shape) (settled.core k h))

    found_chosen : chosen o.levels items value_of (pred shape.cores) ≡ worth_of worth
    unfolding found_value value_of items
    found_chosen = rw same_levels (sym found.is)

    few_digits : shape.cores * o.levels < key_base
    few_digits = rw same_levels (few_choices (charged_ready round_ready found.charged found.same_length))

    best_of_exact : {v : Value} → chosen o.levels items (exact_table true_options) (pred shape.cores) ≡ v → BestAnswers true_options v
    unfolding true_options charged_once
    best_of_exact e =
        subst (BestAnswers true_options) e
        (search_finds_best true_options (exact_table true_options) (exact_core_table true_options) limits.some_core few_digits)

    pub none_found : no_cost ≤ worth.cost →
        BestAnswers (charged_once whole (with_items shape.cores (items_of refusal must shape.items) o)) (worth_of worth)
    unfolding true_options items charged_once
    none_found dear =
        let nothing = words_none worth.cost worth.key dear in
        rw nothing (best_of_exact (chosen_none (exact_core_table true_options) lower_once (pred shape.cores) (found_chosen ∙ nothing)))

    pub settled_found : worth.cost < no_cost → AllSettled shape worth.key left →
        BestAnswers (charged_once whole (with_items shape.cores (items_of refusal must shape.items) o)) (worth_of worth)
    unfolding true_options items charged_once
    settled_found real settled =
        let told = words_pair worth.cost worth.key real in
        rw told
        (best_of_exact
        (chosen_settled (exact_core_table true_options) lower_once limits.some_core few_digits (found_chosen ∙ told) (cores_exact settled)))
