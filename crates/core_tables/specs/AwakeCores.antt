-- A core that pays for its idle ticks, and what each item is offered at so that knapsacks find its cheapest patterns.
use Rattle.std.specs.Prelude.{ℕ, pred, ◌+◌, ◌-◌, ◌*◌, ◌≤◌, ◌<◌, ◌≡◌, Bool, cond, List, [], ◌∷◌, leb, ltb, length, get_or}
use Rattle.assignment.specs.Assignment.{Item, Options}
use Rattle.assignment.specs.Keeping.{kept_items}
use Rattle.assignment.specs.Values.{Value, none, pair}
use Rattle.knapsack.specs.Offers.{Offer, pattern_load, pattern_cost}

-- how many items a set has
unfoldable pub size : List Bool → ℕ
size [] = 0
size (b ∷ T) = cond b 1 0 + size T

-- the ticks of the span that the load of a core's items leaves idle; a core that runs none is off
unfoldable pub idle_load : ℕ → List Offer → List ℕ → ℕ
idle_load span offers pattern = cond (ltb 0 (size (kept_items pattern))) (span - pattern_load offers pattern) 0

-- each core takes load up to the span, and `unit` is what an idle tick costs
unfoldable pub awake_options : (cores levels span unit : ℕ) → List Offer → List Item → Options
awake_options cores levels span unit offers items =
    record {
      cores = cores;
      levels = levels;
      items = items;
      admits = λ pattern. leb (pattern_load offers pattern) span;
      core_cost = λ pattern. pattern_cost offers pattern + unit * idle_load span offers pattern;
    }

-- what an item costs at level l on a core that runs nothing else
unfoldable pub alone_cost : (span unit : ℕ) → Offer → ℕ → ℕ
alone_cost span unit offer l = offer.cost l + unit * (span - offer.load l)

unfoldable pub no_offer : Offer
no_offer = record { load = λ l. 0; cost = λ l. 0 }

abbrev pub offer_in : List Offer → ℕ → Offer
offer_in offers i = get_or offers i no_offer

-- the items as the knapsacks are offered them: with the load that they have, and, where it fits, at what they cost alone
pub record OfferedAlone (levels span unit : ℕ) (offers alone : List Offer) : Type 0 where
  pub for_all : length alone ≡ length offers
  pub same_load : (i l : ℕ) → i < length offers → l < levels → (offer_in alone i).load l ≡ (offer_in offers i).load l
  pub alone_cost_lem : (i l : ℕ) → i < length offers → l < levels → (offer_in offers i).load l ≤ span →
      (offer_in alone i).cost l ≡ alone_cost span unit (offer_in offers i) l

-- Costs alone count the idle energy of a whole span once for each of a core's items, and the core owes it once: so much is
-- counted too often.
unfoldable pub surplus : (whole count : ℕ) → ℕ
surplus whole count = pred count * whole

-- with the key that it has
unfoldable pub take_off : ℕ → Value → Value
take_off s none = none
take_off s (pair cost key) = pair (cost - s) key
