use borrow.Author.Rules.{rules}
use Prim.Native.Nat.{ℕ, ◌<◌}
use lib.ListN.{get_or}
use Rattle.std.proofs.Common.{◌∙◌, None}
use Rattle.std.proofs.lemmas.List.{length-map}
use Rattle.timed_sets.specs.PartnerColumns.{number_of, partner_at, PartnerOf}
use Rattle.timed_sets.proofs.partners.partners_in.Goals as goal
use Rattle.timed_sets.proofs.partners.partners_in.Goals.{After-column_of}

each : (c : After-column_of) (i : ℕ) → i < c.args.timed.items →
    PartnerOf c.args.timed c.args.timings.now c.args.cost.now c.args.keyed i (get_or c.column_of.result i None)
each c i under = let one = c.column_of.ensures.entries i under in search rules

pub returns : goal.returns
returns c = record {
  partners = record {
    places = length-map c.column_of.result number_of ∙ c.column_of.ensures.places;
    partner = λ i j under is. (each c i under).is_partner j (partner_at c.column_of.result i is);
  };
  due_no_sooner = λ keyed. record {
    no_sooner = λ i j under is. (each c i under).no_sooner keyed j (partner_at c.column_of.result i is);
  };
}
