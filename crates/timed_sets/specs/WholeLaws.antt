-- A whole pattern: what is found there.
use Rattle.std.specs.Prelude.{ℕ, ◌≤◌, Bool, true, false, List, [], ◌∷◌, ◌⊎◌, ◌≡◌}
use Rattle.std.proofs.Common.{inl, inr, sym, ap, ◌∙◌, arith}
use Rattle.std.proofs.Math.Path.{ap₂}
use Rattle.assignment.specs.Limits.{most_items}
use Rattle.assignment.specs.Values.{pair, lesser}
use Rattle.assignment.specs.Words.{words_pair}
use Rattle.values.specs.WorthLaws.{lesser_worth-either, lesser_worth-value}
use Rattle.values.specs.Worths.{lesser_worth, worth_of}
use Rattle.values.specs.declared.value.Worth.{Worth}
use Rattle.lagrangian.specs.TimedItems.{timed_core}
use Rattle.lagrangian.specs.Reached.{worth_on}
use Rattle.lagrangian.specs.declared.Timed.{Timed}
use Rattle.timed_parts.specs.Nodes.{Stands}
use Rattle.timed_sets.specs.Found.{FoundFrom, SmallWorth, worth_at}
use Rattle.timed_sets.specs.ReachedLaws.{whole_met, whole_unmet}
use Rattle.timed_parts.specs.declared.Node.{Node}

module _ {timed : Timed} {timings cost : List ℕ} {node : Node} (few : timed.items ≤ most_items) (whole : node.item ≡ timed.items) where
  its_worth : {q : List ℕ} {T : List Bool} → Stands timed timings cost node q T → worth_of (worth_at node) ≡ worth_on (timed_core timed timings cost) q
  unfolding worth_on
  its_worth stands = words_pair node.cost node.key (omega (arith, stands.cheap)) ∙ ap₂ pair stands.costs stands.key

  pub found_met : {partners : List ℕ} {best r : Worth} → r ≡ lesser_worth best (worth_at node) → (q : List ℕ) (T : List Bool) → Stands timed timings cost node q T →
      true ≡ (timed_core timed timings cost).admits q → FoundFrom timed timings cost partners node q T best r
  found_met {partners} {best} {r} is q [] stands met =
      let value : worth_of r ≡ lesser (worth_of best) (worth_on (timed_core timed timings cost) q) =
      ap worth_of is ∙ lesser_worth-value best (worth_at node) ∙ ap (lesser (worth_of best)) (its_worth stands) in
      record { least = rw value (whole_met _ _ (sym met)) }
  found_met is q (b ∷ T) stands met = absurd (omega (arith, stands.behind))

  pub found_unmet : {partners : List ℕ} {best : Worth} (q : List ℕ) (T : List Bool) → Stands timed timings cost node q T → false ≡ (timed_core timed timings cost).admits q →
      FoundFrom timed timings cost partners node q T best best
  found_unmet q [] stands unmet = record { least = whole_unmet _ _ (sym unmet) }
  found_unmet q (b ∷ T) stands unmet = absurd (omega (arith, stands.behind))

pub lesser_small : (timed : Timed) (a b r : Worth) → r ≡ lesser_worth a b → SmallWorth timed b → SmallWorth timed a → SmallWorth timed r
lesser_small timed a b r is small_b small_a = go (lesser_worth-either a b)
  where
    go : (lesser_worth a b ≡ a) ⊎ (lesser_worth a b ≡ b) → SmallWorth timed r
    go (inl e) = let same = is ∙ e in rw same small_a
    go (inr e) = let same = is ∙ e in rw same small_b

pub small_at : {timed : Timed} {timings cost : List ℕ} {node : Node} {q : List ℕ} {T : List Bool} → timed.items ≤ most_items →
    node.item ≡ timed.items → Stands timed timings cost node q T → SmallWorth timed (worth_at node)
small_at few whole stands =
    record {
      at_most_none = omega (arith, stands.cheap);
      real = λ below. omega (arith, stands.cheap);
      digits = rw (← whole) stands.key_below;
    }
