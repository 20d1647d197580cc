-- What choosing the best plan gives: what it costs, and the plan at the front of a buffer.
use Rattle.std.specs.Prelude.{ℕ, List, Some, None}
use Rattle.std.specs.Prelude as prelude
use Rattle.std.proofs.Math.Option.{Option, none, some}
use Rattle.laws.specs.Lists.{onto}
use Rattle.instance.specs.Node.{Problem}
use Rattle.prices.specs.Prices.{cost}

abbrev pub found_of : Problem → Option (List ℕ) → prelude.Option ℕ
found_of p none = None
found_of p (some best) = Some (cost p best)

abbrev pub chosen_onto : Option (List ℕ) → List ℕ → List ℕ
chosen_onto none buffer = buffer
chosen_onto (some best) buffer = onto best buffer
