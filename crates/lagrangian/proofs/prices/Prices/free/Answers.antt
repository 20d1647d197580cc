use Rattle.lagrangian.specs.PriceLaws.{nothing_priced}
use Rattle.lagrangian.proofs.prices.Prices.free.Goals as goal

pub returns : goal.returns
returns c = nothing_priced
