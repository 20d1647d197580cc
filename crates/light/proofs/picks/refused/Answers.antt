use mathlib.Core.Path.{refl, sym, ◌∙◌}
use Rattle.light.specs.Picks.{refusing_first}
use Rattle.light.proofs.picks.refused.Goals as goal

pub returns : goal.returns
returns c = λ capacity offer item refusal must. refusing_first capacity offer item _ (must ∙ c.if-must.false) refl refl (sym refusal)
