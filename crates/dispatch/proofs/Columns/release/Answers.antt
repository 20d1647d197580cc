use mathlib.Core.Path.{refl, ◌∙◌}
use native.Mathlib.Omega.{arith}
use lib.ListN.{length-set}
use Rattle.dispatch.specs.Rows.{after_release}
use Rattle.dispatch.specs.ReleaseLaws.{none_released, release_next, all_released}
use Rattle.dispatch.proofs.Columns.release.Goals as goal

pub loop-i-init : goal.loop-i-init
loop-i-init c = (refl, none_released _ _ _ _)

pub loop-i-preserved : goal.loop-i-preserved
unfolding after_release
loop-i-preserved c =
    let at = c.loop-i in
    let room = c.requires in (
      length-set at.left at.i _ ∙ at.invariant.0,
      release_next _ _ _ _ at.left at.i _ (omega (arith, room)) at.invariant.1 c.after_release.ensures,
    )

pub returns : goal.returns
returns c =
    let at = c.loop-i in
    all_released _ _ _ _ _ at.i (omega arith) (omega (arith, c.requires)) at.invariant.1
