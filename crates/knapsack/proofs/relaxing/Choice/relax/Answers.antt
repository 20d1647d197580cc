use Prim.Native.Nat.{suc}
use native.Mathlib.Numerals.{add-one}
use native.Mathlib.Omega.{arith}
use Rattle.knapsack.specs.RelaxedKnapsacks.{RelaxedBelow, relaxed_start, relaxed_kept, relaxed_stored}
use Rattle.knapsack.proofs.relaxing.Choice.relax.Goals.{Joined-cost-costs, then-cost-costs, else-cost-costs}
use Rattle.knapsack.proofs.relaxing.Choice.relax.Goals as goal

pub loop-w-init : goal.loop-w-init
loop-w-init c = relaxed_start _ _ _ _ _ _ _ _

-- entry w is relaxed beside those below it
relaxed : (c : goal.Joined-cost-costs) →
    let a = c.args in
    RelaxedBelow a.self.load a.self.cost a.self.key a.knapsack_costs.now a.knapsack_keys.now a.costs.now a.keys.now a.capacity (suc c.loop-w.w) c.if-cost-costs.costs c.if-cost-costs.keys
relaxed c =
    let at = c.loop-w in
    elim c.if-cost-costs.branch [
      | then-cost-costs w ↦ rw (w.costs-is, w.keys-is)
          (relaxed_stored _ _ _ _ _ _ _ at.invariant (omega arith) (omega arith) w.if-cost-costs.true)
      | else-cost-costs w ↦ rw (w.costs-is, w.keys-is)
          (relaxed_kept _ _ _ _ _ _ _ at.invariant w.if-cost-costs.false)
    ]

pub loop-w-preserved : goal.loop-w-preserved
loop-w-preserved c = rw add-one (relaxed (goal.at.loop-w-preserved c).Joined-cost-costs)

pub returns-after-cost-costs : goal.returns-after-cost-costs
returns-after-cost-costs c = λ w le. (relaxed (goal.at.returns-after-cost-costs c).Joined-cost-costs).done w (omega arith) le
