-- `cheapest_plan` writes the plan that the least value's key stands for, or says that there is none.
use Rattle.search.specs.FoundLaws.{found_key, cheapest_told, none_told}
use Rattle.search.proofs.cheapest_plan.Goals as goal

pub returns-in_err-best : goal.returns-in_err-best
returns-in_err-best c =
    let least = c.least_of_table in
    rw c.from_residual.ensures (none_told c.requires.search_ready least.result.cost least.result.key least.ensures c.in_err-best.ensures)

pub write_plan-requires-clause-key_bound : goal.write_plan-requires-clause-key_bound
write_plan-requires-clause-key_bound c =
    let least = c.least_of_table in
    rw c.in_ok-best.ensures.0 (found_key c.requires.search_ready least.result.cost least.result.key least.ensures c.in_ok-best.ensures.1)

pub returns : goal.returns
returns c =
    let least = c.least_of_table in
    let told = cheapest_told c.requires.search_ready least.result.cost least.result.key least.ensures c.in_ok-best.ensures.1 in
    rw c.in_ok-best.ensures.0 (told (rw c.in_ok-best.ensures.0 at c.write_plan.ensures))
