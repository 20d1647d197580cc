use Rattle.std.specs.Prelude.{Ok, Err}
use Rattle.std.proofs.Common.{refl}
use Rattle.towhepamu.proofs.nodes.towhepamu_prepare.Goals as goal

pub returns-in-Ok : goal.returns-in-Ok
returns-in-Ok c = record { prepared = Ok c.in-Ok.prepared; prepares = c.in-Ok.ensures; same_answer = c.checked_of.ensures; node_after = refl }

pub returns-in-Err : goal.returns-in-Err
returns-in-Err c =
    record { prepared = Err c.in-Err.refusal; prepares = c.in-Err.ensures; same_answer = c.checked_of-in-Err.ensures; node_after = refl }
