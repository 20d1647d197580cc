use Rattle.timed_sets.proofs.partners.is_due_too_soon.Goals as goal

pub returns : goal.returns
returns c = λ keyed is. c.is_due_sooner.ensures.i_bound is
