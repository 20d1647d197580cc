-- A place's weight is a power of the base.
use Rattle.choice_lists.proofs.lists.front_at.Goals as goal

pub returns : goal.returns
returns c = rw c.keys_of.ensures
