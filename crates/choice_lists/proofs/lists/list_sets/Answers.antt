use Rattle.choice_lists.specs.ListedSetSteps.{sets_start}
use Rattle.choice_lists.proofs.lists.list_sets.Goals as goal

pub loop-k-init : goal.loop-k-init
loop-k-init c = sets_start c.requires
