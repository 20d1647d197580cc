use Rattle.instance.specs.Held.{problem_in, held_taskcount, held_levelcount, held_span}
use Rattle.answers.proofs.site_of.Goals as goal

pub returns : goal.returns
unfolding problem_in
returns c = λ i.
    record {
      refusal = c.default.ensures.0 i;
      place = c.default.ensures.1.0 i;
      tasks = held_taskcount _ c.requires i;
      levels = held_levelcount _ c.requires i;
      cores = c.args.inst.cores;
      span = held_span _ c.requires i;
    }
