use Rattle.std.proofs.Common.{ap, ◌∙◌, take}
use Rattle.towhepamu.specs.FrontPlanLaws.{front_of_copy}
use Rattle.towhepamu.proofs.choices.with_front.Goals as goal

pub returns : goal.returns
returns g c =
    let copied = c.words_of_bytes-n.ensures in
    (_, c.f.ensures, front_of_copy _ _ _ copied.value _ _ copied.words_after ∙ ap (λ n. take n c.args.plan.now) copied.value)
