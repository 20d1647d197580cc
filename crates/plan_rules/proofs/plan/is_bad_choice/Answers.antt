use Rattle.plan_rules.specs.HeldPlans.{refused_is_bad_if_must, kept_is_bad_above_most}
use Rattle.plan_rules.proofs.plan.is_bad_choice.Goals as goal

pub returns-then-choice-eq0 : goal.returns-then-choice-eq0
returns-then-choice-eq0 c = refused_is_bad_if_must _ c.args.penalty _ c.if-choice-eq0.true

pub returns : goal.returns
returns c = kept_is_bad_above_most _ c.args.penalty _ c.if-choice-eq0.false
