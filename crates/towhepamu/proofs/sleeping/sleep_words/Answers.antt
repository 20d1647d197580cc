use Rattle.std.proofs.Common.{arith}
use Rattle.towhepamu.specs.FrontPlanLaws.{copied_plan_gives_sleeps}
use Rattle.towhepamu.proofs.sleeping.sleep_words.Goals as goal

pub returns : goal.returns
returns c =
    let copied = c.words_of_bytes-n.ensures in
    let came = c.sleep.ensures in
    copied_plan_gives_sleeps _ _ _ copied.value _ _ _ _ _ _ (omega arith) _ _ copied.words_after
    (record { same_answer = came.value; same_energies = came.energies_after; same_sleeps = came.sleeps_after })
