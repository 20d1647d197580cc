use native.Mathlib.Omega.{arith}
use Rattle.job_counts.proofs.JobCountSteps.{counting_begins, other_slot_passed, its_slot_passed, slot_too_many_is_over, all_ticks_is_right, ticks_left_is_short, count_is_promised}
use Rattle.job_counts.proofs.count_job.Goals as goal
use Rattle.job_counts.proofs.count_job.Goals.{then-slot-number+else-is_one_too_many, else-slot-number}

pub loop-x-init : goal.loop-x-init
loop-x-init c = counting_begins _ _ _ _

pub returns-then-is_one_too_many : goal.returns-then-is_one_too_many
returns-then-is_one_too_many c =
    let a = c.args in
    let counted = c.loop-x in
    let promised = count_is_promised a.slots.now a.number a.window a.ticks _
    (slot_too_many_is_over _ _ _ _ counted.left counted.x counted.invariant c.loop-x-test.true c.if-slot-number.true
    (c.is_one_too_many.ensures.too_many c.if-is_one_too_many.true)) in
    record { value = promised.0; promise = promised.1 }

pub loop-x-preserved : goal.loop-x-preserved
loop-x-preserved c =
    let counted = c.loop-x in
    let l = c.loop-x-test.true in
    elim c.if-slot-number.branch [
      | then-slot-number+else-is_one_too_many w ↦
          let needed = w.is_one_too_many.ensures.needed w.if-is_one_too_many.false in
          rw w.left-is (its_slot_passed _ _ _ _ counted.left counted.x counted.invariant l w.if-slot-number.true (λ none. omega arith) needed.1)
      | else-slot-number w ↦ rw w.left-is (other_slot_passed _ _ _ _ counted.left counted.x counted.invariant l w.if-slot-number.false)
    ]

pub returns-then-left-eq0 : goal.returns-then-left-eq0
returns-then-left-eq0 c =
    let counted = c.loop-x in
    let promised = count_is_promised c.args.slots.now c.args.number c.args.window c.args.ticks _
    (all_ticks_is_right _ _ _ _ counted.left counted.x counted.invariant c.loop-x-test.false c.if-left-eq0.true) in
    record { value = promised.0; promise = promised.1 }

pub returns-else-left-eq0 : goal.returns-else-left-eq0
returns-else-left-eq0 c =
    let counted = c.loop-x in
    let promised = count_is_promised c.args.slots.now c.args.number c.args.window c.args.ticks _
    (ticks_left_is_short _ _ _ _ counted.left counted.x counted.invariant c.loop-x-test.false c.if-left-eq0.false) in
    record { value = promised.0; promise = promised.1 }
