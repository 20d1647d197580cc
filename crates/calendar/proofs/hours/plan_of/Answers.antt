-- `hours::plan_of` meets its contract.
use native.Mathlib.Omega.{arith}
use borrow.Author.Tests.{le-leb, lt-leb, lt-ltb, le-ltb}
use Rattle.calendar.specs.Hours.{plan_of}
use Rattle.calendar.proofs.hours.plan_of.Goals as goal

pub returns-then-minute-entry : goal.returns-then-minute-entry
unfolding plan_of
returns-then-minute-entry c =
    rw (lt-leb c.args.entry.opening c.args.minute (omega arith))

pub returns-then-entry-minute : goal.returns-then-entry-minute
unfolding plan_of
returns-then-entry-minute c =
    let e = c.args.entry in
    let minute = c.args.minute in
    rw (le-leb e.opening minute (omega arith), le-ltb minute e.closing (omega arith))

pub returns : goal.returns
unfolding plan_of
returns c =
    let e = c.args.entry in
    let minute = c.args.minute in
    rw (le-leb e.opening minute (omega arith), lt-ltb minute e.closing (omega arith))
