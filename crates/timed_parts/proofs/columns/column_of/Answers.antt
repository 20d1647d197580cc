use native.Mathlib.Omega.{arith}
use Rattle.std.proofs.Common.{◌∙◌, below_more, get_or, set, get_or-set_other, get_or-set_same, length-set}
use Rattle.timed_parts.proofs.columns.column_of.Goals as goal

pub loop-i-preserved : goal.loop-i-preserved
loop-i-preserved g c =
    let so_far = c.loop-i.invariant in
    let column = c.loop-i.column in
    let at = c.loop-i.i in
    let one = c.entry.result in
    let other = c.args.other in
    record {
      places = length-set column at one ∙ so_far.places;
      entries =
          below_more (λ k. g.F.Fn.post c.args.entry (k, tt) (get_or (set column at one) k other)) at
          (λ k l. rw (get_or-set_other column at k one other (λ same. omega arith)) (so_far.entries k l))
          (rw (get_or-set_same column at one other (omega (arith, so_far.places, c.requires.few_items))) c.entry.ensures);
    }

pub returns : goal.returns
returns g c =
    let all = c.loop-i.invariant in
    record { places = all.places; entries = λ k l. all.entries k (omega (arith, c.loop-i-test.false)) }
