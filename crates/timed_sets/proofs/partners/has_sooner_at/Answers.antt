use native.Mathlib.Omega.{arith}
use Rattle.timed_sets.proofs.partners.has_sooner_at.Goals as goal

pub is_due_sooner-requires : goal.is_due_sooner-requires
is_due_sooner-requires c =
    let pre = c.requires in
    let ready = pre.timed_ready.timed_items in
    let before = (c.partner_of.ensures.is_partner c.in-Some.partner c.in-Some.is).earlier in record { j_lt_most_items = (omega (arith, before, pre.i_lt_timed, ready.few_items), omega (arith, pre.i_lt_timed, ready.few_items)); timing_width_in_bounds = (omega (arith, before, pre.i_lt_timed, ready.timings_for_all), omega (arith, pre.i_lt_timed, ready.timings_for_all)) }
