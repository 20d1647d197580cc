-- A call of the dispatcher ends as demand 1 has it, and so do preparing a core and a tick over it.
use Rattle.std.specs.Prelude.{ℕ, pred, Bool, ◌&&◌, ◌≡◌, refl, leb, ltb, eqb, Result, Ok, Err}
use mathlib.Core.List.Memᴰ
use mathlib.Core.List.{List, [], ◌∷◌}
use Rattle.std.proofs.Common.{sym}
use Rattle.ranges.specs.Limits.{most_tasks}
use Rattle.refusals.specs.EndingLaws.{turns_down, ends_as_tested}
use Rattle.refusals.specs.Endings.{Ends, read_then}
use Rattle.instance.specs.Node.{Problem, span}
use Rattle.refusals.specs.RefusalNumbers.{RefusesOnly, accepts, UnreadOnly, read, unread, and_then-refuses, both_refuse, refuses_if, refuses_unless}
use Rattle.refusals.specs.Refusals.{Reading, Verdict, accepted}
use Rattle.refusals.specs.VerdictLaws.{refused_not_accepted}
use Rattle.instance.specs.SiteFile.{problem_of}
use Rattle.instance.specs.SiteFileRefusals.{reading_refuses_2_3_4}
use Rattle.dispatch.specs.Rows.{CoreTasks}
use Rattle.plan_rules.specs.CoreOfPlan.{core_tasks}
use Rattle.plan_rules.specs.RefusalLaws.{plan_refuses_7_8}
use Rattle.refusals.specs.declared.Refusal.{Refusal}
use Rattle.refusals.specs.declared.Refusal.TheVariants.{CoreOrState, EarlyEnd}
use Rattle.dispatcher.specs.Columns.{columns_fit, columns_pass}
use Rattle.dispatcher.specs.Outcomes.{core_passes, dispatch_outcome, dispatch_outcome_of, dispatch_tests, preparing_tests, DispatchingEnds}
use Rattle.dispatcher.specs.Preparing.{Prepares, PreparingEnds, CoreTickEnds, core_outcome, core_tests, tasks_of}
use Rattle.dispatcher.specs.States.{call_passes, dispatched_where, state_fits, state_passes, end_passes}
use Rattle.dispatcher.specs.declared.DispatchState.{DispatchState}
use Rattle.dispatcher.specs.declared.Dispatched.{Dispatched}
use Rattle.dispatcher.specs.declared.preparing.PreparedCore.{PreparedCore}

core_refuses_12 : {others : List ℕ} (p : Problem) (core : ℕ) → RefusesOnly (12 ∷ others) (core_passes p core)
unfolding core_passes
core_refuses_12 p core = refuses_unless CoreOrState (Memᴰ.head refl) (ltb 0 core && leb core p.cores) accepted accepts

pub call_refuses_12_13 : (core : CoreTasks) (its_span : ℕ) (s : DispatchState) (ended : Bool) →
    RefusesOnly (12 ∷ 13 ∷ []) (call_passes core its_span s ended)
unfolding state_passes end_passes
call_refuses_12_13 core its_span s ended =
    and_then-refuses {first = 12 ∷ []} {others = 13 ∷ []}
    (refuses_unless CoreOrState (Memᴰ.head refl) (state_fits core its_span s) accepted accepts)
    (refuses_if EarlyEnd (Memᴰ.head refl) (ended && eqb s.last 0))

pub preparing_refuses_7_8_12 : (p : Problem) (plan : List ℕ) (core : ℕ) → RefusesOnly (7 ∷ 8 ∷ 12 ∷ []) (preparing_tests p plan core)
preparing_refuses_7_8_12 p plan core = and_then-refuses (plan_refuses_7_8 p plan) (core_refuses_12 p core)

pub preparing_ends : (words plan : List ℕ) (core : ℕ) (prepared : Result PreparedCore Refusal) → Prepares words plan core prepared → PreparingEnds words plan core prepared
preparing_ends words plan core prepared prepares = rw prepares.as_tested (go (reading_refuses_2_3_4 words))
  where
    go : {reading : Reading Problem} → UnreadOnly (2 ∷ 3 ∷ 4 ∷ []) reading →
        let tests = read_then reading (λ p. preparing_tests p plan core) in Ends tests (2 ∷ 3 ∷ 4 ∷ 7 ∷ 8 ∷ 12 ∷ []) [] tests
    go (read p) = ends_as_tested (2 ∷ 3 ∷ 4 ∷ []) (preparing_refuses_7_8_12 p plan core)
    go (unread m) = turns_down (Memᴰ.append_left (7 ∷ 8 ∷ 12 ∷ []) m) tt

-- no task, and the state as handed in
abbrev HandedIn : DispatchState → Dispatched → Type 0
HandedIn s d = (r : Refusal) → d.verdict ≡ Err r → (d.task ≡ 0) × (d.state ≡ s)

handed_in_where : (v : Verdict) (core : CoreTasks) (its_span : ℕ) (s : DispatchState) (ended : Bool) → HandedIn s (dispatched_where v core its_span s ended)
handed_in_where (Ok tt) core its_span s ended r e = absurd (refused_not_accepted r (sym e))
handed_in_where (Err q) core its_span s ended r e = (refl, refl)

dispatched_verdict : (v : Verdict) (tasks : CoreTasks) (its_span : ℕ) (s : DispatchState) (ended : Bool) → (dispatched_where v tasks its_span s ended).verdict ≡ v
dispatched_verdict (Ok tt) tasks its_span s ended = refl
dispatched_verdict (Err r) tasks its_span s ended = refl

pub core_tick_ends : (core : PreparedCore) (s : DispatchState) (ended : Bool) → CoreTickEnds core s ended (core_outcome core s ended)
unfolding core_outcome columns_pass
core_tick_ends core s ended =
    record {
      as_tested =
          rw (dispatched_verdict (core_tests core s ended) (tasks_of core) core.span s ended)
          (ends_as_tested []
          (both_refuse
          (refuses_unless CoreOrState (Memᴰ.head refl) (leb core.count most_tasks) accepted accepts)
          (both_refuse
          (refuses_unless CoreOrState (Memᴰ.head refl) (columns_fit _ _ _ _) accepted accepts)
          (call_refuses_12_13 (tasks_of core) core.span s ended))));
      refused_as_handed_in = handed_in_where (core_tests core s ended) (tasks_of core) core.span s ended;
    }

module _ (words plan : List ℕ) (core : ℕ) (s : DispatchState) (ended : Bool) where
  tests_refuse : (p : Problem) → RefusesOnly (7 ∷ 8 ∷ 12 ∷ 13 ∷ []) (dispatch_tests p plan core s ended)
  tests_refuse p =
      and_then-refuses (plan_refuses_7_8 p plan)
      (both_refuse (core_refuses_12 p core) (call_refuses_12_13 (core_tasks p plan (pred core)) (span p) s ended))

  pub dispatching_ends : DispatchingEnds words plan core s ended (dispatch_outcome words plan core s ended)
  unfolding dispatch_outcome
  dispatching_ends = record { as_tested = go (reading_refuses_2_3_4 words); refused_as_handed_in = handed_in (problem_of words) }
    where
      go : {reading : Reading Problem} → UnreadOnly (2 ∷ 3 ∷ 4 ∷ []) reading →
          Ends (read_then reading (λ p. dispatch_tests p plan core s ended)) (2 ∷ 3 ∷ 4 ∷ 7 ∷ 8 ∷ 12 ∷ 13 ∷ []) []
          (dispatch_outcome_of reading plan core s ended).verdict
      go (read p) =
          rw (dispatched_verdict (dispatch_tests p plan core s ended) (core_tasks p plan (pred core)) (span p) s ended)
          (ends_as_tested (2 ∷ 3 ∷ 4 ∷ []) (tests_refuse p))
      go (unread m) = turns_down (Memᴰ.append_left (7 ∷ 8 ∷ 12 ∷ 13 ∷ []) m) tt

      handed_in : (reading : Reading Problem) → HandedIn s (dispatch_outcome_of reading plan core s ended)
      handed_in (Err q) r e = (refl, refl)
      handed_in (Ok p) r e =
          handed_in_where (dispatch_tests p plan core s ended) (core_tasks p plan (pred core)) (span p) s ended r e

  -- what the contract says of an answer
  pub dispatch_is_promised : (d : Dispatched) → d ≡ dispatch_outcome words plan core s ended →
      (d ≡ dispatch_outcome words plan core s ended) × DispatchingEnds words plan core s ended d
  dispatch_is_promised d e = (e, rw e dispatching_ends)
