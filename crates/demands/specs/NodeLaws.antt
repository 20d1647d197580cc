-- A core that is prepared from C ends as demand 1 has it, and a tick over it is the call for the same text, plan and core.
use Rattle.std.specs.Prelude.{ℕ, Bool, List, [], ◌∷◌, ◌≡◌, refl, Result, Ok, Err}
use Rattle.std.proofs.Math.Path.{sym}
use Rattle.std.proofs.Common.{ap, ◌∙◌}
use Rattle.refusals.specs.EndingLaws.{ends_as_tested}
use Rattle.refusals.specs.Endings.{Ends}
use Rattle.refusals.specs.VerdictLaws.{refused_not_accepted}
use Rattle.refusals.specs.declared.Refusal.{Refusal}
use Rattle.refusals.specs.Refusals.{accepted, verdict_of}
use Rattle.dispatcher.specs.EndingLaws.{core_tick_ends, preparing_refuses_7_8_12}
use Rattle.dispatcher.specs.Outcomes.{preparing_tests}
use Rattle.dispatcher.specs.PreparedLaws.{call_is_preparing_and_tick}
use Rattle.dispatcher.specs.Preparing.{core_outcome}
use Rattle.dispatcher.specs.declared.DispatchState.{DispatchState}
use Rattle.dispatcher.specs.declared.preparing.PreparedCore.{PreparedCore}
use Rattle.answers.specs.Answers.{checked_of}
use Rattle.answers.specs.declared.Checked.{Checked}
use Rattle.answers.specs.declared.TaskToRun.{TaskToRun}
use Rattle.towhepamu.specs.CallOutcomes.{text_dispatch_outcome}
use Rattle.towhepamu.specs.PreparedNodes.{TextPrepares, text_refused, words_prepared, PreparesNode, node_where, NodeTicks}
use Rattle.towhepamu.specs.declared.nodes.PreparedNode.{PreparedNode}
use Rattle.demands.specs.TextCalls.{text_then, dispatched_numbers, NodePreparingEnds, NodeTickingEnds}
use Rattle.demands.specs.TextCallLaws.{dispatching_hands_over}
use Rattle.demands.specs.TextEndingLaws.{text_then_refuses}

module _ (text plan : List ℕ) (core : ℕ) where
  as_text_tested : {prepared : Result PreparedCore Refusal} → TextPrepares text plan core prepared →
      verdict_of prepared ≡ text_then text (λ p. preparing_tests p plan core)
  as_text_tested (text_refused r read) = rw read refl
  as_text_tested (words_prepared words prepared read prepares) = rw read prepares.as_tested

  -- what was prepared ticks as the call
  prepared_ticks : {its_core : PreparedCore} → TextPrepares text plan core (Ok its_core) → (s : DispatchState) (ended : Bool) →
      core_outcome its_core s ended ≡ text_dispatch_outcome text plan core s ended
  unfolding text_dispatch_outcome
  prepared_ticks (words_prepared words prepared read prepares) s ended =
      rw read (sym (call_is_preparing_and_tick words plan core prepared prepares s ended))

  node_tested : {prepared : Result PreparedCore Refusal} → TextPrepares text plan core prepared →
      Ends (text_then text (λ p. preparing_tests p plan core)) (1 ∷ 2 ∷ 3 ∷ 4 ∷ 7 ∷ 8 ∷ 12 ∷ []) [] (verdict_of prepared)
  node_tested prepares =
      rw (as_text_tested prepares) (ends_as_tested [] (text_then_refuses text (λ p. preparing_refuses_7_8_12 p plan core)))

  -- by what was prepared
  node_ends : (prepared : Result PreparedCore Refusal) (before : PreparedNode) (answer : Checked) → TextPrepares text plan core prepared →
      answer ≡ checked_of (verdict_of prepared) → NodePreparingEnds text plan core before answer (node_where prepared before)
  node_ends (Ok its_core) before answer prepares same =
      record {
        verdict = accepted;
        as_tested = node_tested prepares;
        same_answer = same;
        refused_as_lent = λ r e. absurd (refused_not_accepted r (sym e));
        fresh_start = λ accepts. refl;
        ticks_as_dispatched = λ accepts. prepared_ticks prepares;
      }
  node_ends (Err r) before answer prepares same =
      record {
        verdict = Err r;
        as_tested = node_tested prepares;
        same_answer = same;
        refused_as_lent = λ q e. refl;
        fresh_start = λ accepts. absurd (refused_not_accepted r accepts);
        ticks_as_dispatched = λ accepts. absurd (refused_not_accepted r accepts);
      }

  pub preparing_node_ends : (before : PreparedNode) (answer : Checked) (after : PreparedNode) → PreparesNode text plan core before answer after →
      NodePreparingEnds text plan core before answer after
  preparing_node_ends before answer after prepares =
      rw prepares.node_after (node_ends prepares.prepared before answer prepares.prepares prepares.same_answer)

-- a tick over a prepared core ends as that of the core
pub ticking_node_ends : (before : PreparedNode) (ended : Bool) (answer : TaskToRun) (after : PreparedNode) → NodeTicks before ended answer after →
    NodeTickingEnds before ended answer after
ticking_node_ends before ended answer after ticks =
    let o = core_outcome before.core before.state ended in
    let ends = core_tick_ends before.core before.state ended in
    let returned : answer ≡ dispatched_numbers o = ticks.same_answer ∙ dispatching_hands_over o in
    record {
      outcome = o;
      its_outcome = refl;
      as_tested = ends;
      same_answer = returned;
      node_after = ticks.next_node;
      refused_as_lent = λ r refuses.
          let as_handed_in = ends.refused_as_handed_in r refuses in (
            ap (λ (a : TaskToRun). a.task) returned ∙ as_handed_in.0,
            ticks.next_node ∙ ap (λ (s : DispatchState). record { core = before.core; state = s }) as_handed_in.1,
          );
    }
