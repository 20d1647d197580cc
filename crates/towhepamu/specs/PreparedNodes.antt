-- A core that a program in C prepares once, with where its dispatching stands, and a tick over it.
use Rattle.std.specs.Prelude.{ℕ, Bool, List, ◌≡◌, Result, Ok, Err}
use Rattle.refusals.specs.declared.Refusal.{Refusal}
use Rattle.refusals.specs.Refusals.{Reading, verdict_of}
use Rattle.text.specs.Text.{words_of}
use Rattle.dispatcher.specs.Preparing.{Prepares, core_outcome}
use Rattle.dispatcher.specs.States.{fresh_state}
use Rattle.dispatcher.specs.declared.preparing.PreparedCore.{PreparedCore}
use Rattle.answers.specs.Answers.{checked_of, task_to_run_of}
use Rattle.answers.specs.declared.Checked.{Checked}
use Rattle.answers.specs.declared.TaskToRun.{TaskToRun}
use Rattle.towhepamu.specs.declared.nodes.PreparedNode.{PreparedNode}

-- "In any other call that is given text, 1 comes before all the rest."
pub data TextPrepares (text plan : List ℕ) (core : ℕ) : Result PreparedCore Refusal → Type 0 where
  text_refused : (r : Refusal) → words_of text ≡ Err r → TextPrepares text plan core (Err r)
  words_prepared : (words : List ℕ) (prepared : Result PreparedCore Refusal) → words_of text ≡ Ok words → Prepares words plan core prepared →
      TextPrepares text plan core prepared

-- what preparing answers to a reading of the text
abbrev pub ReadingPrepares : Reading (List ℕ) → List ℕ → ℕ → Result PreparedCore Refusal → Type 0
ReadingPrepares (Err r) plan core prepared = prepared ≡ Err r
ReadingPrepares (Ok words) plan core prepared = Prepares words plan core prepared

pub reading_prepares : (text plan : List ℕ) (core : ℕ) (reading : Reading (List ℕ)) {prepared : Result PreparedCore Refusal} →
    words_of text ≡ reading → ReadingPrepares reading plan core prepared → TextPrepares text plan core prepared
reading_prepares text plan core (Err r) read refuses = rw refuses (TextPrepares.text_refused r read)
reading_prepares text plan core (Ok words) read prepares = TextPrepares.words_prepared words _ read prepares

-- the core with a fresh start, or what was lent where the core is refused
abbrev pub node_where : Result PreparedCore Refusal → PreparedNode → PreparedNode
node_where (Ok core) before = record { core = core; state = fresh_state }
node_where (Err r) before = before

-- the numbers that preparing returns, and what stands in the node's place afterwards
pub record PreparesNode (text plan : List ℕ) (core : ℕ) (before : PreparedNode) (answer : Checked) (after : PreparedNode) : Type 0 where
  pub prepared : Result PreparedCore Refusal
  pub prepares : TextPrepares text plan core prepared
  pub same_answer : answer ≡ checked_of (verdict_of prepared)
  pub node_after : after ≡ node_where prepared before

-- the numbers that a tick returns, and what stands in the node's place afterwards
pub record NodeTicks (before : PreparedNode) (ended : Bool) (answer : TaskToRun) (after : PreparedNode) : Type 0 where
  pub same_answer :
      answer
      ≡ task_to_run_of (core_outcome before.core before.state ended).verdict (core_outcome before.core before.state ended).task
  pub next_node : after ≡ record { core = before.core; state = (core_outcome before.core before.state ended).state }
