-- What the answer of reading words tells: an instance struct that holds the problem, or the refusal.
use Rattle.std.specs.Prelude.{ℕ, refl, List, Result, Ok, Err}
use Rattle.std.proofs.Math.Path.{◌≡◌, ap}
use Rattle.std.proofs.Common.{sym, ◌∙◌, arith}
use Rattle.formats.specs.Readers.{mapped}
use Rattle.instance.specs.Held.{problem_in, Sound, problem_in_stored, stored_is_sound}
use Rattle.instance.specs.Node.{Problem, stored}
use Rattle.instance.specs.Outcomes.{instance_outcome}
use Rattle.instance.specs.SiteFile.{problem_of}
use Rattle.instance.specs.SiteFileLaws.{accepted_is_valid}
use Rattle.instance.specs.declared.Instance.{Instance}
use Rattle.refusals.specs.Refusals.{Reading}
use Rattle.refusals.specs.declared.Refusal.{Refusal}

-- the struct holds the problem that the words are
pub record HoldsProblemOf (words : List ℕ) (inst : Instance) : Type 0 where
  pub sound : Sound inst
  pub problem : problem_of words ≡ Ok (problem_in inst)

module _ (words : List ℕ) where
  pub read_holds_problem : {inst : Instance} → Ok inst ≡ instance_outcome words → HoldsProblemOf words inst
  unfolding instance_outcome
  read_holds_problem {inst} = go (problem_of words) refl
    where
      go : (reading : Reading Problem) → problem_of words ≡ reading → Ok inst ≡ mapped stored reading → HoldsProblemOf words inst
      go (Err r) same e = let z : ◌≡◌ {A = ℕ} 0 1 = cc in absurd (omega arith)
      go (Ok p) same e =
          let v = accepted_is_valid words same in
          let held = problem_in_stored p v.level_count_bound.at_most v.task_count_bound in
          let is : inst ≡ stored p = cc in
          rw is (record { sound = stored_is_sound p v; problem = same ∙ ap Ok (sym held) })

  pub refused_read_refuses_words : {r : Refusal} → Err r ≡ instance_outcome words → problem_of words ≡ Err r
  unfolding instance_outcome
  refused_read_refuses_words {r} = go (problem_of words) refl
    where
      go : (reading : Reading Problem) → problem_of words ≡ reading → Err r ≡ mapped stored reading → problem_of words ≡ Err r
      go (Err q) same e = cc
      go (Ok p) same e = let z : ◌≡◌ {A = ℕ} 0 1 = cc in absurd (omega arith)
