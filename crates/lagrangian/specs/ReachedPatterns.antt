-- What is reached, and the admitted patterns that it is the worth of.
use Rattle.std.specs.Prelude.{◌≡◌, ℕ, suc, Bool, true, List, [], ◌∷◌, ◌++◌, refl}
use Rattle.std.proofs.Common.{append_assoc, append-nil, sym, ap, ◌∙◌, arith}
use Rattle.assignment.specs.Keeping.{Keeps, done, refused, kept}
use Rattle.assignment.specs.Values.{Value}
use Rattle.lagrangian.specs.Reached.{OneCore, worth_on, Reached, whole, passed, runs}

-- What is reached is what the admitted patterns are worth that begin so and keep exactly the flagged items.
module _ (core : OneCore) where
  pub reached_pattern : {q : List ℕ} {T : List Bool} {level : ℕ} {v : Value} → Reached core q T level v →
      (r : List ℕ) × Keeps core.levels T r × (core.admits (q ++ r) ≡ true) × (v ≡ worth_on core (q ++ r))
  reached_pattern {q} (whole met) = ([], done, rw (append-nil q) met, rw (append-nil q) refl)
  reached_pattern {q} (passed reached) =
      let (r, keeps, met, worth) = reached_pattern reached in
      (0 ∷ r, refused keeps, rw (append_assoc q (0 ∷ []) r) at met, worth ∙ ap (worth_on core) (append_assoc q (0 ∷ []) r))
  reached_pattern {q} (runs l from within reached) =
      let (r, keeps, met, worth) = reached_pattern reached in
      (suc l ∷ r, kept l within keeps, rw (append_assoc q (suc l ∷ []) r) at met, worth ∙ ap (worth_on core) (append_assoc q (suc l ∷ []) r))

  pub pattern_reached : {T : List Bool} {r : List ℕ} (q : List ℕ) → Keeps core.levels T r → core.admits (q ++ r) ≡ true →
      Reached core q T 0 (worth_on core (q ++ r))
  pattern_reached q done met = rw (append-nil q) (whole (rw (append-nil q) at met))
  pattern_reached q (refused {plan = r} keeps) met =
      let e = append_assoc q (0 ∷ []) r in
      passed (rw e at (pattern_reached (q ++ (0 ∷ [])) keeps (rw (sym e) at met)))
  pattern_reached q (kept {plan = r} l within keeps) met =
      let e = append_assoc q (suc l ∷ []) r in
      runs {level = 0} l (omega arith) within (rw e at (pattern_reached (q ++ (suc l ∷ [])) keeps (rw (sym e) at met)))
