-- The steps of a search through what is reached: each leaves the least of a known value and of all that is reached by patterns that pass
-- a test.
use Rattle.std.specs.Prelude.{ℕ, suc, ◌≤◌, ◌<◌, Bool, true, false, ◌⊎◌, ◌≡◌, refl}
use mathlib.Core.List.{List, [], ◌∷◌, ◌++◌}
use Rattle.std.proofs.Common.{inl, inr, ◌∙◌, eq-or-lt_of_le, arith}
use Rattle.laws.specs.Truth.{and_is_true, false_not_true}
use Rattle.assignment.specs.Values.{Value, none, AtMost, to_none, lesser}
use Rattle.assignment.specs.ValueLaws.{at_most-refl, at_most-trans, at_most-antisym, lesser_first, lesser_second, lesser_either}
use Rattle.lagrangian.specs.Reached.{OneCore, worth_on, passing, Reached, whole, passed, runs}
use Rattle.timed_sets.specs.LeastReached.{LeastFrom}

module _ {passes : List ℕ → Bool} {core : OneCore} {q : List ℕ} {T : List Bool} {level : ℕ} where
  -- nothing that is looked for comes before the known value
  pub nothing_before : {known : Value} → ((u : Value) → Reached (passing passes core) q T level u → AtMost known u) →
      LeastFrom passes core q T level known known
  nothing_before {known} after = record { no_later = at_most-refl known; below = after; attained = inl refl }

  -- a known value may be lowered to one that is reached
  pub known_lowered : {known one v : Value} → (one ≡ none) ⊎ Reached core q T level one → LeastFrom passes core q T level (lesser known one) v →
      LeastFrom passes core q T level known v
  known_lowered {known} {one} {v} reached least =
      record {
        no_later = no_later;
        below = least.below;
        attained = attained least.attained (lesser_either known one) reached;
      }
    where
      no_later : AtMost v known
      no_later = at_most-trans least.no_later (lesser_first known one)

      attained : (v ≡ lesser known one) ⊎ Reached core q T level v → (lesser known one ≡ known) ⊎ (lesser known one ≡ one) →
          (one ≡ none) ⊎ Reached core q T level one → (v ≡ known) ⊎ Reached core q T level v
      attained (inr has) either its = inr has
      attained (inl same) (inl e) its = inl (same ∙ e)
      attained (inl same) (inr e) (inl is_none) = let nothing = same ∙ e ∙ is_none in inl (at_most-antisym no_later (rw nothing to_none))
      attained (inl same) (inr e) (inr has) = let its = same ∙ e in inr (rw its has)

-- what patterns that pass a test reach is reached
pub passing_reached : (passes : List ℕ → Bool) (core : OneCore) {q : List ℕ} {T : List Bool} {level : ℕ} {v : Value} →
    Reached (passing passes core) q T level v → Reached core q T level v
unfolding worth_on
passing_reached passes core (whole met) = whole ((and_is_true _ _).0 met).0
passing_reached passes core (passed reached) = passed (passing_reached passes core reached)
passing_reached passes core (runs l from within reached) = runs l from within (passing_reached passes core reached)

module _ (passes : List ℕ → Bool) (core : OneCore) where
  pub whole_met : {q : List ℕ} {level : ℕ} {known : Value} → core.admits q ≡ true →
      LeastFrom passes core q [] level known (lesser known (worth_on core q))
  unfolding worth_on
  whole_met {q} {level} {known} met =
      record {
        no_later = lesser_first known (worth_on core q);
        below = below;
        attained = attained (lesser_either known (worth_on core q));
      }
    where
      below : (u : Value) → Reached (passing passes core) q [] level u → AtMost (lesser known (worth_on core q)) u
      below u (whole also) = lesser_second known (worth_on core q)

      attained : (lesser known (worth_on core q) ≡ known) ⊎ (lesser known (worth_on core q) ≡ worth_on core q) →
          (lesser known (worth_on core q) ≡ known) ⊎ Reached core q [] level (lesser known (worth_on core q))
      attained (inl e) = inl e
      attained (inr e) = inr (rw e (whole met))

  pub whole_unmet : {q : List ℕ} {level : ℕ} {known : Value} → core.admits q ≡ false → LeastFrom passes core q [] level known known
  whole_unmet {q} {level} {known} unmet = nothing_before below
    where
      below : (u : Value) → Reached (passing passes core) q [] level u → AtMost known u
      below u (whole met) = absurd (false_not_true unmet ((and_is_true _ _).0 met).0)

  pub pass_over : {q : List ℕ} {T : List Bool} {level : ℕ} {known v : Value} → LeastFrom passes core (q ++ (0 ∷ [])) T 0 known v →
      LeastFrom passes core q (false ∷ T) level known v
  pass_over {q} {T} {level} {known} {v} least =
      record { no_later = least.no_later; below = below; attained = attained least.attained }
    where
      below : (u : Value) → Reached (passing passes core) q (false ∷ T) level u → AtMost v u
      below u (passed reached) = least.below u reached

      attained : (v ≡ known) ⊎ Reached core (q ++ (0 ∷ [])) T 0 v → (v ≡ known) ⊎ Reached core q (false ∷ T) level v
      attained (inl e) = inl e
      attained (inr reached) = inr (passed reached)

  pub no_level_left : {q : List ℕ} {T : List Bool} {level : ℕ} {known : Value} → core.levels ≤ level →
      LeastFrom passes core q (true ∷ T) level known known
  no_level_left {q} {T} {level} {known} all = nothing_before below
    where
      below : (u : Value) → Reached (passing passes core) q (true ∷ T) level u → AtMost known u
      below u (runs l from within reached) = absurd (omega arith)

  -- what is reached at this level, then what is reached at the others
  pub level_by_level : {q : List ℕ} {T : List Bool} {level : ℕ} {known here v : Value} → level < core.levels →
      LeastFrom passes core (q ++ (suc level ∷ [])) T 0 known here → LeastFrom passes core q (true ∷ T) (suc level) here v →
      LeastFrom passes core q (true ∷ T) level known v
  level_by_level {q} {T} {level} {known} {here} {v} is_level this others =
      record {
        no_later = at_most-trans others.no_later this.no_later;
        below = below;
        attained = attained others.attained this.attained;
      }
    where
      at : (l : ℕ) {u : Value} → (suc level ≡ suc l) ⊎ (suc level < suc l) → l < core.levels →
          Reached (passing passes core) (q ++ (suc l ∷ [])) T 0 u → AtMost v u
      at l {u} (inl same) within reached =
          let e : l ≡ level = omega arith in at_most-trans others.no_later (this.below u (rw e at reached))
      at l {u} (inr later) within reached = others.below u (runs {level = suc level} l (omega arith) within reached)

      below : (u : Value) → Reached (passing passes core) q (true ∷ T) level u → AtMost v u
      below u (runs l from within reached) = at l (eq-or-lt_of_le (omega arith)) within reached

      first_level : (here ≡ known) ⊎ Reached core (q ++ (suc level ∷ [])) T 0 here → v ≡ here → (v ≡ known) ⊎ Reached core q (true ∷ T) level v
      first_level (inl e) same = inl (same ∙ e)
      first_level (inr reached) same = inr (rw same (runs {level = level} level (omega arith) is_level reached))

      attained : (v ≡ here) ⊎ Reached core q (true ∷ T) (suc level) v → (here ≡ known) ⊎ Reached core (q ++ (suc level ∷ [])) T 0 here →
          (v ≡ known) ⊎ Reached core q (true ∷ T) level v
      attained (inl same) before = first_level before same
      attained (inr (runs l from within reached)) before = inr (runs {level = level} l (omega arith) within reached)
