-- The earliest of the tasks that a loop has passed, and one task more.
use Prim.Native.Nat.{ℕ, suc, ◌+◌, ◌≤◌, ◌<◌}
use Rattle.std.specs.Prelude.{Bool, true, false, IsTrue, ltb, ◌≡◌, refl, Option, Some, None, IfSome, MatchOption, option_map}
use Rattle.std.proofs.Common.{add-one, arith, sym, ◌∙◌}
use Rattle.std.proofs.lemmas.Bool.{false≢true}
use borrow.Author.Tests.{eq-eqb, ne_eqb, lt-ltb, le-ltb, ltb-true, ltb-false}
use Rattle.tick_steps.specs.Choosing.{Earlier}
use Rattle.tick_steps.specs.declared.Best.{Best}
use Rattle.dispatch.specs.Chosen.{number_of}
use Rattle.dispatch.specs.Rows.{earliest}

-- the column of a choice, if there is one
abbrev pub column_of : Option Best → Option ℕ
column_of best = option_map (λ (b : Best). b.column) best

-- the earliest task below i, with the tick at which it is due, if there is one
pub record Picked (due left : ℕ → ℕ) (i : ℕ) (best : Option Best) : Type 0 where
  pub number : number_of (column_of best) ≡ earliest due left i
  pub is_due : IfSome best (λ b. b.due ≡ due b.column)

-- whether a task that is due then is taken in the place of a choice: where there is none, or it is due before that
pub is_better : (best : Option Best) (due : ℕ) (r : Bool) (Q : Best → Type 0) → ((x : Best) → Q x → r ≡ ltb due x.due) →
    MatchOption best (IsTrue r) Q → r ≡ true → IfSome best (λ before. due < before.due)
is_better None due r Q means answer e = tt
is_better (Some before) due r Q means answer e = ltb-true due before.due (sym (means before answer) ∙ e)

pub is_no_better : (best : Option Best) (due : ℕ) (r : Bool) (Q : Best → Type 0) → ((x : Best) → Q x → r ≡ ltb due x.due) →
    MatchOption best (IsTrue r) Q → r ≡ false → (before : Best) × (best ≡ Some before) × (before.due ≤ due)
is_no_better None due r Q means answer e = absurd (false≢true (sym e ∙ answer))
is_no_better (Some before) due r Q means answer e = (before, refl, ltb-false due before.due (sym (means before answer) ∙ e))

module _ (due left : ℕ → ℕ) where
  pub none_picked : Picked due left 0 None
  unfolding earliest
  none_picked = record { number = refl; is_due = tt }

  pub pick_passes_idle : (i : ℕ) (best : Option Best) → Picked due left i best → left i ≡ 0 → Picked due left (i + 1) best
  unfolding earliest
  pick_passes_idle i best picked none = record { number = rw (add-one i, eq-eqb (left i) 0 none) picked.number; is_due = picked.is_due }

  pub pick_keeps : (i : ℕ) (before : Best) → Picked due left i (Some before) → (left i ≡ 0 → ⊥) → before.due ≤ due i →
      Picked due left (i + 1) (Some before)
  unfolding earliest
  pick_keeps i before picked some not_later = record {
    number =
        let not_earlier : due before.column ≤ due i = omega (arith, picked.is_due) in
        rw (add-one i, ne_eqb (left i) 0 some, ← picked.number, ne_eqb (suc before.column) 0 (λ e. omega arith), le-ltb (due i) (due before.column) not_earlier) refl;
    is_due = picked.is_due;
  }

  pub pick_takes : (i : ℕ) (best : Option Best) → Picked due left i best → (left i ≡ 0 → ⊥) → IfSome best (λ before. due i < before.due) →
      Picked due left (i + 1) (Some (record { column = i; due = due i }))
  unfolding earliest
  pick_takes i None picked some first = record { number = rw (add-one i, ne_eqb (left i) 0 some, ← picked.number) refl; is_due = refl }
  pick_takes i (Some before) picked some first = record {
    number =
        let earlier : due i < due before.column = omega (arith, picked.is_due) in
        rw (add-one i, ne_eqb (left i) 0 some, ← picked.number, ne_eqb (suc before.column) 0 (λ e. omega arith), lt-ltb (due i) (due before.column) earlier) refl;
    is_due = refl;
  }

  -- by one step of the choice
  pub picks_next : (i : ℕ) {best next : Option Best} (its_left its_due : ℕ) → its_left ≡ left i → its_due ≡ due i →
      Picked due left i best → Earlier best i its_left its_due next → Picked due left (i + 1) next
  picks_next i {best} its_left its_due same_left same_due picked (Earlier.passed_idle none) = pick_passes_idle i best picked (sym same_left ∙ none)
  picks_next i its_left its_due same_left same_due picked (Earlier.kept some before is not_later) =
      rw is (pick_keeps i before (rw is at picked) (λ none. some (same_left ∙ none)) (omega arith))
  picks_next i {best} its_left its_due same_left same_due picked (Earlier.taken some first) =
      rw same_due (pick_takes i best picked (λ none. some (same_left ∙ none)) (rw same_due at first))
