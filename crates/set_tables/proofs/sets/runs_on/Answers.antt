-- `runs_on` asks whose levels the choice is among.
use Rattle.std.proofs.Common.{ℕ, ◌-◌, ◌/◌, ◌≡◌, ◌≢◌, Bool, true, false, cond, eqb, refl, sym, eqb-true}
use Rattle.std.proofs.lemmas.Bool.{eqb-false}
use Rattle.set_tables.specs.CoreSets.{runs_on, runs_refused, runs_here, runs_elsewhere}
use Rattle.set_tables.proofs.sets.runs_on.Goals as goal

some_choice : (levels core c : ℕ) → c ≢ 0 → cond (eqb ((c - 1) / levels) core) 1 0 ≡ runs_on levels core c
some_choice levels core c some = go (eqb ((c - 1) / levels) core) refl
  where
    go : (t : Bool) → eqb ((c - 1) / levels) core ≡ t → cond t 1 0 ≡ runs_on levels core c
    go true e = sym (runs_here levels core c some (eqb-true _ _ e))
    go false e = sym (runs_elsewhere levels core c some (eqb-false _ _ e))

pub returns-then-choice-ne0 : goal.returns-then-choice-ne0
returns-then-choice-ne0 c = some_choice _ _ _ c.if-choice-ne0.true

pub returns-else-choice-ne0 : goal.returns-else-choice-ne0
returns-else-choice-ne0 c = rw c.if-choice-ne0.false (sym (runs_refused c.args.levels c.args.core 0 refl))
