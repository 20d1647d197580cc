use mathlib.Core.Path.{ap}
use Prim.Native.Nat.{ℕ}
use Rattle.instance.specs.Held.{held_span}
use Rattle.dispatcher.specs.Preparing.{core_of}
use Rattle.dispatcher.proofs.preparing.columns_of.Goals as goal

pub returns : goal.returns
returns c =
    let kept = c.kept_tasks-kept.result in
    record {
      kept = kept;
      its_columns = c.kept_tasks-kept.ensures;
      is_core = ap (λ (its-span : ℕ). core_of its-span kept) (held_span _ c.requires.sound);
    }
