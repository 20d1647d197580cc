-- An allowed plan has a digit for each item, and what each core runs of it is a pattern that the core admits.
use Rattle.std.specs.Prelude.{ℕ, ◌*◌, ◌<◌, ◌≡◌, List, length}
use Rattle.std.proofs.Common.{◌∙◌}
use Rattle.assignment.specs.Assignment.{Options, core_pattern, Allowed}
use Rattle.assignment.specs.Keys.{key_base}
use Rattle.assignment.specs.Keeping.{core_set}
use Rattle.assignment.specs.KeyLaws.{InBase, keeps_in_base, keeps_length}
use Rattle.assignment.specs.KeepingLaws.{core_keeps, core_set-length}
use Rattle.assignment.specs.CoreTables.{Admitted}
use Rattle.assignment.specs.ChoiceLaws.{kept_set, holds_length}

module _ {o : Options} {plan : List ℕ} (allowed : Allowed o plan) where
  pub allowed_in_base : o.cores * o.levels < key_base → InBase plan
  allowed_in_base small = keeps_in_base small (kept_set allowed.choices).keeps

  pub allowed_length : length plan ≡ length o.items
  allowed_length = let s = kept_set allowed.choices in keeps_length s.keeps ∙ holds_length s.holds

  pub core_set_of_items : (k : ℕ) → length (core_set o.levels k plan) ≡ length o.items
  core_set_of_items k = core_set-length o.levels k plan ∙ allowed_length

  pub core_admitted : (k : ℕ) → k < o.cores → Admitted o (core_set o.levels k plan) (core_pattern o.levels k plan)
  core_admitted k h =
      record { keeps = core_keeps o.cores o.levels k (kept_set allowed.choices).keeps; admitted = allowed.cores_admit k h }
