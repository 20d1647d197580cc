-- A part of a list, as code lends it: n elements from a on.
use Rattle.std.specs.Prelude.{ℕ, ◌+◌, ◌-◌, ◌≤◌, ◌<◌, List, ◌≡◌, length, get_or, take, drop}
use Rattle.std.proofs.Common.{sym, ◌∙◌, arith, get_or-take, get_or-drop}
use borrow.Rule.Slice.PartAt.{part_count}

module _ {A : Type 0} (xs : List A) (a n : ℕ) where
  pub length_part : a + n ≤ length xs → length (take ((a + n) - a) (drop a xs)) ≡ n
  length_part within = sym (part_count xs a (a + n) (omega arith, within)) ∙ omega arith

  pub get_d_part : (i : ℕ) (d : A) → i < n → get_or (take ((a + n) - a) (drop a xs)) i d ≡ get_or xs (a + i) d
  get_d_part i d l = get_or-take ((a + n) - a) (drop a xs) i d (omega arith) ∙ get_or-drop a xs i d
