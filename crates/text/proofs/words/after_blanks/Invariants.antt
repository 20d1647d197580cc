-- `text::words::after_blanks` meets its contract. The loop's invariant: from where it stands the same token is found.
use Prim.Native.Nat.{◌-◌}
use mathlib.Core.Path.{◌≡◌}
use lib.ListN.{length}
use Rattle.text.specs.Tokens.{token_at}
use Rattle.text.proofs.words.after_blanks.Given as goal

abbrev pub invariant-loop-i : goal.invariant-loop-i
invariant-loop-i l = token_at l.text l.at ≡ token_at l.text l.i

abbrev pub decreases-loop-i : goal.decreases-loop-i
decreases-loop-i l = length l.text - l.i
