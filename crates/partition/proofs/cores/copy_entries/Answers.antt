-- The entries of all sets are the front of a table.
use Rattle.std.proofs.Common.{ℕ, ◌^◌, ◌≤◌, ◌≡◌, refl, List, ◌++◌, length, get_or, take, drop}
use Rattle.laws.specs.JoinedLaws.{length-list_of, take_is-list_of}
use Rattle.laws.specs.Lists.{list_of, onto}
use Rattle.partition.proofs.cores.copy_entries.Goals as goal

front_copied : (n : ℕ) (from to copied : List ℕ) → n ≤ length from → copied ≡ take n from →
    copied ++ drop n to ≡ onto (list_of (λ x. get_or from x 0) n) to
unfolding onto
front_copied n from to copied long is_front = rw (is_front, take_is-list_of from 0 n long, length-list_of (λ x. get_or from x 0) n) refl

pub returns : goal.returns
returns c =
    rw c.sets_of-all.ensures
    (front_copied (2 ^ c.args.items) c.args.from.now c.args.to.now _ c.requires.in_bounds (rw c.sets_of-all.ensures at c.copy_from_slice.ensures.after))
