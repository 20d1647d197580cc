-- A word of the whole list, and its end, as code finds them.
use Rattle.std.specs.Prelude.{ℕ, suc, ◌+◌, ◌≤◌, ◌<◌, Bool, length, get_or, drop, Result, Ok}
use Rattle.std.proofs.Math.Bool.{true, false, cond}
use mathlib.Core.List.{List, [], ◌∷◌}
use Rattle.std.proofs.Math.Path.{◌≡◌, refl}
use Rattle.std.proofs.Common.{add-one, arith, drop_of_length-le}
use borrow.Author.Tests.{le-leb, lt-leb}
use Rattle.std.proofs.Math.Seq.{drop-cons}
use Rattle.refusals.specs.declared.Refusal.{Refusal}
use Rattle.refusals.specs.declared.Refusal.TheVariants.{WordCount, WordRange}
use Rattle.formats.specs.Readers.{Left, Takes, is_ended}
use Rattle.formats.specs.Taking.{Taken, refused, taken, Take, continue, between, take_word, take_tested, take_unless_ended, take_end}

pub between_passes : (low high w : ℕ) → low ≤ w → w ≤ high → between low high w ≡ true
unfolding between
between_passes low high w least most = rw (le-leb low w least, le-leb w high most)

module _ (all : List ℕ) (at low high : ℕ) where
  abbrev word : Taken ℕ
  word = take_word (between low high) at (drop at all)

  pub word_missing : length all ≤ at → word ≡ refused (WordCount at)
  unfolding take_word
  word_missing past = rw (drop_of_length-le all past)

  pub word_below : at < length all → get_or all at 0 < low → word ≡ refused (WordRange at)
  unfolding take_word between
  word_below there below = rw (drop-cons all at 0 there, lt-leb low (get_or all at 0) below)

  pub word_above : at < length all → low ≤ get_or all at 0 → high < get_or all at 0 → word ≡ refused (WordRange at)
  unfolding take_word between
  word_above there least above = rw (drop-cons all at 0 there, le-leb low (get_or all at 0) least, lt-leb (get_or all at 0) high above)

  pub word_within : at < length all → low ≤ get_or all at 0 → get_or all at 0 ≤ high → word ≡ taken (get_or all at 0) (at + 1) (drop (at + 1) all)
  unfolding take_word
  word_within there least most = rw (add-one, drop-cons all at 0 there, between_passes low high (get_or all at 0) least most)

pub end_of_all : (all : List ℕ) (at : ℕ) → length all ≤ at → take_end at (drop at all) ≡ taken tt at (drop at all)
unfolding take_end
end_of_all all at past = rw (drop_of_length-le all past)

pub end_too_soon : (all : List ℕ) (at : ℕ) → at < length all → take_end at (drop at all) ≡ refused (WordCount at)
unfolding take_end
end_too_soon all at more = rw (drop-cons all at 0 more)
