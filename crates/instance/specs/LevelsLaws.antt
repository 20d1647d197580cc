-- Code that takes the levels: how it begins, goes on and ends.
use Rattle.std.specs.Prelude.{ℕ, ◌+◌, ◌≤◌, ◌<◌, ◌≡◌, refl, List, [], take, set, replicate, Ok, Err}
use Rattle.std.proofs.Common.{add-one, arith}
use Rattle.laws.specs.PaddedLaws.{Filled, filled_none, filled_more, front_more}
use Rattle.ranges.specs.Limits
use Rattle.refusals.specs.declared.Refusal.{Refusal}
use Rattle.formats.specs.ReaderLaws.{repeats_start, repeats_more, repeats_refused, repeats_end}
use Rattle.formats.specs.Readers.{Left, Takes}
use Rattle.formats.specs.Formats.{times}
use Rattle.instance.specs.LevelsWritten.{last_of_more}
use Rattle.instance.specs.Node.{no_level}
use Rattle.instance.specs.Sections.{LevelWithinLimits, TakesLevel, each_level, LevelsSoFar}
use Rattle.instance.specs.SiteFile.{level, last_after}
use Rattle.instance.specs.declared.Level.{Level}

pub levels_begin : (count : ℕ) (start : Left) → count ≤ Limits.most_levels →
    LevelsSoFar count start start (replicate Limits.most_levels no_level) no_level 0
unfolding last_after
levels_begin count start few =
    record {
      count_within = few;
      at_most = omega arith;
      filled = filled_none Limits.most_levels no_level;
      last = refl;
      within = omega arith;
      repeats = repeats_start each_level;
    }

module _ {count : ℕ} {start now : Left} {array : List Level} {before : Level} {i : ℕ} (so_far : LevelsSoFar count start now array before i) where
  pub levels_more : {l : Level} {after : Left} → i < count → TakesLevel now before (Ok l) after →
      LevelsSoFar count start after (set array i l) l (i + 1)
  levels_more {l} below one =
      let room : i < Limits.most_levels = omega (arith, so_far.count_within) in
      let front = front_more Limits.most_levels no_level array i l room so_far.filled in
      record {
        count_within = so_far.count_within;
        at_most = omega arith;
        filled = filled_more Limits.most_levels no_level array i l room so_far.filled;
        last = rw (front, last_of_more no_level (take i array) l);
        within = one.within;
        repeats = rw front (repeats_more each_level so_far.repeats below (rw so_far.last at one.takes));
      }

  pub levels_refused : {r : Refusal} {after end : Left} → i < count → TakesLevel now before (Err r) after →
      Takes start (times each_level count []).take (Err r) end
  levels_refused below one = repeats_refused each_level so_far.repeats below (rw so_far.last at one.takes)

  module _ (all_taken : count ≤ i) where
    all_are : i ≡ count
    all_are = omega (arith, so_far.at_most)

    pub levels_end : Takes start (times each_level count []).take (Ok (take count array)) now
    levels_end = rw all_are at (repeats_end each_level so_far.repeats all_taken)

    pub levels_filled : Filled Limits.most_levels no_level array count
    levels_filled = rw all_are at so_far.filled
