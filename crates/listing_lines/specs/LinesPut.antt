-- Bytes put by methods, each from where the one before ended.
use Rattle.std.specs.Prelude.{ℕ, ◌+◌, ◌≤◌, ◌<◌, List, ◌++◌, ◌≡◌, refl}
use Rattle.std.proofs.Common.{◌∙◌}
use Rattle.laws.specs.Lists.{joined}
use Rattle.listing_lines.specs.Placing.{Room, Put, Left, all_left, room_left}
use Rattle.listing_lines.specs.Placing as Placing
use Rattle.listing_lines.specs.PlacingParts.{PartsPut, no_part_put}
use Rattle.listing_lines.specs.PlacingParts as PlacingParts
use Rattle.listing_lines.specs.declared.bytes.Lines.{Lines}

-- the bytes fit where the next one is put
pub record HasRoom (lines : Lines) (bytes : List ℕ) : Type 0 where
  pub room : Room lines.out.now lines.at bytes

-- what a method that puts them leaves: the lent buffer is the same one
pub record Puts (before : Lines) (bytes : List ℕ) (after : Lines) : Type 0 where
  pub put : Put before.out.now before.at bytes after.out.now after.at
  pub same_buffer : after.out.ghost_name ≡ before.out.ghost_name

-- of the bytes to be put from `start` on some were put, and what is left is to be put
pub record ToPut (start : Lines) (bytes : List ℕ) (now : Lines) (left : List ℕ) : Type 0 where
  pub to_put : Left start.out.now start.at bytes now.out.now now.at left
  pub same_buffer : now.out.ghost_name ≡ start.out.ghost_name

pub all_to_put : {start : Lines} {bytes : List ℕ} → HasRoom start bytes → ToPut start bytes start bytes
all_to_put room = record { to_put = all_left room.room; same_buffer = refl }

module _ {start now : Lines} {bytes : List ℕ} where
  pub room_next : {xs : List ℕ} (ys : List ℕ) → ToPut start bytes now (xs ++ ys) → HasRoom now xs
  room_next ys before = record { room = room_left ys before.to_put }

  pub room_last : {xs : List ℕ} → ToPut start bytes now xs → HasRoom now xs
  room_last before = record { room = before.to_put.room }

  infixl 10 ◌then◌
  pub ◌then◌ : {after : Lines} {xs ys : List ℕ} → ToPut start bytes now (xs ++ ys) → Puts now xs after → ToPut start bytes after ys
  before then puts =
      record { to_put = Placing.◌then◌ before.to_put puts.put; same_buffer = puts.same_buffer ∙ before.same_buffer }

  pub last_put : {after : Lines} {xs : List ℕ} → ToPut start bytes now xs → Puts now xs after → Puts start bytes after
  last_put before puts =
      record { put = before.to_put.whole puts.put; same_buffer = puts.same_buffer ∙ before.same_buffer }

-- what the buffer ends as
pub put_at_end : {start end : Lines} {bytes final : List ℕ} → Puts start bytes end → final ≡ end.out.now →
    Put start.out.now start.at bytes final end.at
put_at_end puts ends = rw ends puts.put

-- parts put by a loop: the first i of them
pub record PartsDone (part : ℕ → List ℕ) (n : ℕ) (start now : Lines) (i : ℕ) : Type 0 where
  pub parts : PartsPut part n start.out.now start.at now.out.now now.at i
  pub same_buffer : now.out.ghost_name ≡ start.out.ghost_name

pub none_done : (part : ℕ → List ℕ) (n : ℕ) (start : Lines) → PartsDone part n start start 0
none_done part n start = record { parts = no_part_put part n start.out.now start.at; same_buffer = refl }

module _ {part : ℕ → List ℕ} {n : ℕ} {start now : Lines} {i : ℕ} (room : HasRoom start (joined part n)) (done : PartsDone part n start now i) where
  pub room_for_part : i < n → HasRoom now (part i)
  room_for_part more = record { room = PlacingParts.room_for_part room.room done.parts more }

  pub part_done : {after : Lines} → i < n → Puts now (part i) after → PartsDone part n start after (i + 1)
  part_done more puts =
      record { parts = PlacingParts.part_put room.room done.parts more puts.put; same_buffer = puts.same_buffer ∙ done.same_buffer }

  pub all_done : n ≤ i → Puts start (joined part n) now
  all_done all = record { put = PlacingParts.all_parts_put room.room done.parts all; same_buffer = done.same_buffer }
