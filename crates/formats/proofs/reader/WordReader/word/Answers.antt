-- Each test says which case of taking a word it is.
use native.Mathlib.Omega.{arith}
use Rattle.formats.specs.WordLaws.{word_missing, word_below, word_above, word_within}
use Rattle.formats.proofs.reader.WordReader.word.Goals as goal
use Rattle.formats.proofs.reader.WordReader.word.Goals.{then-word-low-via-then-word-low, then-word-low-via-else-word-low+then-high-word}

pub returns-then-self-place-clause-takes : goal.returns-then-self-place-clause-takes
returns-then-self-place-clause-takes c = rw (← c.self.view_is) (record { leaves = word_missing _ _ _ _ c.if-self-place.true })

pub returns-then-word-low-clause-takes : goal.returns-then-word-low-clause-takes
returns-then-word-low-clause-takes c =
    rw (← c.self.view_is)
    (elim c.then-word-low.branch [
      | then-word-low-via-then-word-low w ↦ record { leaves = word_below _ _ _ _ c.if-self-place.false w.if-word-low.true }
      | then-word-low-via-else-word-low+then-high-word w ↦
          record { leaves = word_above _ _ _ _ c.if-self-place.false w.if-word-low.false w.if-high-word.true }
    ])

pub returns-clause-takes : goal.returns-clause-takes
returns-clause-takes c = rw (← c.self.view_is) (record { leaves = word_within _ _ _ _ c.if-self-place.false c.if-word-low.false c.if-high-word.false })
