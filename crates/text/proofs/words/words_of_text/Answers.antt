-- `text::words::words_of_text` meets its contract: each way out is a case of `words_outcome`.
use Rattle.std.specs.Prelude.{Err}
use Rattle.std.proofs.Common.{◌≡◌, rules}
use Rattle.text.specs.WordsLaws.{head_refused, too_long, no_room, all_read, writable}
use Rattle.text.proofs.words.words_of_text.Goals as goal

pub returns-in_err-count : goal.returns-in_err-count
returns-in_err-count c =
    let e : c.from_residual.result ≡ Err c.in_err-count.field-0.0 = search rules in
    let all = head_refused _ _ _ c.min-n.ensures _ c.in_err-count.ensures in
    rw e (record { value = all.0; words_after = all.1.0; promise = all.1.1 })

pub returns-then-n-text : goal.returns-then-n-text
returns-then-n-text c =
    let all = too_long _ _ _ c.min-n.ensures _ c.in_ok-count.ensures c.if-n-text.true in
    record { value = all.0; words_after = all.1.0; promise = all.1.1 }

pub returns-then-words-count : goal.returns-then-words-count
returns-then-words-count c =
    let all = no_room _ _ _ c.min-n.ensures _ c.in_ok-count.ensures c.if-n-text.false c.if-words-count.true in
    record { value = all.0; words_after = all.1.0; promise = all.1.1 }

pub write_words-requires : goal.write_words-requires
write_words-requires c = writable _ _ _ c.min-n.ensures _ c.in_ok-count.ensures c.if-n-text.false c.if-words-count.false

pub returns : goal.returns
returns c =
    let all =
    all_read _ _ _ c.min-n.ensures _ c.in_ok-count.ensures c.if-n-text.false c.if-words-count.false _ c.write_words.ensures in
    record { value = all.0; words_after = all.1.0; promise = all.1.1 }
