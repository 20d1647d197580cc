use Rattle.std.proofs.Common.{arith, sym, length-take-le}
use Rattle.text.specs.NumberCountLaws.{text_is_refused, words_at_front}
use Rattle.towhepamu.proofs.words.with_words.Goals as goal

pub slice_bounds-words-end : goal.slice_bounds-words-end
slice_bounds-words-end g c =
    let read = c.words_of_text.ensures in
    (words_at_front _ _ _ _ (omega arith) (read.value, (read.words_after, read.promise)) c.in-Ok.is).within

pub slice_bounds-f-end : goal.slice_bounds-f-end
slice_bounds-f-end g c =
    let read = c.words_of_text.ensures in
    sym (length-take-le _ _ (words_at_front _ _ _ _ (omega arith) (read.value, (read.words_after, read.promise)) c.in-Ok.is).within)

pub returns-in-Ok : goal.returns-in-Ok
returns-in-Ok g c =
    let read = c.words_of_text.ensures in
    let words = words_at_front _ _ _ _ (omega arith) (read.value, (read.words_after, read.promise)) c.in-Ok.is in
    (_, record { read = words.words_of_text }, c.f.ensures)

pub returns-in-Err : goal.returns-in-Err
returns-in-Err g c =
    let read = c.words_of_text.ensures in
    let refuses = text_is_refused _ _ _ _ (omega arith) (read.value, (read.words_after, read.promise)) c.in-Err.is in
    (_, record { read = refuses }, c.f-in-Err.ensures)
