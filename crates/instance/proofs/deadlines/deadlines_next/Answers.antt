-- `deadlines::deadlines_next` meets its contract: the list ends, or the section counts 0, or it has each task's deadline.
use Rattle.std.specs.Prelude.{Err}
use Rattle.std.proofs.Common.{◌≡◌, rules}
use mathlib.Core.Path.{refl, sym, ◌∙◌}
use Rattle.std.proofs.Math.Seq.{take_at}
use Rattle.formats.specs.ReaderLaws.{absent_taken}
use Rattle.instance.specs.DeadlinesLaws.{no_count, no_deadlines, all_deadlines, dated_is_filled}
use Rattle.instance.specs.SiteFile.{deadlines}
use Rattle.instance.proofs.deadlines.deadlines_next.Goals as goal

pub returns-then-is_ended : goal.returns-then-is_ended
unfolding deadlines
returns-then-is_ended c =
    record {
      takes = absent_taken _ _ (sym c.is_ended.ensures ∙ c.if-is_ended.true);
      same_count = refl;
      same_span = refl;
      filled = c.requires.filled;
    }

pub returns-in_err-count : goal.returns-in_err-count
returns-in_err-count c =
    let e : c.from_residual.result ≡ Err c.in_err-count.field-0.0 = search rules in
    rw e
    (record {
      takes = no_count _ c.requires.filled.count (sym c.is_ended.ensures ∙ c.if-is_ended.false) c.in_err-count.ensures;
      same_count = refl;
      same_span = refl;
      filled = c.requires.filled;
    })

pub returns-then-count-eq0 : goal.returns-then-count-eq0
returns-then-count-eq0 c =
    record {
      takes =
          no_deadlines _ c.requires.filled.count (sym c.is_ended.ensures ∙ c.if-is_ended.false) c.in_ok-count.ensures c.if-count-eq0.true;
      same_count = refl;
      same_span = refl;
      filled = c.requires.filled;
    }

pub returns : goal.returns
returns c =
    let each = c.each_deadline_next in
    let same = each.ensures.same_length ∙ c.requires.filled.count in
    record {
      takes =
          rw (take_at each.new.tasks _ _ same)
          (all_deadlines _ c.requires.filled.count (sym c.is_ended.ensures ∙ c.if-is_ended.false) c.in_ok-count.ensures c.if-count-eq0.false each.ensures.takes);
      same_count = refl;
      same_span = refl;
      filled = dated_is_filled _ c.requires.filled c.requires.count_within same;
    }
