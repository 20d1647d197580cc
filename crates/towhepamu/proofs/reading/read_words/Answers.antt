use Rattle.std.proofs.Common.{sym, ap, ◌∙◌}
use Rattle.instance.specs.ReadLaws.{read_holds_problem, refused_read_refuses_words}
use Rattle.answers.specs.Answers.{site_of}
use Rattle.towhepamu.proofs.reading.read_words.Goals as goal

pub site_of-requires : goal.site_of-requires
site_of-requires c = (read_holds_problem _ c.in-Ok.ensures.value).sound

pub returns-in-Ok : goal.returns-in-Ok
returns-in-Ok c = c.site_of.ensures ∙ ap site_of (sym (read_holds_problem _ c.in-Ok.ensures.value).problem)

pub returns-in-Err : goal.returns-in-Err
returns-in-Err c = c.no_site.ensures ∙ ap site_of (sym (refused_read_refuses_words _ c.in-Err.ensures.value))
