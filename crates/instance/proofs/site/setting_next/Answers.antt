-- `site::setting_next` meets its contract.
use borrow.Author.Tests.{le-leb, lt-leb}
use Rattle.formats.specs.ReaderLaws.{takes_done}
use Rattle.instance.specs.SiteFile.{setting_from}
use Rattle.instance.proofs.site.setting_next.Goals as goal

pub returns-then-from-count : goal.returns-then-from-count
unfolding setting_from
returns-then-from-count c = rw (le-leb _ _ c.if-from-count.true) c.word.ensures.takes

pub returns : goal.returns
unfolding setting_from
returns c = rw (lt-leb _ _ c.if-from-count.false) (takes_done 0)
