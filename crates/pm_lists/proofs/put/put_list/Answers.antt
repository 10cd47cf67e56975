use Rattle.std.proofs.Common.{subst}
use Rattle.pm_lists.specs.ListLine.{AreWords}
use Rattle.pm_lists.proofs.SpellingLemmas.{line_has_no_newline, line_is_read_again, tag_parts}
use Rattle.pm_lists.proofs.put.put_list.Goals as goal

pub returns-then-is_err-clause-one_line : goal.returns-then-is_err-clause-one_line
returns-then-is_err-clause-one_line c =
    line_has_no_newline c.args.tag.now c.args.list.now (tag_parts c.args.tag.now c.requires) (subst AreWords c.values.ensures c.put_line-put.ensures.words)

pub returns-then-is_err-clause-read_again : goal.returns-then-is_err-clause-read_again
returns-then-is_err-clause-read_again c =
    line_is_read_again c.args.tag.now c.args.list.now (subst AreWords c.values.ensures c.put_line-put.ensures.words)

pub returns-else-is_err-clause-one_line : goal.returns-else-is_err-clause-one_line
returns-else-is_err-clause-one_line c =
    line_has_no_newline c.args.tag.now c.args.list.now (tag_parts c.args.tag.now c.requires) (subst AreWords c.values.ensures c.put_line-put.ensures.words)

pub returns-else-is_err-clause-read_again : goal.returns-else-is_err-clause-read_again
returns-else-is_err-clause-read_again c =
    line_is_read_again c.args.tag.now c.args.list.now (subst AreWords c.values.ensures c.put_line-put.ensures.words)
