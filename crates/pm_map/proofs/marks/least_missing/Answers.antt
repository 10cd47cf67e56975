use Rattle.std.proofs.Common.{◌≡◌, length, arith}
use Rattle.pm_map.proofs.MarksLemmas.{MatchOption-weaker, permutation_from_marks, missing_from_marks}
use Rattle.pm_map.proofs.marks.least_missing.Goals as goal

pub returns : goal.returns
returns c =
    let size : length c.mark_values.new.marks ≡ length c.args.values.now = omega arith in
    MatchOption-weaker c.least_unmarked.result c.least_unmarked.ensures
    (λ all. permutation_from_marks c.args.values.now c.mark_values.new.marks size c.mark_values.ensures all)
    (λ n least. missing_from_marks c.args.values.now c.mark_values.new.marks n size c.mark_values.ensures least)
