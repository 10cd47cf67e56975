use Rattle.std.proofs.Common.{subst}
use Rattle.std.proofs.lemmas.Result.{IfOk-weaker}
use Rattle.pm_trees.specs.declared.letters.TheConstants.{LEAF}
use Rattle.pm_brackets.specs.Word.{IsBracketing}
use Rattle.pm_trees.specs.Word.{contour}
use Rattle.pm_trees.proofs.FourLetters.{leaf_is_other}
use Rattle.pm_trees.proofs.bracketing.brackets.Goals as goal

pub returns : goal.returns
returns c =
    IfOk-weaker c.other_brackets.result _ (λ other. IsBracketing (contour c.args.tree.now) other.items)
    (λ other each. subst (λ word. IsBracketing (contour word) other.items) c.letters.ensures.letters (each LEAF leaf_is_other)) c.other_brackets.ensures
