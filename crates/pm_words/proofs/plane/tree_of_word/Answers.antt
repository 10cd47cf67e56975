use Rattle.std.proofs.Common.{ap, ◌∙◌}
use Rattle.pm_words.specs.Plane.{word_of, trees_of, subtrees_of}
use Rattle.pm_words.proofs.PlaneWords.{word_of-subtrees_of}
use Rattle.pm_words.proofs.plane.tree_of_word.Goals as goal

pub returns : goal.returns
returns c = ap (λ w. word_of (subtrees_of (trees_of w))) c.in_ok-letters.ensures.items ∙ word_of-subtrees_of c.args.word.now c.requires.letters c.requires.good
