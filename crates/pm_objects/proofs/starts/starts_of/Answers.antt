use Rattle.std.proofs.Common.{◌∙◌, sym, subst, ap}
use Rattle.pm_words.specs.Word.{IsWord, sum_of}
use Rattle.pm_objects.specs.Objects.{arity_of}
use Rattle.pm_words.proofs.PlaneWords.{letters-word}
use Rattle.pm_objects.proofs.ObjectCounts.{letters_sum}
use Rattle.pm_objects.proofs.starts.starts_of.Goals as goal

pub good_starts-requires-clause-letters : goal.good_starts-requires-clause-letters
good_starts-requires-clause-letters c = subst IsWord (sym (c.deref.ensures.value ∙ c.in_ok-letters.ensures)) (letters-word (arity_of c.args.arities.now) c.args.arrangement.now)

pub good_starts-requires-clause-sum : goal.good_starts-requires-clause-sum
good_starts-requires-clause-sum c =
    ap sum_of (c.deref.ensures.value ∙ c.in_ok-letters.ensures) ∙ letters_sum c.args.goal c.args.arities.now c.args.arrangement.now c.requires.permute c.requires.nodes c.requires.many
