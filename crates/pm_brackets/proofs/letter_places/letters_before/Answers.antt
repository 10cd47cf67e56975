use Rattle.pm_brackets.proofs.LetterCounts.{count_before}
use Rattle.pm_brackets.proofs.letter_places.letters_before.Goals as goal

pub returns : goal.returns
returns c = count_before c.args.letter c.args.word.now c.args.place c.occurrences.result c.if-place-eq0.false c.occurrences.ensures
