use Rattle.std.proofs.lemmas.Result.{err_from_is_err_and}
use Rattle.std.proofs.lemmas.Bool.Decides.{Decides-eqb}
use Rattle.std.proofs.lemmas.Slice.Eq.{strip_prefix_is}
use Rattle.pm_lists.proofs.NumberLemmas.{spells_words, words_spelled, rest_is_none}
use Rattle.pm_lists.proofs.read.read_list.Goals as goal

pub returns-in_default-clause-text : goal.returns-in_default-clause-text
returns-in_default-clause-text c = λ _ values s.
    let none = rw c.in_default.is at (strip_prefix_is Decides-eqb c.args.line.now c.args.tag.now c.strip_prefix.result c.strip_prefix.ensures.cases) in
    none _ (words_spelled c.args.tag.now c.args.line.now values s).1

pub returns-in_err-values-clause-text : goal.returns-in_err-values-clause-text
returns-in_err-values-clause-text c =
    let rest = rw c.in-Some.is at (strip_prefix_is Decides-eqb c.args.line.now c.args.tag.now c.strip_prefix.result c.strip_prefix.ensures.cases) in
    let p = err_from_is_err_and c.from_residual.result c.from_residual.ensures.1 in
    rw (p.1, p.2) (λ is values s. rest_is_none c.args.tag.now c.args.line.now c.in-Some.numbers.now values rest s (c.in_err-values.ensures.text is values))

pub returns-clause-ok : goal.returns-clause-ok
returns-clause-ok c =
    let rest = rw c.in-Some.is at (strip_prefix_is Decides-eqb c.args.line.now c.args.tag.now c.strip_prefix.result c.strip_prefix.ensures.cases) in
    rw c.of.ensures (spells_words c.args.tag.now c.args.line.now c.in-Some.numbers.now c.in_ok-values.values.items rest c.in_ok-values.ensures.words c.in_ok-values.ensures.ok)
