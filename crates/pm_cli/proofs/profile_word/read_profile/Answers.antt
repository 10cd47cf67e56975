use Rattle.std.proofs.Common.{ap, sym, ◌∙◌, subst, arith}
use Rattle.pm_trees.specs.Pairs.{IsProfile}
use Rattle.pm_cli.specs.ProfileWord.{profile_text}
use Rattle.pm_cli.proofs.PairTexts.{profile_of_words, profile_few, spells_no_profile, no_wrong_pair, not_too_many}
use Rattle.pm_cli.proofs.profile_word.read_profile.Goals as goal

pub returns-in_default : goal.returns-in_default
returns-in_default c pairs is e =
    let none = rw c.in_default.is at c.in_ok-pairs.ensures in
    none pairs (profile_of_words pairs is) e

pub returns-then-len : goal.returns-then-len
returns-then-len c =
    let spelled = rw c.in-Some.is at c.in_ok-pairs.ensures in
    spells_no_profile c.args.word.now c.in-Some.pairs.items spelled (λ is. omega (arith, profile_few c.in-Some.pairs.items is, c.len.ensures, c.if-len.true))

pub returns-in-Ok : goal.returns-in-Ok
returns-in-Ok c =
    let spelled = rw c.in-Some.is at c.in_ok-pairs.ensures in
    (subst IsProfile (sym c.in-Ok.ensures.0) c.in-Ok.ensures.1, spelled.1 ∙ ap profile_text (sym c.deref.ensures.value ∙ sym c.in-Ok.ensures.0))

pub returns-in-Err-Pair : goal.returns-in-Err-Pair
returns-in-Err-Pair c =
    let spelled = rw c.in-Some.is at c.in_ok-pairs.ensures in
    let refused = rw c.in-Err-Pair.field-0-is at c.in-Err-Pair.ensures in
    spells_no_profile c.args.word.now c.in-Some.pairs.items spelled (λ is. no_wrong_pair c.deref.result.now _ refused (subst IsProfile (sym c.deref.ensures.value) is))

pub returns : goal.returns
returns c =
    let spelled = rw c.in-Some.is at c.in_ok-pairs.ensures in
    let refused = rw c.in-Err-TooMany.field-0-is at c.in-Err-TooMany.ensures in
    spells_no_profile c.args.word.now c.in-Some.pairs.items spelled (λ is. not_too_many c.deref.result.now _ refused (subst IsProfile (sym c.deref.ensures.value) is))
