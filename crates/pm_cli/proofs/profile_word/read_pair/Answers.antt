use Rattle.pm_cli.proofs.PairTexts.{has_colon, parts_of_pair}
use Rattle.pm_cli.proofs.profile_word.read_pair.Goals as goal

pub returns-in_err-degree : goal.returns-in_err-degree
returns-in_err-degree c = rw c.from_residual.ensures (λ pair is e. has_colon c.args.text.now c.split_once.result pair c.in_err-degree.was c.split_once.ensures.cases is e)

pub returns-in_err-small_number : goal.returns-in_err-small_number
returns-in_err-small_number c =
    rw c.from_residual-in_err-small_number.ensures (λ pair is e.
    let parts = parts_of_pair c.args.text.now c.split_once.result c.in_ok-degree.degree c.in_ok-degree.count pair c.in_ok-degree.was c.split_once.ensures.cases is e in
    c.in_err-small_number.ensures pair.0 is.degree parts.0)

pub returns-in_err-small_number-2 : goal.returns-in_err-small_number-2
returns-in_err-small_number-2 c =
    rw c.from_residual-in_err-small_number-2.ensures (λ pair is e.
    let parts = parts_of_pair c.args.text.now c.split_once.result c.in_ok-degree.degree c.in_ok-degree.count pair c.in_ok-degree.was c.split_once.ensures.cases is e in
    c.in_err-small_number-2.ensures pair.1 is.count parts.1)
