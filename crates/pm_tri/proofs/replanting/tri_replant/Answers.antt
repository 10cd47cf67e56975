use Rattle.pm_tri.proofs.Replants.{alike_from, stem_few}
use Rattle.pm_tri.proofs.replanting.tri_replant.Goals as goal

pub invariant_of-result : goal.invariant_of-result
invariant_of-result c =
    (alike_from _ _ c.args.stem c.nth_letter-start.result _ c.letters-word.ensures.letters c.letters-word.ensures.valid c.nth_letter-start.ensures c.in_ok-letters.ensures).stem_tree

pub returns-clause-alike : goal.returns-clause-alike
returns-clause-alike c =
    alike_from _ _ c.args.stem c.nth_letter-start.result _ c.letters-word.ensures.letters c.letters-word.ensures.valid c.nth_letter-start.ensures c.in_ok-letters.ensures

pub nth_letter-start-requires-clause-number : goal.nth_letter-start-requires-clause-number
nth_letter-start-requires-clause-number c = stem_few _ _ c.args.stem c.letters-word.ensures.letters c.letters-word.ensures.valid c.requires
