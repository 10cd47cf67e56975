use Rattle.std.proofs.Common.{sym, subst}
use Rattle.pm_perm.specs.Permutation.{IsPermutationBelow}
use Rattle.pm_canon.specs.steps.Naming.{IsRenamed}
use Rattle.pm_canon.proofs.CanonLemmas.{IsNumbered, IsNumbered-from, names_permute, renamed_is_map, renamed_is_canonical}
use Rattle.std.specs.Prelude.{slice_index}
use Rattle.pm_canon.proofs.canon.Goals as goal

pub renamed-requires-clause-names : goal.renamed-requires-clause-names
renamed-requires-clause-names c =
    let numbered : IsNumbered c.args.map.now c.deref_mut.result.now c.deref.result.now =
    IsNumbered-from c.args.map.now c.sigma-sigma.result.now c.root.result c.in_ok-darts.darts.items c.deref_mut.result.now c.in_ok-names.names.items c.deref.result.now
    c.sigma-sigma.ensures.valid c.sigma-sigma.ensures.sigma c.root.ensures c.in_ok-darts.ensures c.deref_mut.ensures.value c.in_ok-names.ensures.size c.in_ok-names.ensures.names c.deref.ensures.value in
    subst (λ n. IsPermutationBelow n (slice_index c.deref.result.now)) (sym numbered.size) (names_permute _ _ _ numbered)

pub from_rooted_rotation-requires : goal.from_rooted_rotation-requires
from_rooted_rotation-requires c =
    let numbered : IsNumbered c.args.map.now c.deref_mut.result.now c.deref.result.now =
    IsNumbered-from c.args.map.now c.sigma-sigma.result.now c.root.result c.in_ok-darts.darts.items c.deref_mut.result.now c.in_ok-names.names.items c.deref.result.now
    c.sigma-sigma.ensures.valid c.sigma-sigma.ensures.sigma c.root.ensures c.in_ok-darts.ensures c.deref_mut.ensures.value c.in_ok-names.ensures.size c.in_ok-names.ensures.names c.deref.ensures.value in
    renamed_is_map _ _ _ _ numbered (subst (λ l. IsRenamed c.deref.result.now l c.in_ok-renamed.renamed.items) c.sigma-sigma.ensures.sigma c.in_ok-renamed.ensures)

pub returns : goal.returns
returns c =
    let numbered : IsNumbered c.args.map.now c.deref_mut.result.now c.deref.result.now =
    IsNumbered-from c.args.map.now c.sigma-sigma.result.now c.root.result c.in_ok-darts.darts.items c.deref_mut.result.now c.in_ok-names.names.items c.deref.result.now
    c.sigma-sigma.ensures.valid c.sigma-sigma.ensures.sigma c.root.ensures c.in_ok-darts.ensures c.deref_mut.ensures.value c.in_ok-names.ensures.size c.in_ok-names.ensures.names c.deref.ensures.value in
    rw c.from_rooted_rotation.ensures
    (renamed_is_canonical _ _ _ _ numbered (subst (λ l. IsRenamed c.deref.result.now l c.in_ok-renamed.renamed.items) c.sigma-sigma.ensures.sigma c.in_ok-renamed.ensures))
