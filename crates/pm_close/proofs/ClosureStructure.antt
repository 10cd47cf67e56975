-- The closure on places is a structure, whatever its functions are beyond the places.
use Rattle.std.proofs.Common.{ℕ, suc, ◌%◌, ◌<◌, List, length, sym, subst, arith}
use Rattle.std.specs.Prelude.{slice_index}
use Rattle.pm_perm.specs.Permutation.{IsPermutationBelow}
use Rattle.pm_perm.proofs.SameCycle.{permutation-same}
use Rattle.pm_trees.specs.Word.{contour}
use Rattle.pm_trees.specs.Blossoming.{IsBlossoming}
use Rattle.pm_trees.proofs.FourLetters.{bracketing_exists}
use Rattle.pm_map.specs.Structure.{Structure, IsStructure}
use Rattle.pm_close.specs.Closure.{IsClosure}
use Rattle.pm_close.proofs.ClosureLemmas.{IsLaidOut, laid_out, laid_out_structure, laid_out_twins, bracketing_across}
use Rattle.pm_close.proofs.RootedClosure.{has_across}

pub closure_structure : (word : List ℕ) (closure : Structure) → IsBlossoming word → IsClosure (contour word) closure → IsStructure closure
unfolding laid_out
closure_structure word closure tree is =
    let bracketing = bracketing_exists word tree.in_order in
    let across = slice_index bracketing.0 in
    let across_is = bracketing_across (contour word) bracketing.0 bracketing.1 in
    let laid : IsLaidOut (contour word) (slice_index bracketing.0) closure.twin = record { one = (has_across word tree).one; is_across = across_is; are_twins = is.twins } in
    let structure = laid_out_structure (contour word) (slice_index bracketing.0) closure.twin (omega arith) laid in
    let twinning = laid_out_twins (contour word) (slice_index bracketing.0) closure.twin laid in
    let within : (d : ℕ) → d < closure.darts → d < length (contour word) = λ d l. subst (λ n. d < n) is.darts l in
    record {
      rotation = subst (λ n. IsPermutationBelow n closure.next) (sym is.darts)
          (permutation-same (length (contour word)) (λ p. suc (across p) % length (contour word)) closure.next (λ p l. sym (is.rotation p (across p) l (across_is p l))) structure.rotation);
      twin_stays = λ d l. subst (λ n. closure.twin d < n) (sym is.darts) (twinning.stays d (within d l));
      twin_back = λ d l. twinning.back d (within d l);
      twin_other = λ d l. twinning.other d (within d l);
      root_stays = λ l. subst (λ r. r < closure.darts) (sym is.root) l;
      no_root = λ _. is.root;
    }
