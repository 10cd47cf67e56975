-- The closure of a balanced tree is a rooted map.
use Rattle.std.proofs.Common.{◌≡◌, ℕ, ◌%◌, List, length, sym, ◌∙◌, ap, arith}
use Rattle.std.specs.Prelude.{slice_index}
use Rattle.pm_trees.specs.Word.{contour}
use Rattle.pm_trees.proofs.FourLetters.{bracketing_exists}
use Rattle.pm_map.specs.Structure.{CarriesTo}
use Rattle.pm_map.specs.Rotation.{RotationSystem, structure_of}
use Rattle.pm_map.proofs.CarriedStructure.{structure_carried, connected_carried, euler_carried}
use Rattle.pm_close.specs.Closure.{IsClosed}
use Rattle.pm_map.specs.EdgeNumbers.{dart_of}
use Rattle.pm_close.specs.Laws.{ClosureIsRooted}
use Rattle.pm_close.proofs.ClosureLemmas.{IsLaidOut, laid_out, laid_out_closes, laid_out_twins, laid_out_structure, laid_out_connected, bracketing_across}
use Rattle.pm_map.proofs.NumberedEdges.{firsts_half}
use Rattle.pm_close.proofs.PlaneClosure.{closure_euler}
use Rattle.pm_close.proofs.RootedClosure.{has_across}

pub rooted_closure : ClosureIsRooted
unfolding laid_out
rooted_closure word map tree balanced closed =
    let places = contour word in
    let s = closed.closure in
    let bracketing = bracketing_exists word tree.in_order in
    let across = slice_index bracketing.0 in
    let laid : IsLaidOut (contour word) across s.twin = record {
      one = (has_across word tree).one;
      is_across = bracketing_across (contour word) bracketing.0 bracketing.1;
      are_twins = closed.is_closure.twins;
    } in
    let carried = carried_from (contour word) across map closed laid in
    let structure = structure_carried (dart_of s.twin) (laid_out (contour word) across s.twin) (structure_of map)
    (laid_out_structure (contour word) across s.twin (omega arith) laid) carried (λ none. absurd (omega (arith, none, closed.carries.darts, closed.is_closure.darts))) in
    record {
      even = half (contour word) across map closed laid;
      few = omega (arith, closed.carries.darts, closed.is_closure.darts, tree.short);
      structure = structure;
      connected = connected_carried (dart_of s.twin) (laid_out (contour word) across s.twin) (structure_of map) carried (laid_out_connected (contour word) across s.twin laid);
      euler = euler_carried (dart_of s.twin) (laid_out (contour word) across s.twin) (structure_of map)
          (laid_out_structure (contour word) across s.twin (omega arith) laid) structure carried
          (closure_euler word (laid_out (contour word) across s.twin) tree balanced (laid_out_closes (contour word) across s.twin laid));
    } where
      carried_from : (places : List ℕ) (across : ℕ → ℕ) (map : RotationSystem) (closed : IsClosed places map) → IsLaidOut places across closed.closure.twin
          → CarriesTo (dart_of closed.closure.twin) (laid_out places across closed.closure.twin) (structure_of map)
      carried_from places across map closed laid =
          let s = closed.closure in
          let darts : s.darts ≡ length places = closed.is_closure.darts in
          record {
            darts = sym darts ∙ closed.carries.darts;
            renumbers = record {
              stays = λ k l. omega (arith, closed.carries.renumbers.stays k (omega arith));
              injective = λ j k l m e. closed.carries.renumbers.injective j k (omega arith) (omega arith) e;
            };
            next = λ p l. ap (dart_of s.twin) (sym (closed.is_closure.rotation p (across p) l (laid.is_across p l))) ∙ closed.carries.next p (omega arith);
            twin = λ p l. closed.carries.twin p (omega arith);
            root = λ l. ap (dart_of s.twin) (sym closed.is_closure.root) ∙ closed.carries.root (omega arith);
          }

      half : (places : List ℕ) (across : ℕ → ℕ) (map : RotationSystem) (closed : IsClosed places map) → IsLaidOut places across closed.closure.twin → length map.sigma % 2 ≡ 0
      half places across map closed laid =
          omega (arith, firsts_half (length places) closed.closure.twin (laid_out_twins places across closed.closure.twin laid), closed.carries.darts, closed.is_closure.darts)
