-- Each valid list of choices has one sample: each step of sampling has an outcome, and only one.
use Rattle.std.proofs.Common.{◌≡◌, ℕ, suc, ◌-◌, ◌*◌, ◌<◌, List, [], ◌∷◌, ◌++◌, length, take, refl, ap, ap₂, sym, ◌∙◌, subst}
use Rattle.std.specs.Prelude.{slice_index}
use Rattle.pm_lehmer.specs.Lehmer.{IsArrangementCode}
use Rattle.pm_map.specs.Canonical.{IsCanonical, IsCanonicalOf}
use Rattle.pm_map.specs.Rotation.{RotationSystem, structure_of}
use Rattle.pm_map.proofs.SameMaps.{same_as_itself}
use Rattle.pm_map.proofs.UniqueCanonical.{canonical_map_is_unique}
use Rattle.pm_canon.proofs.ExistenceLemmas.{canonical_map_exists}
use Rattle.pm_objects.specs.Codes.{codes_by_range}
use Rattle.pm_tri.specs.Bits.{IsTreeOfBits}
use Rattle.pm_tri.specs.StemTree.{IsStemTree, contour}
use Rattle.pm_tri.specs.Triangulations.{IsTriSize}
use Rattle.pm_tri.proofs.BitTrees.{bits_have_trees, bits_tell_trees}
use Rattle.pm_triclose.specs.Closure.{IsStemClosure}
use Rattle.pm_triclose.proofs.SameClosures.{closures_same}
use Rattle.pm_triclose.proofs.SomeClosures.{balanced_closes}
use Rattle.pm_triclose.proofs.TreeClosures.{closures_maps}
use Rattle.pm_trisample.specs.Closed.{IsClosedAnew}
use Rattle.pm_trisample.specs.Made.{MakesTree}
use Rattle.pm_trisample.specs.Objects.{bits_of_objects, tri_ranges}
use Rattle.pm_trisample.specs.SampleLaws.{TriListsAreSampled, TriListsHaveOneSample}
use Rattle.pm_trisample.specs.Samples.{objects_of_size}
use Rattle.pm_trisample.proofs.RunPlanting.{anew_alike, anew_balances, anew_exists, one_anew_tree}
use Rattle.pm_trisample.proofs.Samples.{closed_canonically, sample_is_sampled, tri_parts}
use Rattle.pm_trisample.proofs.TriObjects.{bits_are_tree_bits, one_tri_objects, tri_objects_exist}

-- the tree that a code and the number of a good start make
record HasMadeTree (n : ℕ) (code : List ℕ) (which : ℕ) : Type 0 where
  word : List ℕ
  rest : List ℕ
  is : MakesTree n code which word rest

module _ (n : ℕ) (code : List ℕ) (which : ℕ) (size : IsTriSize n) (long : length code ≡ 4 * n - 2) where
  made_exists : IsArrangementCode code → which < 2 → HasMadeTree n code which
  made_exists is_code low =
      let read = tri_objects_exist n code which size long is_code low in
      let tree : (word : List ℕ) × IsTreeOfBits word (bits_of_objects n read.objects) = bits_have_trees (bits_of_objects n read.objects) (bits_are_tree_bits n code which read.start read.objects size long read.are) in
      record {
        word = tree.0;
        rest = read.start ∷ codes_by_range (tri_ranges n) read.objects;
        is = record { start = read.start; objects = read.objects; are_objects = read.are; is_tree = tree.1; rest_is = refl };
      }

  one_made : (word other rest more : List ℕ) → MakesTree n code which word rest → MakesTree n code which other more → (word ≡ other) × (rest ≡ more)
  one_made word other rest more x y =
      let same = one_tri_objects n code which size long x.start y.start x.objects y.objects x.are_objects y.are_objects in (
        bits_tell_trees word other x.is_tree.tree y.is_tree.tree (x.is_tree.bits_are ∙ ap (bits_of_objects n) same.1 ∙ sym y.is_tree.bits_are),
        x.rest_is ∙ ap₂ (λ (k : ℕ) (xs : List ℕ). k ∷ codes_by_range (tri_ranges n) xs) same.0 same.1 ∙ sym y.rest_is,
      )

-- the canonical map of a tree that is planted anew and closed
record HasClosedAnew (word : List ℕ) (run : ℕ) : Type 0 where
  map : RotationSystem
  old_plant : ℕ
  is : IsClosedAnew word run map old_plant
  canonical : IsCanonical map

module _ (word : List ℕ) (run : ℕ) (tree : IsStemTree word) where
  closed_exists : run < 2 → HasClosedAnew word run
  closed_exists low =
      let anew = anew_exists word run tree low in
      let planted = (anew_alike word run anew.turned anew.old_plant tree anew.is).stem_tree in
      let balanced = anew_balances word run anew.turned anew.old_plant tree anew.is in
      let closed = balanced_closes anew.turned planted balanced in
      let rooted = closures_maps anew.turned (record { sigma = closed.0; root = 0 }) planted balanced closed.1 in
      let named : (canonical : RotationSystem) × IsCanonicalOf (record { sigma = closed.0; root = 0 }) canonical = canonical_map_exists (record { sigma = closed.0; root = 0 }) rooted in
      record {
        map = named.0;
        old_plant = anew.old_plant;
        is = closed_canonically word run (record { sigma = closed.0; root = 0 }) named.0 anew.old_plant (record { rooted = rooted; turned = anew.turned; is_anew = anew.is; is_closure = closed.1 }) named.1;
        canonical = named.1.is_canonical;
      }

  one_closed : (map other : RotationSystem) (a b : ℕ) → IsCanonical map → IsCanonical other → IsClosedAnew word run map a → IsClosedAnew word run other b → (map ≡ other) × (a ≡ b)
  one_closed map other a b canonical also x y =
      let anew = one_anew_tree word run x.turned y.turned a b tree x.is_anew y.is_anew in
      let planted = (anew_alike word run x.turned a tree x.is_anew).stem_tree in
      let balanced = anew_balances word run x.turned a tree x.is_anew in
      let closure : IsStemClosure (contour x.turned) (structure_of other) = subst (λ (w : List ℕ). IsStemClosure (contour w) (structure_of other)) anew.0 y.is_closure in
      let same = closures_same x.turned (structure_of map) (structure_of other) planted balanced x.is_closure closure in (
        canonical_map_is_unique map map other x.rooted (record { is_canonical = canonical; is_same = same_as_itself (structure_of map) }) (record { is_canonical = also; is_same = same }),
        sym anew.1,
      )

pub tri_lists_sampled : TriListsAreSampled
tri_lists_sampled n size choices valid =
    let parts = tri_parts n choices valid in
    let made = made_exists n (take (objects_of_size n) choices) (slice_index choices (objects_of_size n)) size parts.coded.long parts.coded.is_code parts.start_low in
    let closed = closed_exists made.word (slice_index choices (suc (objects_of_size n))) made.is.is_tree.tree parts.run_low in (
      record { map = closed.map; residue = made.rest ++ closed.old_plant ∷ [] },
      sample_is_sampled n choices closed.map (made.rest ++ closed.old_plant ∷ []) size (record {
        valid = valid;
        word = made.word;
        rest = made.rest;
        is_made = made.is;
        old_plant = closed.old_plant;
        is_closed = closed.is;
        canonical = closed.canonical;
        residue_is = refl;
      }),
    )

pub tri_lists_once : TriListsHaveOneSample
tri_lists_once n size choices map other residue rest x y =
    let run : ℕ = slice_index choices (suc (objects_of_size n)) in
    let long = (tri_parts n choices x.valid).coded.long in
    let made = one_made n (take (objects_of_size n) choices) (slice_index choices (objects_of_size n)) size long x.word y.word x.rest y.rest x.is_made y.is_made in
    let there : IsClosedAnew x.word run other y.old_plant = subst (λ (w : List ℕ). IsClosedAnew w run other y.old_plant) (sym made.0) y.is_closed in
    let closed = one_closed x.word run x.is_made.is_tree.tree map other x.old_plant y.old_plant x.canonical y.canonical x.is_closed there in
    (closed.0, x.residue_is ∙ ap₂ (λ (xs : List ℕ) (k : ℕ). xs ++ k ∷ []) made.1 closed.1 ∙ sym y.residue_is)
