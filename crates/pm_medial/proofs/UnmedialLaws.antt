-- Medial maps and unmedials undo each other, up to the names of darts.
use Rattle.std.proofs.Common.{◌≡◌, ℕ, ◌*◌, ◌%◌, ◌<◌, inl, inr, Bool, length, slice_index, sym, ◌∙◌, arith, refl, subst}
use Rattle.std.proofs.lemmas.Bool.{cases_order}
use Rattle.pm_map.specs.Structure.{Structure}
use Rattle.pm_map.specs.Plane.{vertices}
use Rattle.pm_map.specs.Rotation.{RotationSystem, structure_of, IsRootedMap}
use Rattle.pm_map.specs.CycleSize.{IsCycleSize}
use Rattle.pm_map.proofs.SameMaps.{same_as_itself, same_symmetric, same_transitive}
use Rattle.pm_map.proofs.CarriedStructure.{rooted_is_plane, vertices_carried}
use Rattle.pm_map.specs.ClassRules.{HasAdmittedDegree}
use Rattle.pm_map.specs.declared.admitted.Degrees.TheVariants.{Exactly}
use Rattle.pm_map.proofs.CarriedSizes.{sizes_carried}
use Rattle.pm_medial.specs.Medial.{IsUnmedialOf}
use Rattle.pm_medial.specs.MedialLaws.{UnmedialOfMedialIsSame, MedialOfUnmedialIsSame, EachQuarticHasUnmedial, OnlyQuarticHaveUnmedial, UnmedialsTell, UnmedialCounts}
use Rattle.pm_medial.specs.Colouring.{IsColouring}
use Rattle.pm_medial.specs.steps.Halved.{IsHalfMap}
use Rattle.pm_distances.specs.AcrossEdges.{AllDegreesAreEven}
use Rattle.pm_medial.proofs.MedialStructure.{medial_is_structure}
use Rattle.pm_medial.proofs.MedialCounts.{medial_counts, four_each, degrees_are_four}
use Rattle.pm_medial.proofs.MedialSame.{medials_tell}
use Rattle.pm_medial.proofs.HalfNames.{name, half_of_map, half_map, half_map_is}
use Rattle.pm_medial.proofs.HalvedMaps.{medial_of, medial_of_is, to_medial, half_is_carried, half_is_plane}
use Rattle.pm_medial.proofs.TwoColours.{faces_have_two_colours}

pub unmedial_of_medial : UnmedialOfMedialIsSame
unmedial_of_medial map medial again rooted of un =
    (medials_tell (structure_of map) (structure_of again) (structure_of medial) un.medial rooted.structure un.rooted.structure rooted.connected of un.is_medial).1 un.is_same

pub medial_of_unmedial : MedialOfUnmedialIsSame
medial_of_unmedial map unmedial again un of =
    same_transitive (structure_of map) un.medial (structure_of again) un.is_same
    ((medials_tell (structure_of unmedial) (structure_of unmedial) un.medial (structure_of again) un.rooted.structure un.rooted.structure un.rooted.connected un.is_medial of).0
    (same_as_itself (structure_of unmedial)))

pub unmedials_tell : UnmedialsTell
unmedials_tell map other unmedial other_unmedial rooted also one two =
    let tell = medials_tell (structure_of unmedial) (structure_of other_unmedial) one.medial two.medial one.rooted.structure two.rooted.structure one.rooted.connected one.is_medial two.is_medial in
    let back = same_symmetric (structure_of map) one.medial rooted.structure one.is_same in
    let other_back = same_symmetric (structure_of other) two.medial also.structure two.is_same in (
      λ same. tell.1 (same_transitive one.medial (structure_of map) two.medial back (same_transitive (structure_of map) (structure_of other) two.medial same two.is_same)),
      λ same. same_transitive (structure_of map) one.medial (structure_of other) one.is_same (same_transitive one.medial two.medial (structure_of other) (tell.0 same) other_back),
    )

-- where all degrees are 4 they are even
pub four_is_even : (s : Structure) → ((d : ℕ) → d < s.darts → IsCycleSize s.next d 4) → AllDegreesAreEven s
four_is_even s four d degree h size =
    let same : degree ≡ 4 = elim (cases_order degree 4) [
      | inl e ↦ e
      | inr differs ↦ elim differs [
        | inl less ↦ absurd ((four d h).least degree size.some less size.back)
        | inr more ↦ absurd (size.least 4 (omega arith) more ((four d h).back))
      ]
    ] in omega (arith, same)

-- the half of a signed quartic map is an unmedial of it
pub half_is_unmedial : (map : RotationSystem) (plus : ℕ → Bool) (half : RotationSystem) → IsRootedMap map → 0 < length map.sigma → IsColouring (structure_of map) plus
    → ((d : ℕ) → d < length map.sigma → IsCycleSize (slice_index map.sigma) d 4) → IsHalfMap map plus half → IsUnmedialOf (structure_of map) half
half_is_unmedial map plus half rooted some signed four is =
    let of = half_of_map map rooted plus signed four half is in
    let plane = half_is_plane (structure_of map) (structure_of half) plus (name map rooted plus signed four) rooted.structure signed four of some (rooted_is_plane map rooted) in
    let medial = medial_of (structure_of half) in
    let is_medial = medial_of_is (structure_of half) plane.structure in
    record {
      rooted = record {
        even = halves (length map.sigma) (length half.sigma) (vertices (structure_of map)) is.half (four_each (structure_of map) rooted.structure some four);
        few = omega (arith, is.half, rooted.few);
        structure = plane.structure;
        connected = plane.connected;
        euler = plane.euler;
      };
      medial = medial;
      is_medial = is_medial;
      is_same = (
        to_medial (structure_of map) (structure_of half) plus (name map rooted plus signed four) rooted.structure signed four of some,
        half_is_carried (structure_of map) (structure_of half) plus (name map rooted plus signed four) rooted.structure signed four of some medial is_medial,
      );
    } where
      halves : (darts half v : ℕ) → 2 * half ≡ darts → 4 * v ≡ darts → half % 2 ≡ 0
      halves darts half v double fours = omega arith

pub each_quartic_has_unmedial : EachQuarticHasUnmedial
each_quartic_has_unmedial map size rooted quartic =
    let colour = (faces_have_two_colours (structure_of map) quartic.plane).1 (four_is_even (structure_of map) quartic.degrees) in
    let half = half_map map rooted colour.0 colour.1 quartic.degrees in
    (half, half_is_unmedial map colour.0 half rooted quartic.some colour.1 quartic.degrees (half_map_is map rooted colour.0 colour.1 quartic.degrees))

pub unmedial_counts : UnmedialCounts
unmedial_counts map unmedial rooted some un =
    let darts : length map.sigma ≡ un.medial.darts = un.is_same.1.darts in
    let filled : 0 < length unmedial.sigma = omega (arith, darts, un.is_medial.darts, some) in
    let there = medial_is_structure (structure_of unmedial) un.medial un.rooted.structure un.is_medial in
    let counts = medial_counts (structure_of unmedial) un.medial (rooted_is_plane unmedial un.rooted) filled un.is_medial in (
      omega (arith, darts, un.is_medial.darts),
      sym counts.vertices_are ∙ sym (vertices_carried un.is_same.0 (structure_of map) un.medial rooted.structure there un.is_same.1),
    )

-- a map with an unmedial has degree 4 everywhere
pub unmedial_is_four : (map unmedial : RotationSystem) → IsRootedMap map → 0 < length map.sigma → IsUnmedialOf (structure_of map) unmedial
    → (dart : ℕ) → dart < length map.sigma → HasAdmittedDegree (structure_of map) (Exactly 4) dart
unmedial_is_four map unmedial rooted some un dart h =
    let four = degrees_are_four (structure_of unmedial) un.medial un.rooted.structure un.is_medial in
    let there = medial_is_structure (structure_of unmedial) un.medial un.rooted.structure un.is_medial in
    record {
      degree = 4;
      counted = sizes_carried un.medial (structure_of map) 4 there (same_symmetric (structure_of map) un.medial rooted.structure un.is_same) four dart h;
      admitted = refl;
    }

pub only_quartic_have_unmedial : OnlyQuarticHaveUnmedial
only_quartic_have_unmedial map unmedial rooted some un = record {
  plane = rooted_is_plane map rooted;
  some = some;
  count = refl;
  degrees = λ d h. (let has = unmedial_is_four map unmedial rooted some un d h in subst (IsCycleSize (slice_index map.sigma) d) has.admitted has.counted);
}
