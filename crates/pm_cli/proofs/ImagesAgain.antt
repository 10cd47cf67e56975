-- Duals of duals, unmedials of medial maps and medial maps of unmedials are the map, up to the names of darts.
use Rattle.std.proofs.Common.{◌≡◌, ℕ, ◌*◌, ◌<◌, ◌≤◌, List, length, refl, subst, arith}
use Rattle.std.specs.Prelude.{None, Ok}
use Rattle.pm_limits.specs.declared.TheConstants.{MAX_EDGES}
use Rattle.pm_map.specs.DualLaws.{IsDualOf}
use Rattle.pm_map.specs.Rotation.{RotationSystem, structure_of, IsRootedMap}
use Rattle.pm_map.specs.Structure.{Same, dual}
use Rattle.pm_map.proofs.DualMaps.{dual_is_rooted, duals_tell}
use Rattle.pm_map.proofs.SameMaps.{same_symmetric, same_transitive}
use Rattle.pm_map.proofs.UniqueCanonical.{canonical_map_is_rooted}
use Rattle.pm_medial.specs.Medial.{IsMedialMap}
use Rattle.pm_medial.proofs.MedialSame.{medials_tell}
use Rattle.pm_medial.proofs.UnmedialLaws.{unmedial_counts}
use Rattle.pm_medial.proofs.WrittenLemmas.{medial_is_rooted}
use Rattle.pm_mapfile.proofs.FileLimits.{within_limit}
use Rattle.pm_general.proofs.DualsOfMaps.{dual_map, dual_map_is, map_to_dual, dual_back}
use Rattle.pm_general.specs.General.{most_general_edges}
use Rattle.pm_general.proofs.GeneralClass.{medial_map, medial_map_is}
use Rattle.pm_cli.specs.declared.command.MapTask.TheVariants.{Canon, Medial, Unmedial, Dual}
use Rattle.pm_cli.specs.declared.command.Reader.TheVariants.{OfMap}
use Rattle.pm_cli.specs.Answer.{AnswersReader}
use Rattle.pm_cli.specs.Laws.{DualsReturn, MedialsReturn, UnmedialsReturn}
use Rattle.pm_cli.specs.MapAnswers.{HasMap, told, HasCanonicalText, HasTextOf, task_relation}
use Rattle.pm_cli.proofs.MapRelations.{one_map, rooted_map}
use Rattle.pm_cli.proofs.OpenedAgain.{told_map, canon_map}
use Rattle.pm_cli.proofs.PrintedAgain.{read_back}

-- the map of a map file, by what is answered to it within a limit, and the text that `canon` answers
record AreOfOneMap (P : RotationSystem → Type 0) (canonical : List ℕ) : Type 0 where
  map : RotationSystem
  rooted : IsRootedMap map
  holds : P map
  is_text : HasCanonicalText map canonical

one_file : (limit : ℕ) (P : RotationSystem → Type 0) (bytes canonical : List ℕ) → HasMap bytes limit P → AnswersReader (OfMap Canon) bytes (Ok canonical) → AreOfOneMap P canonical
one_file limit P bytes canonical x canonizes =
    let few = (rooted_map bytes limit x.residue x.map x.answered).few in
    let y = canon_map bytes canonical canonizes in
    let wide : HasMap bytes MAX_EDGES P = record { residue = x.residue; map = x.map; answered = within_limit bytes limit MAX_EDGES x.residue x.map few x.answered; holds = x.holds } in
    let same = one_map MAX_EDGES P (λ m. HasCanonicalText m canonical) bytes wide y in
    record { map = y.map; rooted = same.1; holds = subst P same.0 x.holds; is_text = y.holds }

-- what is the same as the map has its canonical text
same_text : (other m : RotationSystem) (text : List ℕ) → Same (structure_of other) (structure_of m) → HasCanonicalText m text → HasCanonicalText other text
same_text other m text same has = record {
  canonical = has.canonical;
  is_canonical = record {
    is_canonical = has.is_canonical.is_canonical;
    is_same = same_transitive (structure_of other) (structure_of m) (structure_of has.canonical) same has.is_canonical.is_same;
  };
  is_text = has.is_text;
}

-- the dual of a map that is the same as a dual of the map, is the same as the map
dual_of_same : (m other again : RotationSystem) → IsRootedMap m → IsRootedMap other → IsRootedMap again → IsDualOf m other → Same (structure_of other) (structure_of again)
    → Same (structure_of (dual_map again)) (structure_of m)
dual_of_same m other again rooted also third of same =
    let turned : Same (dual (structure_of other)) (dual (structure_of again)) = (duals_tell (structure_of other) (structure_of again) also.structure third.structure).0 same in
    let back : Same (structure_of (dual_map again)) (dual (structure_of again)) = (λ d. d, map_to_dual again (dual_map again) (dual_map_is again)) in
    let there : Same (structure_of m) (dual (structure_of other)) = (λ d. d, map_to_dual other m (dual_back m other rooted.structure of)) in
    let around : Same (structure_of m) (dual (structure_of again)) = same_transitive (structure_of m) (dual (structure_of other)) (dual (structure_of again)) there turned in
    let dual_rooted : IsRootedMap (dual_map again) = dual_is_rooted again (dual_map again) third (dual_map_is again) in
    same_transitive (structure_of (dual_map again)) (dual (structure_of again)) (structure_of m) back
    (same_symmetric (structure_of m) (dual (structure_of again)) rooted.structure around)

pub duals_return : DualsReturn AnswersReader
duals_return bytes text canonical turns canonizes =
    let x = told_map (task_relation Dual) bytes text (Ok text) turns refl in
    let one = one_file MAX_EDGES (λ m. HasTextOf IsDualOf m text) bytes canonical x canonizes in
    let image = one.holds in
    let has = image.is_text in
    let again = has.canonical in
    let rooted = canonical_map_is_rooted image.other again image.rooted has.is_canonical in
    told canonical (record {
      residue = None;
      map = again;
      answered = read_back again MAX_EDGES text rooted rooted.few has.is_text;
      holds = record {
        other = dual_map again;
        rooted = dual_is_rooted again (dual_map again) rooted (dual_map_is again);
        is_image = dual_map_is again;
        is_text = same_text (dual_map again) one.map canonical (dual_of_same one.map image.other again one.rooted image.rooted rooted image.is_image has.is_canonical.is_same) one.is_text;
      };
    })

pub medials_return : MedialsReturn AnswersReader
medials_return bytes text canonical turns canonizes =
    let relation = task_relation Medial in
    let x = told_map relation bytes text (Ok text) turns refl in
    let one = one_file relation.limit (λ m. relation.text_of m text) bytes canonical x canonizes in
    let image = one.holds in
    let has = image.is_text in
    let again = has.canonical in
    let rooted = canonical_map_is_rooted image.other again image.rooted has.is_canonical in
    let long : length image.other.sigma ≡ 2 * length one.map.sigma = image.is_image.1.darts in
    let same_long : length image.other.sigma ≡ length again.sigma = has.is_canonical.is_same.1.darts in
    told canonical (record {
      residue = None;
      map = again;
      answered = read_back again MAX_EDGES text rooted rooted.few has.is_text;
      holds = record {
        other = one.map;
        rooted = one.rooted;
        is_image = (
          omega (arith, long, same_long, image.is_image.0),
          record {
            rooted = one.rooted;
            medial = structure_of image.other;
            is_medial = image.is_image.1;
            is_same = same_symmetric (structure_of image.other) (structure_of again) image.rooted.structure has.is_canonical.is_same;
          },
        );
        is_text = one.is_text;
      };
    })

pub unmedials_return : UnmedialsReturn AnswersReader
unmedials_return bytes text canonical turns canonizes =
    let relation = task_relation Unmedial in
    let x = told_map relation bytes text (Ok text) turns refl in
    let one = one_file MAX_EDGES (λ m. relation.text_of m text) bytes canonical x canonizes in
    let image = one.holds in
    let some_dart = image.is_image.0 in
    let of = image.is_image.1 in
    let has = image.is_text in
    let again = has.canonical in
    let rooted = canonical_map_is_rooted image.other again image.rooted has.is_canonical in
    let half : 2 * length image.other.sigma ≡ length one.map.sigma = (unmedial_counts one.map image.other one.rooted some_dart of).0 in
    let same_long : length image.other.sigma ≡ length again.sigma = has.is_canonical.is_same.1.darts in
    let some : 0 < length again.sigma = omega (arith, half, same_long, some_dart) in
    let few : length again.sigma ≤ MAX_EDGES = omega (arith, half, same_long, one.rooted.few) in
    let is : IsMedialMap again (medial_map again) = medial_map_is again rooted in
    let same : Same of.medial (structure_of (medial_map again)) =
    (medials_tell (structure_of image.other) (structure_of again) of.medial (structure_of (medial_map again)) image.rooted.structure rooted.structure image.rooted.connected of.is_medial is).0 has.is_canonical.is_same in
    let around : Same (structure_of one.map) (structure_of (medial_map again)) = same_transitive (structure_of one.map) of.medial (structure_of (medial_map again)) of.is_same same in
    told canonical (record {
      residue = None;
      map = again;
      answered = read_back again most_general_edges text rooted (omega (arith, few)) has.is_text;
      holds = record {
        other = medial_map again;
        rooted = medial_is_rooted again (medial_map again) rooted some few is;
        is_image = (some, is);
        is_text = same_text (medial_map again) one.map canonical (same_symmetric (structure_of one.map) (structure_of (medial_map again)) one.rooted.structure around) one.is_text;
      };
    })
