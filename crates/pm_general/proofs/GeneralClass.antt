-- The laws of maps by their number of edges as a class, from those of quartic maps; size 0 by itself.
use Rattle.std.proofs.Common.{◌≡◌, ℕ, zero, suc, ◌*◌, ◌<◌, ◌≤◌, List, [], ◌∷◌, length, map, slice_index, Ok, Err, inl, inr, refl, sym, ◌∙◌, ap, subst, arith}
use Rattle.std.specs.List.{range_with_len}
use Rattle.std.proofs.lemmas.List.FromFn.{get_or-map-range_with_len, length-map-range_with_len}
use Rattle.std.proofs.lemmas.Bool.{cases_lt}
use Rattle.pm_limits.specs.declared.TheConstants.{MAX_EDGES}
use Rattle.pm_map.specs.Structure.{IsStructure}
use Rattle.pm_map.specs.Plane.{edges}
use Rattle.pm_map.specs.Rotation.{RotationSystem, structure_of, IsRootedMap}
use Rattle.pm_map.specs.Classes.{IsGeneral, IsQuartic}
use Rattle.pm_map.specs.ClassRules.{AllAdmitted}
use Rattle.pm_map.specs.declared.admitted.Degrees.TheVariants.{Exactly}
use Rattle.pm_map.specs.declared.class_refusal.ClassRefusal.TheVariants.{Memory, Empty, TooMany, Vertex, Face, Loop, Double}
use Rattle.pm_map.proofs.CarriedStructure.{rooted_is_plane}
use Rattle.pm_map.proofs.ClassesKept.{general_kept}
use Rattle.pm_map.proofs.SameMaps.{same_as_itself}
use Rattle.pm_class.specs.Behind.{IsSameAsImage, AreExchanged, SamplesBehind, AreChoicesOf}
use Rattle.pm_class.specs.ClassLaws.{IsKeptByRenumbering, AreLimits, HasMostEdges}
use Rattle.pm_class.specs.OneToOne.{AreOfClass, AreOneToOne}
use Rattle.pm_class.specs.Sampling.{IsSampled, IsSampledUnnamed, IsSizeWhereAnswered, HasOneAnswer, HasSomeAnswer}
use Rattle.pm_class.specs.Unsampling.{IsUnsampled}
use Rattle.pm_class.specs.declared.sample.Sample.{Sample}
use Rattle.pm_class.proofs.ExchangedLemmas.{unsampled_by_choices}
use Rattle.pm_lists.specs.Valid.{IsValidList}
use Rattle.pm_medial.specs.Medial.{IsMedialOf, IsMedialMap, IsUnmedialOf}
use Rattle.pm_medial.proofs.HalvedMaps.{medial_of, medial_of_is}
use Rattle.pm_medial.proofs.MedialCounts.{medial_is_quartic}
use Rattle.pm_medial.proofs.MedialSame.{medials_tell}
use Rattle.pm_medial.proofs.UnmedialLaws.{each_quartic_has_unmedial, unmedial_counts}
use Rattle.pm_medial.proofs.WrittenLemmas.{medial_is_rooted}
use Rattle.pm_euler.specs.Bounds.{quartic_choices, quartic_residues}
use Rattle.pm_euler.specs.Quartic.{IsQuarticSize, SamplesQuartic}
use Rattle.pm_general.specs.General.{most_general_edges, nothing, IsGeneralSize, SamplesGeneral, HasMoreThanHalf, IsGeneralAnswer}
use Rattle.pm_general.proofs.NoDarts.{nothing_is_canonical_of, given_nothing, taken_nothing, nothing_one_to_one, nothing_limits}

-- each rooted map has a medial map, told by its rotation
pub medial_map : RotationSystem → RotationSystem
medial_map m = record { sigma = map (medial_of (structure_of m)).next (range_with_len 0 (2 * length m.sigma)); root = 2 * m.root }

medial_entry : (m : RotationSystem) (k : ℕ) → k < 2 * length m.sigma → slice_index (medial_map m).sigma k ≡ (medial_of (structure_of m)).next k
unfolding medial_map
medial_entry m k less = get_or-map-range_with_len (medial_of (structure_of m)).next 0 (2 * length m.sigma) k k 0 less (omega arith)

medial_long : (m : RotationSystem) → length (medial_map m).sigma ≡ 2 * length m.sigma
unfolding medial_map
medial_long m = length-map-range_with_len (medial_of (structure_of m)).next 0 (2 * length m.sigma)

medial_root : (m : RotationSystem) → (medial_map m).root ≡ 2 * m.root
unfolding medial_map
medial_root m = refl

pub medial_map_is : (m : RotationSystem) → IsRootedMap m → IsMedialMap m (medial_map m)
medial_map_is m rooted =
    let structure : IsStructure (structure_of m) = rooted.structure in
    let of : IsMedialOf (structure_of m) (medial_of (structure_of m)) = medial_of_is (structure_of m) structure in
    record {
      darts = medial_long m;
      after_plus = λ d h. (let stays = structure.rotation.stays d h in medial_entry m (2 * slice_index m.sigma d) (omega (arith, stays)) ∙ of.after_plus d h);
      after_minus = λ d h. medial_entry m (suc (2 * d)) (omega (arith, h)) ∙ of.after_minus d h;
      twin_of_plus = λ d h. omega arith;
      twin_of_minus = λ d h. omega arith;
      root = medial_root m;
    }

-- a map of this size has twice as many darts
pub general_darts : (m : RotationSystem) (n : ℕ) → IsRootedMap m → IsGeneral (structure_of m) n → length m.sigma ≡ 2 * n
general_darts m n rooted is = (let even = rooted.even in let count = is.count in omega (arith, even, count))

-- the medial map of a map is the same as its image, and a map is before it
pub medial_is_imaged : (m other : RotationSystem) → IsMedialMap m other → IsSameAsImage IsMedialOf m other
medial_is_imaged m other of = record { there = structure_of other; is_image = of; is_same = same_as_itself (structure_of other) }

pub unmedial_is_imaged : (m other : RotationSystem) → IsUnmedialOf (structure_of other) m → IsSameAsImage IsMedialOf m other
unmedial_is_imaged m other un = record { there = un.medial; is_image = un.is_medial; is_same = un.is_same }

pub general_kept_by_renumbering : (n : ℕ) → IsKeptByRenumbering (λ m. IsGeneral (structure_of m) n)
general_kept_by_renumbering n m other rooted after = general_kept n (structure_of m) (structure_of other) rooted.structure after.structure

medial_is_behind : (n : ℕ) (m : RotationSystem) → IsQuarticSize n → IsRootedMap m → IsGeneral (structure_of m) n → IsRootedMap (medial_map m) × IsQuartic (structure_of (medial_map m)) n
medial_is_behind n m size rooted is =
    let darts = general_darts m n rooted is in
    let some : 0 < length m.sigma = (let s = size.some in omega (arith, darts, s)) in
    let few : length m.sigma ≤ MAX_EDGES = (let f = size.few in omega (arith, darts, f)) in
    let of = medial_map_is m rooted in (
      medial_is_rooted m (medial_map m) rooted some few of,
      subst (IsQuartic (structure_of (medial_map m))) is.count (medial_is_quartic (structure_of m) (structure_of (medial_map m)) (rooted_is_plane m rooted) some of),
    )

pub general_is_exchanged : (n : ℕ) → IsQuarticSize n → AreExchanged IsMedialOf (λ m. IsQuartic (structure_of m) n) (λ m. IsGeneral (structure_of m) n)
general_is_exchanged n size = record {
  to_behind = λ m rooted is.
      let behind = medial_is_behind n m size rooted is in
      record { map = medial_map m; rooted = behind.0; in_class = behind.1; is = medial_is_imaged m (medial_map m) (medial_map_is m rooted) };
  from_behind = λ other rooted is.
      let found : (m : RotationSystem) × IsUnmedialOf (structure_of other) m = each_quartic_has_unmedial other n rooted is in
      record {
        map = found.0;
        rooted = found.1.rooted;
        in_class = record { plane = rooted_is_plane found.0 found.1.rooted; count = (unmedial_counts other found.0 rooted is.some found.1).1 ∙ is.count };
        is = unmedial_is_imaged found.0 other found.1;
      };
  tells = λ m other m_there other_there rooted also is_map is_other.
      medials_tell (structure_of m) (structure_of other) m_there other_there rooted.structure also.structure rooted.connected is_map is_other;
  kept = general_kept_by_renumbering n;
}

-- the vertices of a quartic map have degree 4
pub all_four : (m : RotationSystem) (n : ℕ) → IsQuartic (structure_of m) n → AllAdmitted (structure_of m) (Exactly 4)
all_four m n is = λ d l. record { degree = 4; counted = is.degrees d l; admitted = refl }

pub general_where_answered : IsSizeWhereAnswered IsGeneralSize (λ n m. IsGeneral (structure_of m) n) IsGeneralAnswer
general_where_answered m n rooted = (λ is. is, λ both. both)

few_and_many : (m : RotationSystem) (n many : ℕ) → IsGeneralSize n → IsGeneral (structure_of m) n → HasMoreThanHalf m many → ⊥
few_and_many m n many size is over = (let few = size.few in let count = is.count in let counted = over.counted in let more = over.more in omega (arith, few, count, counted, more))

pub one_general_answer : HasOneAnswer IsGeneralAnswer
one_general_answer m (Ok a) (Ok b) rooted x y _ _ = ap Ok (sym x.1.count ∙ y.1.count)
one_general_answer m (Ok a) (Err (TooMany k)) rooted x y _ _ = absurd (few_and_many m a k x.0 x.1 y)
one_general_answer m (Err (TooMany k)) (Ok b) rooted x y _ _ = absurd (few_and_many m b k y.0 y.1 x)
one_general_answer m (Err (TooMany k)) (Err (TooMany l)) rooted x y _ _ = ap (λ (e : ℕ). Err (TooMany e)) (x.counted ∙ sym y.counted)
one_general_answer m (Err Memory) second rooted x y other _ = absurd (other refl)
one_general_answer m first (Err Memory) rooted x y _ other = absurd (other refl)
one_general_answer m (Err Empty) second rooted x y _ _ = absurd x
one_general_answer m (Err (Vertex k)) second rooted x y _ _ = absurd x
one_general_answer m (Err (Face k)) second rooted x y _ _ = absurd x
one_general_answer m (Err (Loop k)) second rooted x y _ _ = absurd x
one_general_answer m (Err (Double k)) second rooted x y _ _ = absurd x
one_general_answer m first (Err Empty) rooted x y _ _ = absurd y
one_general_answer m first (Err (Vertex k)) rooted x y _ _ = absurd y
one_general_answer m first (Err (Face k)) rooted x y _ _ = absurd y
one_general_answer m first (Err (Loop k)) rooted x y _ _ = absurd y
one_general_answer m first (Err (Double k)) rooted x y _ _ = absurd y

pub quartic_size : (n : ℕ) → 0 < n → IsGeneralSize n → IsQuarticSize n
quartic_size n some is = record { some = some; few = let few = is.few in omega (arith, few) }

pub general_one_to_one : ((n : ℕ) → IsQuarticSize n → AreOneToOne (quartic_choices n) (quartic_residues n) (λ m. IsGeneral (structure_of m) n) (SamplesBehind IsMedialOf (SamplesQuartic n)))
    → (n : ℕ) → IsGeneralSize n → AreOneToOne (quartic_choices n) (quartic_residues n) (λ m. IsGeneral (structure_of m) n) (SamplesGeneral n)
general_one_to_one through zero is = nothing_one_to_one
general_one_to_one through (suc n) is = through (suc n) (quartic_size (suc n) (omega arith) is)

pub general_limits : ((n : ℕ) → IsQuarticSize n → AreLimits (quartic_choices n) (quartic_residues n)) → (n : ℕ) → IsGeneralSize n → AreLimits (quartic_choices n) (quartic_residues n)
general_limits behind zero is = nothing_limits
general_limits behind (suc n) is = behind (suc n) (quartic_size (suc n) (omega arith) is)

pub general_most_edges : HasMostEdges IsGeneralSize (λ n m. IsGeneral (structure_of m) n) most_general_edges
general_most_edges = record {
  within = λ n m size rooted is. (let darts = general_darts m n rooted is in let few = size.few in omega (arith, darts, few));
  greatest = most_general_edges;
  is_greatest = record { few = omega arith };
  reached = λ m rooted is. general_darts m most_general_edges rooted is;
}

-- what is sampled behind a size from 1 on
pub sampled_general : (n : ℕ) (choices : List ℕ) → 0 < n → (sample : Sample) → IsSampledUnnamed (quartic_choices n) (quartic_residues n) (λ m. IsGeneral (structure_of m) n) (SamplesBehind IsMedialOf (SamplesQuartic n) choices) choices sample
    → IsSampledUnnamed (quartic_choices n) (quartic_residues n) (λ m. IsGeneral (structure_of m) n) (SamplesGeneral n choices) choices sample
sampled_general zero choices some sample s = absurd (omega (arith, some))
sampled_general (suc n) choices some sample s = s

-- and its choices
pub unsampled_general : (n : ℕ) (m : RotationSystem) (residue : List ℕ) → 0 < n → IsGeneralAnswer m (Ok n) → IsValidList residue (quartic_residues n) → (choices : List ℕ)
    → AreChoicesOf (quartic_choices n) (SamplesBehind IsMedialOf (SamplesQuartic n)) m residue choices → IsUnsampled quartic_choices quartic_residues SamplesGeneral IsGeneralAnswer m residue choices
unsampled_general zero m residue some answered valid choices is = absurd (omega (arith, some))
unsampled_general (suc n) m residue some answered valid choices is = unsampled_by_choices quartic_choices quartic_residues SamplesGeneral IsGeneralAnswer (suc n) m residue answered valid choices is

-- at size 0 the map without darts, with the choice and 0
pub sampled_nothing : (n : ℕ) (choices : List ℕ) (sample : Sample) → n ≡ 0 → IsValidList choices (quartic_choices n) → sample.map ≡ nothing → sample.residue ≡ slice_index choices 0 ∷ 0 ∷ []
    → IsSampled (quartic_choices n) (quartic_residues n) (λ m. IsGeneral (structure_of m) n) (SamplesGeneral n choices) choices sample
sampled_nothing zero choices sample none valid map_is residue_is =
    let given = given_nothing choices sample.map sample.residue valid map_is residue_is in
    let is : AreOfClass (2 ∷ []) (2 ∷ 1 ∷ []) (λ m. IsGeneral (structure_of m) 0) choices sample.map sample.residue = nothing_one_to_one.only choices sample.map sample.residue given in
    record { valid = valid; given = given; rooted = is.member.rooted; canonical = is.member.canonical; in_class = is.member.in_class; valid_residue = is.valid_residue }
sampled_nothing (suc n) choices sample none valid map_is residue_is = absurd (omega (arith, none))

-- and back the first number of the residue
pub unsampled_nothing : (n : ℕ) (m : RotationSystem) (residue choices : List ℕ) → n ≡ 0 → IsRootedMap m → IsGeneralAnswer m (Ok n) → IsValidList residue (quartic_residues n) → choices ≡ slice_index residue 0 ∷ []
    → IsUnsampled quartic_choices quartic_residues SamplesGeneral IsGeneralAnswer m residue choices
unsampled_nothing zero m residue choices none rooted answered valid choices_are =
    let given = taken_nothing choices residue valid choices_are in
    record {
      size = 0;
      in_class = answered;
      valid_residue = valid;
      canonical = nothing;
      is_canonical = nothing_is_canonical_of m rooted answered.1;
      valid = (nothing_one_to_one.only choices nothing residue given).valid;
      given = given;
    }
unsampled_nothing (suc n) m residue choices none rooted answered valid choices_are = absurd (omega (arith, none))

pub some_general_answer : HasSomeAnswer IsGeneralAnswer
some_general_answer m rooted told = elim (cases_lt most_general_edges (edges (structure_of m))) [
  | inl many ↦ told (Err (TooMany (edges (structure_of m)))) (record { counted = refl; more = many }) (λ e. cc)
  | inr few ↦ told (Ok (edges (structure_of m))) (record { few = omega (arith, few) }, record { plane = rooted_is_plane m rooted; count = refl }) (λ e. cc)
]
