-- The walk that opens a map and the word that is read along it, place by place.
use Rattle.std.proofs.Common.{◌≡◌, ◌≢◌, ℕ, zero, suc, ◌+◌, ◌/◌, ◌<◌, inl, inr, Bool, true, false, cond, ltb, List, [], ◌∷◌, ◌++◌, length, get_or, replicate, sym, ap, ◌∙◌, subst, arith, refl, length-append}
use Rattle.std.specs.Prelude.{slice_index}
use Rattle.std.proofs.lemmas.Bool.{cases_eq, cases_lt, ne_eqb, lt-ltb, le-ltb}
use Rattle.std.proofs.lemmas.List.{get_or_append_left}
use Rattle.std.proofs.Math.Seq.{get_or-append_seam}
use Rattle.pm_limits.specs.declared.TheConstants.{MAX_DEGREE}
use Rattle.pm_trees.specs.declared.letters.TheConstants.{LEAF, BUD}
use Rattle.pm_brackets.specs.declared.letters.TheConstants.{OPEN, CLOSE}
use Rattle.pm_trees.specs.Word.{contour}
use Rattle.pm_map.specs.declared.admitted.Degrees.TheVariants.{EvenUpTo}
use Rattle.pm_map.specs.ClassRules.{AllAdmitted}
use Rattle.pm_map.specs.Structure.{Structure, IsStructure}
use Rattle.pm_map.specs.Rotation.{RotationSystem, IsRootedMap, structure_of, twin}
use Rattle.pm_map.specs.FaceDistance.{AreFaceLevels}
use Rattle.pm_map.proofs.DistanceLemmas.{levels_are_distances}
use Rattle.pm_walk.specs.declared.passing.Fate.{Fate}
use Rattle.pm_walk.specs.declared.passing.Fate.TheVariants.{Unmet}
use Rattle.pm_walk.specs.declared.passing.Step.{Step}
use Rattle.pm_walk.specs.Passing.{IsPassed}
use Rattle.pm_walk.proofs.PassedDarts.{HasPlaces, kind_by, kind_of}
use Rattle.pm_walk.proofs.WalkLoop.{IsAlong, along_start, along_more, kind_here}
use Rattle.pm_distances.specs.Distances.{AreFaceDistances}
use Rattle.pm_distances.proofs.EdgeKinds.{is_up_yes, is_up_no}
use Rattle.pm_distances.proofs.SameLevels.{up_agrees}
use Rattle.pm_distances.proofs.Walked.{is_up, is_cut}
use Rattle.pm_distances.proofs.Walks.{IsWalked, each_map_is_walked}
use Rattle.pm_open.specs.Opening.{IsOpening}
use Rattle.pm_open.specs.steps.Spelling.{is_further, letter_for}
use Rattle.pm_open.proofs.Letters.{letter_of}
use Rattle.pm_open.proofs.SomeOpening.{opening_of_walk, even_degrees}

-- a map with a dart, and the distances of its faces
pub record IsMeasured (map : RotationSystem) (distances : List ℕ) : Type 0 where
  pub valid : IsRootedMap map
  pub some : 0 < length map.sigma
  pub levels : AreFaceLevels (structure_of map) (slice_index distances)

pub measured : (map : RotationSystem) (distances : List ℕ) → IsRootedMap map → 0 < length map.sigma → AreFaceDistances map distances → IsMeasured map distances
measured map distances valid some are = record {
  valid = valid;
  some = some;
  levels = (levels_are_distances (structure_of map) (slice_index distances) valid.structure).1 are.each;
}

-- the walk by the distances of the faces
abbrev pub up : RotationSystem → List ℕ → ℕ → Bool
up map distances = is_up (structure_of map) (slice_index distances)

places : (s : Structure) (level : ℕ → ℕ) → IsStructure s → IsWalked s level → HasPlaces s (is_up s level)
places s level is w = record {
  walked = w.walked;
  passes = is_up w.walked w.walked_level;
  rename = w.rename;
  carries = w.carries;
  structure = w.structure;
  in_order = w.in_order;
  same = up_agrees s w.walked level w.walked_level w.rename is w.carries w.same_level;
}

-- a face beyond that is further is one further
further_is_up : (map : RotationSystem) (distances : List ℕ) (d : ℕ) → IsMeasured map distances → d < length map.sigma → is_further distances d ≡ up map distances d
further_is_up map distances d m h =
    let level : ℕ → ℕ = slice_index distances in
    elim (cases_lt (level d) (level (twin d))) [
      | inl less ↦ lt-ltb (level d) (level (twin d)) less ∙ sym (is_up_yes (structure_of map) level d (omega (arith, less, m.levels.across d h)))
      | inr more ↦ le-ltb (level d) (level (twin d)) more ∙ sym (is_up_no (structure_of map) level d more)
    ]

passed_up : (map : RotationSystem) (distances : List ℕ) (d : ℕ) (before after : List Fate) (step : Step) → IsMeasured map distances → d < length map.sigma
    → IsPassed map d (is_further distances d) before after step → IsPassed map d (up map distances d) before after step
passed_up map distances d before after step m h goes = subst (λ (b : Bool). IsPassed map d b before after step) (further_is_up map distances d m h) goes

-- the letter of a dart by its kind
letter_by : (cut first : Bool) → letter_for (kind_by cut first) ≡ cond cut (cond first BUD LEAF) (cond first OPEN CLOSE)
letter_by true true = refl
letter_by true false = refl
letter_by false true = refl
letter_by false false = refl

letter_of_kind : (s : Structure) (level : ℕ → ℕ) (d : ℕ) → d ≢ 0 → letter_for (kind_of s (is_up s level) d) ≡ letter_of s level d
letter_of_kind s level d some = rw (ne_eqb d 0 some) (letter_by (is_cut s level d) (ltb d (s.twin d)))

-- The walk is at the dart of this place, and the letters of the places before it are written, but for the plant.
pub record IsSpelling (map : RotationSystem) (distances : List ℕ) (place dart : ℕ) (fates : List Fate) (word : List ℕ) : Type 0 where
  pub along : IsAlong map (up map distances) place dart fates
  pub as_long : suc (length word) ≡ place
  pub letters : (w : IsWalked (structure_of map) (slice_index distances)) (p : ℕ) → suc p < place → slice_index word p ≡ letter_of w.walked w.walked_level (suc p)

walk : (map : RotationSystem) (distances : List ℕ) → IsMeasured map distances → IsWalked (structure_of map) (slice_index distances)
walk map distances m = each_map_is_walked (structure_of map) (slice_index distances) m.valid.structure m.some m.levels

-- behind the root
pub spelling_start : (map : RotationSystem) (distances : List ℕ) (before after : List Fate) (step : Step) → IsMeasured map distances
    → before ≡ replicate (length map.sigma / 2) Unmet → IsPassed map map.root (is_further distances map.root) before after step → IsSpelling map distances 1 step.next after []
spelling_start map distances before after step m fresh goes =
    let root : IsAlong map (up map distances) 0 map.root before = along_start map (up map distances) before m.valid m.some fresh in
    record {
      along = along_more map (up map distances) 0 map.root before after step m.valid.structure m.some root (passed_up map distances map.root before after step m root.within goes);
      as_long = refl;
      letters = λ w p l. absurd (omega arith);
    }

-- one place more
pub spelling_more : (map : RotationSystem) (distances : List ℕ) (place dart : ℕ) (before after : List Fate) (step : Step) (word : List ℕ) (letter : ℕ) → IsMeasured map distances → 0 < place
    → place < length map.sigma → IsSpelling map distances place dart before word → IsPassed map dart (is_further distances dart) before after step → letter ≡ letter_for step.kind
    → IsSpelling map distances (place + 1) step.next after (word ++ letter ∷ [])
unfolding places
spelling_more map distances place dart before after step word letter m some l spelling goes is_letter =
    let by : IsPassed map dart (up map distances dart) before after step = passed_up map distances dart before after step m spelling.along.within goes in
    record {
      along =
          subst (λ k. IsAlong map (up map distances) k step.next after) (omega arith)
          (along_more map (up map distances) place dart before after step m.valid.structure l spelling.along by);
      as_long = omega (arith, length-append word (letter ∷ []), spelling.as_long);
      letters = λ w p less. elim (cases_eq (suc p) place) [
        | inl last ↦
            let end : p ≡ length word = omega (arith, last, spelling.as_long) in
            let more : place ≢ 0 = λ e. positive e in
            let kind = kind_here map (up map distances) place dart before after step m.valid.structure l spelling.along by (places (structure_of map) (slice_index distances) m.valid.structure w) in
            ap (λ (k : ℕ). get_or (word ++ letter ∷ []) k 0) end ∙ get_or-append_seam word letter [] 0 ∙ is_letter ∙ ap letter_for kind
            ∙ letter_of_kind w.walked w.walked_level place more ∙ ap (letter_of w.walked w.walked_level) (sym last)
        | inr early ↦ get_or_append_left word (letter ∷ []) 0 p (omega (arith, less, early, spelling.as_long)) ∙ spelling.letters w p (omega (arith, less, early))
      ];
    } where
      positive : place ≡ 0 → ⊥
      positive e = omega arith

-- the whole walk spells the opening
pub spelling_whole : (map : RotationSystem) (distances : List ℕ) (dart : ℕ) (fates : List Fate) (word : List ℕ) → IsMeasured map distances → AllAdmitted (structure_of map) (EvenUpTo MAX_DEGREE)
    → IsSpelling map distances (length map.sigma) dart fates word → IsOpening map word
spelling_whole map distances dart fates word m all spelling =
    let w : IsWalked (structure_of map) (slice_index distances) = walk map distances m in
    opening_of_walk map (slice_index distances) w word m.valid m.some (even_degrees (structure_of map) all) m.levels
    (record { as_long = spelling.as_long ∙ w.carries.darts; each = letters w }) where
      letters : (w : IsWalked (structure_of map) (slice_index distances)) (d : ℕ) → d < w.walked.darts → slice_index (contour word) d ≡ letter_of w.walked w.walked_level d
      letters w zero l = refl
      letters w (suc p) l = spelling.letters w p (omega (arith, w.carries.darts))
