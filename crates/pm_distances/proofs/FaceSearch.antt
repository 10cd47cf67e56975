-- The search for the distances of the faces: the walk around a face, one step of the search, and what it ends with.
use Rattle.std.proofs.Common.{◌≡◌, ℕ, suc, ◌+◌, ◌-◌, ◌*◌, ◌<◌, ◌≤◌, ◌%◌, inl, inr, Bool, true, false, cond, List, [], ◌∷◌, ◌++◌, length, get_or, set, sum_by, refl, sym, ◌∙◌, ap, subst, append_assoc, arith, length-set, length-append, Contains}
use Rattle.std.proofs.lemmas.List.{get_or-set_same, get_or-set_other, get_or_append_left, get_or-append_right, append-nil}
use Rattle.std.proofs.lemmas.List.Sums.{sum_by-cons}
use Rattle.std.proofs.lemmas.Bool.{cases_eq, cases_lt, false≢true}
use Rattle.std.proofs.lemmas.List.Elements.{Contains-get_or, Contains-push_cases}
use Rattle.pm_perm.proofs.Contained.{is_at}
use Rattle.pm_perm.specs.Permutation.{IsPermutationBelow, IsPermutationList}
use Rattle.pm_perm.proofs.SameCycle.{in_cycle-back}
use Rattle.pm_map.specs.Structure.{Structure, IsStructure, IsConnected, IsClosedSet}
use Rattle.pm_map.specs.Rotation.{RotationSystem, structure_of, twin}
use Rattle.pm_map.specs.steps.Marks.{IsMarked, NoneMarked}
use Rattle.pm_map.specs.Rotation.{face_step}
use Rattle.pm_map.specs.FaceDistance.{AreInOneFace, AreFaceLevels}
use Rattle.pm_map.proofs.CarriedStructure.{face_permutes}
use Rattle.pm_map.proofs.DistanceLemmas.{face_below, face_back, levels_are_distances}
use Rattle.pm_map.proofs.SearchLemmas.{WalksFace-begins, WalksFace-step, MarksFace-start, in_cycle-marked}
use Rattle.pm_distances.specs.Distances.{AreFaceDistances}
use Rattle.pm_distances.specs.steps.DistanceSearch.{WritesFace, FindsFace, IsListed, FindsWhole, IsFoundFrom, FindsFromRoot, IsRising, IsFinding}

-- a walk begins
pub WritesFace-begins : (sigma : List ℕ) (start distance : ℕ) (marks : List Bool) (distances darts : List ℕ) → start < length sigma
    → WritesFace sigma start distance start marks distances darts marks distances darts
WritesFace-begins sigma start distance marks distances darts within = record {
  walk = WalksFace-begins sigma start marks darts within;
  as_long = refl;
  kept = λ d is. refl;
  written = λ d is. inl is;
  added = [];
  order = sym (append-nil darts);
  level = λ d stands. absurd (let h : stands.0 < 0 = stands.1 in omega arith);
}

-- a walk goes on from a dart that isn't marked
pub WritesFace-step : (sigma : List ℕ) (start distance dart : ℕ) (marks : List Bool) (distances darts : List ℕ) (marks1 : List Bool) (distances1 darts1 : List ℕ)
    → length sigma % 2 ≡ 0 → IsPermutationList sigma → length marks ≡ length sigma → length distances ≡ length sigma
    → WritesFace sigma start distance dart marks distances darts marks1 distances1 darts1 → get_or marks1 dart false ≡ false
    → WritesFace sigma start distance (face_step sigma dart) marks distances darts (set marks1 dart true) (set distances1 dart distance) (darts1 ++ dart ∷ [])
WritesFace-step sigma start distance dart marks distances darts marks1 distances1 darts1 even turns same size w unmarked =
    let within : dart < length distances1 = omega (arith, w.walk.within, w.as_long, size) in
    let here : get_or (set distances1 dart distance) dart 0 ≡ distance = get_or-set_same distances1 dart distance 0 within in
    let other : (d : ℕ) → (d ≡ dart → ⊥) → get_or (set distances1 dart distance) d 0 ≡ get_or distances1 d 0 = λ d apart. get_or-set_other distances1 dart d distance 0 apart in
    record {
      walk = WalksFace-step sigma start dart marks darts marks1 darts1 even turns same w.walk unmarked;
      as_long = length-set distances1 dart distance ∙ w.as_long;
      kept = λ d is. elim (cases_eq d dart) [
        | inl at ↦ absurd (false≢true (sym unmarked ∙ subst (λ x. IsMarked marks1 x) at (w.walk.kept d is)))
        | inr apart ↦ other d apart ∙ w.kept d is
      ];
      written = λ d is. elim (cases_eq d dart) [
        | inl at ↦ inr (ap (λ x. get_or (set distances1 dart distance) x 0) at ∙ here)
        | inr apart ↦ elim (w.written d (sym (get_or-set_other marks1 dart d true false apart) ∙ is)) [
          | inl before ↦ inl before
          | inr new ↦ inr (other d apart ∙ new)
        ]
      ];
      added = w.added ++ dart ∷ [];
      order = ap (λ l. l ++ dart ∷ []) w.order ∙ append_assoc darts w.added (dart ∷ []);
      level = λ d stands. elim (cases_eq d dart) [
        | inl at ↦ ap (λ x. get_or (set distances1 dart distance) x 0) at ∙ here
        | inr apart ↦ elim (Contains-push_cases w.added dart d stands) [
          | inl before ↦ other d apart ∙ w.level d before
          | inr last ↦ absurd (apart (sym last))
        ]
      ];
    }

-- the first dart of a face that is found is marked
FindsFace-start : (sigma : List ℕ) (start distance : ℕ) (marks : List Bool) (distances darts : List ℕ) (marks1 : List Bool) (distances1 darts1 : List ℕ)
    → FindsFace sigma start distance marks distances darts marks1 distances1 darts1 → IsMarked marks1 start
FindsFace-start sigma start distance marks distances darts marks1 distances1 darts1 f =
    MarksFace-start sigma start marks darts marks1 darts1 (record { dart = f.dart; walk = f.writes.walk; ended = f.ended })

-- where it wasn't marked before, it has the distance
FindsFace-at_start : (sigma : List ℕ) (start distance : ℕ) (marks : List Bool) (distances darts : List ℕ) (marks1 : List Bool) (distances1 darts1 : List ℕ)
    → FindsFace sigma start distance marks distances darts marks1 distances1 darts1 → get_or marks start false ≡ false → get_or distances1 start 0 ≡ distance
FindsFace-at_start sigma start distance marks distances darts marks1 distances1 darts1 f unmarked =
    elim (f.writes.written start (FindsFace-start sigma start distance marks distances darts marks1 distances1 darts1 f)) [
      | inl before ↦ absurd (false≢true (sym unmarked ∙ before))
      | inr new ↦ new
    ]

IsListed-none : (s : Structure) (marks : List Bool) → NoneMarked marks → IsListed s marks []
IsListed-none s marks none = record {
  below = λ d stands. absurd (let h : stands.0 < 0 = stands.1 in omega arith);
  marked = λ d stands. absurd (let h : stands.0 < 0 = stands.1 in omega arith);
  stands = λ d is. absurd (false≢true (sym (none d) ∙ is));
}

IsListed-more : (map : RotationSystem) (start distance : ℕ) (marks : List Bool) (distances darts : List ℕ) (marks1 : List Bool) (distances1 darts1 : List ℕ)
    → IsStructure (structure_of map) → start < length map.sigma → IsListed (structure_of map) marks darts
    → FindsFace map.sigma start distance marks distances darts marks1 distances1 darts1 → IsListed (structure_of map) marks1 darts1
IsListed-more map start distance marks distances darts marks1 distances1 darts1 structure h listed f = record {
  below = λ d stands. elim (f.writes.walk.only d stands) [ inl before ↦ listed.below d before | inr new ↦ face_below (structure_of map) start d structure h new.1 ];
  marked = λ d stands. elim (f.writes.walk.only d stands) [ inl before ↦ f.writes.walk.kept d (listed.marked d before) | inr new ↦ new.0 ];
  stands = λ d is. elim (f.writes.walk.fresh d is) [ inl before ↦ f.writes.walk.stacked d (listed.stands d before) | inr new ↦ new.0 ];
}

FindsWhole-none : (s : Structure) (marks : List Bool) (distances : List ℕ) → NoneMarked marks → FindsWhole s marks distances
FindsWhole-none s marks distances none = record {
  onward = λ d h is. absurd (false≢true (sym (none d) ∙ is));
  around = λ d h is. absurd (false≢true (sym (none d) ∙ is));
}

FindsWhole-more : (map : RotationSystem) (start distance : ℕ) (marks : List Bool) (distances darts : List ℕ) (marks1 : List Bool) (distances1 darts1 : List ℕ)
    → IsStructure (structure_of map) → FindsWhole (structure_of map) marks distances
    → FindsFace map.sigma start distance marks distances darts marks1 distances1 darts1 → FindsWhole (structure_of map) marks1 distances1
FindsWhole-more map start distance marks distances darts marks1 distances1 darts1 structure whole f =
    let n : ℕ = length map.sigma in
    let next : ℕ → ℕ = face_step map.sigma in
    let p : IsPermutationBelow n next = face_permutes (structure_of map) structure in
    let w = f.writes in
    let onward : (d : ℕ) → d < n → IsMarked marks1 d → IsMarked marks1 (next d) = λ d h is. elim (w.walk.leads d is) [
      | inl before ↦ w.walk.kept (next d) (whole.onward d h before)
      | inr leads ↦ elim leads [ inl marked ↦ marked | inr at ↦ subst (λ x. IsMarked marks1 x) (sym at) f.ended ]
    ] in
    let as_before : (d : ℕ) → d < n → IsMarked marks d → get_or distances1 (next d) 0 ≡ get_or distances1 d 0 =
    λ d h before. w.kept (next d) (whole.onward d h before) ∙ whole.around d h before ∙ sym (w.kept d before) in
    let back : (d : ℕ) → d < n → IsMarked marks (next d) → IsMarked marks d = λ d h before.
    in_cycle-marked n next marks p whole.onward (next d) d (p.stays d h) before (in_cycle-back n next p d (next d) h (record { steps = 1; leads = refl })) in
    record {
      onward = onward;
      around = λ d h is. elim (w.written d is) [
        | inl before ↦ as_before d h before
        | inr new ↦ elim (w.written (next d) (onward d h is)) [
          | inl before ↦ as_before d h (back d h before)
          | inr new_next ↦ new_next ∙ sym new
        ]
      ];
    }

-- the root's face is the first
FindsFromRoot-root : (map : RotationSystem) (marks : List Bool) (distances darts : List ℕ) (marks1 : List Bool) (distances1 darts1 : List ℕ) → NoneMarked marks
    → FindsFace map.sigma map.root 0 marks distances darts marks1 distances1 darts1 → FindsFromRoot (structure_of map) marks1 distances1
FindsFromRoot-root map marks distances darts marks1 distances1 darts1 none f = record {
  root = FindsFace-start map.sigma map.root 0 marks distances darts marks1 distances1 darts1 f;
  at_root = FindsFace-at_start map.sigma map.root 0 marks distances darts marks1 distances1 darts1 f (none map.root);
  lowest = λ d is low. elim (f.writes.walk.fresh d is) [ inl before ↦ absurd (false≢true (sym (none d) ∙ before)) | inr new ↦ new.1 ];
  nearer = λ d h is high. elim (f.writes.written d is) [ inl before ↦ absurd (false≢true (sym (none d) ∙ before)) | inr new ↦ absurd (omega (arith, new, high)) ];
}

-- each other face is found from a dart whose face is found
FindsFromRoot-more : (map : RotationSystem) (from distance : ℕ) (marks : List Bool) (distances darts : List ℕ) (marks1 : List Bool) (distances1 darts1 : List ℕ)
    → IsStructure (structure_of map) → FindsFromRoot (structure_of map) marks distances → from < length map.sigma → IsMarked marks from
    → get_or marks (twin from) false ≡ false → distance ≡ suc (get_or distances from 0)
    → FindsFace map.sigma (twin from) distance marks distances darts marks1 distances1 darts1 → FindsFromRoot (structure_of map) marks1 distances1
FindsFromRoot-more map from distance marks distances darts marks1 distances1 darts1 structure finds below is_found unmarked further f =
    let s : Structure = structure_of map in
    let w = f.writes in
    let start : IsMarked marks1 (twin from) = FindsFace-start map.sigma (twin from) distance marks distances darts marks1 distances1 darts1 f in
    let at_start : get_or distances1 (twin from) 0 ≡ distance = FindsFace-at_start map.sigma (twin from) distance marks distances darts marks1 distances1 darts1 f unmarked in
    let back : twin (twin from) ≡ from = structure.twin_back from below in
    let new_face : (d : ℕ) → AreInOneFace s (twin from) d → IsFoundFrom s marks1 distances1 d = λ d one. record {
      dart = twin from;
      within = structure.twin_stays from below;
      one_face = face_back s (twin from) d structure (structure.twin_stays from below) one;
      found = start;
      found_beyond = subst (λ x. IsMarked marks1 x) (sym back) (w.walk.kept from is_found);
      nearer = ap (λ x. suc (get_or distances1 x 0)) back ∙ ap suc (w.kept from is_found) ∙ sym further ∙ sym at_start;
    } in
    let old_face : (d : ℕ) → IsFoundFrom s marks distances d → IsFoundFrom s marks1 distances1 d = λ d old. record {
      dart = old.dart;
      within = old.within;
      one_face = old.one_face;
      found = w.walk.kept old.dart old.found;
      found_beyond = w.walk.kept (twin old.dart) old.found_beyond;
      nearer = ap suc (w.kept (twin old.dart) old.found_beyond) ∙ old.nearer ∙ sym (w.kept old.dart old.found);
    } in
    record {
      root = w.walk.kept map.root finds.root;
      at_root = w.kept map.root finds.root ∙ finds.at_root;
      lowest = λ d is low. elim (w.written d is) [
        | inl before ↦ finds.lowest d before (sym (w.kept d before) ∙ low)
        | inr new ↦ absurd (omega (arith, new, low, further))
      ];
      nearer = λ d h is high. elim (w.walk.fresh d is) [
        | inl before ↦ old_face d (finds.nearer d h before (omega (arith, w.kept d before, high)))
        | inr new ↦ new_face d new.1
      ];
    }

-- the distances at the places that were there, and at those that are added
record LevelsAt (distance : ℕ) (distances darts distances1 darts1 : List ℕ) : Type 0 where
  longer : length darts ≤ length darts1
  same : (k : ℕ) → k < length darts → get_or darts1 k 0 ≡ get_or darts k 0
  old : (k : ℕ) → k < length darts → get_or distances1 (get_or darts1 k 0) 0 ≡ get_or distances (get_or darts k 0) 0
  new : (k : ℕ) → length darts ≤ k → k < length darts1 → get_or distances1 (get_or darts1 k 0) 0 ≡ distance

FindsFace-levels : (sigma : List ℕ) (start distance : ℕ) (marks : List Bool) (distances darts : List ℕ) (marks1 : List Bool) (distances1 darts1 : List ℕ)
    → ((d : ℕ) → Contains darts d → IsMarked marks d) → FindsFace sigma start distance marks distances darts marks1 distances1 darts1 → LevelsAt distance distances darts distances1 darts1
FindsFace-levels sigma start distance marks distances darts marks1 distances1 darts1 marked f =
    let w = f.writes in
    let size : length darts1 ≡ length darts + length w.added = ap length w.order ∙ length-append darts w.added in
    let same : (k : ℕ) → k < length darts → get_or darts1 k 0 ≡ get_or darts k 0 = λ k h. ap (λ l. get_or l k 0) w.order ∙ get_or_append_left darts w.added 0 k h in
    record {
      longer = omega (arith, size);
      same = same;
      old = λ k h. ap (λ d. get_or distances1 d 0) (same k h) ∙ w.kept (get_or darts k 0) (marked (get_or darts k 0) (Contains-get_or darts k 0 h));
      new = λ k past h.
          let here : get_or darts1 k 0 ≡ get_or w.added (k - length darts) 0 = ap (λ l. get_or l k 0) w.order ∙ get_or-append_right darts w.added (length darts) k 0 refl past in
          ap (λ d. get_or distances1 d 0) here ∙ w.level (get_or w.added (k - length darts) 0) (Contains-get_or w.added (k - length darts) 0 (omega (arith, size, past, h)));
    }

IsRising-root : (distances darts1 distances1 : List ℕ) → LevelsAt 0 distances [] distances1 darts1 → IsRising distances1 darts1 0
IsRising-root distances darts1 distances1 at = record {
  rises = λ j k less h. omega (arith, at.new j (omega arith) (omega (arith, less, h)));
  few = λ k h. omega (arith, at.new k (omega arith) h);
  near = λ k h some. omega (arith, at.new k (omega arith) h);
}

IsRising-more : (distance : ℕ) (distances darts distances1 darts1 : List ℕ) (place : ℕ) → place < length darts → distance ≡ suc (get_or distances (get_or darts place 0) 0)
    → IsRising distances darts place → LevelsAt distance distances darts distances1 darts1 → IsRising distances1 darts1 (place + 1)
IsRising-more distance distances darts distances1 darts1 place within further r at =
    let longer : length darts ≤ length darts1 = at.longer in
    let rises : (j k : ℕ) → j ≤ k → k < length darts1 → get_or distances1 (get_or darts1 j 0) 0 ≤ get_or distances1 (get_or darts1 k 0) 0 = λ j k less h. elim (cases_lt k (length darts)) [
      | inl old_k ↦ omega (arith, at.old j (omega (arith, less, old_k)), at.old k old_k, r.rises j k less old_k)
      | inr new_k ↦ elim (cases_lt j (length darts)) [
        | inl old_j ↦ omega (arith, at.old j old_j, at.new k new_k h, r.near j old_j within, further)
        | inr new_j ↦ omega (arith, at.new j new_j (omega (arith, less, h)), at.new k new_k h)
      ]
    ] in
    let top : (k : ℕ) → k < length darts1 → get_or distances1 (get_or darts1 k 0) 0 ≤ distance = λ k h. elim (cases_lt k (length darts)) [
      | inl old_k ↦ omega (arith, at.old k old_k, r.near k old_k within, further)
      | inr new_k ↦ omega (arith, at.new k new_k h)
    ] in
    record {
      rises = rises;
      few = λ k h. elim (cases_lt k (length darts)) [
        | inl old_k ↦ omega (arith, at.old k old_k, r.few k old_k)
        | inr new_k ↦ omega (arith, at.new k new_k h, r.few place within, further, new_k, within)
      ];
      near = λ k h more. omega (arith, top k h, further, at.old place within, rises place (place + 1) (omega arith) more);
    }

IsRising-onward : (distances darts : List ℕ) (place : ℕ) → IsRising distances darts place → IsRising distances darts (place + 1)
IsRising-onward distances darts place r = record {
  rises = r.rises;
  few = r.few;
  near = λ k h more. omega (arith, r.near k h (omega (arith, more)), r.rises place (place + 1) (omega arith) more);
}

-- two for each dart that isn't marked
work-bound : (marks : List Bool) → sum_by (λ is_marked. cond is_marked 0 2) marks ≤ 2 * length marks
work-bound [] = omega arith
work-bound (is_marked ∷ marks) = omega (arith, sum_by-cons (λ b. cond b 0 2) is_marked marks, at_most is_marked, work-bound marks) where
  at_most : (b : Bool) → cond b 0 2 ≤ 2
  at_most true = omega arith
  at_most false = omega arith

-- the search begins with the root's face
pub IsFinding-begins : (map : RotationSystem) (marks : List Bool) (distances darts : List ℕ) (marks1 : List Bool) (distances1 darts1 : List ℕ)
    → IsStructure (structure_of map) → 0 < length map.sigma → length marks ≡ length map.sigma → length distances ≡ length map.sigma → NoneMarked marks → darts ≡ []
    → FindsFace map.sigma map.root 0 marks distances darts marks1 distances1 darts1 → IsFinding map marks1 distances1 darts1 0
IsFinding-begins map marks distances darts marks1 distances1 darts1 structure some marks_size distances_size none empty found =
    let f : FindsFace map.sigma map.root 0 marks distances [] marks1 distances1 darts1 = subst (λ l. FindsFace map.sigma map.root 0 marks distances l marks1 distances1 darts1) empty found in
    let listed : IsListed (structure_of map) marks [] = IsListed-none (structure_of map) marks none in
    let bound : sum_by (λ is_marked. cond is_marked 0 2) marks ≤ 2 * length marks = work-bound marks in
    record {
      marks_size = f.writes.walk.size ∙ marks_size;
      distances_size = f.writes.as_long ∙ distances_size;
      within = omega arith;
      work = omega (arith, f.writes.walk.work, bound, marks_size);
      listed = IsListed-more map map.root 0 marks distances [] marks1 distances1 darts1 structure (structure.root_stays some) listed f;
      whole = FindsWhole-more map map.root 0 marks distances [] marks1 distances1 darts1 structure (FindsWhole-none (structure_of map) marks distances none) f;
      from_root = FindsFromRoot-root map marks distances [] marks1 distances1 darts1 none f;
      rising = IsRising-root distances darts1 distances1 (FindsFace-levels map.sigma map.root 0 marks distances [] marks1 distances1 darts1 listed.marked f);
      found = λ k h. absurd (omega (arith, h));
      across = λ k h. absurd (omega (arith, h));
    }

-- what holds of the places before one and of that place holds of all up to it
up_to : (P : ℕ → Type 0) (place : ℕ) → ((k : ℕ) → k < place → P k) → P place → (k : ℕ) → k < place + 1 → P k
up_to P place before here k h = elim (cases_eq k place) [ inl same ↦ subst P (sym same) here | inr other ↦ before k (omega (arith, h, other)) ]

-- the face across the edge is found already
pub IsFinding-found : (map : RotationSystem) (marks : List Bool) (distances darts : List ℕ) (place : ℕ) → IsFinding map marks distances darts place → place < length darts
    → IsMarked marks (twin (get_or darts place 0)) → IsFinding map marks distances darts (place + 1)
IsFinding-found map marks distances darts place i within is_found =
    let other : ℕ = twin (get_or darts place 0) in
    let stands : Contains darts other = i.listed.stands other is_found in
    let near : get_or distances (get_or darts stands.0 0) 0 ≤ suc (get_or distances (get_or darts place 0) 0) = i.rising.near stands.0 stands.1 within in
    record {
      marks_size = i.marks_size;
      distances_size = i.distances_size;
      within = omega (arith, within);
      work = i.work;
      listed = i.listed;
      whole = i.whole;
      from_root = i.from_root;
      rising = IsRising-onward distances darts place i.rising;
      found = up_to (λ k. IsMarked marks (twin (get_or darts k 0))) place i.found is_found;
      across = up_to (λ k. get_or distances (twin (get_or darts k 0)) 0 ≤ suc (get_or distances (get_or darts k 0) 0)) place i.across
          (subst (λ d. get_or distances d 0 ≤ suc (get_or distances (get_or darts place 0) 0)) (is_at _ _ stands) near);
    }

-- the face across the edge is found now
pub IsFinding-more : (map : RotationSystem) (distance : ℕ) (marks : List Bool) (distances darts : List ℕ) (marks1 : List Bool) (distances1 darts1 : List ℕ) (place : ℕ)
    → IsStructure (structure_of map) → IsFinding map marks distances darts place → place < length darts → get_or marks (twin (get_or darts place 0)) false ≡ false
    → distance ≡ suc (get_or distances (get_or darts place 0) 0)
    → FindsFace map.sigma (twin (get_or darts place 0)) distance marks distances darts marks1 distances1 darts1 → IsFinding map marks1 distances1 darts1 (place + 1)
IsFinding-more map distance marks distances darts marks1 distances1 darts1 place structure i within unmarked further f =
    let from : ℕ = get_or darts place 0 in
    let stands : Contains darts from = Contains-get_or darts place 0 within in
    let below : from < length map.sigma = i.listed.below from stands in
    let at : LevelsAt distance distances darts distances1 darts1 = FindsFace-levels map.sigma (twin from) distance marks distances darts marks1 distances1 darts1 i.listed.marked f in
    let start : IsMarked marks1 (twin from) = FindsFace-start map.sigma (twin from) distance marks distances darts marks1 distances1 darts1 f in
    let at_start : get_or distances1 (twin from) 0 ≡ distance = FindsFace-at_start map.sigma (twin from) distance marks distances darts marks1 distances1 darts1 f unmarked in
    let same : (k : ℕ) → k < length darts → twin (get_or darts k 0) ≡ twin (get_or darts1 k 0) = λ k h. ap twin (sym (at.same k h)) in
    let last : get_or distances1 (twin from) 0 ≤ suc (get_or distances1 (get_or darts1 place 0) 0) = omega (arith, at_start, further, at.old place within) in
    let before : (k : ℕ) → k < place → get_or distances1 (twin (get_or darts k 0)) 0 ≤ suc (get_or distances1 (get_or darts1 k 0) 0) =
    λ k h. omega (arith, f.writes.kept (twin (get_or darts k 0)) (i.found k h), i.across k h, at.old k (omega (arith, h, within))) in
    record {
      marks_size = f.writes.walk.size ∙ i.marks_size;
      distances_size = f.writes.as_long ∙ i.distances_size;
      within = omega (arith, within, at.longer);
      work = omega (arith, f.writes.walk.work, i.work);
      listed = IsListed-more map (twin from) distance marks distances darts marks1 distances1 darts1 structure (structure.twin_stays from below) i.listed f;
      whole = FindsWhole-more map (twin from) distance marks distances darts marks1 distances1 darts1 structure i.whole f;
      from_root = FindsFromRoot-more map from distance marks distances darts marks1 distances1 darts1 structure i.from_root below (i.listed.marked from stands) unmarked further f;
      rising = IsRising-more distance distances darts distances1 darts1 place within further i.rising at;
      found = up_to (λ k. IsMarked marks1 (twin (get_or darts1 k 0))) place
          (λ k h. subst (λ d. IsMarked marks1 d) (same k (omega (arith, h, within))) (f.writes.walk.kept (twin (get_or darts k 0)) (i.found k h)))
          (subst (λ d. IsMarked marks1 d) (same place within) start);
      across = up_to (λ k. get_or distances1 (twin (get_or darts1 k 0)) 0 ≤ suc (get_or distances1 (get_or darts1 k 0) 0)) place
          (λ k h. subst (λ d. get_or distances1 d 0 ≤ suc (get_or distances1 (get_or darts1 k 0) 0)) (same k (omega (arith, h, within))) (before k h))
          (subst (λ d. get_or distances1 d 0 ≤ suc (get_or distances1 (get_or darts1 place 0) 0)) (same place within) last);
    }

-- the search is over: the numbers are the distances
pub IsFinding-all : (map : RotationSystem) (marks : List Bool) (distances darts : List ℕ) (place : ℕ) → IsStructure (structure_of map) → IsConnected (structure_of map)
    → IsFinding map marks distances darts place → length darts ≤ place → AreFaceDistances map distances
IsFinding-all map marks distances darts place structure connected i ends =
    let s : Structure = structure_of map in
    let level : ℕ → ℕ = λ d. get_or distances d 0 in
    let under_twin : (d : ℕ) → d < s.darts → IsMarked marks d → IsMarked marks (twin d) = λ d h is.
    (let stands : Contains darts d = i.listed.stands d is in
    subst (λ e. IsMarked marks (twin e)) (is_at _ _ stands) (i.found stands.0 (omega (arith, stands.1, ends)))) in
    let closed : IsClosedSet s (λ d. get_or marks d false) = record {
      under_next = λ d h is. subst (λ x. IsMarked marks (s.next x)) (structure.twin_back d h) (i.whole.onward (twin d) (structure.twin_stays d h) (under_twin d h is));
      under_twin = under_twin;
    } in
    let all : (d : ℕ) → d < s.darts → IsMarked marks d = connected (λ d. get_or marks d false) i.from_root.root closed in
    let levels : AreFaceLevels s level = record {
      around = λ d h. i.whole.around d h (all d h);
      root = λ some. i.from_root.at_root;
      lowest = λ d h low. i.from_root.lowest d (all d h) low;
      across = λ d h.
          let stands : Contains darts d = i.listed.stands d (all d h) in
          subst (λ e. level (twin e) ≤ suc (level e)) (is_at _ _ stands) (i.across stands.0 (omega (arith, stands.1, ends)));
      nearer = λ d h high. let from : IsFoundFrom s marks distances d = i.from_root.nearer d h (all d h) high in (from.dart, from.within, from.one_face, from.nearer);
    } in
    record { as_long = i.distances_size; each = (levels_are_distances s level structure).0 levels }

-- a distance in the list is small
pub IsFinding-few : (map : RotationSystem) (marks : List Bool) (distances darts : List ℕ) (place : ℕ) → IsFinding map marks distances darts place → place < length darts
    → get_or distances (get_or darts place 0) 0 < 2 * length map.sigma
IsFinding-few map marks distances darts place i within = omega (arith, i.rising.few place within, i.work)
