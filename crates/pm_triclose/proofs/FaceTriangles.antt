-- Each face of the closure of a balanced stem tree has degree 3.
use Rattle.std.proofs.Common.{◌≡◌, ◌≢◌, ℕ, zero, suc, ◌+◌, ◌%◌, ◌<◌, inl, inr, List, length, slice_index, refl, ap, ◌∙◌, sym, subst, arith}
use Rattle.std.proofs.Math.Nat.{add-mod_right}
use Rattle.std.proofs.lemmas.Bool.{cases_eq, cases_lt}
use Rattle.pm_brackets.proofs.RingPlaces.{mod_stays}
use Rattle.pm_perm.specs.Cycles.{repeated}
use Rattle.pm_map.specs.CycleSize.{IsCycleSize}
use Rattle.pm_map.specs.Structure.{Structure, dual, face_next}
use Rattle.pm_tri.specs.declared.letters.TheConstants.{STEM}
use Rattle.pm_tri.specs.Runs.{IsBalanced, IsInRun}
use Rattle.pm_tri.specs.StemTree.{IsStemTree, contour}
use Rattle.pm_tri.specs.Whole.{IsAhead, whole}
use Rattle.pm_tri.proofs.RunStarts.{two_runs}
use Rattle.pm_tri.proofs.SideCounts.{down, up}
use Rattle.pm_triclose.specs.Closure.{AreNumbers, AreTwins, Dart, a_to_b, at_place, b_to_a, no_more, twin_of}
use Rattle.pm_triclose.specs.ClosureLaws.{ClosureFacesAreTriangles}
use Rattle.pm_triclose.specs.WholeClosure.{FollowsWhole, IsWholeClosure, IsWholeDart}
use Rattle.pm_triclose.proofs.AheadOrder.{IsStemRing, ahead_held, step, turn}
use Rattle.pm_triclose.proofs.AheadStems.{new_letter, none_ahead}
use Rattle.pm_triclose.proofs.DartKeys.{IsNext, bracket, bracket_named, next_follows, pair_twins, stem_named, stem_pair}
use Rattle.pm_triclose.proofs.FaceCorners.{IsCorner, corner_next, level_next, level_stem, of_ahead, of_side, triangle_of}
use Rattle.pm_triclose.proofs.TreeRing.{tree_ring}
use Rattle.pm_triclose.proofs.WholeBrackets.{at_fourth, at_third}
use Rattle.pm_triclose.proofs.WholeClosures.{in_whole_closure}
use Rattle.pm_triclose.proofs.WholeOf.{second_start, whole_of}
use Rattle.pm_triclose.proofs.WholePlane.{rotation, structure}

-- three steps lead back, and one doesn't
record IsInTriangle (f : ℕ → ℕ) (d : ℕ) : Type 0 where
  back : f (f (f d)) ≡ d
  moves : f d ≢ d

triangle_size : (f : ℕ → ℕ) (d : ℕ) → IsInTriangle f d → IsCycleSize f d 3
triangle_size f d t = record { some = omega arith; back = t.back; least = least } where
  least : (k : ℕ) → 0 < k → k < 3 → (repeated f k d ≢ d)
  least zero l m e = omega (arith, l)
  least (suc zero) l m e = t.moves e
  least (suc (suc zero)) l m e = t.moves (sym (ap f e) ∙ t.back)
  least (suc (suc (suc k))) l m e = omega (arith, m)

-- the three darts of a cycle
triangle_turns : (f : ℕ → ℕ) (x y z : ℕ) → f x ≡ y → f y ≡ z → f z ≡ x → y ≢ x → IsInTriangle f x
triangle_turns f x y z a b c ne = record { back = ap (λ (k : ℕ). f (f k)) a ∙ ap f b ∙ c; moves = λ e. ne (sym a ∙ e) }

place_of_dart : Dart → ℕ
place_of_dart (at_place p) = p
place_of_dart x = 0

is_place : Dart → ℕ
is_place (at_place p) = 1
is_place x = 0

module _ (places : List ℕ) (across ends : ℕ → ℕ) (w : IsStemRing places across ends) (s : Structure) (number : Dart → ℕ) (n : AreNumbers (IsWholeDart places) (FollowsWhole places) (AreTwins places) s number) where
  -- the face rule by names
  face_named : (x y : Dart) → IsWholeDart places x → IsNext places across ends w (stem_pair places x) y → face_next s (number x) ≡ number y
  face_named x y h f =
      let u = stem_named places across ends w x h in
      ap s.next (n.twin x (bracket across (stem_pair places x)) h (pair_twins places across ends w x h))
      ∙ n.next (bracket across (stem_pair places x)) y (bracket_named places across ends w (stem_pair places x) u) (next_follows places across ends w (stem_pair places x) y u f)

  places_differ : (p q : ℕ) → p < length places → q < length places → p ≢ q → number (at_place p) ≢ number (at_place q)
  unfolding place_of_dart
  places_differ p q l m ne e = ne (ap place_of_dart (n.different (at_place p) (at_place q) l m e))

  twin_differs : (p z : ℕ) → p < length places → slice_index places z ≡ STEM → number (at_place p) ≢ number (twin_of z)
  unfolding is_place
  twin_differs p z l stem e = let c = ap is_place (n.different (at_place p) (twin_of z) l stem e) in omega (arith, c)

  face_injective : (a b : ℕ) → a < s.darts → b < s.darts → face_next s a ≡ face_next s b → a ≡ b
  face_injective a b l m e =
      let g = structure places across ends w s number n in
      let r = rotation places across ends w s number n in
      sym (g.twin_back a l) ∙ ap s.twin (r.injective (s.twin a) (s.twin b) (g.twin_stays a l) (g.twin_stays b m) e) ∙ g.twin_back b m

  face_stays : (a : ℕ) → a < s.darts → face_next s a < s.darts
  face_stays a l = (rotation places across ends w s number n).stays (s.twin a) ((structure places across ends w s number n).twin_stays a l)

  -- a dart is in a triangle where the next one is
  before_triangle : (d : ℕ) → d < s.darts → IsInTriangle (face_next s) (face_next s d) → IsInTriangle (face_next s) d
  before_triangle d l t =
      record {
        back = face_injective (face_next s (face_next s (face_next s d))) d (face_stays (face_next s (face_next s d)) (face_stays (face_next s d) (face_stays d l))) l t.back;
        moves = λ e. t.moves (ap (face_next s) e);
      }

  -- a stem's twin and the place behind the stem
  record HasTriangle (z : ℕ) : Type 0 where
    of_twin : IsInTriangle (face_next s) (number (twin_of z))
    of_place : IsInTriangle (face_next s) (number (at_place (suc z)))

  stem_triangle : (z : ℕ) → slice_index places z ≡ STEM → HasTriangle z
  stem_triangle z stem =
      let t = triangle_of places across ends w z stem in
      let h = t.1 in
      let within = h.within in
      let after = h.after in
      let first : suc z < length places = omega (arith, within, after) in
      let a = face_named (twin_of z) (at_place (suc z)) stem h.from_twin in
      let b = face_named (at_place (suc z)) (at_place t.0) first h.from_first in
      let c = face_named (at_place t.0) (twin_of z) within h.from_second in
      record {
        of_twin = triangle_turns (face_next s) (number (twin_of z)) (number (at_place (suc z))) (number (at_place t.0)) a b c (twin_differs (suc z) z first stem);
        of_place = triangle_turns (face_next s) (number (at_place (suc z))) (number (at_place t.0)) (number (twin_of z)) b c a (places_differ t.0 (suc z) within first (λ e. omega (arith, e, after)));
      }

  -- The last triangle: the stem at place 0 closes at the third place from the end, and at the two behind that no stem closes.
  module _ (last : ℕ) (wide : length places ≡ last + 4) (plant : IsAhead places 0 (suc last)) (ends_there : (x q : ℕ) → suc last < q → IsAhead places x q → ⊥)
      (third : slice_index places (last + 2) ≢ STEM) (fourth : slice_index places (last + 3) ≢ STEM) where
    side_corner : (p : ℕ) → p < length places → slice_index places p ≢ STEM → IsCorner places p p
    side_corner p l ne = elim (step places across ends w p l) [
      | inl side ↦ of_side ne side l refl
      | inr stem ↦ absurd (ne (sym (turn places across ends w p l) ∙ stem.stem))
    ]

    from_plant : face_next s (number (at_place 0)) ≡ number (at_place (last + 2))
    from_plant =
        let e : suc (suc last) ≡ last + 2 = omega arith in
        face_named (at_place 0) (at_place (last + 2)) w.some
        (corner_next places across ends w 0 (suc last) (at_place (last + 2)) (of_ahead plant)
        (no_more (λ x l a. omega (arith, l)) (ap at_place (sym (mod_stays (suc (suc last)) (length places) (omega (arith, wide)) ∙ e)))))

    from_third : face_next s (number (at_place (last + 2))) ≡ number (at_place (last + 3))
    from_third =
        let l : last + 2 < length places = omega (arith, wide) in
        let e : suc (last + 2) ≡ last + 3 = omega arith in
        face_named (at_place (last + 2)) (at_place (last + 3)) l
        (corner_next places across ends w (last + 2) (last + 2) (at_place (last + 3)) (side_corner (last + 2) l third)
        (no_more (λ x i a. ends_there x (last + 2) (omega arith) a) (ap at_place (sym (mod_stays (suc (last + 2)) (length places) (omega (arith, wide)) ∙ e)))))

    from_fourth : face_next s (number (at_place (last + 3))) ≡ number (at_place 0)
    from_fourth =
        let l : last + 3 < length places = omega (arith, wide) in
        let some = w.some in
        let e : suc (last + 3) ≡ 0 + length places = omega (arith, wide) in
        face_named (at_place (last + 3)) (at_place 0) l
        (corner_next places across ends w (last + 3) (last + 3) (at_place 0) (side_corner (last + 3) l fourth)
        (no_more (λ x i a. ends_there x (last + 3) (omega arith) a)
        (sym (ap at_place (ap (λ (k : ℕ). k % length places) e ∙ add-mod_right 0 (length places) ∙ mod_stays 0 (length places) some)))))

    first_triangle : IsInTriangle (face_next s) (number (at_place 0))
    first_triangle = triangle_turns (face_next s) (number (at_place 0)) (number (at_place (last + 2))) (number (at_place (last + 3))) from_plant from_third from_fourth
        (places_differ (last + 2) 0 (omega (arith, wide)) w.some (λ e. omega (arith, e)))

    third_triangle : IsInTriangle (face_next s) (number (at_place (last + 2)))
    third_triangle = triangle_turns (face_next s) (number (at_place (last + 2))) (number (at_place (last + 3))) (number (at_place 0)) from_third from_fourth from_plant
        (places_differ (last + 3) (last + 2) (omega (arith, wide)) (omega (arith, wide)) (λ e. omega (arith, e)))

    fourth_triangle : IsInTriangle (face_next s) (number (at_place (last + 3)))
    fourth_triangle = triangle_turns (face_next s) (number (at_place (last + 3))) (number (at_place 0)) (number (at_place (last + 2))) from_fourth from_plant from_third
        (places_differ 0 (last + 3) w.some (omega (arith, wide)) (λ e. omega (arith, e)))

    -- a place that is higher than the first is one of the last two
    high_triangle : (p : ℕ) → p < length places → 0 < p → up places 0 + down places p < up places p + down places 0 → IsInTriangle (face_next s) (number (at_place p))
    high_triangle p l some high = elim (cases_lt (suc last) p) [
      | inr low ↦ let held = ahead_held places across ends w 0 (suc last) p plant some low in absurd (omega (arith, held, high))
      | inl past ↦ elim (cases_eq p (last + 2)) [
        | inl e ↦ subst (λ (k : ℕ). IsInTriangle (face_next s) (number (at_place k))) (sym e) third_triangle
        | inr ne ↦ let e : last + 3 ≡ p = omega (arith, l, wide, past, ne) in subst (λ (k : ℕ). IsInTriangle (face_next s) (number (at_place k))) e fourth_triangle
      ]
    ]

    place_triangle : (p : ℕ) → p < length places → IsInTriangle (face_next s) (number (at_place p))
    place_triangle zero l = first_triangle
    place_triangle (suc m) l = elim (step places across ends w m (omega (arith, l))) [
      | inr stem ↦ (stem_triangle m (sym (turn places across ends w m (omega (arith, l))) ∙ stem.stem)).of_place
      | inl side ↦ elim (level_stem places across ends w (suc m) m l (omega arith) (λ y i k.
          let e : y ≡ m = omega (arith, i, k) in
          let u = ap (up places) e in
          let d = ap (down places) e in
          omega (arith, u, d, side.more, side.same))) [
            | inr high ↦ high_triangle (suc m) l (omega arith) high
            | inl found ↦
                let e = face_named (at_place (suc m)) (twin_of found.0) l (level_next places across ends w (suc m) found.0 l found.1) in
                before_triangle (number (at_place (suc m))) (n.within (at_place (suc m)) l)
                (subst (IsInTriangle (face_next s)) (sym e) (stem_triangle found.0 found.1.stem).of_twin)
          ]
    ]

    named_triangle : (x : Dart) → IsWholeDart places x → IsInTriangle (face_next s) (number x)
    named_triangle (at_place p) h = place_triangle p h
    named_triangle (twin_of z) h = (stem_triangle z h).of_twin
    named_triangle a_to_b h = absurd h
    named_triangle b_to_a h = absurd h

    pub faces_of_three : (d : ℕ) → d < s.darts → IsCycleSize (dual s).next d 3
    faces_of_three d l =
        let x = n.all d l in
        triangle_size (face_next s) d (subst (IsInTriangle (face_next s)) x.2 (named_triangle x.0 x.1))

-- the plant is of its own run
plant_in : (places : List ℕ) → 0 < length places → IsBalanced places → IsInRun places 0 0
plant_in places some b = record {
  starts = b;
  is_free = b.is_before.is_free;
  steps = 0;
  in_turn = some;
  meets = mod_stays 0 (length places) some;
  no_other = λ k l s. omega (arith, l);
}

whole_triangles : (word : List ℕ) (s : Structure) → IsStemTree word → IsBalanced (contour word) → IsWholeClosure (contour (whole word)) s → (d : ℕ) → d < s.darts → IsCycleSize (dual s).next d 3
whole_triangles word s t b c =
    let start = (two_runs word t).later in
    let w = whole_of word t b start (second_start (contour word) b (two_runs word t)) in
    let r = tree_ring word t b in
    let long = w.long in
    faces_of_three (contour (whole word)) r.across r.ends r.ring s c.0 c.1 (length word) w.wide
    (w.closes_a 0 (plant_in (contour word) (omega (arith, long)) b))
    (none_ahead (contour word) (contour (whole word)) (length word) (two_runs word t).later w)
    (new_letter (contour word) (contour (whole word)) (length word) (two_runs word t).later w (length word + 2) (at_third refl))
    (new_letter (contour word) (contour (whole word)) (length word) (two_runs word t).later w (length word + 3) (at_fourth refl))

pub closures_triangles : ClosureFacesAreTriangles
closures_triangles word s t b c = whole_triangles word s t b (in_whole_closure word t b s c)
