-- The vertices, edges and faces of a medial structure, and the degrees of its vertices.
use Rattle.std.proofs.Common.{◌≡◌, ℕ, zero, suc, ◌+◌, ◌*◌, ◌/◌, ◌<◌, false, eqb, refl, sym, ap, ◌∙◌, subst, arith}
use Rattle.std.proofs.lemmas.Bool.{ne_eqb}
use Rattle.pm_perm.specs.Permutation.{IsPermutationBelow}
use Rattle.pm_perm.specs.Cycles.{cycles, repeated}
use Rattle.pm_perm.proofs.Interleaved.{by_parity, cycles-interleaved}
use Rattle.pm_perm.proofs.PartPairs.{involution-permutes}
use Rattle.pm_perm.proofs.Renumbered.{cycles-turned, cycles-inverse, product-permutes}
use Rattle.pm_map.specs.Structure.{Structure, IsStructure, face_next}
use Rattle.pm_map.specs.Plane.{vertices, edges, faces}
use Rattle.pm_map.specs.CycleSize.{IsCycleSize}
use Rattle.pm_map.proofs.DegreeTotals.{darts_of_degree}
use Rattle.pm_medial.specs.Medial.{IsMedialOf}
use Rattle.pm_medial.specs.MedialLaws.{MedialIsQuartic, MedialCounts}
use Rattle.pm_medial.proofs.MedialStructure.{before, before_stays, next_before, before_permutes, after_even, after_odd, twin_next_stays, medial_is_structure, medial_is_connected}

twins_permute : (s : Structure) → IsStructure s → IsPermutationBelow s.darts s.twin
twins_permute s is = involution-permutes s.darts s.twin (record { stays = is.twin_stays; twice = is.twin_back })

module _ (s m : Structure) (is : IsStructure s) (of : IsMedialOf s m) where
  b : ℕ → ℕ
  b = before s m is of

  -- two steps lead from the plus of a dart to that of its twin
  two_from_even : (d : ℕ) → d < s.darts → repeated m.next 2 (2 * d) ≡ 2 * s.twin d
  unfolding b
  two_from_even d h =
      ap m.next (after_even s m is of d h) ∙ after_odd s m is of (before s m is of d) (before_stays s m is of d h) ∙ ap (λ e. 2 * s.twin e) (next_before s m is of d h)

  two_from_odd : (d : ℕ) → d < s.darts → repeated m.next 2 (suc (2 * d)) ≡ suc (2 * b (s.twin (s.next d)))
  unfolding b
  two_from_odd d h = ap m.next (after_odd s m is of d h) ∙ after_even s m is of (s.twin (s.next d)) (twin_next_stays s m is of d h)

  four_from_even : (d : ℕ) → d < s.darts → repeated m.next 4 (2 * d) ≡ 2 * d
  four_from_even d h =
      ap (repeated m.next 2) (two_from_even d h) ∙ two_from_even (s.twin d) (is.twin_stays d h) ∙ ap (λ e. 2 * e) (is.twin_back d h)

  -- the minus is reached from the plus before it
  four_from_odd : (d : ℕ) → d < s.darts → repeated m.next 4 (suc (2 * d)) ≡ suc (2 * d)
  four_from_odd d h =
      let stays = is.rotation.stays d h in
      sym (ap (repeated m.next 4) (of.after_plus d h)) ∙ ap m.next (four_from_even (s.next d) stays) ∙ of.after_plus d h

  one_from_even : (d : ℕ) → d < s.darts → repeated m.next 1 (2 * d) ≡ 2 * d → ⊥
  one_from_even d h same = let step : m.next (2 * d) ≡ 2 * d = same in omega (arith, after_even s m is of d h, step)

  three_from_even : (d : ℕ) → d < s.darts → repeated m.next 3 (2 * d) ≡ 2 * d → ⊥
  three_from_even d h same =
      let third : m.next (2 * s.twin d) ≡ 2 * d = sym (ap m.next (two_from_even d h)) ∙ same in
      omega (arith, after_even s m is of (s.twin d) (is.twin_stays d h), third)

  two_steps_even : (d : ℕ) → d < s.darts → repeated m.next 2 (2 * d) ≡ 2 * d → ⊥
  two_steps_even d h same = is.twin_other d h (let step = two_from_even d h in omega (arith, step, same))

  one_from_odd : (d : ℕ) → d < s.darts → repeated m.next 1 (suc (2 * d)) ≡ suc (2 * d) → ⊥
  one_from_odd d h same = let step : m.next (suc (2 * d)) ≡ suc (2 * d) = same in omega (arith, after_odd s m is of d h, step)

  two_steps_odd : (d : ℕ) → d < s.darts → repeated m.next 2 (suc (2 * d)) ≡ suc (2 * d) → ⊥
  unfolding b
  two_steps_odd d h same =
      let stays = is.rotation.stays d h in
      let back : before s m is of (s.twin (s.next d)) ≡ d = (let step = two_from_odd d h in omega (arith, step, same)) in
      is.twin_other (s.next d) stays (sym (next_before s m is of (s.twin (s.next d)) (is.twin_stays (s.next d) stays)) ∙ ap s.next back)

  three_from_odd : (d : ℕ) → d < s.darts → repeated m.next 3 (suc (2 * d)) ≡ suc (2 * d) → ⊥
  unfolding b
  three_from_odd d h same =
      let earlier = before s m is of (s.twin (s.next d)) in
      let third : m.next (suc (2 * earlier)) ≡ suc (2 * d) = sym (ap m.next (two_from_odd d h)) ∙ same in
      omega (arith, after_odd s m is of earlier (before_stays s m is of (s.twin (s.next d)) (twin_next_stays s m is of d h)), third)

  steps_below_four : (k x : ℕ) → 0 < k → k < 4 → (repeated m.next 1 x ≡ x → ⊥) → (repeated m.next 2 x ≡ x → ⊥) → (repeated m.next 3 x ≡ x → ⊥) → repeated m.next k x ≡ x → ⊥
  steps_below_four zero x some less one two three = absurd (omega arith)
  steps_below_four (suc zero) x some less one two three = one
  steps_below_four (suc (suc zero)) x some less one two three = two
  steps_below_four (suc (suc (suc zero))) x some less one two three = three
  steps_below_four (suc (suc (suc (suc k)))) x some less one two three = absurd (omega arith)

  -- each vertex has degree 4
  pub degrees_are_four : (k : ℕ) → k < m.darts → IsCycleSize m.next k 4
  degrees_are_four k h = by_parity (λ k. IsCycleSize m.next k 4) s.darts
      (λ d l. record {
        some = omega arith;
        back = four_from_even d l;
        least = λ steps some less. steps_below_four steps (2 * d) some less (one_from_even d l) (two_steps_even d l) (three_from_even d l);
      })
      (λ d l. record {
        some = omega arith;
        back = four_from_odd d l;
        least = λ steps some less. steps_below_four steps (suc (2 * d)) some less (one_from_odd d l) (two_steps_odd d l) (three_from_odd d l);
      })
      k (subst (λ n. k < n) of.darts h)

  -- the faces are those of the structure, each dart by its plus, and its vertices, each dart by the minus after it
  faces_and_vertices : cycles (2 * s.darts) (face_next m) ≡ cycles s.darts (λ d. s.twin (s.next d)) + cycles s.darts (before s m is of)
  faces_and_vertices =
      cycles-interleaved s.darts (λ d. s.twin (s.next d)) (before s m is of) (face_next m)
      (product-permutes s.darts (λ d. s.twin (s.next d)) s.twin s.next (twins_permute s is) is.rotation (record { value = λ d h. refl })) (before_permutes s m is of)
      (record {
        even = λ d h. ap m.next (of.twin_of_plus d h) ∙ after_odd s m is of d h;
        odd = λ d h. ap m.next (of.twin_of_minus d h) ∙ after_even s m is of d h;
      })

  pub faces_add_up : 0 < s.darts → faces m ≡ vertices s + faces s
  faces_add_up some =
      let none : eqb s.darts 0 ≡ false = ne_eqb s.darts 0 (λ e. absurd (omega arith)) in
      let none_there : eqb m.darts 0 ≡ false = ne_eqb m.darts 0 (λ e. absurd (omega (arith, of.darts))) in
      let turned : cycles s.darts (face_next s) ≡ cycles s.darts (λ d. s.twin (s.next d)) =
      cycles-turned s.darts (face_next s) (λ d. s.twin (s.next d)) s.next s.twin is.rotation (twins_permute s is) (record { value = λ d h. refl }) (record { value = λ d h. refl }) in
      let back : cycles s.darts s.next ≡ cycles s.darts (before s m is of) = cycles-inverse s.darts s.next (before s m is of) is.rotation (before_permutes s m is of) (next_before s m is of) in
      let double : cycles m.darts (face_next m) ≡ cycles (2 * s.darts) (face_next m) = ap (λ n. cycles n (face_next m)) of.darts in
      rw (none, none_there) (omega (arith, turned, back, double, faces_and_vertices))

-- four times the vertices are the darts, where each has degree 4
pub four_each : (s : Structure) → IsStructure s → 0 < s.darts → ((d : ℕ) → d < s.darts → IsCycleSize s.next d 4) → 4 * vertices s ≡ s.darts
four_each s is some sizes =
    let none : eqb s.darts 0 ≡ false = ne_eqb s.darts 0 (λ e. absurd (omega (arith, e, some))) in
    rw none (darts_of_degree s 4 is sizes)

four_times : (v darts double : ℕ) → 4 * v ≡ double → double ≡ 2 * darts → (v ≡ darts / 2) × (double / 2 ≡ 2 * (darts / 2))
four_times v darts double four twice = (omega arith, omega arith)

pub medial_counts : MedialCounts
medial_counts s m plane some of =
    let is = plane.structure in
    let some_there : 0 < m.darts = omega (arith, of.darts, some) in
    let none_there : eqb m.darts 0 ≡ false = ne_eqb m.darts 0 (λ e. absurd (omega (arith, e, some_there))) in
    let four : 4 * vertices m ≡ m.darts = rw none_there (darts_of_degree m 4 (medial_is_structure s m is of) (degrees_are_four s m is of)) in
    let numbers = four_times (vertices m) s.darts m.darts four of.darts in
    record { vertices_are = numbers.0; edges_are = numbers.1; faces_are = faces_add_up s m is of some }

pub medial_is_quartic : MedialIsQuartic
medial_is_quartic s m plane some of =
    let is = plane.structure in
    let counts = medial_counts s m plane some of in
    record {
      plane = record {
        structure = medial_is_structure s m is of;
        connected = medial_is_connected s m is of plane.connected;
        euler = euler_two (vertices m) (edges m) (faces m) (vertices s) (edges s) (faces s) counts.vertices_are counts.edges_are counts.faces_are plane.euler;
      };
      some = omega (arith, of.darts, some);
      count = counts.vertices_are;
      degrees = degrees_are_four s m is of;
    } where
      euler_two : (v' e' f' v e f : ℕ) → v' ≡ e → e' ≡ 2 * e → f' ≡ v + f → v + f ≡ e + 2 → v' + f' ≡ e' + 2
      euler_two v' e' f' v e f vertices edges faces euler = omega arith
