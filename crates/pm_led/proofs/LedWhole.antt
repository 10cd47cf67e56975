-- Where darts lead both ways, the walk meets every dart.
use Rattle.std.proofs.Common.{◌≡◌, ℕ, zero, suc, ◌+◌, ◌*◌, ◌/◌, ◌<◌, ◌≤◌, inl, inr, Bool, true, false, not, IsTrue, eqb, eq-eqb, nat_eq, refl, sym, ap, ◌∙◌, subst, arith}
use Rattle.std.proofs.lemmas.Bool.{cases_Bool, cond-false, eqb-true, false≢true, ne_eqb}
use Rattle.pm_perm.specs.Cycles.{cycles, leader}
use Rattle.pm_perm.specs.PartMap.{PartMap, IsPartMap, IsPartClosed, IsPartConnected, part_face}
use Rattle.pm_perm.specs.Permutation.{IsPermutationBelow}
use Rattle.pm_perm.specs.Pairs.{IsInvolutionBelow, pairs}
use Rattle.pm_perm.proofs.ConnectedEuler.{connected_euler}
use Rattle.pm_perm.proofs.FullPairs.{full_pairs}
use Rattle.pm_perm.proofs.PairCounts.{pairs-all}
use Rattle.pm_perm.proofs.SameCycle.{in_cycle-through, in_cycle-leader, leader-in_cycle, cycles-same}
use Rattle.pm_map.specs.Structure.{Structure, IsStructure, face_next, dual}
use Rattle.pm_map.specs.Plane.{HasEulerTwo}
use Rattle.pm_walk.specs.Led.{IsClosedAlong}
use Rattle.pm_walk.proofs.Cutting.{IsCutting, HasCut, IsCutAt, step_by, step_by-cut, step_by-kept, step_by-permutes, dart_after}
use Rattle.pm_walk.proofs.MetDarts.{IsDecidedWalk, IsMet, met_inside, met_decided, met_around, met_reached}
use Rattle.pm_walk.proofs.Numbered.{IsWhole}
use Rattle.pm_led.specs.LedLaws.{IsLedBothWays}
use Rattle.pm_led.proofs.PickedEdges.{picked, picked-yes, picked-no, picked-involutes, picked-parted}

module _ (s : Structure) (out : ℕ → Bool) (is : IsStructure s) (some : 0 < s.darts) (euler : HasEulerTwo s) (led : IsLedBothWays s out) (c : HasCut s out s.darts) where
  kept_alike : IsCutting s (λ d. not (c.cut d))
  kept_alike = record { both = λ d l. ap not (c.cutting.both d l) }

  -- the kept edges
  abbrev kept_map : PartMap
  kept_map = record { darts = s.darts; next = s.next; twin = picked s (λ d. not (c.cut d)) }

  walk : IsDecidedWalk s out c.cut
  walk = record { structure = is; some = some; cutting = c.cutting; decided = c.decided }

  -- the walk goes around their faces
  kept_step : (d : ℕ) → s.next (picked s (λ e. not (c.cut e)) d) ≡ step_by s c.cut d
  kept_step d = elim (cases_Bool (c.cut d)) [
    | inl cut ↦ ap s.next (picked-no s (λ e. not (c.cut e)) d (ap not cut)) ∙ sym (step_by-cut s c.cut d cut)
    | inr stays ↦ ap s.next (picked-yes s (λ e. not (c.cut e)) d (ap not stays)) ∙ sym (step_by-kept s c.cut d stays)
  ]

  -- what holds the root and is closed under next and the kept twins holds the walk
  holds_walk : (holds : ℕ → Bool) → IsTrue (holds s.root) → IsPartClosed kept_map holds → (steps : ℕ) → (dart_after s c.cut steps < s.darts) × IsTrue (holds (dart_after s c.cut steps))
  holds_walk holds root closed zero = (is.root_stays some, root)
  holds_walk holds root closed (suc steps) =
      let before = holds_walk holds root closed steps in
      let d : ℕ = dart_after s c.cut steps in
      let pairs_kept : IsInvolutionBelow s.darts (picked s (λ e. not (c.cut e))) = picked-involutes s (λ e. not (c.cut e)) is kept_alike in
      let permutes : IsPermutationBelow s.darts (step_by s c.cut) = step_by-permutes s c.cut is c.cutting in (
        permutes.stays d before.0,
        subst (λ x. IsTrue (holds x)) (kept_step d)
            (closed.under_next (picked s (λ e. not (c.cut e)) d) (pairs_kept.stays d before.0) (closed.under_twin d before.0 before.1)),
      )

  -- a dart that doesn't go out leads to its twin: the edge is kept, or the walk met it first at the twin
  holds_twin : (holds : ℕ → Bool) → IsTrue (holds s.root) → IsPartClosed kept_map holds → (d : ℕ) → d < s.darts → not (out d) ≡ true → IsTrue (holds d) → IsTrue (holds (s.twin d))
  holds_twin holds root closed d l comes held = elim (cases_Bool (c.cut d)) [
    | inl cut ↦
        let at : IsCutAt s out c.cut s.darts d = c.cut_at d l cut in
        elim at.one_edge [
          | inl own ↦ absurd (false≢true (sym (ap not (sym (ap out own) ∙ at.passes)) ∙ comes))
          | inr twin ↦ subst (λ x. IsTrue (holds x)) twin (holds_walk holds root closed at.at).1
        ]
    | inr stays ↦ subst (λ x. IsTrue (holds x)) (picked-yes s (λ e. not (c.cut e)) d (ap not stays)) (closed.under_twin d l held)
  ]

  kept_is_map : IsPartMap kept_map
  kept_is_map = record { rotation = is.rotation; twins = picked-involutes s (λ d. not (c.cut d)) is kept_alike }

  -- so the kept edges join all vertices
  kept_connected : IsPartConnected kept_map
  kept_connected = record {
    from = s.root;
    within = is.root_stays some;
    reaches = λ holds root closed. led.vertices holds root (record { under_next = closed.under_next; under_twin = holds_twin holds root closed });
  }

  -- the faces are as many as the cut edges can make of the walk's rounds
  split_fully : cycles s.darts (step_by s c.cut) + pairs s.darts (picked s c.cut) ≤ cycles s.darts (face_next s)
  split_fully =
      let all : s.darts ≡ 2 * pairs s.darts s.twin = pairs-all s.darts s.twin (record { stays = is.twin_stays; twice = is.twin_back }) is.twin_other in
      let same : cycles s.darts (step_by s c.cut) ≡ cycles s.darts (part_face kept_map) =
      cycles-same s.darts (step_by s c.cut) (part_face kept_map) (step_by-permutes s c.cut is c.cutting) (λ k l. sym (kept_step k)) in
      let few : nat_eq s.darts 0 ≡ false = ne_eqb s.darts 0 (λ e. omega (arith, e, some)) in
      let vertices = cond-false (nat_eq s.darts 0) 1 (cycles s.darts s.next) few in
      let faces = cond-false (nat_eq s.darts 0) 1 (cycles s.darts (face_next s)) few in
      counts (cycles s.darts s.next) (cycles s.darts (face_next s)) (cycles s.darts (part_face kept_map)) (cycles s.darts (step_by s c.cut))
      (pairs s.darts (picked s (λ d. not (c.cut d)))) (pairs s.darts (picked s c.cut)) (pairs s.darts s.twin) s.darts
      (connected_euler kept_map kept_is_map kept_connected) same (omega (arith, vertices, faces, euler)) (picked-parted s c.cut) all where
        counts : (v f r w a b e n : ℕ) → v + r ≤ a + 2 → w ≡ r → v + f ≡ n / 2 + 2 → a + b ≡ e → n ≡ 2 * e → w + b ≤ f
        counts v f r w a b e n few same euler parted all = omega arith

  -- the next dart around the face is the next of the walk behind the twin of a cut edge
  face_step : (d : ℕ) → d < s.darts → face_next s d ≡ step_by s c.cut (picked s c.cut d)
  face_step d l = elim (cases_Bool (c.cut d)) [
    | inl cut ↦ sym (ap (step_by s c.cut) (picked-yes s c.cut d cut) ∙ step_by-cut s c.cut (s.twin d) (c.cutting.both d l ∙ cut))
    | inr stays ↦ sym (ap (step_by s c.cut) (picked-no s c.cut d stays) ∙ step_by-kept s c.cut d stays)
  ]

  -- so the twin of a cut dart that is met is met
  cut_met : (d : ℕ) → IsMet s c.cut d → c.cut d ≡ true → IsMet s c.cut (s.twin d)
  cut_met d m cut =
      let l : d < s.darts = met_inside s out c.cut walk d m in
      let permutes : IsPermutationBelow s.darts (step_by s c.cut) = step_by-permutes s c.cut is c.cutting in
      let one : leader s.darts (step_by s c.cut) d ≡ leader s.darts (step_by s c.cut) (s.twin d) =
      full_pairs s.darts (face_next s) (step_by s c.cut) (picked s c.cut) permutes (picked-involutes s c.cut is c.cutting) (record { value = face_step }) split_fully d l
      ∙ ap (leader s.darts (step_by s c.cut)) (picked-yes s c.cut d cut) in
      record { met = in_cycle-through (step_by s c.cut) s.root d (s.twin d) m.met (leader-in_cycle s.darts (step_by s c.cut) permutes d (s.twin d) l (is.twin_stays d l) one) }

  -- a dart is met, as a test
  abbrev is_met : ℕ → Bool
  is_met d = eqb (leader s.darts (step_by s c.cut) s.root) (leader s.darts (step_by s c.cut) d)

  met_yes : (d : ℕ) → IsMet s c.cut d → IsTrue (is_met d)
  met_yes d m =
      eq-eqb (leader s.darts (step_by s c.cut) s.root) (leader s.darts (step_by s c.cut) d)
      (in_cycle-leader s.darts (step_by s c.cut) (step_by-permutes s c.cut is c.cutting) s.root d (is.root_stays some) m.met)

  yes_met : (d : ℕ) → d < s.darts → IsTrue (is_met d) → IsMet s c.cut d
  yes_met d l test = record {
    met = leader-in_cycle s.darts (step_by s c.cut) (step_by-permutes s c.cut is c.cutting) s.root d (is.root_stays some) l
        (eqb-true (leader s.darts (step_by s c.cut) s.root) (leader s.darts (step_by s c.cut) d) test);
  }

  met_closed : IsClosedAlong (dual s) out is_met
  met_closed = record {
    under_next = λ d l test.
        let m : IsMet s c.cut d = yes_met d l test in
        met_yes (face_next s d) (met_around s out c.cut walk d m (cut_met d m));
    under_twin = λ d l goes test.
        let m : IsMet s c.cut d = yes_met d l test in
        met_yes (s.twin d) (elim (met_decided s out c.cut walk d m) [
          | inl as_out ↦ cut_met d m (as_out ∙ goes)
          | inr twin ↦ twin
        ]);
  }

  pub whole : IsWhole s out c.cut
  whole = record {
    walk = walk;
    meets = λ d l. met_reached s out c.cut walk d
        (yes_met d l (led.faces is_met (met_yes s.root (record { met = record { steps = 0; leads = refl } })) met_closed d l));
  }
