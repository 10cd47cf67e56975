-- What a structure is carried to is a structure, connected where the first is, with its counts and its dual.
use Rattle.std.proofs.Common.{◌≡◌, ℕ, ◌+◌, ◌*◌, ◌/◌, ◌%◌, ◌<◌, ◌≤◌, IsTrue, cond, eqb, length, sym, ap, ◌∙◌, subst, arith}
use Rattle.pm_limits.specs.declared.TheConstants.{MAX_EDGES}
use Rattle.pm_perm.specs.Permutation.{IsPermutationBelow}
use Rattle.pm_perm.specs.Cycles.{cycles}
use Rattle.pm_perm.proofs.Renumbered.{cycles-renumbered}
use Rattle.pm_map.specs.Structure.{Structure, IsStructure, IsClosedSet, IsConnected, CarriesTo, face_next, dual}
use Rattle.pm_map.specs.Plane.{HasEulerTwo, IsPlane, vertices, faces}
use Rattle.pm_map.specs.Rotation.{RotationSystem, structure_of, IsRootedMap}
use Rattle.pm_map.specs.DualLaws.{DualIsStructure}
use Rattle.pm_perm.proofs.InverseLemmas.{place_of, place_of-stays, value-place_of}

-- a dart of the second structure comes from one of the first, and so do its next and its twin
record ComesFrom (f : ℕ → ℕ) (a b : Structure) (e : ℕ) : Type 0 where
  source : ℕ
  below : source < a.darts
  dart : f source ≡ e
  next : b.next e ≡ f (a.next source)
  twin : b.twin e ≡ f (a.twin source)

comes_from : (f : ℕ → ℕ) (a b : Structure) (e : ℕ) → CarriesTo f a b → e < b.darts → ComesFrom f a b e
comes_from f a b e carries h =
    let within : e < a.darts = subst (λ n. e < n) (sym carries.darts) h in
    let below : place_of f a.darts e < a.darts = place_of-stays f a.darts e carries.renumbers within in
    let dart : f (place_of f a.darts e) ≡ e = value-place_of f a.darts e carries.renumbers within in
    record {
      source = place_of f a.darts e;
      below = below;
      dart = dart;
      next = ap b.next (sym dart) ∙ sym (carries.next (place_of f a.darts e) below);
      twin = ap b.twin (sym dart) ∙ sym (carries.twin (place_of f a.darts e) below);
    }

-- what a structure is carried to is a structure, if its root is 0 where there is no dart
pub structure_carried : (f : ℕ → ℕ) (a b : Structure) → IsStructure a → CarriesTo f a b → (b.darts ≡ 0 → b.root ≡ 0) → IsStructure b
structure_carried f a b structure carries no_root =
    let stays : (d : ℕ) → d < a.darts → f d < b.darts = λ d h. subst (λ n. f d < n) carries.darts (carries.renumbers.stays d h) in
    record {
      rotation = record {
        stays = λ e h. (let from = comes_from f a b e carries h in subst (λ x. x < b.darts) (sym from.next) (stays (a.next from.source) (structure.rotation.stays from.source from.below)));
        injective = λ x y hx hy same.
            let one = comes_from f a b x carries hx in
            let two = comes_from f a b y carries hy in
            let nexts : a.next one.source ≡ a.next two.source =
            carries.renumbers.injective (a.next one.source) (a.next two.source) (structure.rotation.stays one.source one.below) (structure.rotation.stays two.source two.below) (sym one.next ∙ same ∙ two.next) in
            sym one.dart ∙ ap f (structure.rotation.injective one.source two.source one.below two.below nexts) ∙ two.dart;
      };
      twin_stays = λ e h. (let from = comes_from f a b e carries h in subst (λ x. x < b.darts) (sym from.twin) (stays (a.twin from.source) (structure.twin_stays from.source from.below)));
      twin_back = λ e h.
          let from = comes_from f a b e carries h in
          ap b.twin from.twin ∙ sym (carries.twin (a.twin from.source) (structure.twin_stays from.source from.below)) ∙ ap f (structure.twin_back from.source from.below) ∙ from.dart;
      twin_other = λ e h same.
          let from = comes_from f a b e carries h in
          structure.twin_other from.source from.below
          (carries.renumbers.injective (a.twin from.source) from.source (structure.twin_stays from.source from.below) from.below (sym from.twin ∙ same ∙ sym from.dart));
      root_stays = λ some.
          let filled : 0 < a.darts = subst (λ n. 0 < n) (sym carries.darts) some in
          subst (λ x. x < b.darts) (carries.root filled) (stays a.root (structure.root_stays filled));
      no_root = no_root;
    }

-- what a connected structure is carried to is connected
pub connected_carried : (f : ℕ → ℕ) (a b : Structure) → CarriesTo f a b → IsConnected a → IsConnected b
connected_carried f a b carries connected = λ holds root closed d h.
    let from = comes_from f a b d carries h in
    let filled : 0 < a.darts = (let below : from.source < a.darts = from.below in omega arith) in
    let stays : (x : ℕ) → x < a.darts → f x < b.darts = λ x hx. subst (λ n. f x < n) carries.darts (carries.renumbers.stays x hx) in
    let pulled : IsClosedSet a (λ x. holds (f x)) = record {
      under_next = λ x hx test. subst (λ y. IsTrue (holds y)) (sym (carries.next x hx)) (closed.under_next (f x) (stays x hx) test);
      under_twin = λ x hx test. subst (λ y. IsTrue (holds y)) (sym (carries.twin x hx)) (closed.under_twin (f x) (stays x hx) test);
    } in
    subst (λ y. IsTrue (holds y)) from.dart
    (connected (λ x. holds (f x)) (subst (λ y. IsTrue (holds y)) (sym (carries.root filled)) root) pulled from.source from.below)

-- the face rule of a structure is a permutation
pub face_permutes : (s : Structure) → IsStructure s → IsPermutationBelow s.darts (face_next s)
face_permutes s structure = record {
  stays = λ k h. structure.rotation.stays (s.twin k) (structure.twin_stays k h);
  injective = λ j k hj hk e.
      let twins : s.twin j ≡ s.twin k = structure.rotation.injective (s.twin j) (s.twin k) (structure.twin_stays j hj) (structure.twin_stays k hk) e in
      sym (structure.twin_back j hj) ∙ ap s.twin twins ∙ structure.twin_back k hk;
}

-- the dual of a structure is a structure
pub dual_is_structure : DualIsStructure
dual_is_structure s structure = record {
  rotation = face_permutes s structure;
  twin_stays = structure.twin_stays;
  twin_back = structure.twin_back;
  twin_other = structure.twin_other;
  root_stays = structure.root_stays;
  no_root = structure.no_root;
}

-- what carries structures carries their duals
pub dual_carries : (f : ℕ → ℕ) (a b : Structure) → IsStructure a → CarriesTo f a b → CarriesTo f (dual a) (dual b)
dual_carries f a b structure carries = record {
  darts = carries.darts;
  renumbers = carries.renumbers;
  next = λ d h. carries.next (a.twin d) (structure.twin_stays d h) ∙ ap b.next (carries.twin d h);
  twin = carries.twin;
  root = carries.root;
}

-- as many vertices, so as many faces, and the Euler characteristic is carried
pub vertices_carried : (f : ℕ → ℕ) (a b : Structure) → IsStructure a → IsStructure b → CarriesTo f a b → vertices a ≡ vertices b
vertices_carried f a b one other carries =
    let there : IsPermutationBelow a.darts b.next = subst (λ n. IsPermutationBelow n b.next) (sym carries.darts) other.rotation in
    let counted : cycles a.darts a.next ≡ cycles a.darts b.next = cycles-renumbered a.darts f a.next b.next one.rotation there
    (record { permutes = carries.renumbers; carries = λ k h. carries.next k h }) in
    ap (λ v. cond (eqb a.darts 0) 1 v) counted ∙ ap (λ n. cond (eqb n 0) 1 (cycles n b.next)) carries.darts

pub faces_carried : (f : ℕ → ℕ) (a b : Structure) → IsStructure a → IsStructure b → CarriesTo f a b → faces a ≡ faces b
faces_carried f a b one other carries = vertices_carried f (dual a) (dual b) (dual_is_structure a one) (dual_is_structure b other) (dual_carries f a b one carries)

pub euler_carried : (f : ℕ → ℕ) (a b : Structure) → IsStructure a → IsStructure b → CarriesTo f a b → HasEulerTwo a → HasEulerTwo b
euler_carried f a b one other carries euler =
    by_numbers (vertices a) (vertices b) (faces a) (faces b) a.darts b.darts (vertices_carried f a b one other carries) (faces_carried f a b one other carries) carries.darts euler where
      by_numbers : (v w g h n m : ℕ) → v ≡ w → g ≡ h → n ≡ m → v + g ≡ n / 2 + 2 → w + h ≡ m / 2 + 2
      by_numbers v w g h n m vertices faces darts euler = omega arith

-- what a plane structure is carried to is plane
pub plane_carried : (f : ℕ → ℕ) (a b : Structure) → IsStructure b → CarriesTo f a b → IsPlane a → IsPlane b
plane_carried f a b other carries plane = record {
  structure = other;
  connected = connected_carried f a b carries plane.connected;
  euler = euler_carried f a b plane.structure other carries plane.euler;
}

-- a rooted map is plane
pub rooted_is_plane : (m : RotationSystem) → IsRootedMap m → IsPlane (structure_of m)
rooted_is_plane m rooted = record { structure = rooted.structure; connected = rooted.connected; euler = rooted.euler }

-- what a plane structure of so many darts is carried to is a rooted map, if its twins are 2k and 2k+1 and its root is 0
-- where there is no dart
pub rooted_carried : (f : ℕ → ℕ) (a : Structure) (m : RotationSystem) → IsPlane a → a.darts % 2 ≡ 0 → a.darts ≤ 2 * MAX_EDGES
    → CarriesTo f a (structure_of m) → (length m.sigma ≡ 0 → m.root ≡ 0) → IsRootedMap m
rooted_carried f a m plane even few carries no_root =
    let there = plane_carried f a (structure_of m) (structure_carried f a (structure_of m) plane.structure carries no_root) carries plane in
    record {
      even = subst (λ n. n % 2 ≡ 0) carries.darts even;
      few = subst (λ n. n ≤ 2 * MAX_EDGES) carries.darts few;
      structure = there.structure;
      connected = there.connected;
      euler = there.euler;
    }
