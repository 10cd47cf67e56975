-- The faces of a plane structure have two colours exactly where all degrees are even: the colour tells whether a face is an
-- even number of edges away from the root's face.
use Rattle.std.proofs.Common.{◌≡◌, ℕ, zero, suc, ◌%◌, ◌<◌, ◌⊎◌, inl, inr, Bool, true, not, eqb, if◌then◌else◌, IsTrue, refl, sym, ap, ◌∙◌, arith}
use Rattle.std.proofs.lemmas.Bool.{cases_eq, cases_Bool}
use Rattle.pm_perm.specs.Cycles.{repeated}
use Rattle.pm_perm.proofs.Repeats.{repeated-inside}
use Rattle.pm_map.specs.Structure.{Structure, IsStructure}
use Rattle.pm_map.specs.Plane.{IsPlane}
use Rattle.pm_map.specs.FaceDistance.{IsFaceDistance, AreFaceLevels}
use Rattle.pm_map.proofs.DistanceLemmas.{levels_are_distances}
use Rattle.pm_map.proofs.DistanceRounds.{each_face_has_distance}
use Rattle.pm_distances.specs.AcrossEdges.{AllDegreesAreEven}
use Rattle.pm_distances.proofs.OneApart.{differ_by_one}
use Rattle.pm_medial.specs.Colouring.{IsColouring, FacesHaveTwoColours, ColouringIsUnique}
use Rattle.pm_medial.proofs.SignedDarts.{not_twice, next_turns}

-- whether a number is even
pub even : ℕ → Bool
even n = eqb (n % 2) 0

pub even_next : (n m : ℕ) → (m ≡ suc n) ⊎ (n ≡ suc m) → even m ≡ not (even n)
unfolding even
even_next n m one_apart = elim (cases_eq (n % 2) 0) [
  | inl here ↦ let there : m % 2 ≡ 1 = elim one_apart [ inl e ↦ omega arith | inr e ↦ omega arith ] in rw (here, there) refl
  | inr odd ↦
      let here : n % 2 ≡ 1 = omega (arith, odd) in
      let there : m % 2 ≡ 0 = elim one_apart [ inl e ↦ omega arith | inr e ↦ omega arith ] in
      rw (here, there) refl
]

pub even_zero : (n : ℕ) → n ≡ 0 → even n ≡ true
unfolding even
even_zero n zero_is = rw zero_is refl

pub even_is : (x n : ℕ) → x ≡ n → eqb (x % 2) 0 ≡ even n
unfolding even
even_is x n same = ap (λ k. eqb (k % 2) 0) same

-- the distances colour the faces
pub distances_colour : (s : Structure) (level : ℕ → ℕ) → IsPlane s → AllDegreesAreEven s → ((d : ℕ) → d < s.darts → IsFaceDistance s s.root d (level d))
    → IsColouring s (λ d. even (level d))
distances_colour s level plane degrees far =
    let is = plane.structure in
    let levels : AreFaceLevels s level = (levels_are_distances s level is).1 far in
    record {
      root = λ some. even_zero (level s.root) (levels.root some);
      around = λ d h. ap even (levels.around d h);
      across = λ d h. even_next (level d) (level (s.twin d)) (differ_by_one s plane degrees d (level d) (level (s.twin d)) h (far d h) (far (s.twin d) (is.twin_stays d h)));
    }

-- around a vertex the colours take turns, so its degree is even
turns : (s : Structure) (is : IsStructure s) (colour : ℕ → Bool) (coloured : IsColouring s colour) (steps d : ℕ) → d < s.darts
    → ((steps % 2 ≡ 0) × (colour (repeated s.next steps d) ≡ colour d)) ⊎ ((steps % 2 ≡ 1) × (colour (repeated s.next steps d) ≡ not (colour d)))
turns s is colour coloured zero d h = inl (refl, refl)
turns s is colour coloured (suc steps) d h =
    let turned : colour (s.next (repeated s.next steps d)) ≡ not (colour (repeated s.next steps d)) =
    next_turns s is colour coloured (repeated s.next steps d) (repeated-inside s.next s.darts is.rotation steps d h) in
    elim (turns s is colour coloured steps d h) [
      | inl same ↦ let e = same.0 in inr (omega arith, turned ∙ ap not same.1)
      | inr other ↦ let e = other.0 in inl (omega arith, turned ∙ ap not other.1 ∙ not_twice (colour d))
    ]

not_itself : (b : Bool) → b ≡ not b → ⊥
not_itself b e = elim (cases_Bool b) [ inl here ↦ cc | inr here ↦ cc ]

pub coloured_is_even : (s : Structure) (colour : ℕ → Bool) → IsStructure s → IsColouring s colour → AllDegreesAreEven s
coloured_is_even s colour is coloured d degree h size = elim (turns s is colour coloured degree d h) [
  | inl same ↦ same.0
  | inr other ↦ absurd (not_itself (colour d) (sym (ap colour size.back) ∙ other.1))
]

pub faces_have_two_colours : FacesHaveTwoColours
faces_have_two_colours s plane = (
  λ found. coloured_is_even s found.0 plane.structure found.1,
  λ degrees. (let far = each_face_has_distance s plane.structure plane.connected in (λ d. even (far.0 d), distances_colour s far.0 plane degrees far.1)),
)

-- two colourings agree: the darts on which they do are closed, and the root is one
agree : Bool → Bool → Bool
agree a b = if a then b else not b

agree_same : (a b : Bool) → IsTrue (agree a b) → a ≡ b
unfolding agree
agree_same a b test = grind arith

same_agree : (a b : Bool) → a ≡ b → IsTrue (agree a b)
unfolding agree
same_agree a b same = grind arith

pub colouring_is_unique : ColouringIsUnique
colouring_is_unique s one other plane first second d h =
    let is = plane.structure in
    agree_same (one d) (other d)
    (plane.connected (λ e. agree (one e) (other e))
    (same_agree (one s.root) (other s.root) (first.root (omega arith) ∙ sym (second.root (omega arith))))
    (record {
      under_next = λ e l test. same_agree (one (s.next e)) (other (s.next e))
          (next_turns s is one first e l ∙ ap not (agree_same (one e) (other e) test) ∙ sym (next_turns s is other second e l));
      under_twin = λ e l test. same_agree (one (s.twin e)) (other (s.twin e)) (first.across e l ∙ ap not (agree_same (one e) (other e) test) ∙ sym (second.across e l));
    }) d h)
