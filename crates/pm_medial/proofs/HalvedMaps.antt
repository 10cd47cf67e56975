-- The structure that is told by the pluses of a quartic map is a plane structure, whose medial structure is the same as the
-- map.
use Rattle.std.proofs.Common.{◌≡◌, ℕ, zero, suc, ◌+◌, ◌*◌, ◌/◌, ◌%◌, ◌<◌, inl, inr, Bool, true, false, not, cond, eqb, IsTrue, refl, sym, ap, ◌∙◌, subst, arith}
use Rattle.std.proofs.lemmas.Bool.{cases_Bool, cond-true, cond-false, ne_eqb}
use Rattle.pm_perm.specs.Permutation.{IsPermutationBelow}
use Rattle.pm_perm.specs.Cycles.{repeated}
use Rattle.pm_perm.proofs.Repeats.{repeated-inside}
use Rattle.pm_perm.proofs.InverseLemmas.{place_of, place_of-of_value}
use Rattle.pm_perm.proofs.SameCycle.{in_cycle-back}
use Rattle.pm_map.specs.Structure.{Structure, IsStructure, IsConnected, CarriesTo}
use Rattle.pm_map.specs.Plane.{IsPlane, vertices, faces}
use Rattle.pm_map.specs.CycleSize.{IsCycleSize}
use Rattle.pm_map.proofs.CarriedStructure.{faces_carried}
use Rattle.pm_map.proofs.DegreeTotals.{darts_of_degree}
use Rattle.pm_medial.specs.Medial.{IsMedialOf}
use Rattle.pm_medial.specs.Colouring.{IsColouring}
use Rattle.pm_medial.specs.steps.Halved.{IsHalfOf}
use Rattle.pm_medial.proofs.MedialStructure.{medial_is_structure}
use Rattle.pm_medial.proofs.MedialCounts.{faces_add_up}
use Rattle.pm_medial.proofs.SignedDarts.{next_turns, two_on, three_on, two_stays, three_stays}

-- the medial structure of a structure
pub medial_of : Structure → Structure
medial_of s = record {
  darts = 2 * s.darts;
  next = λ k. cond (eqb (k % 2) 0) (suc (2 * place_of s.next s.darts (k / 2))) (2 * s.twin (s.next (k / 2)));
  twin = λ k. cond (eqb (k % 2) 0) (suc k) (2 * (k / 2));
  root = 2 * s.root;
}

pub medial_of_is : (s : Structure) → IsStructure s → IsMedialOf s (medial_of s)
unfolding medial_of
medial_of_is s is = record {
  darts = refl;
  after_plus = λ d h.
      let half : 2 * s.next d / 2 ≡ s.next d = omega arith in
      let even : 2 * s.next d % 2 ≡ 0 = omega arith in
      rw (half, even) (ap (λ x. suc (2 * x)) (place_of-of_value s.next s.darts d is.rotation h));
  after_minus = λ d h. (let half : suc (2 * d) / 2 ≡ d = omega arith in let odd : suc (2 * d) % 2 ≡ 1 = omega arith in rw (half, odd) refl);
  twin_of_plus = λ d h. (let even : 2 * d % 2 ≡ 0 = omega arith in rw even refl);
  twin_of_minus = λ d h. (let half : suc (2 * d) / 2 ≡ d = omega arith in let odd : suc (2 * d) % 2 ≡ 1 = omega arith in rw (half, odd) refl);
  root = refl;
}

-- a set that is closed under a permutation is closed under its inverse
closed_back : (n : ℕ) (f : ℕ → ℕ) (holds : ℕ → Bool) → IsPermutationBelow n f → ((k : ℕ) → k < n → IsTrue (holds k) → IsTrue (holds (f k)))
    → (k : ℕ) → k < n → IsTrue (holds (f k)) → IsTrue (holds k)
closed_back n f holds p closed k h test =
    let back = in_cycle-back n f p k (f k) h (record { steps = 1; leads = refl }) in
    subst (λ e. IsTrue (holds e)) back.leads (steps_on back.steps (f k) (p.stays k h) test) where
      steps_on : (steps d : ℕ) → d < n → IsTrue (holds d) → IsTrue (holds (repeated f steps d))
      steps_on zero d l on = on
      steps_on (suc steps) d l on = closed (repeated f steps d) (repeated-inside f n p steps d l) (steps_on steps d l on)

module _ (q m : Structure) (plus : ℕ → Bool) (name : ℕ → ℕ) (is : IsStructure q) (signed : IsColouring q plus)
    (four : (d : ℕ) → d < q.darts → IsCycleSize q.next d 4) (half : IsHalfOf q plus name m) (some : 0 < q.darts) where
  four_back : (d : ℕ) → d < q.darts → q.next (q.next (q.next (q.next d))) ≡ d
  four_back d h = (four d h).back

  two_apart : (d : ℕ) → d < q.darts → q.next (q.next d) ≡ d → ⊥
  two_apart d h same = (four d h).least 2 (omega arith) (omega arith) same

  on_twice : (p : ℕ) → p < q.darts → plus p ≡ true → plus (q.next (q.next p)) ≡ true
  on_twice p h positive = two_on q is plus signed p h ∙ positive

  on_before : (p : ℕ) → p < q.darts → plus p ≡ true → plus (q.next (q.next (q.next (q.twin p)))) ≡ true
  on_before p h positive = three_on q is plus signed p h ∙ positive

  before_stays' : (p : ℕ) → p < q.darts → q.next (q.next (q.next (q.twin p))) < q.darts
  before_stays' p h = three_stays q is plus signed (q.twin p) (is.twin_stays p h)

  twice_stays : (p : ℕ) → p < q.darts → q.next (q.next p) < q.darts
  twice_stays p h = two_stays q is plus signed p h

  -- what holds of the names of all pluses holds of all darts
  by_name : (P : ℕ → Type 0) → ((p : ℕ) → p < q.darts → plus p ≡ true → P (name p)) → (k : ℕ) → k < m.darts → P k
  by_name P each k h = (let found = half.onto k h in subst P found.3 (each found.0 found.1 found.2))

  three_injective : (d e : ℕ) → d < q.darts → e < q.darts → q.next (q.next (q.next d)) ≡ q.next (q.next (q.next e)) → d ≡ e
  three_injective d e hd he same = sym (four_back d hd) ∙ ap q.next same ∙ four_back e he

  half_is_structure : IsStructure m
  half_is_structure = record {
    rotation = record {
      stays = by_name (λ k. m.next k < m.darts) (λ p h positive. subst (λ x. x < m.darts) (sym (half.next p h positive)) (half.stays _ (before_stays' p h) (on_before p h positive)));
      injective = λ j k hj hk same.
          by_name (λ j. (k : ℕ) → k < m.darts → m.next j ≡ m.next k → j ≡ k)
          (λ p h positive. by_name (λ k. m.next (name p) ≡ m.next k → name p ≡ k)
          (λ r l also same. ap name (sym (is.twin_back p h)
          ∙ ap q.twin (three_injective (q.twin p) (q.twin r) (is.twin_stays p h) (is.twin_stays r l)
          (half.injective _ _ (before_stays' p h) (before_stays' r l) (on_before p h positive) (on_before r l also) (sym (half.next p h positive) ∙ same ∙ half.next r l also)))
          ∙ is.twin_back r l)))
          j hj k hk same;
    };
    twin_stays = by_name (λ k. m.twin k < m.darts) (λ p h positive. subst (λ x. x < m.darts) (sym (half.twin p h positive)) (half.stays _ (twice_stays p h) (on_twice p h positive)));
    twin_back = by_name (λ k. m.twin (m.twin k) ≡ k)
        (λ p h positive. ap m.twin (half.twin p h positive) ∙ half.twin _ (twice_stays p h) (on_twice p h positive) ∙ ap name (four_back p h));
    twin_other = by_name (λ k. m.twin k ≡ k → ⊥)
        (λ p h positive same. two_apart p h (half.injective _ p (twice_stays p h) h (on_twice p h positive) positive (sym (half.twin p h positive) ∙ same)));
    root_stays = λ _. subst (λ x. x < m.darts) (sym half.root) (half.stays q.root (is.root_stays some) (signed.root some));
    no_root = λ none. absurd (omega (arith, none, half.darts, some));
  }

  minus_twin : (d : ℕ) → d < q.darts → plus d ≡ false → plus (q.twin d) ≡ true
  minus_twin d h negative = signed.across d h ∙ ap not negative

  plus_twin : (d : ℕ) → d < q.darts → plus d ≡ true → plus (q.twin d) ≡ false
  plus_twin d h positive = signed.across d h ∙ ap not positive

  -- the plus before a plus comes back to it, by way of the minus that follows it
  after_twin_of_next : (p : ℕ) → p < q.darts → plus p ≡ true → m.next (name (q.twin (q.next p))) ≡ name p
  after_twin_of_next p h positive =
      let stays = is.rotation.stays p h in
      let minus : plus (q.next p) ≡ false = next_turns q is plus signed p h ∙ ap not positive in
      half.next (q.twin (q.next p)) (is.twin_stays (q.next p) stays) (minus_twin (q.next p) stays minus)
      ∙ ap (λ e. name (q.next (q.next (q.next e)))) (is.twin_back (q.next p) stays) ∙ ap name (four_back p h)

  -- after the twin of a minus comes the plus before the minus
  after_twin : (d : ℕ) → d < q.darts → plus d ≡ false → m.next (name (q.twin d)) ≡ name (q.next (q.next (q.next d)))
  after_twin d h negative =
      half.next (q.twin d) (is.twin_stays d h) (minus_twin d h negative) ∙ ap (λ e. name (q.next (q.next (q.next e)))) (is.twin_back d h)

  -- where the darts of the quartic structure go in the medial one: a plus to the plus of its name, a minus to the minus of
  -- the name of its twin
  pub to_medial : ℕ → ℕ
  to_medial d = cond (plus d) (2 * name d) (suc (2 * name (q.twin d)))

  of_plus : (d : ℕ) → plus d ≡ true → to_medial d ≡ 2 * name d
  unfolding to_medial
  of_plus d positive = cond-true (plus d) (2 * name d) (suc (2 * name (q.twin d))) positive

  of_minus : (d : ℕ) → plus d ≡ false → to_medial d ≡ suc (2 * name (q.twin d))
  unfolding to_medial
  of_minus d negative = cond-false (plus d) (2 * name d) (suc (2 * name (q.twin d))) negative

  -- a dart is a plus or a minus
  by_sign : (P : ℕ → Type 0) → ((d : ℕ) → d < q.darts → plus d ≡ true → P d) → ((d : ℕ) → d < q.darts → plus d ≡ false → P d) → (d : ℕ) → d < q.darts → P d
  by_sign P of_pluses of_minuses d h = elim (cases_Bool (plus d)) [ inl positive ↦ of_pluses d h positive | inr negative ↦ of_minuses d h negative ]

  module _ (medial : Structure) (of : IsMedialOf m medial) where
    medial_darts : q.darts ≡ medial.darts
    medial_darts = half.darts ∙ sym of.darts

    name_stays : (d : ℕ) → d < q.darts → plus d ≡ true → name d < m.darts
    name_stays = half.stays

    -- the plus after the minus of a name is the plus two steps on
    carried_next : (d : ℕ) → d < q.darts → to_medial (q.next d) ≡ medial.next (to_medial d)
    carried_next = by_sign (λ d. to_medial (q.next d) ≡ medial.next (to_medial d))
        (λ p h positive.
        let stays = is.rotation.stays p h in
        let minus : plus (q.next p) ≡ false = next_turns q is plus signed p h ∙ ap not positive in
        let other = q.twin (q.next p) in
        let within = is.twin_stays (q.next p) stays in
        let sign = minus_twin (q.next p) stays minus in
        let back : m.next (name other) ≡ name p = after_twin_of_next p h positive in
        of_minus (q.next p) minus ∙ sym (of.after_plus (name other) (name_stays other within sign)) ∙ ap (λ e. medial.next (2 * e)) back ∙ ap medial.next (sym (of_plus p positive)))
        (λ d h negative.
        let stays = is.rotation.stays d h in
        let plus_next : plus (q.next d) ≡ true = next_turns q is plus signed d h ∙ ap not negative in
        let other = q.twin d in
        let within = is.twin_stays d h in
        let sign = minus_twin d h negative in
        let earlier = q.next (q.next (q.next d)) in
        let here : m.next (name other) ≡ name earlier = after_twin d h negative in
        let there : earlier < q.darts = three_stays q is plus signed d h in
        let earlier_plus : plus earlier ≡ true = two_on q is plus signed (q.next d) stays ∙ plus_next in
        of_plus (q.next d) plus_next ∙ ap (λ e. 2 * name (q.next e)) (sym (four_back d h)) ∙ ap (λ e. 2 * e) (sym (half.twin earlier there earlier_plus)) ∙ ap (λ e. 2 * m.twin e) (sym here)
        ∙ sym (of.after_minus (name other) (name_stays other within sign)) ∙ ap medial.next (sym (of_minus d negative)))

    carried_twin : (d : ℕ) → d < q.darts → to_medial (q.twin d) ≡ medial.twin (to_medial d)
    carried_twin = by_sign (λ d. to_medial (q.twin d) ≡ medial.twin (to_medial d))
        (λ p h positive. of_minus (q.twin p) (plus_twin p h positive) ∙ ap (λ e. suc (2 * name e)) (is.twin_back p h) ∙ sym (of.twin_of_plus (name p) (name_stays p h positive)) ∙ ap medial.twin (sym (of_plus p positive)))
        (λ d h negative. of_plus (q.twin d) (minus_twin d h negative) ∙ sym (of.twin_of_minus (name (q.twin d)) (name_stays (q.twin d) (is.twin_stays d h) (minus_twin d h negative))) ∙ ap medial.twin (sym (of_minus d negative)))

    to_medial_stays : (d : ℕ) → d < q.darts → to_medial d < q.darts
    to_medial_stays = by_sign (λ d. to_medial d < q.darts)
        (λ p h positive. omega (arith, of_plus p positive, name_stays p h positive, half.darts))
        (λ d h negative. omega (arith, of_minus d negative, name_stays (q.twin d) (is.twin_stays d h) (minus_twin d h negative), half.darts))

    to_medial_injective : (d : ℕ) → d < q.darts → (e : ℕ) → e < q.darts → to_medial d ≡ to_medial e → d ≡ e
    to_medial_injective = by_sign (λ d. (e : ℕ) → e < q.darts → to_medial d ≡ to_medial e → d ≡ e)
        (λ p h positive. by_sign (λ e. to_medial p ≡ to_medial e → p ≡ e)
        (λ r l also same. half.injective p r h l positive also (omega (arith, of_plus p positive, of_plus r also, same)))
        (λ e l negative same. absurd (omega (arith, of_plus p positive, of_minus e negative, same))))
        (λ d h negative. by_sign (λ e. to_medial d ≡ to_medial e → d ≡ e)
        (λ r l also same. absurd (omega (arith, of_minus d negative, of_plus r also, same)))
        (λ e l none same.
        let names : name (q.twin d) ≡ name (q.twin e) = omega (arith, of_minus d negative, of_minus e none, same) in
        sym (is.twin_back d h)
        ∙ ap q.twin (half.injective (q.twin d) (q.twin e) (is.twin_stays d h) (is.twin_stays e l) (minus_twin d h negative) (minus_twin e l none) names) ∙ is.twin_back e l))

    pub half_is_carried : CarriesTo to_medial q medial
    half_is_carried = record {
      darts = medial_darts;
      renumbers = record { stays = to_medial_stays; injective = λ d e hd he same. to_medial_injective d hd e he same };
      next = carried_next;
      twin = carried_twin;
      root = λ _. of_plus q.root (signed.root some) ∙ ap (λ e. 2 * e) (sym half.root) ∙ sym of.root;
    }

  -- a closed set of the half's darts makes one of all darts
  half_is_connected : IsConnected q → IsConnected m
  half_is_connected connected holds root closed k h =
      let on : ℕ → Bool = λ d. holds (to_medial d / 2) in
      let at_plus : (p : ℕ) → plus p ≡ true → on p ≡ holds (name p) = λ p positive. ap holds (omega (arith, of_plus p positive)) in
      let at_minus : (d : ℕ) → plus d ≡ false → on d ≡ holds (name (q.twin d)) = λ d negative. ap holds (omega (arith, of_minus d negative)) in
      let rotation = half_is_structure.rotation in
      let under_next : (d : ℕ) → d < q.darts → IsTrue (on d) → IsTrue (on (q.next d)) =
      by_sign (λ d. IsTrue (on d) → IsTrue (on (q.next d)))
      (λ p l positive test.
      let stays = is.rotation.stays p l in
      let minus : plus (q.next p) ≡ false = next_turns q is plus signed p l ∙ ap not positive in
      let other = q.twin (q.next p) in
      let within = is.twin_stays (q.next p) stays in
      let sign = minus_twin (q.next p) stays minus in
      let back : m.next (name other) ≡ name p = after_twin_of_next p l positive in
      subst IsTrue (sym (at_minus (q.next p) minus))
      (closed_back m.darts m.next holds rotation closed.under_next (name other) (half.stays other within sign)
      (subst (λ e. IsTrue (holds e)) (sym back) (subst IsTrue (at_plus p positive) test))))
      (λ d l negative test.
      let plus_next : plus (q.next d) ≡ true = next_turns q is plus signed d l ∙ ap not negative in
      let other = q.twin d in
      let within = is.twin_stays d l in
      let sign = minus_twin d l negative in
      let earlier = q.next (q.next (q.next d)) in
      let there : earlier < q.darts = three_stays q is plus signed d l in
      let earlier_plus : plus earlier ≡ true = two_on q is plus signed (q.next d) (is.rotation.stays d l) ∙ plus_next in
      let here : m.next (name other) ≡ name earlier = after_twin d l negative in
      let next_test : IsTrue (holds (name earlier)) =
      subst (λ e. IsTrue (holds e)) here (closed.under_next (name other) (half.stays other within sign) (subst IsTrue (at_minus d negative) test)) in
      let twin_test : IsTrue (holds (name (q.next (q.next earlier)))) =
      subst (λ e. IsTrue (holds e)) (half.twin earlier there earlier_plus) (closed.under_twin (name earlier) (half.stays earlier there earlier_plus) next_test) in
      subst IsTrue (sym (at_plus (q.next d) plus_next)) (subst (λ e. IsTrue (holds (name (q.next e)))) (four_back d l) twin_test)) in
      let under_twin : (d : ℕ) → d < q.darts → IsTrue (on d) → IsTrue (on (q.twin d)) =
      by_sign (λ d. IsTrue (on d) → IsTrue (on (q.twin d)))
      (λ p l positive test. subst IsTrue (sym (at_minus (q.twin p) (plus_twin p l positive)))
      (subst (λ e. IsTrue (holds (name e))) (sym (is.twin_back p l)) (subst IsTrue (at_plus p positive) test)))
      (λ d l negative test. subst IsTrue (sym (at_plus (q.twin d) (minus_twin d l negative))) (subst IsTrue (at_minus d negative) test)) in
      let at_root : IsTrue (on q.root) = subst IsTrue (sym (at_plus q.root (signed.root some))) (subst (λ e. IsTrue (holds e)) half.root root) in
      let all : (d : ℕ) → d < q.darts → IsTrue (on d) = connected on at_root (record { under_next = under_next; under_twin = under_twin }) in
      by_name (λ k. IsTrue (holds k)) (λ p l positive. subst IsTrue (at_plus p positive) (all p l)) k h

  pub half_is_plane : IsPlane q → IsPlane m
  half_is_plane plane =
      let medial = medial_of m in
      let of = medial_of_is m half_is_structure in
      let there = medial_is_structure m medial half_is_structure of in
      let carries = half_is_carried medial of in
      let faces_there = faces_carried to_medial q medial is there carries in
      let added = faces_add_up m medial half_is_structure of (omega (arith, half.darts, some)) in
      let none : eqb q.darts 0 ≡ false = ne_eqb q.darts 0 (λ e. absurd (omega (arith, e, some))) in
      let fours : 4 * vertices q ≡ q.darts = rw none (darts_of_degree q 4 is four) in
      record {
        structure = half_is_structure;
        connected = half_is_connected plane.connected;
        euler = numbers (vertices q) (faces q) q.darts m.darts (vertices m) (faces m) fours half.darts (faces_there ∙ added) plane.euler;
      } where
        numbers : (v f darts half v' f' : ℕ) → 4 * v ≡ darts → darts ≡ 2 * half → f ≡ v' + f' → v + f ≡ darts / 2 + 2 → v' + f' ≡ half / 2 + 2
        numbers v f darts half v' f' fours double faces euler = omega arith
