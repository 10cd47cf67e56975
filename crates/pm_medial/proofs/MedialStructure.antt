-- A medial structure is a structure, connected where the first is.
use Rattle.std.proofs.Common.{◌≡◌, ℕ, suc, ◌*◌, ◌<◌, IsTrue, sym, ap, ◌∙◌, subst, arith}
use Rattle.pm_perm.specs.Permutation.{IsPermutationBelow}
use Rattle.pm_perm.proofs.InverseLemmas.{place_of, place_of-stays, value-place_of, place_of-permutes}
use Rattle.pm_perm.proofs.Interleaved.{by_parity}
use Rattle.pm_map.specs.Structure.{Structure, IsStructure, IsConnected}
use Rattle.pm_medial.specs.Medial.{IsMedialOf}

module _ (s m : Structure) (is : IsStructure s) (of : IsMedialOf s m) where
  -- the dart before a dart around its vertex
  abbrev pub before : ℕ → ℕ
  before d = place_of s.next s.darts d

  pub before_stays : (d : ℕ) → d < s.darts → before d < s.darts
  before_stays d h = place_of-stays s.next s.darts d is.rotation h

  pub next_before : (d : ℕ) → d < s.darts → s.next (before d) ≡ d
  next_before d h = value-place_of s.next s.darts d is.rotation h

  pub before_permutes : IsPermutationBelow s.darts before
  before_permutes = place_of-permutes s.next s.darts is.rotation

  -- the next dart after a plus and after a minus, each by its own number
  pub after_even : (d : ℕ) → d < s.darts → m.next (2 * d) ≡ suc (2 * before d)
  after_even d h = ap (λ e. m.next (2 * e)) (sym (next_before d h)) ∙ of.after_plus (before d) (before_stays d h)

  pub after_odd : (d : ℕ) → d < s.darts → m.next (suc (2 * d)) ≡ 2 * s.twin (s.next d)
  after_odd = of.after_minus

  pub twin_next_stays : (d : ℕ) → d < s.darts → s.twin (s.next d) < s.darts
  twin_next_stays d h = is.twin_stays (s.next d) (is.rotation.stays d h)

  twin_next_injective : (d e : ℕ) → d < s.darts → e < s.darts → s.twin (s.next d) ≡ s.twin (s.next e) → d ≡ e
  twin_next_injective d e hd he same =
      is.rotation.injective d e hd he
      (sym (is.twin_back (s.next d) (is.rotation.stays d hd)) ∙ ap s.twin same ∙ is.twin_back (s.next e) (is.rotation.stays e he))

  next_stays : (k : ℕ) → k < 2 * s.darts → m.next k < 2 * s.darts
  next_stays = by_parity (λ k. m.next k < 2 * s.darts) s.darts
      (λ d h. omega (arith, after_even d h, before_stays d h))
      (λ d h. omega (arith, after_odd d h, twin_next_stays d h))

  next_injective : (j : ℕ) → j < 2 * s.darts → (k : ℕ) → k < 2 * s.darts → m.next j ≡ m.next k → j ≡ k
  next_injective = by_parity (λ j. (k : ℕ) → k < 2 * s.darts → m.next j ≡ m.next k → j ≡ k) s.darts
      (λ d h. by_parity (λ k. m.next (2 * d) ≡ m.next k → 2 * d ≡ k) s.darts
      (λ e l same. ap (λ x. 2 * x) (before_permutes.injective d e h l (omega (arith, after_even d h, after_even e l, same))))
      (λ e l same. absurd (omega (arith, after_even d h, after_odd e l, same))))
      (λ d h. by_parity (λ k. m.next (suc (2 * d)) ≡ m.next k → suc (2 * d) ≡ k) s.darts
      (λ e l same. absurd (omega (arith, after_odd d h, after_even e l, same)))
      (λ e l same. ap (λ x. suc (2 * x)) (twin_next_injective d e h l (omega (arith, after_odd d h, after_odd e l, same)))))

  -- the medial structure is a structure
  pub medial_is_structure : IsStructure m
  medial_is_structure =
      let double : m.darts ≡ 2 * s.darts = of.darts in
      let within : (k : ℕ) → k < m.darts → k < 2 * s.darts = λ k h. omega arith in
      record {
        rotation = record {
          stays = λ k h. subst (λ n. m.next k < n) (sym double) (next_stays k (within k h));
          injective = λ j k hj hk same. next_injective j (within j hj) k (within k hk) same;
        };
        twin_stays = λ k h. subst (λ n. m.twin k < n) (sym double)
            (by_parity (λ k. m.twin k < 2 * s.darts) s.darts (λ d l. omega (arith, of.twin_of_plus d l, l)) (λ d l. omega (arith, of.twin_of_minus d l, l)) k (within k h));
        twin_back = λ k h. by_parity (λ k. m.twin (m.twin k) ≡ k) s.darts
            (λ d l. ap m.twin (of.twin_of_plus d l) ∙ of.twin_of_minus d l)
            (λ d l. ap m.twin (of.twin_of_minus d l) ∙ of.twin_of_plus d l) k (within k h);
        twin_other = λ k h. by_parity (λ k. m.twin k ≡ k → ⊥) s.darts
            (λ d l same. omega (arith, of.twin_of_plus d l, same))
            (λ d l same. omega (arith, of.twin_of_minus d l, same)) k (within k h);
        root_stays = λ some. let stays = is.root_stays (omega (arith, double, some)) in omega (arith, of.root, stays, double);
        no_root = λ none. let root = is.no_root (omega (arith, double, none)) in omega (arith, of.root, root);
      }

  -- it is connected where the first is: of a closed set of darts take the darts whose pluses are in it
  pub medial_is_connected : IsConnected s → IsConnected m
  medial_is_connected connected holds root closed k h =
      let double : m.darts ≡ 2 * s.darts = of.darts in
      let plus : (d : ℕ) → d < s.darts → 2 * d < m.darts = λ d l. omega arith in
      let minus : (d : ℕ) → d < s.darts → suc (2 * d) < m.darts = λ d l. omega arith in
      let behind : (d : ℕ) (l : d < s.darts) → IsTrue (holds (suc (2 * d))) → IsTrue (holds (2 * s.twin (s.next d))) =
      λ d l test. subst (λ e. IsTrue (holds e)) (after_odd d l) (closed.under_next (suc (2 * d)) (minus d l) test) in
      let under_twin : (d : ℕ) (l : d < s.darts) → IsTrue (holds (2 * d)) → IsTrue (holds (2 * s.twin d)) =
      λ d l test. subst (λ e. IsTrue (holds (2 * s.twin e))) (next_before d l)
      (behind (before d) (before_stays d l) (subst (λ e. IsTrue (holds e)) (after_even d l) (closed.under_next (2 * d) (plus d l) test))) in
      let under_next : (d : ℕ) (l : d < s.darts) → IsTrue (holds (2 * d)) → IsTrue (holds (2 * s.next d)) =
      λ d l test. subst (λ e. IsTrue (holds (2 * e))) (is.twin_back (s.next d) (is.rotation.stays d l))
      (under_twin (s.twin (s.next d)) (twin_next_stays d l)
      (behind d l (subst (λ e. IsTrue (holds e)) (of.twin_of_plus d l) (closed.under_twin (2 * d) (plus d l) test)))) in
      let pluses : (d : ℕ) → d < s.darts → IsTrue (holds (2 * d)) =
      connected (λ d. holds (2 * d)) (subst (λ e. IsTrue (holds e)) of.root root) (record { under_next = under_next; under_twin = under_twin }) in
      by_parity (λ k. IsTrue (holds k)) s.darts pluses
      (λ d l. subst (λ e. IsTrue (holds e)) (of.twin_of_plus d l) (closed.under_twin (2 * d) (plus d l) (pluses d l))) k (omega (arith, double, h))
