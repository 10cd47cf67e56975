-- Medial structures are the same exactly where the structures are.
use Rattle.std.proofs.Common.{◌≡◌, ℕ, suc, ◌+◌, ◌*◌, ◌/◌, ◌-◌, ◌%◌, ◌<◌, Bool, IsTrue, eqb, sym, ap, ◌∙◌, subst, arith}
use Rattle.pm_perm.specs.Permutation.{IsPermutationBelow}
use Rattle.pm_perm.proofs.Interleaved.{by_parity, interleaved_permutes}
use Rattle.pm_map.specs.Structure.{Structure, IsStructure, IsConnected, CarriesTo}
use Rattle.pm_medial.specs.Medial.{IsMedialOf}
use Rattle.pm_medial.specs.MedialLaws.{MedialsTell}
use Rattle.pm_medial.proofs.MedialStructure.{before, before_stays, next_before, after_even, medial_is_structure, medial_is_connected}

-- what carries structures carries their medial structures, plus to plus and minus to minus
doubled : (ℕ → ℕ) → ℕ → ℕ
doubled p k = 2 * p (k / 2) + k % 2

doubled_even : (p : ℕ → ℕ) (d : ℕ) → doubled p (2 * d) ≡ 2 * p d
unfolding doubled
doubled_even p d = let half : 2 * d / 2 ≡ d = omega arith in let rest : 2 * d % 2 ≡ 0 = omega arith in rw (half, rest) (omega arith)

doubled_odd : (p : ℕ → ℕ) (d : ℕ) → doubled p (suc (2 * d)) ≡ suc (2 * p d)
unfolding doubled
doubled_odd p d = let half : suc (2 * d) / 2 ≡ d = omega arith in let rest : suc (2 * d) % 2 ≡ 1 = omega arith in rw (half, rest) (omega arith)

-- around a vertex and across an edge plus and minus take turns
next_flips : (s m : Structure) (is : IsStructure s) (of : IsMedialOf s m) (k : ℕ) → k < m.darts → m.next k % 2 ≡ 1 - k % 2
next_flips s m is of k h = by_parity (λ k. m.next k % 2 ≡ 1 - k % 2) s.darts
    (λ d l. omega (arith, after_even s m is of d l)) (λ d l. omega (arith, of.after_minus d l)) k (subst (λ n. k < n) of.darts h)

twin_flips : (s m : Structure) (is : IsStructure s) (of : IsMedialOf s m) (k : ℕ) → k < m.darts → m.twin k % 2 ≡ 1 - k % 2
twin_flips s m is of k h = by_parity (λ k. m.twin k % 2 ≡ 1 - k % 2) s.darts
    (λ d l. omega (arith, of.twin_of_plus d l)) (λ d l. omega (arith, of.twin_of_minus d l)) k (subst (λ n. k < n) of.darts h)

true_same : (x y : ℕ) → IsTrue (eqb x y) → x ≡ y
true_same x y test = grind arith

same_true : (x y : ℕ) → x ≡ y → IsTrue (eqb x y)
same_true x y same = grind arith

module _ (a b am bm : Structure) (is : IsStructure a) (also : IsStructure b) (am_of : IsMedialOf a am) (bm_of : IsMedialOf b bm) where
  medials_carried : (p : ℕ → ℕ) → CarriesTo p a b → CarriesTo (doubled p) am bm
  medials_carried p carries =
      let there : (d : ℕ) → d < a.darts → p d < b.darts = λ d h. subst (λ n. p d < n) carries.darts (carries.renumbers.stays d h) in
      let even : (d : ℕ) → doubled p (2 * d) ≡ 2 * p d = doubled_even p in
      let odd : (d : ℕ) → doubled p (suc (2 * d)) ≡ suc (2 * p d) = doubled_odd p in
      record {
        darts = am_of.darts ∙ ap (λ n. 2 * n) carries.darts ∙ sym bm_of.darts;
        renumbers = subst (λ n. IsPermutationBelow n (doubled p)) (sym am_of.darts)
            (interleaved_permutes a.darts p p (doubled p) carries.renumbers carries.renumbers (record { even = λ d h. even d; odd = λ d h. odd d }));
        next = λ k h. by_parity (λ k. doubled p (am.next k) ≡ bm.next (doubled p k)) a.darts
            (λ d l.
            let earlier : before a am is am_of d < a.darts = before_stays a am is am_of d l in
            let behind : p d ≡ b.next (p (before a am is am_of d)) = sym (ap p (next_before a am is am_of d l)) ∙ carries.next (before a am is am_of d) earlier in
            ap (doubled p) (after_even a am is am_of d l) ∙ odd (before a am is am_of d) ∙ sym (bm_of.after_plus (p (before a am is am_of d)) (there (before a am is am_of d) earlier))
            ∙ ap (λ e. bm.next (2 * e)) (sym behind) ∙ ap bm.next (sym (even d)))
            (λ d l.
            let stays : a.next d < a.darts = is.rotation.stays d l in
            ap (doubled p) (am_of.after_minus d l) ∙ even (a.twin (a.next d)) ∙ ap (λ e. 2 * e) (carries.twin (a.next d) stays ∙ ap b.twin (carries.next d l))
            ∙ sym (bm_of.after_minus (p d) (there d l)) ∙ ap bm.next (sym (odd d)))
            k (subst (λ n. k < n) am_of.darts h);
        twin = λ k h. by_parity (λ k. doubled p (am.twin k) ≡ bm.twin (doubled p k)) a.darts
            (λ d l. ap (doubled p) (am_of.twin_of_plus d l) ∙ odd d ∙ sym (bm_of.twin_of_plus (p d) (there d l)) ∙ ap bm.twin (sym (even d)))
            (λ d l. ap (doubled p) (am_of.twin_of_minus d l) ∙ even d ∙ sym (bm_of.twin_of_minus (p d) (there d l)) ∙ ap bm.twin (sym (odd d)))
            k (subst (λ n. k < n) am_of.darts h);
        root = λ some. ap (doubled p) am_of.root ∙ even a.root ∙ ap (λ e. 2 * e) (carries.root (omega (arith, am_of.darts, some))) ∙ sym bm_of.root;
      }

  -- The other way: what carries medial structures, root to root, takes each plus to a plus. For the darts at which it does
  -- are closed, and the root's plus is one.
  module _ (connected : IsConnected am) (q : ℕ → ℕ) (carries : CarriesTo q am bm) where
    keeps : ℕ → Bool
    keeps k = eqb (q k % 2) (k % 2)

    keeps_parity : (k : ℕ) → IsTrue (keeps k) → q k % 2 ≡ k % 2
    unfolding keeps
    keeps_parity k test = true_same (q k % 2) (k % 2) test

    parity_keeps : (k : ℕ) → q k % 2 ≡ k % 2 → IsTrue (keeps k)
    unfolding keeps
    parity_keeps k same = same_true (q k % 2) (k % 2) same

    parity_kept : (k : ℕ) → k < am.darts → q k % 2 ≡ k % 2
    parity_kept k h =
        let there : (k : ℕ) → k < am.darts → q k < bm.darts = λ k h. subst (λ n. q k < n) carries.darts (carries.renumbers.stays k h) in
        keeps_parity k
        (connected keeps (parity_keeps am.root (root_kept k h))
        (record {
          under_next = λ k h test. parity_keeps (am.next k)
              (flipped k (q k) (am.next k) (q (am.next k)) (keeps_parity k test) (next_flips a am is am_of k h) (ap (λ e. e % 2) (carries.next k h) ∙ next_flips b bm also bm_of (q k) (there k h)));
          under_twin = λ k h test. parity_keeps (am.twin k)
              (flipped k (q k) (am.twin k) (q (am.twin k)) (keeps_parity k test) (twin_flips a am is am_of k h) (ap (λ e. e % 2) (carries.twin k h) ∙ twin_flips b bm also bm_of (q k) (there k h)));
        }) k h) where
          flipped : (k qk n qn : ℕ) → qk % 2 ≡ k % 2 → n % 2 ≡ 1 - k % 2 → qn % 2 ≡ 1 - qk % 2 → qn % 2 ≡ n % 2
          flipped k qk n qn same here there = omega arith

          root_kept : (k : ℕ) → k < am.darts → q am.root % 2 ≡ am.root % 2
          root_kept k h = omega (arith, carries.root (omega (arith, h)), am_of.root, bm_of.root)

    -- the plus that the plus of a dart goes to
    pub halved : ℕ → ℕ
    halved d = q (2 * d) / 2

    at_plus : (d : ℕ) → d < a.darts → q (2 * d) ≡ 2 * halved d
    unfolding halved
    at_plus d h = omega (arith, parity_kept (2 * d) (omega (arith, am_of.darts, h)))

    halved_stays : (d : ℕ) → d < a.darts → halved d < b.darts
    halved_stays d h =
        let stays : q (2 * d) < am.darts = carries.renumbers.stays (2 * d) (omega (arith, am_of.darts, h)) in
        omega (arith, stays, at_plus d h, carries.darts, bm_of.darts)

    at_minus : (d : ℕ) → d < a.darts → q (suc (2 * d)) ≡ suc (2 * halved d)
    at_minus d h =
        ap q (sym (am_of.twin_of_plus d h)) ∙ carries.twin (2 * d) (omega (arith, am_of.darts, h)) ∙ ap bm.twin (at_plus d h) ∙ bm_of.twin_of_plus (halved d) (halved_stays d h)

    halved_next : (d : ℕ) → d < a.darts → halved (a.next d) ≡ b.next (halved d)
    halved_next d h =
        let stays : a.next d < a.darts = is.rotation.stays d h in
        let here : bm.next (2 * halved (a.next d)) ≡ suc (2 * halved d) =
        ap bm.next (sym (at_plus (a.next d) stays)) ∙ sym (carries.next (2 * a.next d) (omega (arith, am_of.darts, stays))) ∙ ap q (am_of.after_plus d h) ∙ at_minus d h in
        let there : bm.next (2 * b.next (halved d)) ≡ suc (2 * halved d) = bm_of.after_plus (halved d) (halved_stays d h) in
        let goes : b.next (halved d) < b.darts = also.rotation.stays (halved d) (halved_stays d h) in
        let one : 2 * halved (a.next d) ≡ 2 * b.next (halved d) =
        (medial_is_structure b bm also bm_of).rotation.injective (2 * halved (a.next d)) (2 * b.next (halved d))
        (omega (arith, bm_of.darts, halved_stays (a.next d) stays)) (omega (arith, bm_of.darts, goes)) (here ∙ sym there) in
        omega (arith, one)

    halved_twin : (d : ℕ) → d < a.darts → halved (a.twin d) ≡ b.twin (halved d)
    halved_twin d h =
        let earlier : ℕ = before a am is am_of d in
        let l : earlier < a.darts = before_stays a am is am_of d h in
        let next : a.next earlier ≡ d = next_before a am is am_of d h in
        let stays : a.twin d < a.darts = is.twin_stays d h in
        let here : q (2 * a.twin d) ≡ 2 * b.twin (halved d) =
        ap (λ e. q (2 * a.twin e)) (sym next) ∙ ap q (sym (am_of.after_minus earlier l)) ∙ carries.next (suc (2 * earlier)) (omega (arith, am_of.darts, l)) ∙ ap bm.next (at_minus earlier l)
        ∙ bm_of.after_minus (halved earlier) (halved_stays earlier l) ∙ ap (λ e. 2 * b.twin e) (sym (halved_next earlier l) ∙ ap halved next) in
        omega (arith, here, at_plus (a.twin d) stays)

    pub medials_carried_back : CarriesTo halved a b
    medials_carried_back =
        let darts : a.darts ≡ b.darts = (let same = carries.darts in omega (arith, same, am_of.darts, bm_of.darts)) in
        record {
          darts = darts;
          renumbers = record {
            stays = λ d h. subst (λ n. halved d < n) (sym darts) (halved_stays d h);
            injective = λ d e hd he same.
                let one : 2 * d ≡ 2 * e = carries.renumbers.injective (2 * d) (2 * e) (omega (arith, am_of.darts, hd)) (omega (arith, am_of.darts, he))
                (at_plus d hd ∙ ap (λ x. 2 * x) same ∙ sym (at_plus e he)) in
                omega (arith, one);
          };
          next = halved_next;
          twin = halved_twin;
          root = λ some.
              let stays : a.root < a.darts = is.root_stays some in
              let here : q (2 * a.root) ≡ 2 * b.root = ap q (sym am_of.root) ∙ carries.root (omega (arith, am_of.darts, some)) ∙ bm_of.root in
              omega (arith, here, at_plus a.root stays);
        }

pub medials_tell : MedialsTell
medials_tell a b am bm is also connected am_of bm_of = (
  λ same. (doubled same.0, medials_carried a b am bm is also am_of bm_of same.0 same.1),
  λ same. (
    halved a b am bm is also am_of bm_of (medial_is_connected a am is am_of connected) same.0 same.1,
    medials_carried_back a b am bm is also am_of bm_of (medial_is_connected a am is am_of connected) same.0 same.1,
  ),
)
