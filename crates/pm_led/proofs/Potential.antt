-- The excess of one orientation over the other, counted along the walk over the darts of cut edges. It is the same around a
-- face, and rises across an edge by the difference of the two at the dart.
use Rattle.std.proofs.Common.{◌≡◌, ℕ, suc, ◌+◌, ◌%◌, ◌<◌, ◌≤◌, ◌&&◌, ◌⊎◌, inl, inr, Bool, true, false, not, ltb, IsTrue, refl, sym, ap, ◌∙◌, subst, arith}
use Rattle.std.proofs.Math.Nat.{mod-eq_of_lt, mod_self}
use Rattle.std.proofs.lemmas.Bool.{cases_Bool, cases_eq, cases_lt, and_parts, and_from, not-true, ltb-false, le-ltb}
use Rattle.pm_perm.specs.Count.{count_below}
use Rattle.pm_perm.specs.Cycles.{repeated, leader, IsLeastInCycle}
use Rattle.pm_perm.specs.Pairs.{IsNestedBelow}
use Rattle.pm_perm.proofs.Counts.{count_below-same, count_below-split}
use Rattle.pm_perm.proofs.LeaderMaps.{leader-is_least}
use Rattle.pm_perm.proofs.Stretches.{is_between, between-in, between-bounds, count_below-between}
use Rattle.pm_map.specs.Structure.{Structure, IsStructure, face_next, dual}
use Rattle.pm_map.specs.Plane.{HasEulerTwo}
use Rattle.pm_walk.specs.Led.{IsLed}
use Rattle.pm_walk.specs.Walk.{is_cut, across, partner, IsWalkedInOrder}
use Rattle.pm_walk.proofs.Edges.{lesser_or_greater, cut_twin, across_kept, partner_cut, partner_kept}
use Rattle.pm_walk.proofs.LedWalk.{walked_is_led}
use Rattle.pm_walk.proofs.NestedEdges.{walked_nested, face-partner}
use Rattle.pm_led.specs.Heads.{IsHead}
use Rattle.pm_led.specs.Orientation.{HaveSameDegrees, OneOrientation}
use Rattle.pm_led.proofs.HeadsFound.{around_same}
use Rattle.pm_led.proofs.OutCounts.{one_if, as_many_out, vertices_out}

and_again : (x y z : Bool) → (x && y) && z ≡ x && (y && z)
and_again true y z = refl
and_again false y z = refl

both_parts : (cut f : Bool) → ((f ≡ cut && f) × (not cut && f ≡ false)) ⊎ ((cut && f ≡ false) × (not cut && f ≡ f))
both_parts true f = inl (refl, refl)
both_parts false f = inr (refl, refl)

step_in : (b f : Bool) → b ≡ true → one_if (b && f) ≡ one_if f
step_in b f holds = grind arith

step_out : (b f : Bool) → b ≡ false → one_if (b && f) ≡ 0
step_out b f fails = grind arith

one_of : (x y : Bool) → y ≡ not x → one_if y + one_if x ≡ 1
one_of true y e = grind arith
one_of false y e = grind arith

module _ (s : Structure) (out other : ℕ → Bool) (is : IsStructure s) (some : 0 < s.darts) (euler : HasEulerTwo s) (walked : IsWalkedInOrder s out) (same : HaveSameDegrees s out other) where
  -- the darts of cut edges, and of kept ones, that a test lets out before a place
  abbrev cut_out : (ℕ → Bool) → ℕ → ℕ
  cut_out f k = count_below (λ j. is_cut s out j && f j) k

  abbrev kept_out : (ℕ → Bool) → ℕ → ℕ
  kept_out f k = count_below (λ j. not (is_cut s out j) && f j) k

  abbrev one : (ℕ → Bool) → ℕ → ℕ
  one f d = one_if (f d)

  cut_more : (f : ℕ → Bool) (d : ℕ) → is_cut s out d ≡ true → cut_out f (suc d) ≡ cut_out f d + one f d
  cut_more f d cut = ap (λ c. cut_out f d + c) (step_in (is_cut s out d) (f d) cut)

  cut_idle : (f : ℕ → Bool) (d : ℕ) → is_cut s out d ≡ false → cut_out f (suc d) ≡ cut_out f d
  cut_idle f d kept = omega (arith, step_out (is_cut s out d) (f d) kept)

  kept_more : (f : ℕ → Bool) (d : ℕ) → is_cut s out d ≡ false → kept_out f (suc d) ≡ kept_out f d + one f d
  kept_more f d kept = ap (λ c. kept_out f d + c) (step_in (not (is_cut s out d)) (f d) (ap not kept))

  all_out : (f : ℕ → Bool) (k : ℕ) → cut_out f k + kept_out f k ≡ count_below f k
  all_out f k = count_below-split (λ j. is_cut s out j && f j) (λ j. not (is_cut s out j) && f j) f k (λ j l. elim (both_parts (is_cut s out j) (f j)) [
    | inl cut ↦ inl (sym cut.0, cut.1)
    | inr kept ↦ inr kept
  ])

  -- the darts of a stretch that stand on edges of a kind, where it has whole edges of that kind
  stretch_alike : (kind : ℕ → Bool) (low high : ℕ) → low ≤ high → high ≤ s.darts
      → ((k : ℕ) → k < s.darts → is_between low high k && kind k ≡ true → is_between low high (s.twin k) && kind (s.twin k) ≡ true)
      → count_below (λ j. kind j && out j) low + count_below (λ j. kind j && other j) high ≡ count_below (λ j. kind j && other j) low + count_below (λ j. kind j && out j) high
  stretch_alike kind low high le within whole =
      let ours = count_below-between (λ j. kind j && out j) low high s.darts le within in
      let theirs = count_below-between (λ j. kind j && other j) low high s.darts le within in
      let grouped : (f : ℕ → Bool) → count_below (λ k. (is_between low high k && kind k) && f k) s.darts ≡ count_below (λ k. is_between low high k && (kind k && f k)) s.darts = λ f.
      count_below-same (λ k. (is_between low high k && kind k) && f k) (λ k. is_between low high k && (kind k && f k)) s.darts (λ k l. and_again (is_between low high k) (kind k) (f k)) in
      let alike = as_many_out s (λ k. is_between low high k && kind k) out other is same.first same.second whole in
      omega (arith, ours, theirs, grouped out, grouped other, alike)

  -- between the two darts of a cut edge cut edges are whole
  cut_within : (d k : ℕ) → d < s.darts → d < s.twin d → is_cut s out d ≡ true → k < s.darts → is_between d (suc (s.twin d)) k && is_cut s out k ≡ true
      → is_between d (suc (s.twin d)) (s.twin k) && is_cut s out (s.twin k) ≡ true
  cut_within d k l less cut m e =
      let both = and_parts (is_between d (suc (s.twin d)) k) (is_cut s out k) e in
      let bounds = between-bounds d (suc (s.twin d)) k both.0 in
      let nested : IsNestedBelow s.darts (partner s out) = (walked_nested s out is some euler walked).1 in
      let over : partner s out d ≡ s.twin d = partner_cut s out d cut in
      let inner : partner s out k ≡ s.twin k = partner_cut s out k both.1 in
      let inside : partner s out d < s.darts = omega (arith, over, is.twin_stays d l) in
      and_from (is_between d (suc (s.twin d)) (s.twin k)) (is_cut s out (s.twin k))
      (elim (cases_eq k d) [
        | inl first ↦ between-in d (suc (s.twin d)) (s.twin k) (omega (arith, less, ap s.twin first)) (omega (arith, ap s.twin first))
        | inr later ↦ elim (cases_eq k (s.twin d)) [
          | inl last ↦
              let back : s.twin k ≡ d = ap s.twin last ∙ is.twin_back d l in
              between-in d (suc (s.twin d)) (s.twin k) (omega (arith, back)) (omega (arith, back, less))
          | inr earlier ↦
              let low : d < k = omega (arith, bounds.0, later) in
              let high : k < partner s out d = omega (arith, bounds.1, earlier, over) in
              between-in d (suc (s.twin d)) (s.twin k) (omega (arith, inner, nested.above d k inside low high)) (omega (arith, inner, over, nested.below d k inside low high))
        ]
      ]) (cut_twin s out k is m ∙ both.1)

  -- between the two darts of a kept edge kept edges are whole
  kept_within : (p k : ℕ) → p < s.darts → p < s.twin p → is_cut s out p ≡ false → k < s.darts → is_between (suc p) (s.twin p) k && not (is_cut s out k) ≡ true
      → is_between (suc p) (s.twin p) (s.twin k) && not (is_cut s out (s.twin k)) ≡ true
  kept_within p k l less kept m e =
      let both = and_parts (is_between (suc p) (s.twin p) k) (not (is_cut s out k)) e in
      let bounds = between-bounds (suc p) (s.twin p) k both.0 in
      let nested : IsNestedBelow s.darts (across s out) = (walked_nested s out is some euler walked).0 in
      let over : across s out p ≡ s.twin p = across_kept s out p kept in
      let inner : across s out k ≡ s.twin k = across_kept s out k (not-true (is_cut s out k) both.1) in
      let inside : across s out p < s.darts = omega (arith, over, is.twin_stays p l) in
      let low : p < k = omega (arith, bounds.0) in
      let high : k < across s out p = omega (arith, bounds.1, over) in
      and_from (is_between (suc p) (s.twin p) (s.twin k)) (not (is_cut s out (s.twin k)))
      (between-in (suc p) (s.twin p) (s.twin k) (omega (arith, inner, nested.above p k inside low high)) (omega (arith, inner, over, nested.below p k inside low high)))
      (ap not (cut_twin s out k is m) ∙ both.1)

  -- behind the first dart of a kept edge up to its second one vertices are whole
  vertices_within : (p : ℕ) → p < s.darts → p < s.twin p → is_cut s out p ≡ false
      → count_below out (suc p) + count_below other (suc (s.twin p)) ≡ count_below other (suc p) + count_below out (suc (s.twin p))
  vertices_within p l less kept =
      let q : ℕ = s.twin p in
      let back : s.twin (s.twin p) ≡ p = is.twin_back p l in
      let inside : s.twin p < s.darts = is.twin_stays p l in
      let head : IsHead s out (s.twin p) = record { kept = cut_twin s out p is l ∙ kept; again = omega (arith, back, less) } in
      let ours = count_below-between out (suc p) (suc (s.twin p)) s.darts (omega (arith, less)) (omega (arith, inside)) in
      let theirs = count_below-between other (suc p) (suc (s.twin p)) s.darts (omega (arith, less)) (omega (arith, inside)) in
      let alike = vertices_out s (is_between (suc p) (suc (s.twin p))) out other is same (λ k m.
      let least : IsLeastInCycle s.next k (leader s.darts s.next k) = leader-is_least s.darts s.next is.rotation k m in
      let kept_around = around_same s out is some euler walked (s.twin p) inside head least.met.steps k m in
      ap (is_between (suc p) (suc (s.twin p))) (sym least.met.leads)
      ∙ subst (λ x. is_between (suc x) (suc (s.twin p)) (repeated s.next least.met.steps k) ≡ is_between (suc x) (suc (s.twin p)) k) back kept_around) in
      omega (arith, ours, theirs, alike)

  one_out : (d : ℕ) → d < s.darts → one out (s.twin d) + one out d ≡ 1
  one_out d l = one_of (out d) (out (s.twin d)) (same.first.one_out d l)

  one_other : (d : ℕ) → d < s.darts → one other (s.twin d) + one other d ≡ 1
  one_other d l = one_of (other d) (other (s.twin d)) (same.second.one_out d l)

  across_less : (d : ℕ) → d < s.darts → d < s.twin d → cut_out out (s.twin d) + cut_out other d + one other d ≡ cut_out other (s.twin d) + cut_out out d + one out d
  across_less d l less =
      let inside : s.twin d < s.darts = is.twin_stays d l in
      elim (cases_Bool (is_cut s out d)) [
        | inl cut ↦
            let there : is_cut s out (s.twin d) ≡ true = cut_twin s out d is l ∙ cut in
            let stretch = stretch_alike (is_cut s out) d (suc (s.twin d)) (omega (arith, less)) (omega (arith, inside)) (λ k m e. cut_within d k l less cut m e) in
            omega (arith, stretch, cut_more out (s.twin d) there, cut_more other (s.twin d) there, one_out d l, one_other d l)
        | inr kept ↦
            let there : is_cut s out (s.twin d) ≡ false = cut_twin s out d is l ∙ kept in
            let stretch = stretch_alike (λ j. not (is_cut s out j)) (suc d) (s.twin d) (omega (arith, less)) (omega (arith, inside)) (λ k m e. kept_within d k l less kept m e) in
            omega (
              arith,
              stretch,
              vertices_within d l less kept,
              all_out out (suc d),
              all_out other (suc d),
              all_out out (suc (s.twin d)),
              all_out other (suc (s.twin d)),
              kept_more out (s.twin d) there,
              kept_more other (s.twin d) there,
              cut_idle out (s.twin d) there,
              cut_idle other (s.twin d) there,
              cut_idle out d kept,
              cut_idle other d kept,
              one_out d l,
              one_other d l,
            )
      ]

  -- across an edge it rises by the difference of the two at the dart
  rises_across : (d : ℕ) → d < s.darts → cut_out out (s.twin d) + cut_out other d + one other d ≡ cut_out other (s.twin d) + cut_out out d + one out d
  rises_across d l = elim (lesser_or_greater s d is l) [
    | inl less ↦ across_less d l less
    | inr more ↦
        let back : s.twin (s.twin d) ≡ d = is.twin_back d l in
        let there = across_less (s.twin d) (is.twin_stays d l) (omega (arith, back, more)) in
        omega (arith, there, ap (cut_out out) back, ap (cut_out other) back, one_out d l, one_other d l)
  ]

  -- over all cut edges it is none
  none_in_all : cut_out out s.darts ≡ cut_out other s.darts
  none_in_all = as_many_out s (is_cut s out) out other is same.first same.second (λ k l e. cut_twin s out k is l ∙ e)

  wraps : (k : ℕ) → k < s.darts → cut_out out (suc k % s.darts) + cut_out other (suc k) ≡ cut_out other (suc k % s.darts) + cut_out out (suc k)
  wraps k l = elim (cases_lt (suc k) s.darts) [
    | inl more ↦
        let stays : suc k % s.darts ≡ suc k = mod-eq_of_lt more in
        omega (arith, ap (cut_out out) stays, ap (cut_out other) stays)
    | inr last ↦
        let all : suc k ≡ s.darts = omega (arith, last, l) in
        let none : suc k % s.darts ≡ 0 = ap (λ x. x % s.darts) all ∙ mod_self s.darts in
        omega (arith, ap (cut_out out) none, ap (cut_out other) none, ap (cut_out out) all, ap (cut_out other) all, none_in_all)
  ]

  -- around a face it is the same
  same_around : (d : ℕ) → d < s.darts → cut_out out (face_next s d) + cut_out other d ≡ cut_out other (face_next s d) + cut_out out d
  same_around d l = elim (cases_Bool (is_cut s out d)) [
    | inl cut ↦
        let there : is_cut s out (s.twin d) ≡ true = cut_twin s out d is l ∙ cut in
        let goes : face_next s d ≡ suc (s.twin d) % s.darts = face-partner s out d is walked l ∙ ap (λ x. suc x % s.darts) (partner_cut s out d cut) in
        omega (
          arith,
          ap (cut_out out) goes,
          ap (cut_out other) goes,
          wraps (s.twin d) (is.twin_stays d l),
          cut_more out (s.twin d) there,
          cut_more other (s.twin d) there,
          rises_across d l,
          one_out d l,
          one_other d l,
        )
    | inr kept ↦
        let goes : face_next s d ≡ suc d % s.darts = face-partner s out d is walked l ∙ ap (λ x. suc x % s.darts) (partner_kept s out d kept) in
        omega (arith, ap (cut_out out) goes, ap (cut_out other) goes, wraps d l, cut_idle out d kept, cut_idle other d kept)
  ]

  one_at : (f : ℕ → Bool) (d : ℕ) → f d ≡ true → one f d ≡ 1
  one_at f d goes = ap one_if goes

  one_most : (f : ℕ → Bool) (d : ℕ) → one f d ≤ 1
  one_most f d = elim (cases_Bool (f d)) [
    | inl goes ↦ omega (arith, one_at f d goes)
    | inr comes ↦ (let none : one f d ≡ 0 = ap one_if comes in omega (arith, none))
  ]

  as_test : (a b : ℕ) → a ≤ b → IsTrue (not (ltb b a))
  as_test a b le = ap not (le-ltb b a le)

  from_test : (a b : ℕ) → IsTrue (not (ltb b a)) → a ≤ b
  from_test a b test = ltb-false b a (not-true (ltb b a) test)

  nowhere_above : IsLed (dual s) other → (d : ℕ) → d < s.darts → cut_out out d ≤ cut_out other d
  nowhere_above led d l = from_test (cut_out out d) (cut_out other d) (led (λ k. not (ltb (cut_out other k) (cut_out out k)))
      (as_test (cut_out out s.root) (cut_out other s.root) (omega (arith, ap (cut_out out) walked.root, ap (cut_out other) walked.root)))
      (record {
        under_next = λ k m test. as_test (cut_out out (face_next s k)) (cut_out other (face_next s k)) (omega (arith, same_around k m, from_test (cut_out out k) (cut_out other k) test));
        under_twin = λ k m goes test. as_test (cut_out out (s.twin k)) (cut_out other (s.twin k))
            (omega (arith, rises_across k m, from_test (cut_out out k) (cut_out other k) test, one_at other k goes, one_most out k));
      }) d l)

  nowhere_below : (d : ℕ) → d < s.darts → cut_out other d ≤ cut_out out d
  nowhere_below d l = from_test (cut_out other d) (cut_out out d) ((walked_is_led s out is walked).1 (λ k. not (ltb (cut_out out k) (cut_out other k)))
      (as_test (cut_out other s.root) (cut_out out s.root) (omega (arith, ap (cut_out out) walked.root, ap (cut_out other) walked.root)))
      (record {
        under_next = λ k m test. as_test (cut_out other (face_next s k)) (cut_out out (face_next s k)) (omega (arith, same_around k m, from_test (cut_out other k) (cut_out out k) test));
        under_twin = λ k m goes test. as_test (cut_out other (s.twin k)) (cut_out out (s.twin k))
            (omega (arith, rises_across k m, from_test (cut_out other k) (cut_out out k) test, one_at out k goes, one_most other k));
      }) d l)

  -- so the two are the same at each dart
  equal_at : IsLed (dual s) other → (d : ℕ) → d < s.darts → other d ≡ out d
  equal_at led d l =
      let inside : s.twin d < s.darts = is.twin_stays d l in
      equal (out d) (other d)
      (omega (arith, rises_across d l, nowhere_above led d l, nowhere_below d l, nowhere_above led (s.twin d) inside, nowhere_below (s.twin d) inside)) where
        equal : (x y : Bool) → one_if y ≡ one_if x → y ≡ x
        equal true true e = refl
        equal true false e = absurd (omega (arith, e))
        equal false true e = absurd (omega (arith, e))
        equal false false e = refl

pub one_orientation : OneOrientation
one_orientation s out other is some euler walked same led d l = equal_at s out other is some euler walked same led d l
