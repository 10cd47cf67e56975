-- A closed fence of edges parts the faces of a part map in the plane: if all faces are met beside the fence, none of its edges has
-- both darts in one cycle around the others.
use Rattle.std.proofs.Common.{◌≡◌, ℕ, ◌+◌, ◌<◌, Bool, true, false, not, cond, ltb, eqb, inl, inr, refl, ap, sym, ◌∙◌, arith, eq-eqb, ne_eqb, le-ltb}
use Rattle.std.proofs.lemmas.Bool.{cases_eq, cases_Bool, cond-true, cond-false}
use Rattle.pm_perm.specs.Permutation.{IsPermutationBelow}
use Rattle.pm_perm.specs.Cycles.{leader, cycles}
use Rattle.pm_perm.specs.Exchange.{IsExchangeBelow}
use Rattle.pm_perm.specs.Pairs.{IsInvolutionBelow, pairs}
use Rattle.pm_perm.specs.PartMap.{PartMap, IsPartMap, part_face, part_vertices, part_edges, part_faces, IsPartConnected}
use Rattle.pm_perm.proofs.ConnectedEuler.{connected_euler}
use Rattle.pm_perm.proofs.Counts.{count_below-split}
use Rattle.pm_perm.proofs.PairCounts.{pairs-one_more}
use Rattle.pm_perm.proofs.PartMaps.{part_face-permutes}
use Rattle.pm_perm.proofs.PartPairs.{involution-permutes, cycles-pairs_at_most}
use Rattle.pm_perm.proofs.Parted.{cycles-exchange}
use Rattle.pm_perm.proofs.Renumbered.{product-permutes}
use Rattle.pm_perm.proofs.SameCycle.{cycles-same}

-- the pairs of the numbers that pass, and nothing moved elsewhere
unfoldable pub pairs_on : (ℕ → Bool) → (ℕ → ℕ) → ℕ → ℕ
pairs_on passes t k = cond (passes k) (t k) k

pub pairs_on-yes : (passes : ℕ → Bool) (t : ℕ → ℕ) (k : ℕ) → passes k ≡ true → pairs_on passes t k ≡ t k
unfolding pairs_on
pairs_on-yes passes t k e = cond-true (passes k) (t k) k e

pub pairs_on-no : (passes : ℕ → Bool) (t : ℕ → ℕ) (k : ℕ) → passes k ≡ false → pairs_on passes t k ≡ k
unfolding pairs_on
pairs_on-no passes t k e = cond-false (passes k) (t k) k e

pub pairs_on-involution : (n : ℕ) (passes : ℕ → Bool) (t : ℕ → ℕ) → IsInvolutionBelow n t → ((k : ℕ) → k < n → passes (t k) ≡ passes k) → IsInvolutionBelow n (pairs_on passes t)
pairs_on-involution n passes t v alike = record {
  stays = λ k h. elim (cases_Bool (passes k)) [
    | inl passing ↦ omega (arith, pairs_on-yes passes t k passing, v.stays k h)
    | inr failing ↦ omega (arith, pairs_on-no passes t k failing, h)
  ];
  twice = λ k h. elim (cases_Bool (passes k)) [
    | inl passing ↦ ap (pairs_on passes t) (pairs_on-yes passes t k passing) ∙ pairs_on-yes passes t (t k) (alike k h ∙ passing) ∙ v.twice k h
    | inr failing ↦ ap (pairs_on passes t) (pairs_on-no passes t k failing) ∙ pairs_on-no passes t k failing
  ];
}

-- those that pass and those that don't are all
pairs_on-parts : (n : ℕ) (passes : ℕ → Bool) (t : ℕ → ℕ) → pairs n (pairs_on passes t) + pairs n (pairs_on (λ k. not (passes k)) t) ≡ pairs n t
pairs_on-parts n passes t =
    count_below-split (λ k. ltb (pairs_on passes t k) k) (λ k. ltb (pairs_on (λ j. not (passes j)) t k) k) (λ k. ltb (t k) k) n (λ k h. elim (cases_Bool (passes k)) [
      | inl passing ↦ inl (
        ap (λ (i : ℕ). ltb i k) (pairs_on-yes passes t k passing),
        ap (λ (i : ℕ). ltb i k) (pairs_on-no (λ j. not (passes j)) t k (ap not passing)) ∙ le-ltb k k (omega arith),
      )
      | inr failing ↦ inr (
        ap (λ (i : ℕ). ltb i k) (pairs_on-no passes t k failing) ∙ le-ltb k k (omega arith),
        ap (λ (i : ℕ). ltb i k) (pairs_on-yes (λ j. not (passes j)) t k (ap not failing)),
      )
    ])

-- a test without a number and its partner
unfoldable pub without_pair : (ℕ → Bool) → (ℕ → ℕ) → ℕ → ℕ → Bool
without_pair passes t d k = cond (eqb k d) false (cond (eqb k (t d)) false (passes k))

without-first : (passes : ℕ → Bool) (t : ℕ → ℕ) (d k : ℕ) → k ≡ d → without_pair passes t d k ≡ false
unfolding without_pair
without-first passes t d k e = cond-true (eqb k d) false (cond (eqb k (t d)) false (passes k)) (eq-eqb k d e)

without-second : (passes : ℕ → Bool) (t : ℕ → ℕ) (d k : ℕ) → k ≡ t d → without_pair passes t d k ≡ false
unfolding without_pair
without-second passes t d k e = elim (cases_eq k d) [
  | inl same ↦ cond-true (eqb k d) false (cond (eqb k (t d)) false (passes k)) (eq-eqb k d same)
  | inr apart ↦ cond-false (eqb k d) false (cond (eqb k (t d)) false (passes k)) (ne_eqb k d apart) ∙ cond-true (eqb k (t d)) false (passes k) (eq-eqb k (t d) e)
]

without-other : (passes : ℕ → Bool) (t : ℕ → ℕ) (d k : ℕ) → (k ≡ d → ⊥) → (k ≡ t d → ⊥) → without_pair passes t d k ≡ passes k
unfolding without_pair
without-other passes t d k n m = cond-false (eqb k d) false (cond (eqb k (t d)) false (passes k)) (ne_eqb k d n) ∙ cond-false (eqb k (t d)) false (passes k) (ne_eqb k (t d) m)

-- the part map of the faces, whose edges are those beside the fence
unfoldable pub fenced : PartMap → (ℕ → Bool) → PartMap
fenced m fence = record { darts = m.darts; next = part_face m; twin = pairs_on (λ k. not (fence k)) m.twin }

-- around the vertices, across the edges that pass
abbrev pub across : PartMap → (ℕ → Bool) → ℕ → ℕ
across m passes k = m.next (pairs_on passes m.twin k)

module _ (m : PartMap) (is : IsPartMap m) (plane : part_vertices m + part_faces m ≡ part_edges m + 2) (fence : ℕ → Bool) (alike : (k : ℕ) → k < m.darts → fence (m.twin k) ≡ fence k)
    (d : ℕ) (h : d < m.darts) (on_fence : fence d ≡ true) (differ : m.twin d ≡ d → ⊥) where
  not_first : (k : ℕ) → k < m.darts → (k ≡ m.twin d → ⊥) → m.twin k ≡ d → ⊥
  not_first k l other e = other (sym (is.twins.twice k l) ∙ ap m.twin e)

  not_second : (k : ℕ) → k < m.darts → (k ≡ d → ⊥) → m.twin k ≡ m.twin d → ⊥
  not_second k l other e = other (sym (is.twins.twice k l) ∙ ap m.twin e ∙ is.twins.twice d h)

  rest-alike : (k : ℕ) → k < m.darts → without_pair fence m.twin d (m.twin k) ≡ without_pair fence m.twin d k
  rest-alike k l = elim (cases_eq k d) [
    | inl e ↦ without-second fence m.twin d (m.twin k) (ap m.twin e) ∙ sym (without-first fence m.twin d k e)
    | inr a ↦ elim (cases_eq k (m.twin d)) [
      | inl e ↦ without-first fence m.twin d (m.twin k) (ap m.twin e ∙ is.twins.twice d h) ∙ sym (without-second fence m.twin d k e)
      | inr b ↦ without-other fence m.twin d (m.twin k) (not_first k l b) (not_second k l a) ∙ alike k l ∙ sym (without-other fence m.twin d k a b)
    ]
  ]

  inner : IsInvolutionBelow m.darts (pairs_on (without_pair fence m.twin d) m.twin)
  inner = pairs_on-involution m.darts (without_pair fence m.twin d) m.twin is.twins rest-alike

  rest-first : pairs_on (without_pair fence m.twin d) m.twin d ≡ d
  rest-first = pairs_on-no (without_pair fence m.twin d) m.twin d (without-first fence m.twin d d refl)

  rest-second : pairs_on (without_pair fence m.twin d) m.twin (m.twin d) ≡ m.twin d
  rest-second = pairs_on-no (without_pair fence m.twin d) m.twin (m.twin d) (without-second fence m.twin d (m.twin d) refl)

  fence-first : pairs_on fence m.twin d ≡ m.twin d
  fence-first = pairs_on-yes fence m.twin d on_fence

  fence-second : pairs_on fence m.twin (m.twin d) ≡ d
  fence-second = pairs_on-yes fence m.twin (m.twin d) (alike d h ∙ on_fence) ∙ is.twins.twice d h

  fence-other : (k : ℕ) → (k ≡ d → ⊥) → (k ≡ m.twin d → ⊥) → pairs_on fence m.twin k ≡ pairs_on (without_pair fence m.twin d) m.twin k
  unfolding pairs_on
  fence-other k a b = ap (λ (test : Bool). cond test (m.twin k) k) (sym (without-other fence m.twin d k a b))

  exchanged : IsExchangeBelow m.darts (across m (without_pair fence m.twin d)) (across m fence) d (m.twin d)
  exchanged = record {
    at_first = ap m.next (fence-first ∙ sym rest-second);
    at_second = ap m.next (fence-second ∙ sym rest-first);
    elsewhere = λ k l a b. ap m.next (fence-other k a b);
  }

  inner-permutes : IsPermutationBelow m.darts (across m (without_pair fence m.twin d))
  inner-permutes = product-permutes m.darts (across m (without_pair fence m.twin d)) m.next (pairs_on (without_pair fence m.twin d) m.twin) is.rotation
      (involution-permutes m.darts (pairs_on (without_pair fence m.twin d) m.twin) inner) (record { value = λ k l. refl })

  off-alike : (k : ℕ) → k < m.darts → not (fence (m.twin k)) ≡ not (fence k)
  off-alike k l = ap not (alike k l)

  outer : IsPartMap (fenced m fence)
  unfolding fenced
  outer = record { rotation = part_face-permutes m is; twins = pairs_on-involution m.darts (λ k. not (fence k)) m.twin is.twins off-alike }

  -- the faces of the part map of the faces
  outer-faces : part_faces (fenced m fence) ≡ cycles m.darts (across m fence)
  unfolding fenced
  outer-faces = cycles-same m.darts (part_face (fenced m fence)) (across m fence) (part_face-permutes (fenced m fence) outer) (λ k l. elim (cases_Bool (fence k)) [
    | inl passing ↦
        ap (λ (i : ℕ). m.next (m.twin i)) (pairs_on-no (λ j. not (fence j)) m.twin k (ap not passing)) ∙ ap m.next (sym (pairs_on-yes fence m.twin k passing))
    | inr failing ↦
        ap (λ (i : ℕ). m.next (m.twin i)) (pairs_on-yes (λ j. not (fence j)) m.twin k (ap not failing)) ∙ ap m.next (is.twins.twice k l ∙ sym (pairs_on-no fence m.twin k failing))
  ])

  pub fence_parts : leader m.darts (across m (without_pair fence m.twin d)) d ≡ leader m.darts (across m (without_pair fence m.twin d)) (m.twin d) → IsPartConnected (fenced m fence) → ⊥
  unfolding fenced
  fence_parts one connected =
      let split = cycles-exchange m.darts (across m (without_pair fence m.twin d)) (across m fence) d (m.twin d) inner-permutes h (is.twins.stays d h) exchanged in
      let same = cond-true {A = ℕ} (eqb (leader m.darts (across m (without_pair fence m.twin d)) d) (leader m.darts (across m (without_pair fence m.twin d)) (m.twin d))) 0 2
      (eq-eqb (leader m.darts (across m (without_pair fence m.twin d)) d) (leader m.darts (across m (without_pair fence m.twin d)) (m.twin d)) one) in
      let apart = cond-false {A = ℕ} (eqb d (m.twin d)) 0 1 (ne_eqb d (m.twin d) (λ e. differ (sym e))) in
      let few = cycles-pairs_at_most m.darts m.next (across m (without_pair fence m.twin d)) (pairs_on (without_pair fence m.twin d) m.twin) inner-permutes inner
      (record { value = λ k l. ap m.next (sym (inner.twice k l)) }) in
      let more = pairs-one_more m.darts (pairs_on (without_pair fence m.twin d) m.twin) (pairs_on fence m.twin) d (m.twin d) (λ e. differ (sym e)) (record {
        first = h;
        second = is.twins.stays d h;
        first_alone = rest-first;
        second_alone = rest-second;
        first_partner = fence-first;
        second_partner = fence-second;
        elsewhere = λ k l a b. fence-other k a b;
      }) in
      let parts = pairs_on-parts m.darts fence m.twin in
      let euler = connected_euler (fenced m fence) outer connected in
      let faces = outer-faces in
      absurd (omega (arith, plane, split, same, apart, few, more, parts, euler, faces))
