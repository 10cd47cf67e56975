-- Where all degrees are even, an edge that isn't cut leads one level down from its lesser dart.
use Rattle.std.proofs.Common.{◌≡◌, ℕ, suc, ◌+◌, ◌%◌, ◌<◌, ◌≤◌, ◌&&◌, Bool, true, false, not, cond, nat_eq, refl, sym, ◌∙◌, ap, subst, arith}
use Rattle.std.proofs.lemmas.Bool.{and_parts, and_from, cond-true, not-true}
use Rattle.pm_perm.specs.Count.{count_below}
use Rattle.pm_perm.specs.Cycles.{leader}
use Rattle.pm_perm.specs.Pairs.{IsNestedBelow}
use Rattle.pm_perm.proofs.Counts.{count_below-all, count_below-parts}
use Rattle.pm_perm.proofs.LeaderMaps.{IsLeaderMap, leader-map, leader_map-inside, leader_map-twice}
use Rattle.pm_map.specs.Structure.{Structure, IsStructure}
use Rattle.pm_map.specs.CycleSize.{IsCycleSize}
use Rattle.pm_map.specs.FaceDistance.{AreFaceLevels}
use Rattle.pm_map.proofs.DegreeCounts.{HasSize, has_size, degree_counts_darts}
use Rattle.pm_distances.proofs.Walked.{is_up, is_cut, across, IsWalkedInOrder}
use Rattle.pm_perm.proofs.EvenCounts.{even_in_pairs, even_in_cycles}
use Rattle.pm_perm.proofs.Stretches.{is_between, between-in, between-bounds, count_below-between, stretch-kept}
use Rattle.pm_walk.proofs.Edges.{cut_twin, across_kept}
use Rattle.pm_walk.proofs.NestedEdges.{across-involution, next-across}
use Rattle.pm_distances.proofs.LevelsAlong.{kept-not_up, level-parity}

-- a test as a number, which tells it
number_of : Bool → ℕ
number_of test = cond test 1 0

same_test : (a b : Bool) → number_of a ≡ number_of b → a ≡ b
unfolding number_of
same_test true true e = refl
same_test true false e = absurd (omega arith)
same_test false true e = absurd (omega arith)
same_test false false e = refl

-- where all degrees are even, darts that are whole vertices are even in number
pub even_at_vertices : (s : Structure) (passes : ℕ → Bool) → IsStructure s → ((d degree : ℕ) → d < s.darts → IsCycleSize s.next d degree → degree % 2 ≡ 0)
    → ((d : ℕ) → d < s.darts → passes (s.next d) ≡ passes d) → count_below passes s.darts % 2 ≡ 0
even_at_vertices s passes is even kept =
    let map : IsLeaderMap s.darts s.next (leader s.darts s.next) = leader-map s.darts s.next is.rotation in
    even_in_cycles s.darts (leader s.darts s.next) passes (record {
      inside = leader_map-inside s.darts s.next (leader s.darts s.next) map;
      twice = leader_map-twice s.darts s.next (leader s.darts s.next) map;
      kept = λ k h. same_test (passes (leader s.darts s.next k)) (passes k) (map.joins (λ e. number_of (passes e)) (record { along = λ e he. ap number_of (kept e he) }) k h);
      even = λ m h leads.
          (let found : HasSize s.next m = has_size s.darts s.next m is.rotation h in
          ap (λ (l : ℕ). count_below (λ e. nat_eq (leader s.darts s.next e) l) s.darts % 2) (sym leads)
          ∙ ap (λ (c : ℕ). c % 2) ((degree_counts_darts s m found.size is h).0 found.is) ∙ even m found.size h found.is);
    })

-- the darts between the two of an edge that isn't cut, on edges that aren't cut, are even in number
kept_between : (s : Structure) (level : ℕ → ℕ) (p : ℕ) → IsStructure s → IsNestedBelow s.darts (across s level) → p < s.darts → is_cut s level p ≡ false
    → count_below (λ k. is_between (suc p) (s.twin p) k && not (is_cut s level k)) s.darts % 2 ≡ 0
kept_between s level p is nested h kept = even_in_pairs s.darts s.twin (λ k. is_between (suc p) (s.twin p) k && not (is_cut s level k)) (record {
  stays = λ k hk e. is.twin_stays k hk;
  twice = λ k hk e. is.twin_back k hk;
  other = λ k hk e. is.twin_other k hk;
  kept = λ k hk e.
      (let parts = and_parts (is_between (suc p) (s.twin p) k) (not (is_cut s level k)) e in
      let bounds = between-bounds (suc p) (s.twin p) k parts.0 in
      let end : across s level p ≡ s.twin p = across_kept s (is_up s level) p kept in
      let inner : s.twin p < s.darts = is.twin_stays p h in
      let k_kept : is_cut s level k ≡ false = not-true (is_cut s level k) parts.1 in
      let here : across s level k ≡ s.twin k = across_kept s (is_up s level) k k_kept in
      let above : p < across s level k = nested.above p k (subst (λ e. e < s.darts) (sym end) inner) (omega (arith, bounds.0)) (subst (λ e. k < e) (sym end) bounds.1) in
      let below : across s level k < across s level p = nested.below p k (subst (λ e. e < s.darts) (sym end) inner) (omega (arith, bounds.0)) (subst (λ e. k < e) (sym end) bounds.1) in
      and_from (is_between (suc p) (s.twin p) (s.twin k)) (not (is_cut s level (s.twin k)))
      (between-in (suc p) (s.twin p) (s.twin k) (subst (λ e. suc p ≤ e) here above) (subst (λ e. e < s.twin p) here (subst (λ e. across s level k < e) end below)))
      (ap not (cut_twin s (is_up s level) k is hk ∙ k_kept)));
})

-- the two darts of an edge that isn't cut have numbers that are both even or both odd
kept_even : (s : Structure) (level : ℕ → ℕ) (p : ℕ) → IsStructure s → IsWalkedInOrder s level → IsNestedBelow s.darts (across s level)
    → ((d degree : ℕ) → d < s.darts → IsCycleSize s.next d degree → degree % 2 ≡ 0) → p < s.darts → is_cut s level p ≡ false → p < s.twin p
    → (p + s.twin p) % 2 ≡ 0
kept_even s level p is walked nested even h kept less =
    let inner : s.twin p < s.darts = is.twin_stays p h in
    let stretch = even_at_vertices s (λ k. is_between (suc p) (suc (s.twin p)) k && true) is even
    (λ d hd. ap (λ b. b && true) (stretch-kept s.darts s.next (across s level) p (s.twin p) (across-involution s (is_up s level) is) nested (across_kept s (is_up s level) p kept) less inner
    (λ e he. next-across s (is_up s level) e is walked he) d hd)) in
    let parts = count_below-between (λ _. true) (suc p) (suc (s.twin p)) s.darts (omega arith) (omega arith) in
    plain p (s.twin p) (count_below (λ _. true) (suc p)) (count_below (λ _. true) (suc (s.twin p)))
    (count_below (λ k. is_between (suc p) (suc (s.twin p)) k && true) s.darts)
    (count_below-all (λ _. true) (suc p) (λ _ _. refl)) (count_below-all (λ _. true) (suc (s.twin p)) (λ _ _. refl)) parts stretch where
      plain : (p q a b c : ℕ) → a ≡ suc p → b ≡ suc q → a + c ≡ b → c % 2 ≡ 0 → (p + q) % 2 ≡ 0
      plain p q a b c e e' whole even = omega arith

-- an edge that isn't cut leads one level down from its lesser dart
pub kept-down : (s : Structure) (level : ℕ → ℕ) (p : ℕ) → IsStructure s → AreFaceLevels s level → IsWalkedInOrder s level → IsNestedBelow s.darts (across s level)
    → ((d degree : ℕ) → d < s.darts → IsCycleSize s.next d degree → degree % 2 ≡ 0) → p < s.darts → is_cut s level p ≡ false → p < s.twin p
    → level p ≡ suc (level (s.twin p))
kept-down s level p is levels walked nested even h kept less =
    let inner : s.twin p < s.darts = is.twin_stays p h in
    let keeps : ℕ → Bool = λ k. not (is_cut s level k) in
    let up : level (s.twin p) ≤ suc (level p) = levels.across p h in
    let down : level p ≤ suc (level (s.twin p)) = subst (λ d. level d ≤ suc (level (s.twin p))) (is.twin_back p h) (levels.across (s.twin p) inner) in
    plain p (s.twin p) (level p) (level (s.twin p)) (count_below keeps p) (count_below (is_cut s level) p) (count_below keeps (s.twin p)) (count_below (is_cut s level) (s.twin p))
    (count_below (λ k. is_between (suc p) (s.twin p) k && keeps k) s.darts) (keeps p)
    (ap not kept) (count_below-parts keeps (is_cut s level) p (λ k hk. refl)) (count_below-parts keeps (is_cut s level) (s.twin p) (λ k hk. refl))
    (count_below-between keeps (suc p) (s.twin p) s.darts less (omega arith)) (kept_between s level p is nested h kept)
    (kept_even s level p is walked nested even h kept less) (level-parity s level is levels walked p h) (level-parity s level is levels walked (s.twin p) inner)
    up down (kept-not_up s level p kept less) where
      plain : (p q l l' a c a' c' between : ℕ) (test : Bool) → test ≡ true → a + c ≡ p → a' + c' ≡ q → (a + cond test 1 0) + between ≡ a' → between % 2 ≡ 0
          → (p + q) % 2 ≡ 0 → (l + c) % 2 ≡ 0 → (l' + c') % 2 ≡ 0 → l' ≤ suc l → l ≤ suc l' → (l' ≡ suc l → ⊥) → l ≡ suc l'
      plain p q l l' a c a' c' between test it_is here there parts even whole at_p at_q up down flat =
          let one = cond-true {A = ℕ} test 1 0 it_is in
          omega (arith, one)
