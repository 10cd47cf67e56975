-- Counts of the darts that go out: over whole edges half of all, over whole vertices the sum of the out-degrees.
use Rattle.std.proofs.Common.{◌≡◌, ℕ, ◌*◌, ◌<◌, ◌≤◌, ◌&&◌, ◌⊎◌, inl, inr, Bool, true, false, not, cond, eqb, refl, sym, ap, ◌∙◌, arith}
use Rattle.std.proofs.lemmas.Bool.{and_parts, and_from}
use Rattle.pm_perm.specs.Count.{count_below}
use Rattle.pm_perm.specs.Cycles.{leader}
use Rattle.pm_perm.proofs.Counts.{count_below-split, count_below-into}
use Rattle.pm_perm.proofs.LeaderMaps.{IsLeaderMap, leader-map}
use Rattle.pm_perm.proofs.Sums.{sum_below, sum_below-same, count_below-sum, led_sum, led_sum-is, chosen, chosen-is, sums_by_cycles}
use Rattle.pm_map.specs.Structure.{Structure, IsStructure}
use Rattle.pm_led.specs.Orientation.{IsOrientation, HaveSameDegrees}

-- what passes here passes there at the twin, so it is no more
no_more : (s : Structure) (here there : ℕ → Bool) → IsStructure s → ((k : ℕ) → k < s.darts → here k ≡ true → there (s.twin k) ≡ true)
    → count_below here s.darts ≤ count_below there s.darts
no_more s here there is goes =
    count_below-into here there s.twin s.darts s.darts (λ k l e. is.twin_stays k l) goes
    (λ j k l m e f same. sym (is.twin_back j l) ∙ ap s.twin same ∙ is.twin_back k m)

-- of whole edges half the darts go out
pub half_out : (s : Structure) (test out : ℕ → Bool) → IsStructure s → IsOrientation s out → ((k : ℕ) → k < s.darts → test k ≡ true → test (s.twin k) ≡ true)
    → 2 * count_below (λ k. test k && out k) s.darts ≡ count_below test s.darts
half_out s test out is oriented whole =
    let parts = count_below-split (λ k. test k && out k) (λ k. test k && not (out k)) test s.darts (λ k l. parted (test k) (out k)) in
    let up = no_more s (λ k. test k && out k) (λ k. test k && not (out k)) is (λ k l e.
    let both = and_parts (test k) (out k) e in
    and_from (test (s.twin k)) (not (out (s.twin k))) (whole k l both.0) (ap not (oriented.one_out k l ∙ ap not both.1))) in
    let down = no_more s (λ k. test k && not (out k)) (λ k. test k && out k) is (λ k l e.
    let both = and_parts (test k) (not (out k)) e in
    and_from (test (s.twin k)) (out (s.twin k)) (whole k l both.0) (oriented.one_out k l ∙ both.1)) in
    omega (arith, parts, up, down) where
      parted : (x y : Bool) → ((x && y ≡ x) × (x && not y ≡ false)) ⊎ ((x && y ≡ false) × (x && not y ≡ x))
      parted true true = inl (refl, refl)
      parted true false = inr (refl, refl)
      parted false y = inl (refl, refl)

-- so by two orientations as many
pub as_many_out : (s : Structure) (test out other : ℕ → Bool) → IsStructure s → IsOrientation s out → IsOrientation s other
    → ((k : ℕ) → k < s.darts → test k ≡ true → test (s.twin k) ≡ true)
    → count_below (λ k. test k && out k) s.darts ≡ count_below (λ k. test k && other k) s.darts
as_many_out s test out other is one two whole = omega (arith, half_out s test out is one whole, half_out s test other is two whole)

-- one where it holds
abbrev pub one_if : Bool → ℕ
one_if b = cond b 1 0

one_if_both : (x y : Bool) → one_if (x && y) ≡ cond x (one_if y) 0
one_if_both true y = refl
one_if_both false y = refl

-- of whole vertices as many darts go out, where the out-degrees are the same
pub vertices_out : (s : Structure) (passes out other : ℕ → Bool) → IsStructure s → HaveSameDegrees s out other
    → ((k : ℕ) → k < s.darts → passes (leader s.darts s.next k) ≡ passes k)
    → count_below (λ k. passes k && out k) s.darts ≡ count_below (λ k. passes k && other k) s.darts
vertices_out s passes out other is same whole =
    counted out ∙ sums_by_cycles s.darts (leader s.darts s.next) passes (λ k. one_if (out k)) (λ k. one_if (other k))
    (record { inside = λ k l. omega (arith, l, leads.least k l); twice = leads.joins (leader s.darts s.next) (record { along = leads.along }); kept = whole })
    (λ m l own _. led out m own ∙ sym (same.degrees m l) ∙ sym (led other m own))
    ∙ sym (counted other) where
      leads : IsLeaderMap s.darts s.next (leader s.darts s.next)
      leads = leader-map s.darts s.next is.rotation

      counted : (f : ℕ → Bool) → count_below (λ k. passes k && f k) s.darts ≡ sum_below (chosen passes (λ k. one_if (f k))) s.darts
      counted f =
          count_below-sum (λ k. passes k && f k) s.darts
          ∙ sum_below-same (λ k. one_if (passes k && f k)) (chosen passes (λ k. one_if (f k))) s.darts (λ k l. one_if_both (passes k) (f k) ∙ sym (chosen-is passes (λ j. one_if (f j)) k))

      led : (f : ℕ → Bool) (m : ℕ) → leader s.darts s.next m ≡ m → led_sum s.darts (leader s.darts s.next) (λ k. one_if (f k)) m
          ≡ count_below (λ k. eqb (leader s.darts s.next k) (leader s.darts s.next m) && f k) s.darts
      led f m own =
          led_sum-is s.darts (leader s.darts s.next) (λ k. one_if (f k)) m
          ∙ sum_below-same (λ k. cond (eqb (leader s.darts s.next k) m) (one_if (f k)) 0) (λ k. one_if (eqb (leader s.darts s.next k) (leader s.darts s.next m) && f k)) s.darts
          (λ k l. ap (λ x. cond (eqb (leader s.darts s.next k) x) (one_if (f k)) 0) (sym own) ∙ sym (one_if_both (eqb (leader s.darts s.next k) (leader s.darts s.next m)) (f k)))
          ∙ sym (count_below-sum (λ k. eqb (leader s.darts s.next k) (leader s.darts s.next m) && f k) s.darts)
