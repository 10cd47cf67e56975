-- Pairs of a degree and a count, in rising order of the degree, that have each degree that something is counted of: there is
-- one such list, and its sum is bounded by that of all counts.
use Rattle.std.proofs.Common.{◌≡◌, ℕ, zero, suc, ◌+◌, ◌-◌, ◌*◌, ◌≤◌, ◌<◌, inl, inr, List, length, take, ap, ap₂, sym, ◌∙◌, arith, take_all, add-one}
use Rattle.std.proofs.lemmas.Bool.{cases_eq, cases_lt, cases_order}
use Rattle.std.proofs.lemmas.List.{same_lists, get_or_default}
use Rattle.std.proofs.lemmas.List.Sums.{sum_by_more}
use Rattle.pm_trees.specs.Pairs.{degree_before, degree_sum, pair_at}

-- pairs in rising order, with these counts
pub record AreCounted (count : ℕ → ℕ) (pairs : List (ℕ × ℕ)) : Type 0 where
  pub rising : (k : ℕ) → k < length pairs → degree_before pairs k < (pair_at pairs k).0
  pub some : (k : ℕ) → k < length pairs → 0 < (pair_at pairs k).1
  pub counted : (k : ℕ) → k < length pairs → (pair_at pairs k).1 ≡ count (pair_at pairs k).0
  pub all : (d : ℕ) → 0 < count d → (k : ℕ) × (k < length pairs) × ((pair_at pairs k).0 ≡ d)

-- each pair's degree is above its place
pub degree_above : (pairs : List (ℕ × ℕ)) (k : ℕ) → ((i : ℕ) → i < length pairs → degree_before pairs i < (pair_at pairs i).0) → k < length pairs → k < (pair_at pairs k).0
degree_above pairs zero r l = let a = r 0 l in omega (arith, a)
degree_above pairs (suc k) r l = let h = degree_above pairs k r (omega arith) in let a = r (suc k) l in omega (arith, h, a)

-- where the degrees below a bound, each as often as it is counted, have this total
module _ (count total : ℕ → ℕ) (total_more : (d : ℕ) → total (suc d) ≡ total d + d * count d) where
  total_grows : (d n : ℕ) → total d ≤ total (n + d)
  total_grows d zero = let e : 0 + d ≡ d = omega arith in let f = ap total e in omega (arith, f)
  total_grows d (suc n) =
      let h = total_grows d n in
      let e : suc n + d ≡ suc (n + d) = omega arith in
      let f = ap total e in
      let g = total_more (n + d) in
      omega (arith, f, g, h)

  total_up : (d e : ℕ) → d ≤ e → total d ≤ total e
  total_up d e l =
      let h = total_grows d (e - d) in
      let f : (e - d) + d ≡ e = omega arith in
      let g = ap total f in
      omega (arith, g, h)

  prefix_sum : (pairs : List (ℕ × ℕ)) (k : ℕ) → AreCounted count pairs → k ≤ length pairs → degree_sum (take k pairs) ≤ total (suc (degree_before pairs k))
  prefix_sum pairs zero a l = omega arith
  prefix_sum pairs (suc k) a l =
      let h = prefix_sum pairs k a (omega arith) in
      let m : k < length pairs = omega arith in
      let r = a.rising k m in
      let u = total_up (suc (degree_before pairs k)) (pair_at pairs k).0 (omega arith) in
      let v = total_more (pair_at pairs k).0 in
      let s = sum_by_more (λ (p : ℕ × ℕ). p.0 * p.1) pairs k (0, 0) m in
      let t = ap (λ (n : ℕ). degree_sum (take n pairs)) (add-one k) in
      let c = ap (λ (n : ℕ). (pair_at pairs k).0 * n) (a.counted k m) in
      omega (arith, h, u, v, s, t, c)

  pub sum_bounded : (pairs : List (ℕ × ℕ)) (most : ℕ) → AreCounted count pairs → ((d : ℕ) → total d ≤ most) → degree_sum pairs ≤ most
  sum_bounded pairs most a few =
      let h = prefix_sum pairs (length pairs) a (omega arith) in
      let b = few (suc (degree_before pairs (length pairs))) in
      let c = ap degree_sum (take_all (length pairs) pairs (omega arith)) in
      omega (arith, h, b, c)

-- degrees rise from pair to pair
rises : (pairs : List (ℕ × ℕ)) (i j : ℕ) → ((k : ℕ) → k < length pairs → degree_before pairs k < (pair_at pairs k).0) → i < j → j < length pairs → (pair_at pairs i).0 < (pair_at pairs j).0
rises pairs i zero r l m = absurd (omega arith)
rises pairs i (suc j) r l m =
    let a = r (suc j) m in
    elim (cases_eq i j) [
      | inl e ↦ (let f = ap (λ (k : ℕ). (pair_at pairs k).0) e in omega (arith, a, f))
      | inr n ↦ (let h = rises pairs i j r (omega arith) (omega arith) in omega (arith, a, h))
    ]

-- the pair at a place of one list is there in the other
record IsSame (one two : List (ℕ × ℕ)) (k : ℕ) : Type 0 where
  within : k < length two
  same : (pair_at one k).0 ≡ (pair_at two k).0

-- where the degrees of the pair at k are at j in the other list, and those of its pair at k are at i in the first
module _ (one two : List (ℕ × ℕ)) (k : ℕ) (rise_one : (i : ℕ) → i < length one → degree_before one i < (pair_at one i).0) (rise_two : (i : ℕ) → i < length two → degree_before two i < (pair_at two i).0)
    (before : (i : ℕ) → i < k → i < length one → IsSame one two i) (l : k < length one) where
  not_less : (j : ℕ) → (pair_at two j).0 ≡ (pair_at one k).0 → j < k → ⊥
  not_less j t less =
      let b = before j less (omega arith) in
      let s = b.same in
      let r = rises one j k rise_one less l in
      omega (arith, r, s, t)

  not_more : (i j : ℕ) → i < length one → (pair_at one i).0 ≡ (pair_at two k).0 → j < length two → (pair_at two j).0 ≡ (pair_at one k).0 → k < j → ⊥
  not_more i j n u m t more =
      let r = rises two k j rise_two more m in
      elim (cases_order i k) [
        | inl same ↦ (let v = ap (λ (x : ℕ). (pair_at one x).0) same in omega (arith, r, t, u, v))
        | inr apart ↦ elim apart [
          | inl less ↦
              let b = before i less n in
              let s = b.same in
              let v = rises two i k rise_two less (omega arith) in
              omega (arith, s, u, v)
          | inr later ↦ (let v = rises one k i rise_one later n in omega (arith, r, t, u, v))
        ]
      ]

  here_from : (j : ℕ) → j < length two → (pair_at two j).0 ≡ (pair_at one k).0 → j ≡ k → IsSame one two k
  here_from j m t e = record { within = omega arith; same = sym t ∙ ap (λ (i : ℕ). (pair_at two i).0) e }

-- the degree of each pair has a place in the other list
place_in : (count also : ℕ → ℕ) (one two : List (ℕ × ℕ)) (k : ℕ) → ((d : ℕ) → also d ≡ count d) → AreCounted count one → AreCounted also two → k < length one → (j : ℕ) × (j < length two) × ((pair_at two j).0 ≡ (pair_at one k).0)
place_in count also one two k e p q l =
    let some = p.some k l in
    let c = p.counted k l in
    let f = e (pair_at one k).0 in
    q.all (pair_at one k).0 (omega (arith, some, c, f))

same_next : (count also : ℕ → ℕ) (one two : List (ℕ × ℕ)) (k : ℕ) → ((d : ℕ) → also d ≡ count d) → AreCounted count one → AreCounted also two → ((i : ℕ) → i < k → i < length one → IsSame one two i) → k < length one → IsSame one two k
same_next count also one two k e p q before l =
    let j = place_in count also one two k e p q l in
    elim (cases_order j.0 k) [
      | inl here ↦ here_from one two k p.rising q.rising before l j.0 j.1 j.2 here
      | inr n ↦ elim n [
        | inl less ↦ absurd (not_less one two k p.rising q.rising before l j.0 j.2 less)
        | inr more ↦
            let m : k < length two = (let w = j.1 in omega (arith, more, w)) in
            let i = place_in also count two one k (λ d. sym (e d)) q p m in
            absurd (not_more one two k p.rising q.rising before l i.0 j.0 i.1 i.2 j.1 j.2 more)
      ]
    ]

same_upto : (count also : ℕ → ℕ) (one two : List (ℕ × ℕ)) (k : ℕ) → ((d : ℕ) → also d ≡ count d) → AreCounted count one → AreCounted also two → (i : ℕ) → i < k → i < length one → IsSame one two i
same_upto count also one two zero e p q i l m = absurd (omega arith)
same_upto count also one two (suc k) e p q i l m =
    elim (cases_lt i k) [
      | inl less ↦ same_upto count also one two k e p q i less m
      | inr ge ↦ same_next count also one two i e p q (λ j n o. same_upto count also one two k e p q j (omega arith) o) m
    ]

same_at : (count also : ℕ → ℕ) (one two : List (ℕ × ℕ)) (k : ℕ) → ((d : ℕ) → also d ≡ count d) → AreCounted count one → AreCounted also two → k < length one → IsSame one two k
same_at count also one two k e p q l = same_upto count also one two (suc k) e p q k (omega arith) l

not_longer : (count also : ℕ → ℕ) (one two : List (ℕ × ℕ)) → ((d : ℕ) → also d ≡ count d) → AreCounted count one → AreCounted also two → length one ≤ length two
not_longer count also one two e p q =
    elim (cases_lt (length two) (length one)) [
      | inl l ↦ absurd (let s = same_at count also one two (length two) e p q l in let w = s.within in omega (arith, w))
      | inr g ↦ g
    ]

pair_same : (p q : ℕ × ℕ) → p.0 ≡ q.0 → p.1 ≡ q.1 → p ≡ q
pair_same p q e f = ap₂ (λ (x y : ℕ). (x, y)) e f

-- there is one such list
pub one_counted : (count also : ℕ → ℕ) (one two : List (ℕ × ℕ)) → ((d : ℕ) → also d ≡ count d) → AreCounted count one → AreCounted also two → one ≡ two
one_counted count also one two e p q =
    let a = not_longer count also one two e p q in
    let b = not_longer also count two one (λ d. sym (e d)) q p in
    same_lists one two (omega (arith, a, b)) (λ k d l.
    let s = same_at count also one two k e p q l in
    let c = p.counted k l in
    let f = q.counted k s.within in
    let g = e (pair_at two k).0 in
    let h = ap count s.same in
    get_or_default one k d (0, 0) l ∙ pair_same (pair_at one k) (pair_at two k) s.same (c ∙ h ∙ sym g ∙ sym f) ∙ get_or_default two k (0, 0) d s.within)
