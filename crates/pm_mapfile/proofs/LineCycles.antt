-- The rotation of the lines has one cycle for each line.
use Rattle.std.proofs.Common.{◌≡◌, ℕ, zero, suc, ◌+◌, ◌-◌, ◌<◌, ◌≤◌, inl, inr, Bool, cond, eqb, List, [], ◌∷◌, length, take, drop, get_or, slice_index, refl, sym, ap, subst, ◌∙◌, ltb, nat_eq, arith, length-take-le}
use Rattle.std.specs.Prelude.{All, sum}
use Rattle.std.proofs.lemmas.Bool.{cases_eq, cases_lt}
use Rattle.std.proofs.lemmas.List.{get_or_append_left, get_or-append_right, get_or_push, get_or-take, get_or-drop}
use Rattle.std.proofs.lemmas.List.Elements.{All-head, All-tail}
use Rattle.pm_perm.specs.Count.{count_below}
use Rattle.pm_perm.specs.Permutation.{IsPermutationBelow, IsPermutationList}
use Rattle.pm_perm.specs.Cycles.{cycles}
use Rattle.pm_perm.proofs.Counts.{count_below-same, count_below-add, count_below-zero}
use Rattle.pm_perm.proofs.InverseLemmas.{standing_permutes, place_of, place_of-permutes, value-place_of}
use Rattle.pm_perm.proofs.LeaderMaps.{IsLeaderMap, cycles-count}
use Rattle.pm_perm.proofs.Renumbered.{cycles-carried}
use Rattle.pm_map.specs.Rotation.{structure_of}
use Rattle.pm_map.specs.Plane.{vertices}
use Rattle.pm_mapfile.specs.steps.Rotation.{turned, turned_lines, AreSizes, CarriesOn, vertices_of_lines}
use Rattle.pm_mapfile.proofs.RotationLemmas.{length-turned, sum-cons, sizes_left}
use Rattle.pm_mapfile.proofs.LinesLemmas.{carried_stand, carries_places}

-- the place after this one around its line, where lines of these sizes stand one after another
abbrev next_place : List ℕ → ℕ → ℕ
next_place [] k = k
next_place (size ∷ sizes) k = cond (ltb (suc k) size) (suc k) (cond (ltb k size) 0 (size + next_place sizes (k - size)))

-- the first place of its line
abbrev first_place : List ℕ → ℕ → ℕ
first_place [] k = k
first_place (size ∷ sizes) k = cond (ltb k size) 0 (size + first_place sizes (k - size))

next_inner : (size : ℕ) (sizes : List ℕ) (k : ℕ) → suc k < size → next_place (size ∷ sizes) k ≡ suc k
next_inner size sizes k h = grind arith

next_last : (size : ℕ) (sizes : List ℕ) (k : ℕ) → suc k ≡ size → next_place (size ∷ sizes) k ≡ 0
next_last size sizes k h = grind arith

next_later : (size : ℕ) (sizes : List ℕ) (k : ℕ) → size ≤ k → next_place (size ∷ sizes) k ≡ size + next_place sizes (k - size)
next_later size sizes k h = grind arith

first_here : (size : ℕ) (sizes : List ℕ) (k : ℕ) → k < size → first_place (size ∷ sizes) k ≡ 0
first_here size sizes k h = grind arith

first_later : (size : ℕ) (sizes : List ℕ) (k : ℕ) → size ≤ k → first_place (size ∷ sizes) k ≡ size + first_place sizes (k - size)
first_later size sizes k h = grind arith

-- a place is before the end of the first line, at that end, or past it
data PlaceCase (size k : ℕ) : Type 0 where
  inside : suc k < size → PlaceCase size k
  at_end : suc k ≡ size → PlaceCase size k
  past : size ≤ k → PlaceCase size k

place_case : (size k : ℕ) → PlaceCase size k
place_case size k = elim (cases_lt (suc k) size) [
  | inl h ↦ inside h
  | inr h ↦ elim (cases_eq (suc k) size) [ inl e ↦ at_end e | inr ne ↦ past (omega (arith, h, ne)) ]
]

next_stays : (sizes : List ℕ) (k : ℕ) → k < sum sizes → next_place sizes k < sum sizes
next_stays [] k h = h
next_stays (size ∷ sizes) k h = elim (place_case size k) [
  | inside i ↦ omega (arith, next_inner size sizes k i, sum-cons size sizes, i)
  | at_end e ↦ omega (arith, next_last size sizes k e, sum-cons size sizes, h)
  | past l ↦ omega (arith, next_later size sizes k l, next_stays sizes (k - size) (omega (arith, h, l, sum-cons size sizes)), sum-cons size sizes)
]

next_injective : (sizes : List ℕ) (j k : ℕ) → j < sum sizes → k < sum sizes → next_place sizes j ≡ next_place sizes k → j ≡ k
next_injective [] j k hj hk e = e
next_injective (size ∷ sizes) j k hj hk e = elim (place_case size j) [
  | inside i ↦ elim (place_case size k) [
    | inside i' ↦ omega (arith, next_inner size sizes j i, next_inner size sizes k i', e)
    | at_end l' ↦ omega (arith, next_inner size sizes j i, next_last size sizes k l', e)
    | past m' ↦ omega (arith, next_inner size sizes j i, next_later size sizes k m', e, i)
  ]
  | at_end l ↦ elim (place_case size k) [
    | inside i' ↦ omega (arith, next_last size sizes j l, next_inner size sizes k i', e)
    | at_end l' ↦ omega (arith, l, l')
    | past m' ↦ omega (arith, next_last size sizes j l, next_later size sizes k m', e, l)
  ]
  | past m ↦ elim (place_case size k) [
    | inside i' ↦ omega (arith, next_later size sizes j m, next_inner size sizes k i', e, i')
    | at_end l' ↦ omega (arith, next_later size sizes j m, next_last size sizes k l', e, l')
    | past m' ↦
        let rest : j - size ≡ k - size = next_injective sizes (j - size) (k - size) (omega (arith, hj, m, sum-cons size sizes)) (omega (arith, hk, m', sum-cons size sizes))
        (omega (arith, next_later size sizes j m, next_later size sizes k m', e)) in
        omega (arith, rest, m, m')
  ]
]

first_least : (sizes : List ℕ) (k : ℕ) → first_place sizes k ≤ k
first_least [] k = omega arith
first_least (size ∷ sizes) k = elim (cases_lt k size) [
  | inl h ↦ omega (arith, first_here size sizes k h)
  | inr h ↦ omega (arith, first_later size sizes k h, first_least sizes (k - size), h)
]

first_along : (sizes : List ℕ) (k : ℕ) → first_place sizes (next_place sizes k) ≡ first_place sizes k
first_along [] k = refl
first_along (size ∷ sizes) k = elim (place_case size k) [
  | inside i ↦ ap (first_place (size ∷ sizes)) (next_inner size sizes k i) ∙ first_here size sizes (suc k) i ∙ sym (first_here size sizes k (omega (arith, i)))
  | at_end e ↦ ap (first_place (size ∷ sizes)) (next_last size sizes k e) ∙ first_here size sizes 0 (omega (arith, e)) ∙ sym (first_here size sizes k (omega (arith, e)))
  | past l ↦
      let there : ℕ = size + next_place sizes (k - size) in
      let back : there - size ≡ next_place sizes (k - size) = omega arith in
      ap (first_place (size ∷ sizes)) (next_later size sizes k l) ∙ first_later size sizes there (omega arith)
      ∙ ap (λ x. size + first_place sizes x) back ∙ ap (λ x. size + x) (first_along sizes (k - size)) ∙ sym (first_later size sizes k l)
]

first_joins : (sizes : List ℕ) (value : ℕ → ℕ) → ((k : ℕ) → k < sum sizes → value (next_place sizes k) ≡ value k) → (k : ℕ) → k < sum sizes → value (first_place sizes k) ≡ value k
first_joins [] value kept k h = refl
first_joins (size ∷ sizes) value kept k h = elim (cases_lt k size) [
  | inl here ↦ ap value (first_here size sizes k here) ∙ on_line k here
  | inr later ↦
      let rest : value (size + first_place sizes (k - size)) ≡ value (size + (k - size)) =
      first_joins sizes (λ i. value (size + i)) kept_later (k - size) (omega (arith, h, later, sum-cons size sizes)) in
      let back : size + (k - size) ≡ k = omega (arith, later) in
      ap value (first_later size sizes k later) ∙ rest ∙ ap value back
] where
  on_line : (k : ℕ) → k < size → value 0 ≡ value k
  on_line zero here = refl
  on_line (suc k) here = on_line k (omega arith) ∙ sym (kept k (omega (arith, here, sum-cons size sizes))) ∙ ap value (next_inner size sizes k here)

  kept_later : (i : ℕ) → i < sum sizes → value (size + next_place sizes i) ≡ value (size + i)
  kept_later i hi =
      let back : size + i - size ≡ i = omega arith in
      sym (ap (λ x. value (size + next_place sizes x)) back) ∙ sym (ap value (next_later size sizes (size + i) (omega arith))) ∙ kept (size + i) (omega (arith, hi, sum-cons size sizes))

first_is_leader_map : (sizes : List ℕ) → IsLeaderMap (sum sizes) (next_place sizes) (first_place sizes)
first_is_leader_map sizes = record {
  least = λ k h. first_least sizes k;
  along = λ k h. first_along sizes k;
  joins = λ value kept k h. first_joins sizes value kept.along k h;
}

-- there are as many first places as lines
firsts_counted : (sizes : List ℕ) → All (λ size. 0 < size) sizes → count_below (λ d. eqb (first_place sizes d) d) (sum sizes) ≡ length sizes
firsts_counted [] some = refl
firsts_counted (size ∷ sizes) some =
    let P : ℕ → Bool = λ d. eqb (first_place (size ∷ sizes) d) d in
    let here : count_below P size ≡ 1 =
    count_below-same P (λ d. eqb 0 d) size (λ k h. ap (λ x. eqb x k) (first_here size sizes k h)) ∙ count_below-zero size (All-head (λ size. 0 < size) size sizes some) in
    let rest : count_below (λ k. P (size + k)) (sum sizes) ≡ length sizes =
    count_below-same (λ k. P (size + k)) (λ k. eqb (first_place sizes k) k) (sum sizes) (λ k h. shifted k) ∙ firsts_counted sizes (All-tail (λ size. 0 < size) size sizes some) in
    ap (count_below P) (sum-cons size sizes) ∙ count_below-add P size (sum sizes) ∙ omega (arith, here, rest) where
      same_eqb : (a x y : ℕ) → eqb (a + x) (a + y) ≡ eqb x y
      same_eqb a x y = grind arith

      shifted : (k : ℕ) → eqb (first_place (size ∷ sizes) (size + k)) (size + k) ≡ eqb (first_place sizes k) k
      shifted k =
          let back : size + k - size ≡ k = omega arith in
          ap (λ x. eqb x (size + k)) (first_later size sizes (size + k) (omega arith) ∙ ap (λ x. size + first_place sizes x) back) ∙ same_eqb size (first_place sizes k) k

-- what stands at a place of a line that is turned
turned_inner : (x : ℕ) (xs : List ℕ) (n k : ℕ) → k < n → n ≤ length xs → get_or (turned (take (suc n) (x ∷ xs))) k 0 ≡ get_or (x ∷ xs) (suc k) 0
turned_inner x xs n k h fits = get_or_append_left (take n xs) (x ∷ []) 0 k (omega (arith, h, length-take-le n xs fits)) ∙ get_or-take n xs k 0 h

turned_last : (x : ℕ) (xs : List ℕ) (n : ℕ) → n ≤ length xs → get_or (turned (take (suc n) (x ∷ xs))) n 0 ≡ x
turned_last x xs n fits = get_or_push (take n xs) x 0 n (length-take-le n xs fits)

turned_at : (size : ℕ) (darts : List ℕ) (k : ℕ) → suc k ≤ size → size ≤ length darts → get_or (turned (take size darts)) k 0 ≡ get_or darts (cond (ltb (suc k) size) (suc k) 0) 0
turned_at zero darts k h fits = absurd (omega arith)
turned_at (suc n) [] k h fits = absurd (omega arith)
turned_at (suc n) (x ∷ xs) k h fits = elim (cases_lt (suc k) (suc n)) [
  | inl inner ↦ turned_inner x xs n k (omega (arith, inner)) (omega (arith, fits)) ∙ ap (λ i. get_or (x ∷ xs) i 0) (sym (chosen inner))
  | inr outer ↦
      let end : k ≡ n = omega (arith, outer, h) in
      ap (λ i. get_or (turned (take (suc n) (x ∷ xs))) i 0) end ∙ turned_last x xs n (omega (arith, fits)) ∙ ap (λ i. get_or (x ∷ xs) i 0) (sym (other outer))
] where
  chosen : suc k < suc n → cond (ltb (suc k) (suc n)) (suc k) 0 ≡ suc k
  chosen inner = grind arith

  other : suc n ≤ suc k → cond (ltb (suc k) (suc n)) (suc k) 0 ≡ 0
  other outer = grind arith

-- what stands at a place of the lines that are turned is what stands at the next place around the line
turned_lines_at : (sizes darts : List ℕ) (k : ℕ) → AreSizes sizes (length darts) → k < sum sizes → get_or (turned_lines sizes darts) k 0 ≡ get_or darts (next_place sizes k) 0
turned_lines_at [] darts k are h = absurd (omega (arith, h))
turned_lines_at (size ∷ sizes) darts k are h =
    let total : size + sum sizes ≡ length darts = sym (sum-cons size sizes) ∙ are.total in
    let line : List ℕ = turned (take size darts) in
    let long : length line ≡ size = length-turned (take size darts) ∙ length-take-le size darts (omega (arith, total)) in
    elim (cases_lt k size) [
      | inl here ↦
          get_or_append_left line (turned_lines sizes (drop size darts)) 0 k (omega (arith, here, long))
          ∙ turned_at size darts k (omega (arith, here)) (omega (arith, total)) ∙ ap (λ i. get_or darts i 0) (sym (chosen size sizes k here))
      | inr later ↦
          get_or-append_right line (turned_lines sizes (drop size darts)) size k 0 long later
          ∙ turned_lines_at sizes (drop size darts) (k - size) (sizes_left size sizes darts are) (omega (arith, h, later, sum-cons size sizes))
          ∙ get_or-drop size darts (next_place sizes (k - size)) 0 ∙ ap (λ i. get_or darts i 0) (sym (next_later size sizes k later))
    ] where
      chosen : (size : ℕ) (sizes : List ℕ) (k : ℕ) → k < size → next_place (size ∷ sizes) k ≡ cond (ltb (suc k) size) (suc k) 0
      chosen size sizes k here = grind arith

-- the places of the lines, carried to the darts that stand there
record IsCarriedLines (darts sizes sigma : List ℕ) : Type 0 where
  size : length sigma ≡ sum sizes
  places : IsPermutationBelow (sum sizes) (next_place sizes)
  darts_permute : IsPermutationBelow (sum sizes) (slice_index darts)
  carries : (k : ℕ) → k < sum sizes → slice_index darts (next_place sizes k) ≡ slice_index sigma (slice_index darts k)

carried_lines : (darts sizes sigma : List ℕ) → AreSizes sizes (length darts) → CarriesOn darts (turned_lines sizes darts) sigma → IsCarriedLines darts sizes sigma
carried_lines darts sizes sigma are on =
    let total : sum sizes ≡ length darts = are.total in
    let permutes : IsPermutationList darts = standing_permutes darts (carried_stand darts (turned_lines sizes darts) sigma on) in
    record {
      size = on.size ∙ sym total;
      places = record { stays = λ k h. next_stays sizes k h; injective = λ j k hj hk e. next_injective sizes j k hj hk e };
      darts_permute = subst (λ n. IsPermutationBelow n (slice_index darts)) (sym total) permutes;
      carries = λ k h. sym (turned_lines_at sizes darts k are h) ∙ sym (carries_places darts (turned_lines sizes darts) sigma on k (omega (arith, h, total)));
    }

-- the rotation of the lines is a permutation
pub lines_permute : (darts sizes sigma : List ℕ) → AreSizes sizes (length darts) → CarriesOn darts (turned_lines sizes darts) sigma → IsPermutationList sigma
lines_permute darts sizes sigma are on =
    let c : IsCarriedLines darts sizes sigma = carried_lines darts sizes sigma are on in
    subst (λ n. IsPermutationBelow n (slice_index sigma)) (sym c.size) (carried_permutes (sum sizes) (slice_index darts) (next_place sizes) (slice_index sigma) c.darts_permute c.places c.carries) where
      -- what a permutation carries to, is one
      carried_permutes : (n : ℕ) (p f g : ℕ → ℕ) → IsPermutationBelow n p → IsPermutationBelow n f → ((k : ℕ) → k < n → p (f k) ≡ g (p k)) → IsPermutationBelow n g
      carried_permutes n p f g pp pf carries =
          let q : ℕ → ℕ = place_of p n in
          let pq : IsPermutationBelow n (place_of p n) = place_of-permutes p n pp in
          let through : (k : ℕ) → k < n → g k ≡ p (f (place_of p n k)) = λ k h. sym (carries (place_of p n k) (pq.stays k h) ∙ ap g (value-place_of p n k pp h)) in
          record {
            stays = λ k h. (let inside : p (f (place_of p n k)) < n = pp.stays (f (place_of p n k)) (pf.stays (place_of p n k) (pq.stays k h)) in omega (arith, inside, through k h));
            injective = λ j k hj hk e. pq.injective j k hj hk (pf.injective (place_of p n j) (place_of p n k) (pq.stays j hj) (pq.stays k hk)
                (pp.injective (f (place_of p n j)) (f (place_of p n k)) (pf.stays (place_of p n j) (pq.stays j hj)) (pf.stays (place_of p n k) (pq.stays k hk)) (sym (through j hj) ∙ e ∙ through k hk)));
          }

-- it has one cycle for each line
pub lines_counted : (darts sizes sigma : List ℕ) → AreSizes sizes (length darts) → CarriesOn darts (turned_lines sizes darts) sigma → cycles (length sigma) (slice_index sigma) ≡ length sizes
lines_counted darts sizes sigma are on =
    let c : IsCarriedLines darts sizes sigma = carried_lines darts sizes sigma are on in
    let turns : IsPermutationBelow (sum sizes) (slice_index sigma) = subst (λ n. IsPermutationBelow n (slice_index sigma)) c.size (lines_permute darts sizes sigma are on) in
    ap (λ n. cycles n (slice_index sigma)) c.size
    ∙ sym (cycles-carried (sum sizes) (slice_index darts) (next_place sizes) (slice_index sigma) c.darts_permute c.places turns c.carries)
    ∙ cycles-count (sum sizes) (next_place sizes) (first_place sizes) c.places (first_is_leader_map sizes) ∙ firsts_counted sizes are.some

-- the lines tell as many vertices as the rotation has
pub lines_are_vertices : (darts sizes sigma : List ℕ) (root : ℕ) → AreSizes sizes (length darts) → CarriesOn darts (turned_lines sizes darts) sigma
    → vertices_of_lines sizes ≡ vertices (structure_of (record { sigma = sigma; root = root }))
lines_are_vertices darts sizes sigma root are on =
    counted sizes (length sigma) (cycles (length sigma) (slice_index sigma)) are.some (on.size ∙ sym are.total) (lines_counted darts sizes sigma are on) where
      none : (n c : ℕ) → n ≡ 0 → 1 ≡ cond (nat_eq n 0) 1 c
      none n c e = grind arith

      some : (n c k : ℕ) → 0 < n → c ≡ k → k ≡ cond (nat_eq n 0) 1 c
      some n c k h e = grind arith

      counted : (sizes : List ℕ) (n c : ℕ) → All (λ size. 0 < size) sizes → n ≡ sum sizes → c ≡ length sizes → vertices_of_lines sizes ≡ cond (nat_eq n 0) 1 c
      counted [] n c each total e = none n c total
      counted (size ∷ sizes) n c each total e = some n c (length (size ∷ sizes)) (omega (arith, total, sum-cons size sizes, All-head (λ size. 0 < size) size sizes each)) e

sizes_under : (sizes : List ℕ) → All (λ size. 0 < size) sizes → length sizes ≤ sum sizes
sizes_under [] each = omega arith
sizes_under (size ∷ sizes) each =
    omega (arith, sum-cons size sizes, All-head (λ size. 0 < size) size sizes each, sizes_under sizes (All-tail (λ size. 0 < size) size sizes each))

-- there are at most as many lines as darts
pub lines_within : (darts sizes : List ℕ) → AreSizes sizes (length darts) → length sizes ≤ length darts
lines_within darts sizes are = omega (arith, are.total, sizes_under sizes are.some)
