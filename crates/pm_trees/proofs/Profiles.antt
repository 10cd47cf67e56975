-- The profile of a tree: it is one, and there is no other.
use Rattle.std.proofs.Common.{◌≡◌, ℕ, zero, suc, ◌+◌, ◌*◌, ◌≤◌, ◌<◌, cond, ltb, inl, inr, List, [], ◌∷◌, length, refl, ap, ap₂, sym, ◌∙◌, subst, arith, length-append, eq-eqb, ne_eqb}
use Rattle.std.proofs.lemmas.Bool.{cases_eq, cases_lt, cases_order, lt-ltb, le-ltb}
use Rattle.std.proofs.Math.Nat.{mul-add}
use Rattle.pm_limits.specs.declared.TheConstants.{MAX_EDGES}
use Rattle.pm_trees.specs.declared.letters.TheConstants.{LEAF, BUD}
use Rattle.pm_brackets.specs.declared.letters.TheConstants.{OPEN, CLOSE}
use Rattle.pm_trees.specs.Word.{contour}
use Rattle.pm_trees.specs.Node.{own_letters}
use Rattle.pm_trees.specs.Blossoming.{IsBlossoming}
use Rattle.pm_trees.specs.Pairs.{IsProfile, edges_of, pair_at}
use Rattle.pm_trees.specs.Degrees.{AreListed, IsProfileOf, nodes_before, nodes_of}
use Rattle.pm_trees.specs.steps.Counts.{AreCounts}
use Rattle.pm_trees.specs.Replanting.{ProfileIsKept, ProfileIsUnique}
use Rattle.pm_trees.proofs.CountedPairs.{AreCounted, sum_bounded, one_counted}
use Rattle.pm_brackets.proofs.Tally.{tally}
use Rattle.pm_trees.proofs.Own.{own_length, other_here}
use Rattle.pm_brackets.proofs.Dyck.{IsDyck}
use Rattle.pm_brackets.proofs.Dyck.IsDyck.{empty, letter, bracket}
use Rattle.pm_trees.proofs.Weights.{value, value_is, inner, inner-nil, inner_open, inner_other, inner_of_bracket, own_bracket, weight, weight_is}
use Rattle.pm_trees.proofs.Rings.{of_degree, of_degree_is, nodes_weight}
use Rattle.pm_brackets.proofs.Rings.{ring_dyck}
use Rattle.pm_trees.proofs.FourLetters.{leaf_is_other}
use Rattle.pm_trees.proofs.Tables.{come_some, come_start, degree_within, has_some, node_from}

-- the degrees of all nodes are as many as the places
plain : ℕ → ℕ → ℕ
plain n b = n

plain_is : (n b : ℕ) → plain n b ≡ n
unfolding plain
plain_is n b = refl

plain_inner : (xs : List ℕ) → IsDyck xs → inner plain xs + length (own_letters 0 xs) ≡ length xs
plain_inner _ empty = let a = inner-nil plain in omega (arith, a)
plain_inner _ (letter x xs o d) =
    let h = plain_inner xs d in
    let a = inner_other plain x xs o.not_open in
    let b = ap length (other_here x xs o) in
    omega (arith, h, a, b)
plain_inner _ (bracket xs ys d e) =
    let h = plain_inner xs d in
    let i = plain_inner ys e in
    let a = inner_of_bracket plain xs ys d in
    let b = ap length (own_bracket xs ys d) in
    let c = value_is plain 1 xs in
    let f = plain_is (1 + length (own_letters 0 xs)) (tally BUD (own_letters 0 xs)) in
    let g = length-append xs (CLOSE ∷ ys) in
    omega (arith, h, i, a, b, c, f, g)

plain_weight : (xs : List ℕ) → IsDyck xs → weight plain xs ≡ length xs
plain_weight xs d =
    let h = plain_inner xs d in
    let a = weight_is plain xs in
    let b = value_is plain 0 xs in
    let c = plain_is (0 + length (own_letters 0 xs)) (tally BUD (own_letters 0 xs)) in
    omega (arith, h, a, b, c)

-- sums over nodes of sums
module _ (f g h : ℕ → ℕ → ℕ) (c : ℕ) (same : (n b : ℕ) → f n b ≡ g n b + c * h n b) where
  value_sum : (more : ℕ) (xs : List ℕ) → value f more xs ≡ value g more xs + c * value h more xs
  value_sum more xs =
      let n : ℕ = more + length (own_letters 0 xs) in
      let b : ℕ = tally BUD (own_letters 0 xs) in
      value_is f more xs ∙ same (more + length (own_letters 0 xs)) (tally BUD (own_letters 0 xs))
      ∙ sym (ap₂ (λ (i j : ℕ). i + c * j) (value_is g more xs) (value_is h more xs))

  inner_sum : (xs : List ℕ) → inner f xs ≡ inner g xs + c * inner h xs
  inner_sum [] =
      let i = inner-nil f in
      let j = inner-nil g in
      let k = ap (λ (m : ℕ). c * m) (inner-nil h) in
      omega (arith, i, j, k)
  inner_sum (x ∷ xs) =
      let rest = inner_sum xs in
      elim (cases_eq x OPEN) [
        | inl e ↦
            let i = inner_open f x xs e in
            let j = inner_open g x xs e in
            let k = ap (λ (m : ℕ). c * m) (inner_open h x xs e) ∙ mul-add c (value h 1 xs) (inner h xs) in
            let v = value_sum 1 xs in
            omega (arith, rest, i, j, k, v)
        | inr n ↦
            let i = inner_other f x xs n in
            let j = inner_other g x xs n in
            let k = ap (λ (m : ℕ). c * m) (inner_other h x xs n) in
            omega (arith, rest, i, j, k)
      ]

  weight_sum : (xs : List ℕ) → weight f xs ≡ weight g xs + c * weight h xs
  weight_sum xs =
      let i = weight_is f xs in
      let j = weight_is g xs in
      let k = ap (λ (m : ℕ). c * m) (weight_is h xs) ∙ mul-add c (value h 0 xs) (inner h xs) in
      let v = value_sum 0 xs in
      let w = inner_sum xs in
      omega (arith, i, j, k, v, w)

module _ (f g : ℕ → ℕ → ℕ) (less : (n b : ℕ) → f n b ≤ g n b) where
  value-le : (more : ℕ) (xs : List ℕ) → value f more xs ≤ value g more xs
  value-le more xs =
      let a = value_is f more xs in
      let b = value_is g more xs in
      let c = less (more + length (own_letters 0 xs)) (tally BUD (own_letters 0 xs)) in
      omega (arith, a, b, c)

  inner-le : (xs : List ℕ) → inner f xs ≤ inner g xs
  inner-le [] = let a = inner-nil f in omega (arith, a)
  inner-le (x ∷ xs) =
      let rest = inner-le xs in
      elim (cases_eq x OPEN) [
        | inl e ↦ (let a = inner_open f x xs e in let b = inner_open g x xs e in let c = value-le 1 xs in omega (arith, rest, a, b, c))
        | inr n ↦ (let a = inner_other f x xs n in let b = inner_other g x xs n in omega (arith, rest, a, b))
      ]

  weight-le : (xs : List ℕ) → weight f xs ≤ weight g xs
  weight-le xs =
      let a = weight_is f xs in
      let b = weight_is g xs in
      let c = value-le 0 xs in
      let d = inner-le xs in
      omega (arith, a, b, c, d)

-- the degrees below a bound
below : ℕ → ℕ → ℕ → ℕ
below d n b = cond (ltb n d) n 0

below_yes : (d n b : ℕ) → n < d → below d n b ≡ n
unfolding below
below_yes d n b l = rw (lt-ltb n d l) refl

below_no : (d n b : ℕ) → d ≤ n → below d n b ≡ 0
unfolding below
below_no d n b l = rw (le-ltb n d l) refl

of_yes : (d n b : ℕ) → n ≡ d → of_degree d n b ≡ 1
of_yes d n b e = of_degree_is d n b ∙ rw (eq-eqb n d e) refl

of_no : (d n b : ℕ) → (n ≡ d → ⊥) → of_degree d n b ≡ 0
of_no d n b m = of_degree_is d n b ∙ rw (ne_eqb n d m) refl

times_one : (d x : ℕ) → x ≡ 1 → d * x ≡ d
times_one d x e = ap (λ (m : ℕ). d * m) e ∙ omega arith

times_none : (d x : ℕ) → x ≡ 0 → d * x ≡ 0
times_none d x e = ap (λ (m : ℕ). d * m) e ∙ omega arith

below_more : (d n b : ℕ) → below (suc d) n b ≡ below d n b + d * of_degree d n b
below_more d n b =
    elim (cases_order n d) [
      | inl e ↦
          let x = below_yes (suc d) n b (omega arith) in
          let y = below_no d n b (omega arith) in
          let z = times_one d (of_degree d n b) (of_yes d n b e) in
          omega (arith, x, y, z, e)
      | inr ne ↦
          let z = times_none d (of_degree d n b) (of_no d n b (λ e. elim ne [ inl l ↦ omega arith | inr l ↦ omega arith ])) in
          elim ne [
            | inl l ↦ (let x = below_yes (suc d) n b (omega arith) in let y = below_yes d n b l in omega (arith, x, y, z))
            | inr l ↦ (let x = below_no (suc d) n b (omega arith) in let y = below_no d n b (omega arith) in omega (arith, x, y, z))
          ]
    ]

below-le : (d n b : ℕ) → below d n b ≤ plain n b
below-le d n b =
    let p = plain_is n b in
    elim (cases_lt n d) [
      | inl l ↦ (let a = below_yes d n b l in omega (arith, a, p))
      | inr l ↦ (let a = below_no d n b l in omega (arith, a, p))
    ]

-- the degrees of the nodes of a degree below the bound, taken together
total : List ℕ → ℕ → ℕ
total word d = weight (below d) (contour word)

total_more : (word : List ℕ) (d : ℕ) → total word (suc d) ≡ total word d + d * nodes_of word d
unfolding total
total_more word d =
    weight_sum (below (suc d)) (below d) (of_degree d) d (below_more d) (contour word) ∙ ap (λ (m : ℕ). weight (below d) (contour word) + d * m) (sym (nodes_weight word d))

total-le : (word : List ℕ) (d : ℕ) → IsBlossoming word → total word d ≤ suc (length word)
unfolding total
total-le word d t =
    let a = weight-le (below d) plain (below-le d) (contour word) in
    let b = plain_weight (contour word) (ring_dyck LEAF leaf_is_other word t.in_order.matched) in
    omega (arith, a, b)

few_edges : (word : List ℕ) (pairs : List (ℕ × ℕ)) → IsBlossoming word → AreCounted (nodes_of word) pairs → edges_of pairs ≤ MAX_EDGES
few_edges word pairs t a =
    let h = sum_bounded (nodes_of word) (total word) (total_more word) pairs (suc (length word)) a (λ d. total-le word d t) in
    let s = t.short in
    omega (arith, h, s)

-- the root node has a degree
root_counts : (word : List ℕ) → 0 < nodes_of word (suc (0 + own_length 0 word))
root_counts word =
    let a = come_some (suc (0 + own_length 0 word)) 0 [] word refl in
    let b = come_start word (suc (0 + own_length 0 word)) in
    omega (arith, a, b)

-- no node has degree 0
no_degree : (word : List ℕ) (n : ℕ) → 0 < nodes_before (contour word) 0 n → ⊥
no_degree word n h =
    let m = has_some (contour word) 0 n h in
    let e = (node_from (contour word) 0 m.0 m.1).1 in
    omega (arith, e)

pub of_from : (word counts : List ℕ) (pairs : List (ℕ × ℕ)) → IsBlossoming word → AreCounts word counts → AreListed counts pairs → AreCounted (nodes_of word) pairs
of_from word counts pairs t c l = record {
  rising = l.rising;
  some = l.some;
  counted = λ k m. l.counted k m ∙ c.each (pair_at pairs k).0;
  all = λ d h.
      let e = c.each d in
      l.all d (positive d h) (omega (arith, e, h));
} where
  positive : (d : ℕ) → 0 < nodes_of word d → 0 < d
  positive zero h = absurd (no_degree word (length (contour word)) h)
  positive (suc d) h = omega arith

profile_from : (word : List ℕ) (pairs : List (ℕ × ℕ)) → IsBlossoming word → AreCounted (nodes_of word) pairs → IsProfile pairs
profile_from word pairs t a = record {
  are_pairs = record {
    some = let r = a.all (suc (0 + own_length 0 word)) (root_counts word) in let l = r.1 in omega (arith, l);
    right = λ k l.
        let r = a.rising k l in
        let s = a.some k l in
        let c = a.counted k l in
        let d = degree_within word (pair_at pairs k).0 t (omega (arith, s, c)) in
        let e = d.even in
        let f = d.few in
        record { even = e; some = omega (arith, r, e); few = f; rising = r; counted = s };
  };
  few = few_edges word pairs t a;
}

pub profile_is : (word counts : List ℕ) (pairs : List (ℕ × ℕ)) → IsBlossoming word → AreCounts word counts → AreListed counts pairs → IsProfileOf word pairs
profile_is word counts pairs t c l =
    let a = of_from word counts pairs t c l in
    record { is_profile = profile_from word pairs t a; counted = a.counted; all = a.all }

pub profile_at : (word text counts table : List ℕ) (pairs : List (ℕ × ℕ)) → IsBlossoming word → text ≡ word → table ≡ counts → AreCounts text counts → AreListed table pairs → IsProfileOf word pairs
profile_at word text counts table pairs t e f c l =
    let P : List ℕ → Type 0 = λ xs. AreCounts xs counts in
    let Q : List ℕ → Type 0 = λ xs. AreListed xs pairs in
    profile_is word counts pairs t (subst P e c) (subst Q f l)

-- the pairs of a profile are those that are counted
counts_of : (word : List ℕ) (pairs : List (ℕ × ℕ)) → IsProfileOf word pairs → AreCounted (nodes_of word) pairs
counts_of word pairs p = record {
  rising = λ k l. (p.is_profile.are_pairs.right k l).rising;
  some = λ k l. (p.is_profile.are_pairs.right k l).counted;
  counted = p.counted;
  all = p.all;
}

pub same_profile : (word other : List ℕ) (one two : List (ℕ × ℕ)) → ((d : ℕ) → nodes_of other d ≡ nodes_of word d) → IsProfileOf word one → IsProfileOf other two → one ≡ two
same_profile word other one two e p q = one_counted (nodes_of word) (nodes_of other) one two e (counts_of word one p) (counts_of other two q)

pub profile_unique : ProfileIsUnique
profile_unique word one two p q = same_profile word word one two (λ d. refl) p q

pub profile_kept : ProfileIsKept
profile_kept word other one two alike p q = same_profile word other one two alike.degrees p q
