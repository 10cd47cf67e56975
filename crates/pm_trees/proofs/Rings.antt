-- Sums over the nodes of a tree: they stay when its ring is read from another place on, and tell whether its nodes are right.
use Rattle.std.proofs.Common.{◌≡◌, ℕ, zero, suc, ◌+◌, ◌-◌, ◌*◌, ◌%◌, ◌≤◌, ◌==◌, ◌&&◌, ◌||◌, cond, Bool, true, inl, inr, List, [], ◌∷◌, length, drop, slice_index, refl, ap, ap₂, sym, ◌∙◌, subst, arith, drop-cons, eq-eqb, ne_eqb}
use Rattle.std.proofs.lemmas.Bool.{cases_eq}
use Rattle.std.proofs.lemmas.List.{drop_all}
use Rattle.pm_limits.specs.declared.TheConstants.{MAX_DEGREE}
use Rattle.pm_trees.specs.declared.letters.TheConstants.{LEAF, BUD}
use Rattle.pm_brackets.specs.declared.letters.TheConstants.{OPEN}
use Rattle.pm_trees.specs.Word.{contour}
use Rattle.pm_trees.specs.Node.{IsNode, IsDegree, IsBudded, own_letters, degree}
use Rattle.pm_trees.specs.Blossoming.{IsBlossoming}
use Rattle.pm_trees.specs.Degrees.{has_degree, nodes_before, nodes_of}
use Rattle.pm_brackets.proofs.Tally.{tally, tally_is, tally_no}
use Rattle.pm_trees.proofs.Weights.{value, value_is, inner, inner-nil, inner_open, inner_other, weight, weight_is, weight_letter, weight_bracket}
use Rattle.pm_brackets.proofs.Rings.{StaysTurned}

-- the sums over the nodes stay when the first letter of the ring comes last
pub weights_stay : (total : (ℕ → ℕ → ℕ) → ℕ) → StaysTurned (λ ring. (f : ℕ → ℕ → ℕ) → weight f ring ≡ total f)
weights_stay total = record {
  letter_last = λ x xs o a h f. weight_letter f x xs o a ∙ h f;
  bracket_last = λ xs ys a b h f. weight_bracket f xs ys a b ∙ h f;
}

-- nothing at any node
inner_none : (f : ℕ → ℕ → ℕ) (xs : List ℕ) → ((k : ℕ) → slice_index xs k ≡ OPEN → value f 1 (drop (suc k) xs) ≡ 0) → inner f xs ≡ 0
inner_none f [] h = inner-nil f
inner_none f (x ∷ xs) h =
    let rest = inner_none f xs (λ k e. h (suc k) e) in
    elim (cases_eq x OPEN) [
      | inl e ↦ (let a = inner_open f x xs e in let b = h 0 e in omega (arith, a, b, rest))
      | inr n ↦ inner_other f x xs n ∙ rest
    ]

none_inner : (f : ℕ → ℕ → ℕ) (xs : List ℕ) (k : ℕ) → inner f xs ≡ 0 → slice_index xs k ≡ OPEN → value f 1 (drop (suc k) xs) ≡ 0
none_inner f [] k h e = absurd (omega arith)
none_inner f (x ∷ xs) zero h e = let a = inner_open f x xs e in omega (arith, a, h)
none_inner f (x ∷ xs) (suc k) h e =
    none_inner f xs k (elim (cases_eq x OPEN) [
      | inl o ↦ (let a = inner_open f x xs o in omega (arith, a, h))
      | inr n ↦ sym (inner_other f x xs n) ∙ h
    ]) e

-- 0 at a node of an even degree within the limit that has its buds
pub bad : ℕ → ℕ → ℕ
bad d b = d % 2 + (d - MAX_DEGREE) + (2 * suc b - d) + (d - 2 * suc b)

pub bad_is : (d b : ℕ) → bad d b ≡ d % 2 + (d - MAX_DEGREE) + (2 * suc b - d) + (d - 2 * suc b)
unfolding bad
bad_is d b = refl

pub record IsGood (places : List ℕ) (node : ℕ) : Type 0 where
  pub degree_is : IsDegree (degree places node)
  pub buds_are : IsBudded places node

good_value : (places : List ℕ) (node : ℕ) → IsGood places node → value bad 1 (drop (suc node) places) ≡ 0
good_value places node g =
    let own = own_letters 0 (drop (suc node) places) in
    let v = value_is bad 1 (drop (suc node) places) in
    let b = bad_is (1 + length (own_letters 0 (drop (suc node) places))) (tally BUD (own_letters 0 (drop (suc node) places))) in
    let t = tally_is BUD (own_letters 0 (drop (suc node) places)) in
    let e = g.degree_is.even in
    let f = g.degree_is.few in
    let h = g.buds_are in
    omega (arith, v, b, t, e, f, h)

value_good : (places : List ℕ) (node : ℕ) → value bad 1 (drop (suc node) places) ≡ 0 → IsGood places node
value_good places node z =
    let v = value_is bad 1 (drop (suc node) places) in
    let b = bad_is (1 + length (own_letters 0 (drop (suc node) places))) (tally BUD (own_letters 0 (drop (suc node) places))) in
    let t = tally_is BUD (own_letters 0 (drop (suc node) places)) in
    record {
      degree_is = record { even = omega (arith, v, b, z); few = omega (arith, v, b, z) };
      buds_are = omega (arith, v, b, t, z);
    }

-- the plant is one more entry of the root node
root_value : (f : ℕ → ℕ → ℕ) (word : List ℕ) → value f 0 (contour word) ≡ value f 1 word
root_value f word =
    let a : 0 + length (own_letters 0 (contour word)) ≡ 1 + length (own_letters 0 word) = omega arith in
    let b : tally BUD (own_letters 0 (contour word)) ≡ tally BUD (own_letters 0 word) = tally_no BUD LEAF (own_letters 0 word) (λ e. omega arith) in
    value_is f 0 (contour word) ∙ ap₂ f a b ∙ sym (value_is f 1 word)

pub contour_weight : (f : ℕ → ℕ → ℕ) (word : List ℕ) → weight f (contour word) ≡ value f 1 word + inner f word
contour_weight f word =
    let a = weight_is f (contour word) in
    let b = root_value f word in
    let c = inner_other f LEAF word (λ e. omega arith) in
    omega (arith, a, b, c)

pub none_bad : (word : List ℕ) → IsBlossoming word → weight bad (contour word) ≡ 0
none_bad word t =
    let good : (node : ℕ) → IsNode (contour word) node → IsGood (contour word) node = λ node n. record { degree_is = t.degrees node n; buds_are = t.buds node n } in
    let a = contour_weight bad word in
    let b = good_value (contour word) 0 (good 0 (inl refl)) in
    let c = inner_none bad word (λ k e. good_value (contour word) (suc k) (good (suc k) (inr e))) in
    omega (arith, a, b, c)

pub all_good : (word : List ℕ) → weight bad (contour word) ≡ 0 → (node : ℕ) → IsNode (contour word) node → IsGood (contour word) node
all_good word z node n =
    let a = contour_weight bad word in
    let root : value bad 1 (drop 1 (contour word)) ≡ 0 = omega (arith, a, z) in
    let rest : inner bad (contour word) ≡ 0 = (let b = inner_other bad LEAF word (λ e. omega arith) in omega (arith, a, b, z)) in
    elim n [
      | inl e ↦ subst (IsGood (contour word)) (sym e) (value_good (contour word) 0 root)
      | inr o ↦ value_good (contour word) node (none_inner bad (contour word) node rest o)
    ]

-- the nodes of a degree are counted along the contour
pub of_degree : ℕ → ℕ → ℕ → ℕ
of_degree d n b = cond (n == d) 1 0

pub of_degree_is : (d n b : ℕ) → of_degree d n b ≡ cond (n == d) 1 0
unfolding of_degree
of_degree_is d n b = refl

bit : List ℕ → ℕ → ℕ → ℕ
bit places d node = cond (has_degree places d node) 1 0

bit_node : (places : List ℕ) (d node : ℕ) → ((node == 0) || (slice_index places node == OPEN)) ≡ true → bit places d node ≡ value (of_degree d) 1 (drop (suc node) places)
unfolding bit
bit_node places d node e =
    let n : suc (length (own_letters 0 (drop (suc node) places))) ≡ 1 + length (own_letters 0 (drop (suc node) places)) = omega arith in
    let a : cond {A = ℕ} (has_degree places d node) 1 0 ≡ cond (degree places node == d) 1 0 = ap (λ (b : Bool). cond {A = ℕ} (b && (degree places node == d)) 1 0) e in
    a ∙ ap (λ (k : ℕ). cond {A = ℕ} (k == d) 1 0) n
    ∙ sym (value_is (of_degree d) 1 (drop (suc node) places)
    ∙ of_degree_is d (1 + length (own_letters 0 (drop (suc node) places))) (tally BUD (own_letters 0 (drop (suc node) places))))

bit_none : (places : List ℕ) (d node : ℕ) → (node ≡ 0 → ⊥) → (slice_index places node ≡ OPEN → ⊥) → bit places d node ≡ 0
unfolding bit
bit_none places d node n m = rw (ne_eqb node 0 n, ne_eqb (slice_index places node) OPEN m) refl

nodes_more : (places : List ℕ) (d n : ℕ) → nodes_before places d (suc n) ≡ nodes_before places d n + bit places d n
unfolding bit
nodes_more places d n = refl

opened : (n x : ℕ) → x ≡ OPEN → ((suc n == 0) || (x == OPEN)) ≡ true
opened n x o = rw (ne_eqb (suc n) 0 (λ z. omega arith), eq-eqb x OPEN o) refl

counted : (word : List ℕ) (d n : ℕ) → n ≤ length word → nodes_before (contour word) d (suc n) + inner (of_degree d) (drop n word) ≡ value (of_degree d) 1 word + inner (of_degree d) word
counted word d zero l =
    let a : bit (contour word) d 0 ≡ value (of_degree d) 1 word = bit_node (contour word) d 0 refl in
    let m = nodes_more (contour word) d 0 in
    omega (arith, a, m)
counted word d (suc n) l =
    let h = counted word d n (omega arith) in
    let e : drop n word ≡ slice_index word n ∷ drop (suc n) word = drop-cons word n 0 (omega arith) in
    let f = ap (inner (of_degree d)) e in
    let m = nodes_more (contour word) d (suc n) in
    elim (cases_eq (slice_index word n) OPEN) [
      | inl o ↦
          let a = inner_open (of_degree d) (slice_index word n) (drop (suc n) word) o in
          let b : bit (contour word) d (suc n) ≡ value (of_degree d) 1 (drop (suc n) word) = bit_node (contour word) d (suc n) (opened n (slice_index word n) o) in
          omega (arith, a, b, f, h, m)
      | inr ne ↦
          let a = inner_other (of_degree d) (slice_index word n) (drop (suc n) word) ne in
          let b = bit_none (contour word) d (suc n) (λ z. omega arith) ne in
          omega (arith, a, b, f, h, m)
    ]

pub nodes_weight : (word : List ℕ) (d : ℕ) → nodes_of word d ≡ weight (of_degree d) (contour word)
nodes_weight word d =
    let a = counted word d (length word) (omega arith) in
    let b = contour_weight (of_degree d) word in
    let c = ap (inner (of_degree d)) (drop_all (length word) word (omega arith)) in
    let e = inner-nil (of_degree d) in
    omega (arith, a, b, c, e)
