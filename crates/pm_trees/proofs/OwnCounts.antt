-- How many entries of a node pass a test, by those of its own letters that were read.
use Rattle.std.proofs.Common.{◌≡◌, ℕ, zero, suc, ◌+◌, ◌≤◌, ◌==◌, ◌&&◌, inl, inr, Bool, false, not, cond, List, [], ◌∷◌, length, count_by, slice_index, refl, ap, ◌∙◌, sym, subst, arith, ne_eqb}
use Rattle.std.proofs.lemmas.Bool.{cases_eq, cases_Bool}
use Rattle.std.proofs.lemmas.List.Sums.{sum_by-cons}
use Rattle.pm_brackets.specs.declared.letters.TheConstants.{OPEN, CLOSE}
use Rattle.pm_brackets.specs.Node.{IsNode, is_own, node_at, own}
use Rattle.pm_brackets.specs.Word.{IsOther}
use Rattle.pm_brackets.proofs.OwnLetters.{none_before, own_at, own_before, own_bound, own_elsewhere, own_fails, own_start, own_step}
use Rattle.pm_trees.specs.declared.letters.TheConstants.{LEAF}
use Rattle.pm_trees.specs.Node.{entries, own_letters}
use Rattle.pm_trees.specs.Word.{IsInOrder, contour}
use Rattle.pm_trees.proofs.Own.{close_above, open_above, other_above, other_here}
use Rattle.pm_trees.proofs.OwnEntries.{entries_are_own}

module _ (passes : ℕ → Bool) (word : List ℕ) where
  -- the plant where it passes, at the root node
  pub plant_of : ℕ → ℕ
  plant_of node = cond ((node == 0) && passes LEAF) 1 0

  plant_is : (node : ℕ) → plant_of node ≡ cond {A = ℕ} ((node == 0) && passes LEAF) 1 0
  unfolding plant_of
  plant_is node = refl

  plant_none : (node : ℕ) → (node ≡ 0 → ⊥) → plant_of node ≡ 0
  unfolding plant_of
  plant_none node n = rw (ne_eqb node 0 n) refl

  -- before letter i the node has so many, the plant left out
  pub record HasCount (node n i : ℕ) : Type 0 where
    pub sum : n + plant_of node ≡ own_before passes (contour word) node (suc i)

  pub count_start : (node n : ℕ) → node ≡ 0 → n ≡ 0 → HasCount node n 0
  count_start node n e z = record {
    sum =
        let a = own_start passes LEAF word in
        let b = plant_is 0 in
        let c = ap plant_of e in
        let d = ap (λ (k : ℕ). own_before passes (contour word) k 1) e in
        omega (arith, a, b, c, d, z);
  }

  pub count_child : (node n i : ℕ) → node ≡ suc i → n ≡ 0 → HasCount node n (suc i)
  count_child node n i e z = record {
    sum =
        let a = none_before passes (contour word) (suc i) (omega arith) in
        let b = plant_none node (λ f. omega (arith, e, f)) in
        let c = ap (λ (k : ℕ). own_before passes (contour word) k (suc (suc i))) e in
        omega (arith, a, b, c, z);
  }

  pub count_here : (node n m i : ℕ) → node_at (contour word) (suc i) ≡ node → m ≡ n + cond {A = ℕ} (passes (slice_index word i)) 1 0 → HasCount node n i → HasCount node m (suc i)
  count_here node n m i at e h = record { sum = let a = own_at passes (contour word) node (suc i) at in let s = h.sum in omega (arith, a, e, s) }

  pub count_elsewhere : (node n i : ℕ) → (node_at (contour word) (suc i) ≡ node → ⊥) → HasCount node n i → HasCount node n (suc i)
  count_elsewhere node n i at h = record { sum = let a = own_elsewhere passes (contour word) node (suc i) at in let s = h.sum in omega (arith, a, s) }

  pub count_close : (node n i : ℕ) → passes CLOSE ≡ false → slice_index word i ≡ CLOSE → HasCount node n i → HasCount node n (suc i)
  count_close node n i f c h = record { sum = let a = own_fails passes (contour word) node (suc i) (ap passes c ∙ f) in let s = h.sum in omega (arith, a, s) }

  -- all of them were read
  pub count_whole : (node n i : ℕ) → passes CLOSE ≡ false → IsInOrder word → IsNode (contour word) node → own passes (contour word) node ≡ own_before passes (contour word) node (suc i) → HasCount node n i → n ≡ count_by passes (entries (contour word) node)
  count_whole node n i f o k all h =
      let a = entries_are_own passes word node f o k in
      let b = plant_is node in
      let s = h.sum in
      omega (arith, a, b, all, s)

  -- at each place one more at most
  own_few : (node i : ℕ) → own_before passes (contour word) node (suc i) ≤ plant_of node + i
  own_few node zero =
      elim (cases_eq node 0) [
        | inl e ↦
            let a = own_start passes LEAF word in
            let b = plant_is 0 in
            let c = ap plant_of e in
            let d = ap (λ (k : ℕ). own_before passes (contour word) k 1) e in
            omega (arith, a, b, c, d)
        | inr n ↦
            let a = own_elsewhere passes (contour word) node 0 (λ e. n (sym e)) in
            let b = own_bound passes (contour word) node 0 in
            omega (arith, a, b)
      ]
  own_few node (suc i) =
      let h = own_few node i in
      let a = own_step passes (contour word) node (suc i) in
      elim (cases_Bool (is_own passes (contour word) node (suc i))) [
        | inl y ↦ (let b : cond {A = ℕ} (is_own passes (contour word) node (suc i)) 1 0 ≡ 1 = ap (λ (t : Bool). cond {A = ℕ} t 1 0) y in omega (arith, h, a, b))
        | inr y ↦ (let b : cond {A = ℕ} (is_own passes (contour word) node (suc i)) 1 0 ≡ 0 = ap (λ (t : Bool). cond {A = ℕ} t 1 0) y in omega (arith, h, a, b))
      ]

  pub count_room : (node n i : ℕ) → HasCount node n i → n ≤ i
  count_room node n i h = let a = own_few node i in let s = h.sum in omega (arith, a, s)

-- all entries
abbrev pub is_entry : ℕ → Bool
is_entry x = not (x == CLOSE)

abbrev pub Same : ℕ → List ℕ → Type 0
Same d xs = count_by is_entry (own_letters d xs) ≡ length (own_letters d xs)

one_entry : (x : ℕ) (xs : List ℕ) → (x ≡ CLOSE → ⊥) → count_by is_entry xs ≡ length xs → count_by is_entry (x ∷ xs) ≡ suc (length xs)
one_entry x xs n h =
    let a = sum_by-cons (λ (y : ℕ). cond (is_entry y) 1 0) x xs in
    let b : cond {A = ℕ} (is_entry x) 1 0 ≡ 1 = rw (ne_eqb x CLOSE n) refl in
    omega (arith, a, b, h)

same_open : (d : ℕ) (xs : List ℕ) → ((e : ℕ) → Same e xs) → Same d (OPEN ∷ xs)
same_open zero xs h = one_entry OPEN (own_letters 1 xs) (λ e. omega arith) (h 1)
same_open (suc d) xs h = ap (λ (ys : List ℕ). count_by is_entry ys) (open_above d xs) ∙ h (suc (suc d)) ∙ sym (ap (λ (ys : List ℕ). length ys) (open_above d xs))

same_close : (d : ℕ) (xs : List ℕ) → ((e : ℕ) → Same e xs) → Same d (CLOSE ∷ xs)
same_close zero xs h = refl
same_close (suc d) xs h = ap (λ (ys : List ℕ). count_by is_entry ys) (close_above d xs) ∙ h d ∙ sym (ap (λ (ys : List ℕ). length ys) (close_above d xs))

same_other : (d x : ℕ) (xs : List ℕ) → IsOther x → ((e : ℕ) → Same e xs) → Same d (x ∷ xs)
same_other zero x xs o h =
    ap (λ (ys : List ℕ). count_by is_entry ys) (other_here x xs o) ∙ one_entry x (own_letters 0 xs) o.not_close (h 0) ∙ sym (ap (λ (ys : List ℕ). length ys) (other_here x xs o))
same_other (suc d) x xs o h = ap (λ (ys : List ℕ). count_by is_entry ys) (other_above d x xs o) ∙ h (suc d) ∙ sym (ap (λ (ys : List ℕ). length ys) (other_above d x xs o))

pub all_entries : (xs : List ℕ) (d : ℕ) → Same d xs
all_entries [] d = refl
all_entries (x ∷ xs) d =
    let P : ℕ → Type 0 = λ y. Same d (y ∷ xs) in
    elim (cases_eq x OPEN) [
      | inl o ↦ subst P (sym o) (same_open d xs (λ e. all_entries xs e))
      | inr n ↦ elim (cases_eq x CLOSE) [
        | inl c ↦ subst P (sym c) (same_close d xs (λ e. all_entries xs e))
        | inr k ↦ same_other d x xs (record { not_open = n; not_close = k }) (λ e. all_entries xs e)
      ]
    ]
