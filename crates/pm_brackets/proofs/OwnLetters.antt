-- The letters of a node that pass a test, counted so far.
use Rattle.std.proofs.Common.{◌≡◌, ℕ, zero, suc, ◌+◌, ◌-◌, ◌≤◌, ◌<◌, ◌&&◌, Bool, true, false, cond, List, ◌∷◌, length, slice_index, refl, ap, ◌∙◌, sym, arith, eq-eqb, ne_eqb}
use Rattle.pm_perm.specs.Count.{count_below}
use Rattle.pm_perm.proofs.Counts.{count_below-bound, count_below-none}
use Rattle.pm_brackets.specs.Node.{is_own, node_at, own}
use Rattle.pm_brackets.proofs.OpenBrackets.{IsGone, gone_stays, open_is_before}

and_true : (b : Bool) → (b && true) ≡ b
and_true true = refl
and_true false = refl

and_false : (b : Bool) → (b && false) ≡ false
and_false true = refl
and_false false = refl

module _ (passes : ℕ → Bool) (places : List ℕ) (node : ℕ) where
  -- those before a place
  unfoldable pub own_before : ℕ → ℕ
  own_before p = count_below (is_own passes places node) p

  pub own_before_is : (p : ℕ) → own_before p ≡ count_below (is_own passes places node) p
  unfolding own_before
  own_before_is p = refl

  pub own_bound : (p : ℕ) → own_before p ≤ p
  unfolding own_before
  own_bound p = count_below-bound (is_own passes places node) p

  pub own_step : (p : ℕ) → own_before (suc p) ≡ own_before p + cond {A = ℕ} (is_own passes places node p) 1 0
  unfolding own_before
  own_step p = refl

  -- at a place of the node
  pub own_at : (p : ℕ) → node_at places p ≡ node → own_before (suc p) ≡ own_before p + cond {A = ℕ} (passes (slice_index places p)) 1 0
  own_at p n =
      let a : cond {A = ℕ} (is_own passes places node p) 1 0 ≡ cond {A = ℕ} (passes (slice_index places p)) 1 0 = rw (eq-eqb (node_at places p) node n, and_true (passes (slice_index places p))) refl in
      let b = own_step p in
      omega (arith, a, b)

  pub own_here : (p : ℕ) → passes (slice_index places p) ≡ true → node_at places p ≡ node → own_before (suc p) ≡ suc (own_before p)
  own_here p s n =
      let a : cond {A = ℕ} (passes (slice_index places p)) 1 0 ≡ 1 = rw s refl in
      let b = own_at p n in
      omega (arith, a, b)

  pub own_fails : (p : ℕ) → passes (slice_index places p) ≡ false → own_before (suc p) ≡ own_before p
  own_fails p s =
      let a : cond {A = ℕ} (is_own passes places node p) 1 0 ≡ 0 = rw s refl in
      let b = own_step p in
      omega (arith, a, b)

  pub not_own : (p : ℕ) → (node_at places p ≡ node → ⊥) → is_own passes places node p ≡ false
  not_own p n = rw (ne_eqb (node_at places p) node n) (and_false (passes (slice_index places p)))

  pub own_elsewhere : (p : ℕ) → (node_at places p ≡ node → ⊥) → own_before (suc p) ≡ own_before p
  own_elsewhere p n =
      let a : cond {A = ℕ} (is_own passes places node p) 1 0 ≡ 0 = rw (not_own p n) refl in
      let b = own_step p in
      omega (arith, a, b)

  -- a node has none before its own bracket
  pub none_before : 0 < node → own_before (suc node) ≡ 0
  unfolding own_before
  none_before some =
      count_below-none (is_own passes places node) (suc node) (λ k l. not_own k (λ e. let h = open_is_before places k 0 in omega (arith, e, h, l, some)))

  -- and none behind the bracket that closes it
  none_behind : (p n : ℕ) → node < p → IsGone places node p → own_before (n + p) ≡ own_before p
  none_behind p zero l g = let e : 0 + p ≡ p = omega arith in ap (λ (k : ℕ). own_before k) e
  none_behind p (suc n) l g =
      let e : suc n + p ≡ suc (n + p) = omega arith in
      ap (λ (k : ℕ). own_before k) e ∙ own_elsewhere (n + p) ((gone_stays places node p n l g).not_open 0) ∙ none_behind p n l g

  pub own_whole : (p : ℕ) → node < p → p ≤ length places → IsGone places node p → own passes places node ≡ own_before p
  own_whole p l m g =
      let e : length places ≡ length places - p + p = omega arith in
      sym (own_before_is (length places)) ∙ ap (λ (k : ℕ). own_before k) e ∙ none_behind p (length places - p) l g

-- the plant belongs to the root node
pub own_start : (passes : ℕ → Bool) (plant : ℕ) (word : List ℕ) → own_before passes (plant ∷ word) 0 1 ≡ cond {A = ℕ} (passes plant) 1 0
own_start passes plant word =
    let a = own_at passes (plant ∷ word) 0 0 refl in
    let b = own_bound passes (plant ∷ word) 0 0 in
    omega (arith, a, b)
