-- A blossoming tree has two more leaves than buds: count the letters of each level of each node.
use Rattle.std.proofs.Common.{◌≡◌, ℕ, zero, suc, ◌+◌, ◌*◌, ◌≤◌, inl, inr, List, [], ◌∷◌, take, drop, slice_index, All, IsTrue, refl, ap₂, subst, sym, arith}
use Rattle.std.proofs.lemmas.List.Elements.{All-head, All-tail}
use Rattle.pm_trees.specs.declared.letters.TheConstants.{LEAF, BUD}
use Rattle.pm_brackets.specs.declared.letters.TheConstants.{OPEN, CLOSE}
use Rattle.pm_brackets.specs.Word.{count}
use Rattle.pm_trees.specs.Word.{contour, is_letter}
use Rattle.pm_trees.specs.Node.{IsBudded}
use Rattle.pm_trees.specs.Blossoming.{IsBlossoming}
use Rattle.pm_brackets.proofs.Tally.{tally, tally_is, tally-nil, tally_yes, tally_no}
use Rattle.pm_trees.proofs.FourLetters.{letter_cases}
use Rattle.pm_trees.proofs.FourLetters.IsOneOf.{a_leaf, a_bud, an_open, a_close}
use Rattle.pm_brackets.specs.Word.{IsOther}
use Rattle.pm_trees.proofs.Own.{own_length, own_buds, own_length_is, own_buds_is, own_length-nil, own_buds-nil, own_length_other_here, own_length_other_above, own_length_open_here, own_length_open_above, own_length_close_here, own_length_close_above, own_buds_bud_here, own_buds_other_here, own_buds_other_above, own_buds_open_here, own_buds_open_above, own_buds_close_here, own_buds_close_above}

-- the sum of the first n values
abbrev pub total : ℕ → (ℕ → ℕ) → ℕ
total zero f = 0
total (suc n) f = f 0 + total n (λ k. f (suc k))

total_same : (n : ℕ) (f g : ℕ → ℕ) → ((k : ℕ) → f k ≡ g k) → total n f ≡ total n g
total_same zero f g h = refl
total_same (suc n) f g h = ap₂ (λ (a b : ℕ). a + b) (h 0) (total_same n (λ k. f (suc k)) (λ k. g (suc k)) (λ k. h (suc k)))

total_none : (n : ℕ) (f : ℕ → ℕ) → ((k : ℕ) → f k ≡ 0) → total n f ≡ 0
total_none zero f h = refl
total_none (suc n) f h = let p = total_none n (λ k. f (suc k)) (λ k. h (suc k)) in let q = h 0 in omega (arith, p, q)

-- what is left of a word whose first n levels are open, and whose further nodes have their buds
pub record Rest (n : ℕ) (xs : List ℕ) : Type 0 where
  pub letters : All (λ x. IsTrue (is_letter x)) xs
  pub not_below : (k : ℕ) → tally CLOSE (take k xs) ≤ n + tally OPEN (take k xs)
  pub budded : (k : ℕ) → slice_index xs k ≡ OPEN → 2 * suc (own_buds 0 (drop (suc k) xs)) ≡ suc (own_length 0 (drop (suc k) xs))

abbrev pub lengths : ℕ → List ℕ → ℕ
lengths n xs = total n (λ k. own_length k xs)

abbrev pub bud_counts : ℕ → List ℕ → ℕ
bud_counts n xs = total n (λ k. own_buds k xs)

pub record Balanced (n : ℕ) (xs : List ℕ) : Type 0 where
  pub sums : lengths n xs + tally BUD xs ≡ tally LEAF xs + 2 * bud_counts n xs

rest_other : (n x : ℕ) (xs : List ℕ) → IsOther x → Rest n (x ∷ xs) → Rest n xs
rest_other n x xs o r = record {
  letters = All-tail (λ y. IsTrue (is_letter y)) x xs r.letters;
  not_below = λ k.
      let p = r.not_below (suc k) in
      let a = tally_no CLOSE x (take k xs) o.not_close in
      let b = tally_no OPEN x (take k xs) o.not_open in
      omega (arith, p, a, b);
  budded = λ k h. r.budded (suc k) h;
}

rest_open : (n : ℕ) (xs : List ℕ) → Rest n (OPEN ∷ xs) → Rest (suc n) xs
rest_open n xs r = record {
  letters = All-tail (λ y. IsTrue (is_letter y)) OPEN xs r.letters;
  not_below = λ k.
      let p = r.not_below (suc k) in
      let a = tally_no CLOSE OPEN (take k xs) (λ h. omega arith) in
      let b = tally_yes OPEN OPEN (take k xs) refl in
      omega (arith, p, a, b);
  budded = λ k h. r.budded (suc k) h;
}

rest_close : (n : ℕ) (xs : List ℕ) → Rest (suc n) (CLOSE ∷ xs) → Rest n xs
rest_close n xs r = record {
  letters = All-tail (λ y. IsTrue (is_letter y)) CLOSE xs r.letters;
  not_below = λ k.
      let p = r.not_below (suc k) in
      let a = tally_yes CLOSE CLOSE (take k xs) refl in
      let b = tally_no OPEN CLOSE (take k xs) (λ h. omega arith) in
      omega (arith, p, a, b);
  budded = λ k h. r.budded (suc k) h;
}

-- no level is left to close
no_close : (xs : List ℕ) → Rest 0 (CLOSE ∷ xs) → ⊥
no_close xs r =
    let p = r.not_below 1 in
    let a = tally_yes CLOSE CLOSE [] refl in
    let b = tally_no OPEN CLOSE [] (λ h. omega arith) in
    let d = tally-nil CLOSE in
    let e = tally-nil OPEN in
    omega (arith, p, a, b, d, e)

balanced_leaf : (n x : ℕ) (xs : List ℕ) → x ≡ LEAF → Balanced (suc n) xs → Balanced (suc n) (x ∷ xs)
balanced_leaf n x xs e b =
    let o : IsOther x = record { not_open = λ h. omega arith; not_close = λ h. omega arith } in
    let p = own_length_other_here x xs o in
    let q = total_same n (λ k. own_length (suc k) (x ∷ xs)) (λ k. own_length (suc k) xs) (λ k. own_length_other_above k x xs o) in
    let r = own_buds_other_here x xs o (λ h. omega arith) in
    let s = total_same n (λ k. own_buds (suc k) (x ∷ xs)) (λ k. own_buds (suc k) xs) (λ k. own_buds_other_above k x xs o) in
    let t = tally_yes LEAF x xs e in
    let u = tally_no BUD x xs (λ h. omega arith) in
    record { sums = omega (arith, b.sums, p, q, r, s, t, u) }

balanced_bud : (n x : ℕ) (xs : List ℕ) → x ≡ BUD → Balanced (suc n) xs → Balanced (suc n) (x ∷ xs)
balanced_bud n x xs e b =
    let o : IsOther x = record { not_open = λ h. omega arith; not_close = λ h. omega arith } in
    let p = own_length_other_here x xs o in
    let q = total_same n (λ k. own_length (suc k) (x ∷ xs)) (λ k. own_length (suc k) xs) (λ k. own_length_other_above k x xs o) in
    let r = own_buds_bud_here x xs e in
    let s = total_same n (λ k. own_buds (suc k) (x ∷ xs)) (λ k. own_buds (suc k) xs) (λ k. own_buds_other_above k x xs o) in
    let t = tally_no LEAF x xs (λ h. omega arith) in
    let u = tally_yes BUD x xs e in
    record { sums = omega (arith, b.sums, p, q, r, s, t, u) }

balanced_open : (n : ℕ) (xs : List ℕ) → 2 * suc (own_buds 0 xs) ≡ suc (own_length 0 xs) → Balanced (suc (suc n)) xs → Balanced (suc n) (OPEN ∷ xs)
balanced_open n xs h b =
    let p = own_length_open_here xs in
    let q = total_same n (λ k. own_length (suc k) (OPEN ∷ xs)) (λ k. own_length (suc (suc k)) xs) (λ k. own_length_open_above k xs) in
    let r = own_buds_open_here xs in
    let s = total_same n (λ k. own_buds (suc k) (OPEN ∷ xs)) (λ k. own_buds (suc (suc k)) xs) (λ k. own_buds_open_above k xs) in
    let t = tally_no LEAF OPEN xs (λ k. omega arith) in
    let u = tally_no BUD OPEN xs (λ k. omega arith) in
    record { sums = omega (arith, b.sums, h, p, q, r, s, t, u) }

balanced_close : (n : ℕ) (xs : List ℕ) → Balanced n xs → Balanced (suc n) (CLOSE ∷ xs)
balanced_close n xs b =
    let p = own_length_close_here xs in
    let q = total_same n (λ k. own_length (suc k) (CLOSE ∷ xs)) (λ k. own_length k xs) (λ k. own_length_close_above k xs) in
    let r = own_buds_close_here xs in
    let s = total_same n (λ k. own_buds (suc k) (CLOSE ∷ xs)) (λ k. own_buds k xs) (λ k. own_buds_close_above k xs) in
    let t = tally_no LEAF CLOSE xs (λ k. omega arith) in
    let u = tally_no BUD CLOSE xs (λ k. omega arith) in
    record { sums = omega (arith, b.sums, p, q, r, s, t, u) }

balanced_end : (n : ℕ) → Balanced n []
balanced_end n =
    let p = total_none n (λ k. own_length k []) (λ k. own_length-nil k) in
    let q = total_none n (λ k. own_buds k []) (λ k. own_buds-nil k) in
    let t = tally-nil LEAF in
    let u = tally-nil BUD in
    record { sums = omega (arith, p, q, t, u) }

close_step : (xs : List ℕ) (n : ℕ) → Rest n (CLOSE ∷ xs) → ((m : ℕ) → Rest m xs → Balanced (suc m) xs) → Balanced (suc n) (CLOSE ∷ xs)
close_step xs zero r h = absurd (no_close xs r)
close_step xs (suc m) r h = balanced_close (suc m) xs (h m (rest_close m xs r))

pub balance : (xs : List ℕ) (n : ℕ) → Rest n xs → Balanced (suc n) xs
balance [] n r = balanced_end (suc n)
balance (x ∷ xs) n r =
    elim (letter_cases x (All-head (λ y. IsTrue (is_letter y)) x xs r.letters)) [
      | a_leaf e ↦ balanced_leaf n x xs e (balance xs n (rest_other n x xs (record { not_open = λ h. omega arith; not_close = λ h. omega arith }) r))
      | a_bud e ↦ balanced_bud n x xs e (balance xs n (rest_other n x xs (record { not_open = λ h. omega arith; not_close = λ h. omega arith }) r))
      | an_open e ↦
          let R : ℕ → Type 0 = λ y. Rest n (y ∷ xs) in
          let S : ℕ → Type 0 = λ y. Balanced (suc n) (y ∷ xs) in
          let r' : Rest n (OPEN ∷ xs) = subst R e r in
          subst S (sym e) (balanced_open n xs (r'.budded 0 refl) (balance xs (suc n) (rest_open n xs r')))
      | a_close e ↦
          let R : ℕ → Type 0 = λ y. Rest n (y ∷ xs) in
          let S : ℕ → Type 0 = λ y. Balanced (suc n) (y ∷ xs) in
          subst S (sym e) (close_step xs n (subst R e r) (λ m q. balance xs m q))
    ]

rest_of : (word : List ℕ) → IsBlossoming word → Rest 0 word
rest_of word t = record {
  letters = t.in_order.letters;
  not_below = λ k.
      let p = t.in_order.matched.never_below k in
      let a = tally_is CLOSE (take k word) in
      let b = tally_is OPEN (take k word) in
      omega (arith, p, a, b);
  budded = λ k h.
      let p : IsBudded (contour word) (suc k) = t.buds (suc k) (inr h) in
      let a = own_length_is 0 (drop (suc k) word) in
      let b = own_buds_is 0 (drop (suc k) word) in
      omega (arith, p, a, b);
}

-- the plant counted, two more leaves than buds
pub two_more_leaves : (word : List ℕ) → IsBlossoming word → count LEAF (contour word) ≡ count BUD (contour word) + 2
two_more_leaves word t =
    let s = (balance word 0 (rest_of word t)).sums in
    let p : IsBudded (contour word) 0 = t.buds 0 (inl refl) in
    let a = own_length_is 0 word in
    let b = own_buds_is 0 word in
    let d = tally_yes LEAF LEAF word refl in
    let e = tally_no BUD LEAF word (λ k. omega arith) in
    let f = tally_is LEAF (contour word) in
    let g = tally_is BUD (contour word) in
    omega (arith, s, p, a, b, d, e, f, g)
