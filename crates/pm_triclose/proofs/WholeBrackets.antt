-- The brackets of the whole tree: those of the tree, and the four new ones.
use Rattle.std.proofs.Common.{◌≡◌, ℕ, zero, suc, ◌+◌, ◌*◌, ◌<◌, ◌≤◌, inl, inr, List, length, slice_index, ap, ◌∙◌, sym, subst, arith}
use Rattle.std.proofs.lemmas.Bool.{cases_eq, cases_lt}
use Rattle.pm_brackets.specs.declared.letters.TheConstants.{OPEN, CLOSE}
use Rattle.pm_brackets.specs.Ring.{AreBrackets}
use Rattle.pm_brackets.specs.Word.{IsBracketPair}
use Rattle.pm_brackets.proofs.Levels.{IsEven, even_from_pair, even_pair, even_start, inside, pair_from_even, seen, seen_no, seen_none, seen_yes}
use Rattle.pm_brackets.proofs.RingPlaces.{flipped, one_other}
use Rattle.pm_tri.specs.declared.letters.TheConstants.{STEM}
use Rattle.pm_triclose.proofs.WholeOf.{IsWholeOf}

-- in two lists with the same letters so far, pairs so far are the same
module _ (xs ys : List ℕ) (n : ℕ) (same : (k : ℕ) → k < n → slice_index xs k ≡ slice_index ys k) where
  pub seen_alike : (x : ℕ) → 0 < x → (k : ℕ) → k ≤ n → seen x xs k ≡ seen x ys k
  seen_alike x some zero l = seen_none x xs ∙ sym (seen_none x ys)
  seen_alike x some (suc k) l =
      let before = seen_alike x some k (omega arith) in
      let e = same k (omega arith) in
      elim (cases_eq (slice_index xs k) x) [
        | inl h ↦ omega (arith, before, seen_yes x xs k some h, seen_yes x ys k some (sym e ∙ h))
        | inr not_here ↦ omega (arith, before, seen_no x xs k not_here, seen_no x ys k (λ h. not_here (e ∙ h)))
      ]

  pub pair_moves : (p q : ℕ) → q < n → IsBracketPair xs p q → IsBracketPair ys p q
  pair_moves p q l a =
      let even = even_from_pair xs p q a in
      let before = a.before in
      let o = seen_alike OPEN (omega arith) in
      let c = seen_alike CLOSE (omega arith) in
      pair_from_even ys p q before (sym (same p (omega arith)) ∙ a.opens) (sym (same q l) ∙ a.closes) (record {
        equal = omega (arith, even.equal, o q (omega arith), o (suc p) (omega arith), c q (omega arith), c (suc p) (omega arith));
        below = λ j m k. omega (arith, even.below j m k, o j (omega arith), o (suc p) (omega arith), c j (omega arith), c (suc p) (omega arith));
      })

-- a bracket has a letter, so it is inside
pub bracket_inside : (xs : List ℕ) (p q : ℕ) → AreBrackets xs p q → p < length xs
bracket_inside xs p q (inl a) = inside xs p OPEN (omega arith) a.opens
bracket_inside xs p q (inr a) = inside xs p CLOSE (omega arith) a.closes

-- no stem is a bracket
pub no_stem : (xs : List ℕ) (p q : ℕ) → AreBrackets xs p q → slice_index xs p ≡ STEM → ⊥
no_stem xs p q (inl a) e = let o = a.opens in omega (arith, o, e)
no_stem xs p q (inr a) e = let o = a.closes in omega (arith, o, e)

-- the four new places
pub data IsNew (last p : ℕ) : Type 0 where
  at_first : p ≡ last → IsNew last p
  at_second : p ≡ last + 1 → IsNew last p
  at_third : p ≡ last + 2 → IsNew last p
  at_fourth : p ≡ last + 3 → IsNew last p

pub is_new : (last p : ℕ) → last ≤ p → p < last + 4 → IsNew last p
is_new last p l m = elim (cases_eq p last) [
  | inl e ↦ at_first e
  | inr a ↦ elim (cases_eq p (last + 1)) [
    | inl e ↦ at_second e
    | inr c ↦ elim (cases_eq p (last + 2)) [ inl e ↦ at_third e | inr d ↦ at_fourth (omega (arith, a, c, d)) ]
  ]
]

-- a bracket of the whole tree: both of the tree, or both new
pub data IsPairIn (places : List ℕ) (last p q : ℕ) : Type 0 where
  old_pair : p < last → q < last → AreBrackets places p q → IsPairIn places last p q
  new_pair : IsNew last p → p + q ≡ 2 * last + 3 → IsPairIn places last p q

module _ (places all : List ℕ) (last start : ℕ) (w : IsWholeOf places all last start) where
  pub inner : IsBracketPair all (last + 1) (last + 2)
  inner =
      let e : suc (last + 1) ≡ last + 2 = omega arith in
      pair_from_even all (last + 1) (last + 2) (omega arith) w.second w.third (subst (IsEven all (last + 1)) e (even_start all (last + 1)))

  pub outer : IsBracketPair all last (last + 3)
  outer =
      let e : suc last ≡ last + 1 = omega arith in
      let f : suc (last + 1) ≡ last + 2 = omega arith in
      let g : suc (last + 2) ≡ last + 3 = omega arith in
      pair_from_even all last (last + 3) (omega arith) w.first w.fourth (subst (IsEven all last) g (even_pair all last (last + 1) (last + 2) (omega arith) (omega arith) w.second w.third
      (subst (IsEven all last) e (even_start all last)) (subst (IsEven all (last + 1)) f (even_start all (last + 1)))))

  pub new_brackets : (p : ℕ) → IsNew last p → (q : ℕ) × AreBrackets all p q × (p + q ≡ 2 * last + 3)
  new_brackets p (at_first e) = (last + 3, subst (λ (k : ℕ). AreBrackets all k (last + 3)) (sym e) (inl outer), omega (arith, e))
  new_brackets p (at_second e) = (last + 2, subst (λ (k : ℕ). AreBrackets all k (last + 2)) (sym e) (inl inner), omega (arith, e))
  new_brackets p (at_third e) = (last + 1, subst (λ (k : ℕ). AreBrackets all k (last + 1)) (sym e) (inr inner), omega (arith, e))
  new_brackets p (at_fourth e) = (last, subst (λ (k : ℕ). AreBrackets all k last) (sym e) (inr outer), omega (arith, e))

  back_pair : (p q : ℕ) → p < last → q < last → AreBrackets all p q → AreBrackets places p q
  back_pair p q l m (inl a) = inl (pair_moves all places last w.kept p q m a)
  back_pair p q l m (inr a) = inr (pair_moves all places last w.kept q p l a)

  -- the tree's last place is no bracket
  pub bracket_old : (p q : ℕ) → AreBrackets places p q → p < last
  bracket_old p q a =
      let long = w.long in
      let within = bracket_inside places p q a in
      elim (cases_eq p last) [
        | inl e ↦ absurd (no_stem places p q a (ap (slice_index places) e ∙ w.end))
        | inr ne ↦ omega (arith, long, within, ne)
      ]

  pub old_brackets : (p q : ℕ) → AreBrackets places p q → AreBrackets all p q
  old_brackets p q (inl a) = inl (pair_moves places all last (λ k l. sym (w.kept k l)) p q (bracket_old q p (inr a)) a)
  old_brackets p q (inr a) = inr (pair_moves places all last (λ k l. sym (w.kept k l)) q p (bracket_old p q (inr a)) a)

  pub pair_in : (p q : ℕ) → AreBrackets all p q → IsPairIn places last p q
  pair_in p q a =
      let p_in = bracket_inside all p q a in
      let q_in = bracket_inside all q p (flipped all p q a) in
      let wide = w.wide in
      elim (cases_lt p last) [
        | inr new ↦
            let n = is_new last p new (omega arith) in
            let other = new_brackets p n in
            let e = one_other all p q other.0 a other.1 in
            new_pair n (omega (arith, e, other.2))
        | inl old ↦ elim (cases_lt q last) [
          | inl both ↦ old_pair old both (back_pair p q old both a)
          | inr new ↦
              let other = new_brackets q (is_new last q new (omega arith)) in
              let e = one_other all q p other.0 (flipped all p q a) other.1 in
              absurd (omega (arith, e, other.2, old, q_in, wide))
        ]
      ]
