-- The heights of the corners of a node of a stem tree: along the contour they fall by one at each of its stems, and else stay.
use Rattle.std.proofs.Common.{◌≡◌, ℕ, zero, suc, ◌+◌, ◌-◌, ◌<◌, ◌≤◌, inl, inr, List, length, slice_index, refl, ap, ◌∙◌, sym, subst, arith, ne_eqb, eq-eqb}
use Rattle.std.proofs.lemmas.Bool.{cases_eq}
use Rattle.pm_brackets.specs.declared.letters.TheConstants.{OPEN, CLOSE}
use Rattle.pm_brackets.specs.Word.{IsBracketPair, IsBracketing, IsMatched}
use Rattle.pm_brackets.proofs.Bracketed.{bracketing_exists}
use Rattle.pm_brackets.proofs.Levels.{even_from_pair, seen_no, seen_yes}
use Rattle.pm_brackets.proofs.Nesting.{other_twice}
use Rattle.pm_brackets.proofs.OpenBrackets.{open_at_open, open_at_other}
use Rattle.pm_brackets.proofs.OwnLetters.{none_before, own_before, own_before_is, own_bound, own_elsewhere, own_fails, own_here, own_step}
use Rattle.pm_brackets.proofs.RingPlaces.{mod_stays}
use Rattle.pm_brackets.proofs.Stack.{IsStretch}
use Rattle.pm_tri.specs.declared.letters.TheConstants.{STEM}
use Rattle.pm_tri.specs.StemTree.{IsNode, IsStemTree, contour, is_stem, node_at}
use Rattle.pm_tri.proofs.NodeTurns.{before_closer, node_stretch, step_keeps}
use Rattle.pm_tri.proofs.SideCounts.{down, each_letter, up}
use Rattle.pm_tri.proofs.StemLetters.{stem_is_other}
use Rattle.pm_triclose.proofs.OpenStems.{closer_here, opener_here, stem_here}

-- A node that is open at a later place, where another is the last open one, comes before that other one.
pub no_later_open : (places : List ℕ) (s t q r : ℕ) → slice_index places t ≡ OPEN → IsStretch places s q → IsStretch places t r → s < t → t < q → q ≤ r → ⊥
no_later_open places s t q r o a b l m k =
    let x = seen_yes OPEN places t (omega arith) o in
    let y = seen_no CLOSE places t (λ e. omega (arith, e, o)) in
    let u = a.even.below t (omega (arith, l)) (omega (arith, m)) in
    let v = b.even.below q (omega (arith, m)) k in
    omega (arith, a.even.equal, u, v, x, y)

module _ (places : List ℕ) (v : ℕ) where
  -- the stems of a node before a place are no more than those before a later one
  pub own_rises : (p n : ℕ) → own_before is_stem places v p ≤ own_before is_stem places v (n + p)
  own_rises p zero = let i : 0 + p ≡ p = omega arith in let e = ap (own_before is_stem places v) i in omega (arith, e)
  own_rises p (suc n) =
      let before = own_rises p n in
      let step = own_step is_stem places v (n + p) in
      let i : suc n + p ≡ suc (n + p) = omega arith in
      let e = ap (own_before is_stem places v) i in
      omega (arith, before, step, e)

  -- and as many where no place between is one of the node
  own_still : (p n : ℕ) → ((q : ℕ) → p ≤ q → q < n + p → node_at places q ≡ v → ⊥) → own_before is_stem places v (n + p) ≡ own_before is_stem places v p
  own_still p zero none = let i : 0 + p ≡ p = omega arith in ap (own_before is_stem places v) i
  own_still p (suc n) none =
      let i : suc n + p ≡ suc (n + p) = omega arith in
      ap (own_before is_stem places v) i
      ∙ own_elsewhere is_stem places v (n + p) (none (n + p) (omega arith) (omega arith))
      ∙ own_still p n (λ q l m. none q l (omega (arith, m)))

-- the first place of a node
start_of : ℕ → ℕ
start_of zero = 0
start_of (suc v) = suc (suc v)

first_open : (v : ℕ) → 0 < v → start_of v ≡ suc v
unfolding start_of
first_open zero l = absurd (omega (arith, l))
first_open (suc v) l = refl

first_root : start_of 0 ≡ 0
unfolding start_of
first_root = refl

module _ (word : List ℕ) (matched : IsMatched word) where
  -- a node's places end at the bracket that closes it
  pub outside_pair : (s p q : ℕ) → IsBracketPair (contour word) s p → p < q → node_at (contour word) q ≡ s → ⊥
  outside_pair s p zero pair l e = omega (arith, l)
  outside_pair s p (suc q) pair l e =
      let a = subst (λ (v : ℕ). IsStretch (contour word) v (suc q)) e (node_stretch word q matched) in
      let even = even_from_pair (contour word) s p pair in
      let c = pair.closes in
      let before = pair.before in
      let x = seen_yes CLOSE (contour word) p (omega arith) c in
      let y = seen_no OPEN (contour word) p (λ o. omega (arith, o, c)) in
      let b = a.even.below (suc p) (omega (arith, before)) (omega (arith, l)) in
      omega (arith, even.equal, b, x, y)

  -- and between the two brackets of a child it has none
  pub inside_pair : (s p q : ℕ) → IsBracketPair (contour word) s p → s < q → q ≤ p → node_at (contour word) q ≡ node_at (contour word) s → ⊥
  inside_pair s p zero pair l m e = omega (arith, l)
  inside_pair zero p (suc q) pair l m e = let o = pair.opens in omega (arith, o)
  inside_pair (suc s) p (suc q) pair l m e =
      let a = subst (λ (v : ℕ). IsStretch (contour word) v (suc q)) e (node_stretch word q matched) in
      let there = (node_stretch word s matched).before in
      no_later_open (contour word) (node_at (contour word) (suc s)) (suc s) (suc q) p pair.opens a (record { before = pair.before; even = even_from_pair (contour word) (suc s) p pair }) there l m

module _ (word : List ℕ) (t : IsStemTree word) where
  -- a place of a node stands as much lower than its first place as stems of the node are before it
  IsLevelled : ℕ → ℕ → Type 0
  IsLevelled v p = up (contour word) p + own_before is_stem (contour word) v p + down (contour word) (start_of v) ≡ down (contour word) p + up (contour word) (start_of v)

  level_from : (v p : ℕ) → up (contour word) p + own_before is_stem (contour word) v p + down (contour word) (start_of v) ≡ down (contour word) p + up (contour word) (start_of v) → IsLevelled v p
  unfolding IsLevelled
  level_from v p e = e

  level_is : (v p : ℕ) → IsLevelled v p → up (contour word) p + own_before is_stem (contour word) v p + down (contour word) (start_of v) ≡ down (contour word) p + up (contour word) (start_of v)
  unfolding IsLevelled
  level_is v p e = e

  both_stems : (s p : ℕ) → IsBracketPair (contour word) s p → p < length (contour word) → own_before is_stem (contour word) s p ≡ 2
  both_stems s p pair l =
      let two = t.stems s (inr pair.opens) in
      let all = own_before_is is_stem (contour word) s (length (contour word)) in
      let here = own_fails is_stem (contour word) s p (let c = pair.closes in ne_eqb (slice_index (contour word) p) STEM (λ e. omega (arith, c, e))) in
      let n = length (contour word) - suc p in
      let e : length (contour word) ≡ n + suc p = omega (arith, l) in
      let still = own_still (contour word) s (suc p) n (λ q k m. outside_pair word t.in_order.matched s p q pair (omega (arith, k))) in
      let f = ap (own_before is_stem (contour word) s) e in
      omega (arith, two, all, here, still, f)

  at_open : (p : ℕ) → slice_index (contour word) p ≡ OPEN → IsLevelled (node_at (contour word) (suc p)) (suc p)
  at_open p o =
      let some : 0 < p = behind p o in
      let here : node_at (contour word) (suc p) ≡ p = ap (λ (xs : List ℕ). slice_index xs 0) (open_at_open (contour word) p o) in
      let none = none_before is_stem (contour word) p some in
      let f = first_open p some in
      let u = ap (up (contour word)) f in
      let d = ap (down (contour word)) f in
      subst (λ (v : ℕ). IsLevelled v (suc p)) (sym here) (level_from p (suc p) (omega (arith, none, u, d))) where
        behind : (p : ℕ) → slice_index (contour word) p ≡ OPEN → 0 < p
        behind zero o = absurd (omega (arith, o))
        behind (suc p) o = omega arith

  at_close : (s p : ℕ) → IsBracketPair (contour word) s p → p < length (contour word) → node_at (contour word) (suc p) ≡ node_at (contour word) s
      → IsLevelled (node_at (contour word) s) s → IsLevelled (node_at (contour word) p) p → IsLevelled (node_at (contour word) (suc p)) (suc p)
  at_close s p pair l turn parent child =
      let v = node_at (contour word) s in
      let inner = level_is s p (subst (λ (k : ℕ). IsLevelled k p) (before_closer word s p t.in_order.matched pair) child) in
      let outer = level_is v s parent in
      let before = pair.before in
      let two = both_stems s p pair l in
      let f = first_open s (behind s pair.opens) in
      let u = ap (up (contour word)) f in
      let d = ap (down (contour word)) f in
      let o = opener_here (contour word) s pair.opens in
      let c = closer_here (contour word) p pair.closes in
      let x = pair.opens in
      let same = own_fails is_stem (contour word) v s (ne_eqb (slice_index (contour word) s) STEM (λ e. omega (arith, x, e))) in
      let e : suc p ≡ (p - s) + suc s = omega (arith, before) in
      let still = own_still (contour word) v (suc s) (p - s) (λ q k m. inside_pair word t.in_order.matched s p q pair (omega (arith, k)) (omega (arith, m, before))) in
      let g = ap (own_before is_stem (contour word) v) e in
      subst (λ (k : ℕ). IsLevelled k (suc p)) (sym turn)
      (level_from v (suc p) (omega (arith, inner, outer, two, u, d, o.more, o.same, c.more, c.same, same, still, g))) where
        behind : (s : ℕ) → slice_index (contour word) s ≡ OPEN → 0 < s
        behind zero o = absurd (omega (arith, o))
        behind (suc s) o = omega arith

  at_stem : (p : ℕ) → slice_index (contour word) p ≡ STEM → IsLevelled (node_at (contour word) p) p → IsLevelled (node_at (contour word) (suc p)) (suc p)
  at_stem p e level =
      let v = node_at (contour word) p in
      let here : node_at (contour word) (suc p) ≡ v = ap (λ (xs : List ℕ). slice_index xs 0) (open_at_other (contour word) p (record { not_open = λ o. omega (arith, e, o); not_close = λ c. omega (arith, e, c) })) in
      let own = own_here is_stem (contour word) v p (eq-eqb (slice_index (contour word) p) STEM e) refl in
      let s = stem_here (contour word) p e in
      let l = level_is v p level in
      subst (λ (k : ℕ). IsLevelled k (suc p)) (sym here) (level_from v (suc p) (omega (arith, own, s.same, s.more, l)))

  module _ (other : List ℕ) (bracketing : IsBracketing (contour word) other) where
    levelled : (n p : ℕ) → p ≤ n → p < length (contour word) → IsLevelled (node_at (contour word) p) p
    levelled n zero m l =
        let none = own_bound is_stem (contour word) 0 0 in
        let u = ap (up (contour word)) first_root in
        let d = ap (down (contour word)) first_root in
        level_from 0 0 (omega (arith, none, u, d))
    levelled zero (suc p) m l = absurd (omega (arith, m))
    levelled (suc n) (suc p) m l =
        elim (each_letter word p t.in_order) [
          | inr stem ↦ at_stem p (sym (ap (slice_index (contour word)) (mod_stays p (length (contour word)) (omega (arith, l)))) ∙ stem) (levelled n p (omega (arith, m)) (omega (arith, l)))
          | inl side ↦ elim (cases_eq (slice_index (contour word) p) OPEN) [
            | inl o ↦ at_open p o
            | inr shut ↦
                let f = ap (slice_index (contour word)) (mod_stays p (length (contour word)) (omega (arith, l))) in
                let c : slice_index (contour word) p ≡ CLOSE = elim side [ inl o ↦ absurd (shut (sym f ∙ o)) | inr c ↦ sym f ∙ c ] in
                let pair = bracketing.of_close p c in
                let before = pair.before in
                let s : ℕ = slice_index other p in
                let twice : slice_index other s ≡ p = other_twice (contour word) other p bracketing (omega (arith, l)) in
                let turn : node_at (contour word) (suc p) ≡ node_at (contour word) s =
                ap (λ (k : ℕ). node_at (contour word) (suc k)) (sym twice) ∙ step_keeps word other s t.in_order.matched bracketing (omega (arith, before, l)) in
                at_close s p pair (omega (arith, l)) turn (levelled n s (omega (arith, before, m)) (omega (arith, before, l))) (levelled n p (omega (arith, m)) (omega (arith, l)))
          ]
        ]

  bracketing : (other : List ℕ) × IsBracketing (contour word) other
  bracketing = bracketing_exists STEM stem_is_other word t.in_order.matched

  -- from place to place of a node
  pub node_falls : (v i j : ℕ) → i < length (contour word) → j < length (contour word) → node_at (contour word) i ≡ v → node_at (contour word) j ≡ v
      → up (contour word) i + down (contour word) j + own_before is_stem (contour word) v i ≡ up (contour word) j + down (contour word) i + own_before is_stem (contour word) v j
  node_falls v i j l m e f =
      let a = level_is v i (subst (λ (k : ℕ). IsLevelled k i) e (levelled bracketing.0 bracketing.1 i i (omega arith) l)) in
      let b = level_is v j (subst (λ (k : ℕ). IsLevelled k j) f (levelled bracketing.0 bracketing.1 j j (omega arith) m)) in
      omega (arith, a, b)

  -- a node has two stems
  pub two_stems : (v k : ℕ) → IsNode (contour word) v → k ≤ length (contour word) → own_before is_stem (contour word) v k ≤ 2
  two_stems v k n l =
      let two = t.stems v n in
      let all = own_before_is is_stem (contour word) v (length (contour word)) in
      let i : (length (contour word) - k) + k ≡ length (contour word) = omega (arith, l) in
      let e = ap (own_before is_stem (contour word) v) i in
      let rises = own_rises (contour word) v k (length (contour word) - k) in
      omega (arith, two, all, e, rises)

  -- from the first place of a node on, which is no lower than one above its parent's
  pub child_falls : (o j : ℕ) → slice_index (contour word) o ≡ OPEN → j < length (contour word) → node_at (contour word) j ≡ o
      → up (contour word) o + down (contour word) j + 1 ≡ up (contour word) j + down (contour word) o + own_before is_stem (contour word) o j
  child_falls o j x l e =
      let b = level_is o j (subst (λ (k : ℕ). IsLevelled k j) e (levelled bracketing.0 bracketing.1 j j (omega arith) l)) in
      let f = first_open o (behind o x) in
      let u = ap (up (contour word)) f in
      let d = ap (down (contour word)) f in
      let s = opener_here (contour word) o x in
      omega (arith, b, u, d, s.more, s.same) where
        behind : (s : ℕ) → slice_index (contour word) s ≡ OPEN → 0 < s
        behind zero o = absurd (omega (arith, o))
        behind (suc s) o = omega arith
