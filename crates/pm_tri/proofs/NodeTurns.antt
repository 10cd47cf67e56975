-- Nodes are cycles: a turn, from a place to the one behind its other bracket, stays at the node; and what turns keep is the same
-- at all places of a node.
use Rattle.std.proofs.Common.{◌≡◌, ℕ, zero, suc, ◌+◌, ◌%◌, ◌≤◌, ◌<◌, inl, inr, List, [], ◌∷◌, length, drop, slice_index, refl, ap, ◌∙◌, sym, subst, arith}
use Rattle.std.proofs.lemmas.Bool.{cases_eq, cases_lt, cases_order}
use Rattle.std.proofs.Math.Nat.{add-mod_right}
use Rattle.pm_brackets.specs.declared.letters.TheConstants.{OPEN, CLOSE}
use Rattle.pm_brackets.specs.Word.{IsBracketPair, IsBracketing, IsMatched, IsOther}
use Rattle.pm_brackets.proofs.Levels.{even_from_pair, even_pair, seen_no, seen_yes}
use Rattle.pm_brackets.proofs.Nesting.{other_below, other_twice}
use Rattle.pm_brackets.proofs.RingPlaces.{mod_stays}
use Rattle.pm_brackets.proofs.Stack.{HasRead, IsChain, IsStretch, close_has_opener, has_close, has_open, has_other, has_start, none_open_at_end}
use Rattle.pm_tri.specs.declared.letters.TheConstants.{STEM}
use Rattle.pm_tri.specs.StemTree.{IsNode, contour, node_at, open_before}
use Rattle.pm_brackets.proofs.OpenBrackets.{open_at_close, open_at_open, open_at_other}
use Rattle.pm_tri.proofs.StemLetters.{stem_is_other}

-- the open brackets before a place are those of a reading
close_read : (word stack : List ℕ) (i : ℕ) → IsMatched word → slice_index (contour word) (suc i) ≡ CLOSE → HasRead (contour word) stack (suc i) → HasRead (contour word) (drop 1 stack) (suc (suc i))
close_read word [] i m x r = absurd (close_has_opener STEM stem_is_other word i m x r.read.chain)
close_read word (s ∷ rest) i m x r = has_close (contour word) rest s (suc i) x r

read_next : (word : List ℕ) (i : ℕ) → IsMatched word → HasRead (contour word) (open_before (contour word) (suc i)) (suc i) → HasRead (contour word) (open_before (contour word) (suc (suc i))) (suc (suc i))
read_next word i m r =
    let P : List ℕ → Type 0 = λ xs. HasRead (contour word) xs (suc (suc i)) in
    elim (cases_eq (slice_index (contour word) (suc i)) OPEN) [
      | inl o ↦ subst P (sym (open_at_open (contour word) (suc i) o)) (has_open (contour word) (open_before (contour word) (suc i)) (suc i) o r)
      | inr n ↦ elim (cases_eq (slice_index (contour word) (suc i)) CLOSE) [
        | inl c ↦ subst P (sym (open_at_close (contour word) (suc i) c)) (close_read word (open_before (contour word) (suc i)) i m c r)
        | inr k ↦
            let other : IsOther (slice_index (contour word) (suc i)) = record { not_open = n; not_close = k } in
            subst P (sym (open_at_other (contour word) (suc i) other)) (has_other (contour word) (open_before (contour word) (suc i)) (suc i) other r)
      ]
    ]

read_before : (word : List ℕ) (i : ℕ) → IsMatched word → HasRead (contour word) (open_before (contour word) (suc i)) (suc i)
read_before word zero m =
    let P : List ℕ → Type 0 = λ xs. HasRead (contour word) xs 1 in
    subst P (sym (open_at_other (contour word) 0 stem_is_other)) (has_start STEM stem_is_other word)
read_before word (suc i) m = read_next word i m (read_before word i m)

-- so between a node and its place the brackets match
top_stretch : (places stack : List ℕ) (i : ℕ) → IsChain places stack i → IsStretch places (slice_index stack 0) i
top_stretch places [] i c = c
top_stretch places (s ∷ rest) i c = c.0

top_is_node : (places stack : List ℕ) (i : ℕ) → IsChain places stack i → IsNode places (slice_index stack 0)
top_is_node places [] i c = inl refl
top_is_node places (s ∷ rest) i c = inr c.1

pub node_stretch : (word : List ℕ) (i : ℕ) → IsMatched word → IsStretch (contour word) (node_at (contour word) (suc i)) (suc i)
node_stretch word i m = top_stretch (contour word) (open_before (contour word) (suc i)) (suc i) (read_before word i m).read.chain

-- a place belongs to a node
pub at_is_node : (word : List ℕ) (p : ℕ) → IsMatched word → IsNode (contour word) (node_at (contour word) p)
at_is_node word zero m = inl refl
at_is_node word (suc i) m = top_is_node (contour word) (open_before (contour word) (suc i)) (suc i) (read_before word i m).read.chain

-- and to one alone
no_later_node : (places : List ℕ) (s t p : ℕ) → IsNode places t → IsStretch places s p → IsStretch places t p → s < t → ⊥
no_later_node places s t p n a b l =
    let o : slice_index places t ≡ OPEN = elim n [ inl e ↦ absurd (omega arith) | inr o ↦ o ] in
    let before = b.before in
    let x = seen_yes OPEN places t (omega arith) o in
    let y = seen_no CLOSE places t (λ e. omega arith) in
    let m = a.even.below t (omega arith) (omega arith) in
    omega (arith, a.even.equal, b.even.equal, m, x, y)

pub node_from_stretch : (word : List ℕ) (v i : ℕ) → IsMatched word → IsNode (contour word) v → IsStretch (contour word) v (suc i) → node_at (contour word) (suc i) ≡ v
node_from_stretch word v i m n a =
    let b = node_stretch word i m in
    elim (cases_order (node_at (contour word) (suc i)) v) [
      | inl e ↦ e
      | inr d ↦ elim d [
        | inl l ↦ absurd (no_later_node (contour word) (node_at (contour word) (suc i)) v (suc i) n b a l)
        | inr l ↦ absurd (no_later_node (contour word) v (node_at (contour word) (suc i)) (suc i) (at_is_node word (suc i) m) a b l)
      ]
    ]

-- the plant is no bracket
behind_plant : (word : List ℕ) (p x : ℕ) → slice_index (contour word) p ≡ x → (STEM ≡ x → ⊥) → 0 < p
behind_plant word zero x e n = absurd (n e)
behind_plant word (suc p) x e n = omega arith

-- behind a bracket pair one is at the node before it, and before its `)` at the node that it ends
after_pair : (word : List ℕ) (p q : ℕ) → IsMatched word → IsBracketPair (contour word) p q → node_at (contour word) (suc q) ≡ node_at (contour word) p
after_pair word zero q m b = absurd (let o = b.opens in omega arith)
after_pair word (suc p) q m b =
    let a = node_stretch word p m in
    let l = a.before in
    let k = b.before in
    node_from_stretch word (node_at (contour word) (suc p)) q m (at_is_node word (suc p) m)
    (record { before = omega (arith, l, k); even = even_pair (contour word) (node_at (contour word) (suc p)) (suc p) q l k b.opens b.closes a.even (even_from_pair (contour word) (suc p) q b) })

pub before_closer : (word : List ℕ) (s q : ℕ) → IsMatched word → IsBracketPair (contour word) s q → node_at (contour word) q ≡ s
before_closer word s zero m b = absurd (let l = b.before in omega arith)
before_closer word s (suc q) m b = node_from_stretch word s q m (inr b.opens) (record { before = b.before; even = even_from_pair (contour word) s (suc q) b })

-- the place behind the other bracket
pub step_keeps : (word other : List ℕ) (p : ℕ) → IsMatched word → IsBracketing (contour word) other → p < length (contour word) → node_at (contour word) (suc (slice_index other p)) ≡ node_at (contour word) p
step_keeps word other p m b l =
    elim (cases_eq (slice_index (contour word) p) OPEN) [
      | inl o ↦ after_pair word p (slice_index other p) m (b.of_open p o)
      | inr n ↦ elim (cases_eq (slice_index (contour word) p) CLOSE) [
        | inl c ↦
            let pair = b.of_close p c in
            ap (λ (xs : List ℕ). slice_index xs 0) (open_at_open (contour word) (slice_index other p) pair.opens) ∙ sym (before_closer word (slice_index other p) p m pair)
        | inr k ↦
            ap (λ (q : ℕ). node_at (contour word) (suc q)) (b.of_letter p l n k)
            ∙ ap (λ (xs : List ℕ). slice_index xs 0) (open_at_other (contour word) p (record { not_open = n; not_close = k }))
      ]
    ]

-- at the end one is at the root node, as at the plant
at_end : (word : List ℕ) → IsMatched word → node_at (contour word) (suc (length word)) ≡ 0
at_end word m =
    ap (λ (xs : List ℕ). slice_index xs 0) (none_open_at_end STEM stem_is_other word (open_before (contour word) (suc (length word))) m (read_before word (length word) m).read.chain)

around : (word : List ℕ) (k : ℕ) → IsMatched word → k ≤ length (contour word) → node_at (contour word) (k % length (contour word)) ≡ node_at (contour word) k
around word k m l =
    elim (cases_lt k (length (contour word))) [
      | inl h ↦ ap (node_at (contour word)) (mod_stays k (length (contour word)) h)
      | inr g ↦
          let e : k ≡ length (contour word) = omega arith in
          ap (λ (j : ℕ). node_at (contour word) (j % length (contour word))) e ∙ ap (node_at (contour word)) (whole (length (contour word)) (omega arith)) ∙ sym (at_end word m) ∙ sym (ap (node_at (contour word)) e)
    ] where
      whole : (n : ℕ) → 0 < n → n % n ≡ 0
      whole n l = let e : 0 + n ≡ n = omega arith in sym (ap (λ (k : ℕ). k % n) e) ∙ add-mod_right 0 n ∙ mod_stays 0 n l

-- a turn stays at the node
pub turn_keeps : (word other : List ℕ) (p : ℕ) → IsMatched word → IsBracketing (contour word) other → p < length (contour word) → node_at (contour word) (suc (slice_index other p) % length (contour word)) ≡ node_at (contour word) p
turn_keeps word other p m b l =
    let h = other_below (contour word) other p b l in
    around word (suc (slice_index other p)) m (omega (arith, h)) ∙ step_keeps word other p m b l

-- the first place of a node
pub first_of : ℕ → ℕ
first_of zero = 0
first_of (suc v) = suc (suc v)

first_behind : (v : ℕ) → 0 < v → first_of v ≡ suc v
unfolding first_of
first_behind zero l = absurd (omega arith)
first_behind (suc v) l = refl

first_at_plant : (places : List ℕ) → first_of (node_at places 0) ≡ 0
unfolding first_of
first_at_plant places = refl

-- the letter before a place is the `(` of its node, or leads to it by a turn from a place that isn't behind
module _ (word other : List ℕ) (matched : IsMatched word) (bracketing : IsBracketing (contour word) other) (value : ℕ → ℕ)
    (keeps : (p : ℕ) → p < length (contour word) → value (suc (slice_index other p) % length (contour word)) ≡ value p) where
  from_turn : (p : ℕ) → suc p < length (contour word) → ((q : ℕ) → q ≤ p → value q ≡ value (first_of (node_at (contour word) q))) → slice_index other p ≤ p → value (suc p) ≡ value (first_of (node_at (contour word) (suc p)))
  from_turn p l before back =
      let s : ℕ = slice_index other p in
      let twice : slice_index other s ≡ p = other_twice (contour word) other p bracketing (omega arith) in
      let next : suc (slice_index other s) % length (contour word) ≡ suc p = ap (λ (k : ℕ). suc k % length (contour word)) twice ∙ mod_stays (suc p) (length (contour word)) l in
      let kept : value (suc p) ≡ value s = ap value (sym next) ∙ keeps s (omega arith) in
      let same : node_at (contour word) (suc p) ≡ node_at (contour word) s = ap (λ (k : ℕ). node_at (contour word) (suc k)) (sym twice) ∙ step_keeps word other s matched bracketing (omega arith) in
      kept ∙ before s back ∙ ap (λ (v : ℕ). value (first_of v)) (sym same)

  from_last : (p : ℕ) → suc p < length (contour word) → ((q : ℕ) → q ≤ p → value q ≡ value (first_of (node_at (contour word) q))) → value (suc p) ≡ value (first_of (node_at (contour word) (suc p)))
  from_last p l before =
      elim (cases_eq (slice_index (contour word) p) OPEN) [
        | inl o ↦
            let some = behind_plant word p OPEN o (λ e. omega arith) in
            let here = ap (λ (xs : List ℕ). slice_index xs 0) (open_at_open (contour word) p o) in
            sym (ap (λ (v : ℕ). value (first_of v)) here ∙ ap value (first_behind p some))
        | inr n ↦ elim (cases_eq (slice_index (contour word) p) CLOSE) [
          | inl c ↦ from_turn p l before (let b = (bracketing.of_close p c).before in omega arith)
          | inr k ↦ from_turn p l before (let e = bracketing.of_letter p (omega arith) n k in omega arith)
        ]
      ]

  up_to : (n q : ℕ) → q ≤ n → q < length (contour word) → value q ≡ value (first_of (node_at (contour word) q))
  up_to n zero m l = sym (ap value (first_at_plant (contour word)))
  up_to zero (suc p) m l = absurd (omega arith)
  up_to (suc n) (suc p) m l = from_last p l (λ q k. up_to n q (omega arith) (omega arith))

  -- what turns keep is the same at all places of a node
  pub same_at_node : (p q : ℕ) → p < length (contour word) → q < length (contour word) → node_at (contour word) p ≡ node_at (contour word) q → value p ≡ value q
  same_at_node p q l m e = up_to p p (omega arith) l ∙ ap (λ (v : ℕ). value (first_of v)) e ∙ sym (up_to q q (omega arith) m)
