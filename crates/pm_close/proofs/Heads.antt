-- Each vertex of a closure has the head of one node.
use Rattle.std.proofs.Common.{◌≡◌, ◌≢◌, ℕ, zero, suc, ◌+◌, ◌-◌, ◌%◌, ◌<◌, ◌≤◌, ◌⊎◌, inl, inr, List, [], ◌∷◌, length, get_or, drop, refl, sym, ◌∙◌, ap, subst, arith, Contains}
use Rattle.std.specs.Prelude.{slice_index}
use Rattle.std.proofs.lemmas.Bool.{cases_eq}
use Rattle.std.proofs.lemmas.List.{get_or-map, length-map}
use Rattle.std.proofs.Common.{get_or-drop}
use Rattle.pm_perm.proofs.Contained.{contains_at, is_at}
use Rattle.pm_perm.specs.Permutation.{IsPermutationBelow}
use Rattle.pm_perm.specs.Cycles.{repeated, IsInCycle}
use Rattle.pm_perm.proofs.SameCycle.{in_cycle-through, in_cycle-back}
use Rattle.pm_trees.specs.declared.letters.TheConstants.{LEAF}
use Rattle.pm_brackets.specs.declared.letters.TheConstants.{OPEN, CLOSE}
use Rattle.pm_brackets.specs.Word.{IsBracketing}
use Rattle.pm_trees.specs.Word.{IsInOrder, contour}
use Rattle.pm_trees.specs.Node.{IsNode, own_letters, entries, degree}
use Rattle.pm_brackets.proofs.Nesting.{one_closer}
use Rattle.pm_brackets.proofs.RingPlaces.{mod_stays}
use Rattle.pm_trees.proofs.Own.{other_here, other_above, open_above, close_above}
use Rattle.pm_map.specs.Structure.{Structure}
use Rattle.pm_map.specs.CycleSize.{IsCycleSize}
use Rattle.pm_map.specs.Meeting.{IsVertexFrom}
use Rattle.pm_map.proofs.UniqueMeeting.{vertex_begins}
use Rattle.pm_map.proofs.WholeMeeting.{vertex_holds_next}
use Rattle.pm_close.specs.Closure.{IsAcross, from_open, from_close, from_letter, IsClosure}
use Rattle.pm_close.specs.Nodes.{IsHead, IsNodeVertex}
use Rattle.pm_close.proofs.ClosureLemmas.{bracketing_across, across_within, succ_last}
use Rattle.pm_close.proofs.NodeVertices.{node_vertices}

-- no letter of the list closes a bracket
NoneCloses : List ℕ → Type 0
NoneCloses xs = (k : ℕ) → k < length xs → slice_index xs k ≢ CLOSE

none_in_none : NoneCloses []
unfolding NoneCloses
none_in_none k l = absurd (omega arith)

none_more : (x : ℕ) (xs : List ℕ) → x ≢ CLOSE → NoneCloses xs → NoneCloses (x ∷ xs)
unfolding NoneCloses
none_more x xs ne h zero l = ne
none_more x xs ne h (suc k) l = h k (omega arith)

open_is_not_close : OPEN ≢ CLOSE
open_is_not_close e = omega arith

-- no letter of a level closes a bracket
own_letters_close_none : (d : ℕ) (xs : List ℕ) → NoneCloses (own_letters d xs)
own_letters_close_none d [] = none_in_none
own_letters_close_none zero (x ∷ xs) = elim (cases_eq x OPEN) [
  | inl o ↦ subst (λ (y : ℕ). NoneCloses (own_letters 0 (y ∷ xs))) (sym o) (none_more OPEN (own_letters 1 xs) open_is_not_close (own_letters_close_none 1 xs))
  | inr n ↦ elim (cases_eq x CLOSE) [
    | inl c ↦ subst (λ (y : ℕ). NoneCloses (own_letters 0 (y ∷ xs))) (sym c) none_in_none
    | inr m ↦ subst NoneCloses (sym (other_here x xs (record { not_open = n; not_close = m }))) (none_more x (own_letters 0 xs) m (own_letters_close_none 0 xs))
  ]
]
own_letters_close_none (suc d) (x ∷ xs) = elim (cases_eq x OPEN) [
  | inl o ↦ subst (λ (y : ℕ). NoneCloses (own_letters (suc d) (y ∷ xs))) (sym o) (subst NoneCloses (sym (open_above d xs)) (own_letters_close_none (suc (suc d)) xs))
  | inr n ↦ elim (cases_eq x CLOSE) [
    | inl c ↦ subst (λ (y : ℕ). NoneCloses (own_letters (suc d) (y ∷ xs))) (sym c) (subst NoneCloses (sym (close_above d xs)) (own_letters_close_none d xs))
    | inr m ↦ subst NoneCloses (sym (other_above d x xs (record { not_open = n; not_close = m }))) (own_letters_close_none (suc d) xs)
  ]
]

no_close_in_level : (xs : List ℕ) (k : ℕ) → k < length (own_letters 0 xs) → slice_index (own_letters 0 xs) k ≢ CLOSE
unfolding NoneCloses
no_close_in_level xs k l = own_letters_close_none 0 xs k l

-- the darts of a vertex are met from its first, and lead back after as many steps as there are
pub vertex_steps : (s : Structure) (d : ℕ) (vertex : List ℕ) → IsVertexFrom s d vertex → (k : ℕ) → k < length vertex → slice_index vertex k ≡ repeated s.next k d
vertex_steps s d vertex is zero l = (vertex_begins s d vertex is).1
vertex_steps s d vertex is (suc k) l = is.goes k l ∙ ap s.next (vertex_steps s d vertex is k (omega arith))

pub vertex_size : (s : Structure) (d : ℕ) (vertex : List ℕ) → IsVertexFrom s d vertex → IsCycleSize s.next d (length vertex)
vertex_size s d vertex is =
    let some = (vertex_begins s d vertex is).0 in
    let last : suc (length vertex - 1) ≡ length vertex = omega arith in
    record {
      some = some;
      back = ap (λ (k : ℕ). repeated s.next k d) (sym last) ∙ ap s.next (sym (vertex_steps s d vertex is (length vertex - 1) (omega arith))) ∙ is.ends;
      least = λ k positive less e. again s d vertex is k positive less e;
    } where
      again : (s : Structure) (d : ℕ) (vertex : List ℕ) → IsVertexFrom s d vertex → (k : ℕ) → 0 < k → k < length vertex → repeated s.next k d ≡ d → ⊥
      again s d vertex is zero positive less e = omega arith
      again s d vertex is (suc k) positive less e = is.once k less (vertex_steps s d vertex is (suc k) less ∙ e)

-- a vertex has as many darts as its node has entries, and one more
pub vertex_length : (places : List ℕ) (s : Structure) (node : ℕ) (vertex : List ℕ) → IsNodeVertex places s node vertex → length vertex ≡ degree places node
vertex_length places s node vertex v =
    omega (arith, ap length v.letters_are, length-map (drop 1 vertex) (slice_index places), dropped vertex (vertex_begins s v.head vertex v.is_vertex).0) where
      dropped : (xs : List ℕ) → 0 < length xs → suc (length (drop 1 xs)) ≡ length xs
      dropped [] l = absurd (omega arith)
      dropped (x ∷ xs) l = refl

-- what is met from the first dart of a vertex stands in it
vertex_all : (s : Structure) (d : ℕ) (vertex : List ℕ) → IsVertexFrom s d vertex → (k : ℕ) → Contains vertex (repeated s.next k d)
vertex_all s d vertex is zero = (contains_at _ _ 0 ((vertex_begins s d vertex is).0) ((vertex_begins s d vertex is).1))
vertex_all s d vertex is (suc k) = (vertex_holds_next s d vertex is).next_stands (repeated s.next k d) (vertex_all s d vertex is k)

module _ (word : List ℕ) (order : IsInOrder word) (other : List ℕ) (bracketing : IsBracketing (contour word) other) (s : Structure) (is : IsClosure (contour word) s) where
  around : (p : ℕ) → p < length (contour word) → IsAcross (contour word) p (slice_index other p)
  around p l = bracketing_across (contour word) other bracketing p l

  -- the plant is across itself
  pub root_head : slice_index other 0 ≡ 0
  root_head = bracketing.of_letter 0 (omega arith) (λ e. no_plant e (omega arith)) (λ e. no_plant e (omega arith)) where
    no_plant : {x : ℕ} → LEAF ≡ x → LEAF ≢ x → ⊥
    no_plant e ne = ne e

  -- the head of a node is the place across it
  pub head_is : (node head : ℕ) → IsHead (contour word) node head → head ≡ slice_index other node
  head_is node head h = elim h [
    | inl root ↦ root.1 ∙ sym root_head ∙ ap (slice_index other) (sym root.0)
    | inr pair ↦ one_closer (contour word) node head (slice_index other node) pair (bracketing.of_open node pair.opens)
  ]

  -- a node's degree is the size of its head's vertex
  pub head_size : (node : ℕ) → IsNode (contour word) node → IsCycleSize s.next (slice_index other node) (degree (contour word) node)
  head_size node named =
      let v = node_vertices word s order is node named in
      let sized = vertex_size s v.1.head v.0 v.1.is_vertex in
      subst (λ (h : ℕ). IsCycleSize s.next h (degree (contour word) node)) (head_is node v.1.head v.1.is_head)
      (subst (λ (k : ℕ). IsCycleSize s.next v.1.head k) (vertex_length (contour word) s node v.0 v.1) sized)

  -- the node at whose head the vertex of a place arrives
  pub record ArrivesAt (p node : ℕ) : Type 0 where
    pub is_node : IsNode (contour word) node
    pub arrives : IsInCycle s.next p (slice_index other node)

  at_root : (p : ℕ) → p ≡ 0 → ArrivesAt p 0
  at_root p e = record { is_node = inl refl; arrives = record { steps = 0; leads = e ∙ sym root_head } }

  at_close : (p : ℕ) → slice_index (contour word) p ≡ CLOSE → ArrivesAt p (slice_index other p)
  at_close p c =
      let pair = bracketing.of_close p c in
      record { is_node = inr pair.opens; arrives = record { steps = 0; leads = one_closer (contour word) (slice_index other p) p (slice_index other (slice_index other p)) pair (bracketing.of_open (slice_index other p) pair.opens) } }

  onward : (p : ℕ) → p < length (contour word) → slice_index (contour word) p ≢ CLOSE → p ≤ slice_index other p
  onward p l not_close = elim (around p l) [
    | from_open h ↦ (let b = h.before in omega arith)
    | from_close h ↦ absurd (not_close h.closes)
    | from_letter _ _ e ↦ omega arith
  ]

  next_is : (p : ℕ) → p < length (contour word) → s.next p ≡ suc (slice_index other p) % length (contour word)
  next_is p l = is.rotation p (slice_index other p) l (around p l)

  arrives_from : (n p : ℕ) → p < length (contour word) → length (contour word) ≤ p + n → (node : ℕ) × ArrivesAt p node
  arrives_from zero p l far = absurd (omega arith)
  arrives_from (suc n) p l far = elim (cases_eq (slice_index (contour word) p) CLOSE) [
    | inl c ↦ (slice_index other p, at_close p c)
    | inr not_close ↦ elim (cases_eq (suc (slice_index other p)) (length (contour word))) [
      | inl last ↦
          let home : s.next p ≡ 0 = next_is p l ∙ ap (λ (k : ℕ). k % length (contour word)) last ∙ succ_last (length (contour word)) (omega arith) in
          (0, record { is_node = inl refl; arrives = record { steps = 1; leads = home ∙ sym root_head } })
      | inr more ↦
          let inside = across_within (contour word) p (slice_index other p) l (around p l) in
          let up = onward p l not_close in
          let less : suc (slice_index other p) < length (contour word) = omega (arith, more, inside) in
          let rest = arrives_from n (suc (slice_index other p)) less (omega (arith, up)) in
          let step : s.next p ≡ suc (slice_index other p) = next_is p l ∙ mod_stays (suc (slice_index other p)) (length (contour word)) less in
          (rest.0, record { is_node = rest.1.is_node; arrives = in_cycle-through s.next p (suc (slice_index other p)) (slice_index other rest.0) (record { steps = 1; leads = step }) rest.1.arrives })
    ]
  ]

  -- the vertex of each place arrives at the head of a node
  pub some_head : (p : ℕ) → p < length (contour word) → (node : ℕ) × ArrivesAt p node
  some_head p l = arrives_from (length (contour word)) p l (omega arith)

  -- the head of another node isn't in the vertex of a node, but for the plant
  meets_plant : (a b : ℕ) → IsNode (contour word) a → IsNode (contour word) b → IsInCycle s.next (slice_index other a) (slice_index other b) → (slice_index other a ≡ slice_index other b) ⊎ (b ≡ 0)
  meets_plant a b a_node b_node met = elim b_node [
    | inl root ↦ inr root
    | inr opened ↦
        let v = node_vertices word s order is a a_node in
        let head = head_is a v.1.head v.1.is_head in
        let stands : Contains v.0 (repeated s.next met.steps v.1.head) = vertex_all s v.1.head v.0 v.1.is_vertex met.steps in
        let there : repeated s.next met.steps v.1.head ≡ slice_index other b = ap (λ (h : ℕ). repeated s.next met.steps h) head ∙ met.leads in
        by_place a b v.0 v.1 head opened stands.0 stands.1 ((is_at _ _ stands) ∙ there)
  ] where
    in_tail : (vertex : List ℕ) (k : ℕ) → slice_index (drop 1 vertex) k ≡ slice_index vertex (suc k)
    in_tail vertex k = let e : 1 + k ≡ suc k = omega arith in get_or-drop 1 vertex k 0 ∙ ap (λ (i : ℕ). get_or vertex i 0) e

    by_place : (a b : ℕ) (vertex : List ℕ) (v : IsNodeVertex (contour word) s a vertex) → v.head ≡ slice_index other a → slice_index (contour word) b ≡ OPEN
        → (place : ℕ) → place < length vertex → slice_index vertex place ≡ slice_index other b → (slice_index other a ≡ slice_index other b) ⊎ (b ≡ 0)
    by_place a b vertex v head opened zero l here = inl (sym head ∙ sym (vertex_begins s v.head vertex v.is_vertex).1 ∙ here)
    by_place a b vertex v head opened (suc k) l here =
        let closes : slice_index (contour word) (slice_index other b) ≡ CLOSE = (bracketing.of_open b opened).closes in
        let inside : k < length (drop 1 vertex) = tail_long vertex k l in
        let letter : slice_index (entries (contour word) a) k ≡ slice_index (contour word) (slice_index other b) =
        ap (λ (xs : List ℕ). slice_index xs k) (sym v.letters_are) ∙ get_or-map (slice_index (contour word)) (drop 1 vertex) k 0 0 inside
        ∙ ap (slice_index (contour word)) (in_tail vertex k ∙ here) in
        let long : k < length (entries (contour word) a) = omega (arith, inside, ap length v.letters_are, length-map (drop 1 vertex) (slice_index (contour word))) in
        absurd (never a k long (letter ∙ closes)) where
          tail_long : (vertex : List ℕ) (k : ℕ) → suc k < length vertex → k < length (drop 1 vertex)
          tail_long [] k l = absurd (omega arith)
          tail_long (x ∷ xs) k l = omega arith

          never : (a k : ℕ) → k < length (entries (contour word) a) → slice_index (entries (contour word) a) k ≢ CLOSE
          never a k l = no_close_in_level (drop (suc a) (contour word)) k l

  -- no vertex has the heads of two nodes
  pub one_head : (n : ℕ) → IsPermutationBelow n s.next → (a b : ℕ) → slice_index other a < n → IsNode (contour word) a → IsNode (contour word) b
      → IsInCycle s.next (slice_index other a) (slice_index other b) → slice_index other a ≡ slice_index other b
  one_head n perm a b l a_node b_node met = elim (meets_plant a b a_node b_node met) [
    | inl same ↦ same
    | inr b_root ↦ elim (meets_plant b a b_node a_node (in_cycle-back n s.next perm (slice_index other a) (slice_index other b) l met)) [
      | inl same ↦ sym same
      | inr a_root ↦ ap (slice_index other) (a_root ∙ sym b_root)
    ]
  ]
