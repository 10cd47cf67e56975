-- The nodes of what is spelled along the walk have the degrees of the structure's vertices, and the buds that they want.
use Rattle.std.proofs.Common.{◌≡◌, ◌≢◌, ℕ, suc, ◌<◌, ◌==◌, Bool, true, false, cond, inl, inr, List, [], ◌∷◌, length, drop, map, refl, sym, ap, ◌∙◌, subst, lit<, eq-eqb, ne_eqb, eqb-true, arith}
use Rattle.std.specs.Prelude.{slice_index, count_by}
use Rattle.std.proofs.lemmas.List.Sums.{sum_by-cons}
use Rattle.pm_perm.specs.Cycles.{repeated}
use Rattle.pm_perm.proofs.Repeats.{repeated-inside}
use Rattle.pm_trees.specs.declared.letters.TheConstants.{BUD}
use Rattle.pm_brackets.specs.declared.letters.TheConstants.{CLOSE}
use Rattle.pm_brackets.specs.Word.{IsBracketing, count}
use Rattle.pm_trees.specs.Word.{IsInOrder, contour}
use Rattle.pm_trees.specs.Node.{IsNode, IsDegree}
use Rattle.pm_trees.specs.Blossoming.{HasDegrees, HasBuds}
use Rattle.pm_trees.proofs.FourLetters.{bracketing_exists}
use Rattle.pm_brackets.proofs.Nesting.{other_twice}
use Rattle.pm_map.specs.Structure.{Structure}
use Rattle.pm_map.proofs.UniqueMeeting.{vertex_begins}
use Rattle.pm_close.specs.Closure.{IsClosure}
use Rattle.pm_close.specs.Nodes.{IsHead, IsNodeVertex}
use Rattle.pm_close.proofs.TwinLemmas.{within}
use Rattle.pm_close.proofs.NodeVertices.{node_vertices}
use Rattle.pm_close.proofs.Heads.{vertex_steps, vertex_size, vertex_length, root_head, head_is, one_head}
use Rattle.pm_open.proofs.EvenDegrees.{HasEvenDegrees}
use Rattle.pm_distances.proofs.Walked.{is_up, is_cut}
use Rattle.pm_walk.proofs.Edges.{cut_twin, cut_is_out}
use Rattle.pm_open.proofs.PlaceKinds.{a_plant, a_bud, a_leaf, an_open, a_close}
use Rattle.pm_open.proofs.SpelledPairs.{IsReadAlong, kind_of, in_order}

-- a test on the numbers of a list, as a test on what stands at them
count_mapped : (f g : ℕ → Bool) (h : ℕ → ℕ) (xs : List ℕ) → ((k : ℕ) → k < length xs → f (slice_index xs k) ≡ g (h (slice_index xs k))) → count_by f xs ≡ count_by g (map h xs)
count_mapped f g h [] e = refl
count_mapped f g h (x ∷ xs) e =
    let rest = count_mapped f g h xs (λ k l. e (suc k) (omega arith)) in
    let here : cond {A = ℕ} (f x) 1 0 ≡ cond (g (h x)) 1 0 = ap (λ (b : Bool). cond {A = ℕ} b 1 0) (e 0 (omega arith)) in
    omega (arith, rest, here, sum_by-cons (λ (y : ℕ). cond {A = ℕ} (f y) 1 0) x xs, sum_by-cons (λ (y : ℕ). cond {A = ℕ} (g y) 1 0) (h x) (map h xs))

-- what passes in a list whose first number passes, and whose later numbers pass where a bud stands
count_after_first : (f : ℕ → Bool) (h : ℕ → ℕ) (vertex : List ℕ) → 0 < length vertex → f (slice_index vertex 0) ≡ true
    → ((k : ℕ) → suc k < length vertex → f (slice_index vertex (suc k)) ≡ (h (slice_index vertex (suc k)) == BUD))
    → count_by f vertex ≡ suc (count BUD (map h (drop 1 vertex)))
count_after_first f h [] some first later = absurd (omega arith)
count_after_first f h (x ∷ xs) some first later =
    let rest = count_mapped f (λ y. y == BUD) h xs (λ k l. later k (omega arith)) in
    let here : cond {A = ℕ} (f x) 1 0 ≡ 1 = ap (λ (b : Bool). cond {A = ℕ} b 1 0) first in
    omega (arith, rest, here, sum_by-cons (λ (y : ℕ). cond {A = ℕ} (f y) 1 0) x xs)

module _ (s : Structure) (level : ℕ → ℕ) (word : List ℕ) (read : IsReadAlong s level (contour word)) (is : IsClosure (contour word) s) where
  order : IsInOrder word
  order = in_order s level word read

  -- a head is a dart
  head_within : (node head : ℕ) → IsHead (contour word) node head → head < s.darts
  head_within node head h =
      let some = read.some in
      let long = read.spelled.as_long in
      elim h [
        | inl root ↦ omega (arith, root.1)
        | inr pair ↦ (let l = within (contour word) head CLOSE (lit< tt) pair.closes in omega (arith, l))
      ]

  pub degrees : HasEvenDegrees s → HasDegrees word
  degrees even node named =
      let v = node_vertices word s order is node named in
      let size = vertex_size s v.1.head v.0 v.1.is_vertex in
      subst IsDegree (vertex_length (contour word) s node v.0 v.1) (even v.1.head (length v.0) (head_within node v.1.head v.1.is_head) size)

  -- which darts are up: the root, buds and closing brackets
  up_here : (d : ℕ) → d < s.darts → d < s.twin d → is_up s level d ≡ is_cut s level d
  up_here d l less = sym (cut_is_out s (is_up s level) d (omega arith))

  down_leaf : (d : ℕ) → d < s.darts → is_cut s level d ≡ true → s.twin d < d → is_up s level d ≡ false
  down_leaf d l cut less =
      let back = read.structure.twin_back d l in
      let lesser = cut_is_out s (is_up s level) (s.twin d) (omega arith) in
      let up : is_up s level (s.twin d) ≡ true = sym lesser ∙ cut_twin s (is_up s level) d read.structure l ∙ cut in
      let high : level (s.twin (s.twin d)) ≡ suc (level (s.twin d)) = eqb-true (level (s.twin (s.twin d))) (suc (level (s.twin d))) up in
      let same = ap level back in
      ne_eqb (level (s.twin d)) (suc (level d)) (λ e. omega arith)

  up_close : (d : ℕ) → d < s.darts → is_cut s level d ≡ false → s.twin d < d → is_up s level d ≡ true
  up_close d l kept less =
      let back = read.structure.twin_back d l in
      let low = read.opened.kept_down (s.twin d) (read.structure.twin_stays d l) (cut_twin s (is_up s level) d read.structure l ∙ kept) (omega arith) in
      let same = ap level back in
      eq-eqb (level (s.twin d)) (suc (level d)) (omega arith)

  -- a head is up
  head_up : (node head : ℕ) → IsHead (contour word) node head → is_up s level head ≡ true
  head_up node head h =
      let inside = head_within node head h in
      elim h [
        | inl root ↦ subst (λ (k : ℕ). is_up s level k ≡ true) (sym root.1) (sym (cut_is_out s (is_up s level) 0 (omega arith)) ∙ read.root_cut)
        | inr pair ↦ elim (kind_of s level (contour word) read head inside) [
          | a_plant _ _ e ↦ absurd (let c = pair.closes in omega arith)
          | a_bud _ _ _ e ↦ absurd (let c = pair.closes in omega arith)
          | a_leaf _ _ _ e ↦ absurd (let c = pair.closes in omega arith)
          | an_open _ _ _ e ↦ absurd (let c = pair.closes in omega arith)
          | a_close _ kept less _ ↦ up_close head inside kept less
        ]
      ]

  -- a dart that is no head is up where it is a bud
  up_bud : (d : ℕ) → d < s.darts → d ≢ 0 → slice_index (contour word) d ≢ CLOSE → is_up s level d ≡ (slice_index (contour word) d == BUD)
  up_bud d l some no_close = elim (kind_of s level (contour word) read d l) [
    | a_plant first _ _ ↦ absurd (some first)
    | a_bud _ cut less e ↦ up_here d l less ∙ cut ∙ sym (eq-eqb (slice_index (contour word) d) BUD e)
    | a_leaf _ cut less e ↦ down_leaf d l cut less ∙ sym (ne_eqb (slice_index (contour word) d) BUD (λ f. omega arith))
    | an_open _ kept less e ↦ up_here d l less ∙ kept ∙ sym (ne_eqb (slice_index (contour word) d) BUD (λ f. omega arith))
    | a_close _ _ _ e ↦ absurd (no_close e)
  ]

  -- the later darts of a node's vertex are no heads
  record IsNoHead (d : ℕ) : Type 0 where
    inside : d < s.darts
    no_plant : d ≢ 0
    no_close : slice_index (contour word) d ≢ CLOSE

  no_head : (other : List ℕ) → IsBracketing (contour word) other → (node : ℕ) → IsNode (contour word) node → (vertex : List ℕ) → IsNodeVertex (contour word) s node vertex
      → (k : ℕ) → suc k < length vertex → IsNoHead (slice_index vertex (suc k))
  no_head other bracketing node named vertex v k l =
      let long = read.spelled.as_long in
      let head = head_is word order other bracketing s is node v.head v.is_head in
      let in_head = head_within node v.head v.is_head in
      let met = vertex_steps s v.head vertex v.is_vertex (suc k) l in
      let inside : slice_index vertex (suc k) < s.darts = subst (λ (e : ℕ). e < s.darts) (sym met) (repeated-inside s.next s.darts read.structure.rotation (suc k) v.head in_head) in
      let apart = v.is_vertex.once k l in
      let never : (b : ℕ) → IsNode (contour word) b → slice_index vertex (suc k) ≡ slice_index other b → ⊥ = λ b b_node e.
      apart (e ∙ sym (one_head word order other bracketing s is s.darts read.structure.rotation node b (subst (λ (h : ℕ). h < s.darts) head in_head) named b_node
      (record { steps = suc k; leads = ap (repeated s.next (suc k)) (sym head) ∙ sym met ∙ e })) ∙ sym head) in
      record {
        inside = inside;
        no_plant = λ e. never 0 (inl refl) (e ∙ sym (root_head word order other bracketing s is));
        no_close = λ c. never (slice_index other (slice_index vertex (suc k))) (inr (bracketing.of_close (slice_index vertex (suc k)) c).opens)
            (sym (other_twice (contour word) other (slice_index vertex (suc k)) bracketing (omega arith)));
      }

  pub buds_are : HasBuds word
  buds_are node named =
      let bracketing = bracketing_exists word order in
      let v = node_vertices word s order is node named in
      let inside = head_within node v.1.head v.1.is_head in
      let begins = vertex_begins s v.1.head v.0 v.1.is_vertex in
      let first : is_up s level (slice_index v.0 0) ≡ true = ap (is_up s level) begins.1 ∙ head_up node v.1.head v.1.is_head in
      let counted = count_after_first (is_up s level) (slice_index (contour word)) v.0 begins.0 first (λ k l.
      let h = no_head bracketing.0 bracketing.1 node named v.0 v.1 k l in
      up_bud (slice_index v.0 (suc k)) h.inside h.no_plant h.no_close) in
      let half = read.opened.half_up v.1.head v.0 inside v.1.is_vertex in
      let same = ap (count BUD) v.1.letters_are in
      let long = vertex_length (contour word) s node v.0 v.1 in
      omega (arith, counted, half, same, long)
