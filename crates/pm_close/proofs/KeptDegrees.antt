-- The vertices of a closure have the degrees of the nodes, and there are as many of each.
use Rattle.std.proofs.Common.{◌≡◌, ◌≢◌, ℕ, zero, suc, ◌+◌, ◌<◌, ◌≤◌, ◌==◌, ◌&&◌, ◌||◌, Bool, true, false, inl, inr, List, length, if◌then◌else◌, refl, sym, ◌∙◌, ap, subst, arith}
use Rattle.std.specs.Prelude.{slice_index}
use Rattle.std.proofs.lemmas.Bool.{cases_lt, cases_eq, eqb-true, eq-eqb, ne_eqb}
use Rattle.std.proofs.lemmas.List.{get_or_past}
use Rattle.pm_perm.specs.Permutation.{IsPermutationBelow}
use Rattle.pm_perm.specs.Count.{count_below}
use Rattle.pm_perm.specs.Cycles.{leader, IsInCycle}
use Rattle.pm_perm.proofs.Counts.{count_below-into}
use Rattle.pm_perm.proofs.InverseLemmas.{place_of, place_of-stays, value-place_of}
use Rattle.pm_perm.proofs.LeaderMaps.{leader-map, leader-is_least, leader_map-inside, leader_map-twice}
use Rattle.pm_perm.proofs.SameCycle.{in_cycle-back, in_cycle-leader, leader-in_cycle}
use Rattle.pm_brackets.specs.declared.letters.TheConstants.{OPEN}
use Rattle.pm_brackets.specs.Word.{IsBracketing}
use Rattle.pm_trees.specs.Word.{IsInOrder, contour}
use Rattle.pm_trees.specs.Node.{IsNode, degree}
use Rattle.pm_trees.specs.Degrees.{has_degree, nodes_before, nodes_of}
use Rattle.pm_trees.proofs.FourLetters.{bracketing_exists}
use Rattle.pm_brackets.proofs.Nesting.{other_below, across_one}
use Rattle.pm_brackets.proofs.RingPlaces.{mod_under}
use Rattle.pm_map.specs.Rotation.{RotationSystem, structure_of, IsRootedMap}
use Rattle.pm_map.specs.CycleSize.{IsCycleSize}
use Rattle.pm_map.specs.Classes.{degree_of, vertices_of_degree}
use Rattle.pm_map.proofs.CarriedSizes.{cycle_carried, cycle_back, size_carried}
use Rattle.pm_map.proofs.CycleSizes.{IsCycleSize-along}
use Rattle.pm_map.proofs.DegreeCounts.{degree_counts_darts}
use Rattle.pm_map.proofs.DegreeRules.{cycle_size_is_unique}
use Rattle.pm_close.specs.Closure.{IsClosed}
use Rattle.pm_map.specs.EdgeNumbers.{dart_of}
use Rattle.pm_close.specs.NodeDegrees.{HasNodeDegrees, DegreesAreKept}
use Rattle.pm_close.proofs.ClosureLemmas.{bracketing_across}
use Rattle.pm_close.proofs.Heads.{head_size, some_head, one_head}
use Rattle.pm_close.proofs.PlaneMap.{rooted_closure}

-- the number of nodes of a degree counts the places that name one
nodes_are_counted : (places : List ℕ) (d n : ℕ) → nodes_before places d n ≡ count_below (has_degree places d) n
nodes_are_counted places d zero = refl
nodes_are_counted places d (suc n) = ap (λ (k : ℕ). k + (if has_degree places d n then 1 else 0)) (nodes_are_counted places d n)

named : (places : List ℕ) (d node : ℕ) → has_degree places d node ≡ true → IsNode places node × (degree places node ≡ d)
named places d node h = elim (cases_eq node 0) [
  | inl root ↦ (inl root, of_test (degree places node) d ((node == 0) || (slice_index places node == OPEN)) h)
  | inr deeper ↦ (inr (opened places node d deeper h), of_test (degree places node) d ((node == 0) || (slice_index places node == OPEN)) h)
] where
  of_test : (x d : ℕ) (b : Bool) → (b && (x == d)) ≡ true → x ≡ d
  of_test x d true h = eqb-true x d h
  of_test x d false h = cc

  opened : (places : List ℕ) (node d : ℕ) → node ≢ 0 → has_degree places d node ≡ true → slice_index places node ≡ OPEN
  opened places node d deeper h = grind arith

names : (places : List ℕ) (d node : ℕ) → IsNode places node → degree places node ≡ d → has_degree places d node ≡ true
names places d node is e = elim is [
  | inl root ↦ of_root places d node root (eq-eqb (degree places node) d e)
  | inr opened ↦ of_open places d node (eq-eqb (slice_index places node) OPEN opened) (eq-eqb (degree places node) d e)
] where
  of_root : (places : List ℕ) (d node : ℕ) → node ≡ 0 → (degree places node == d) ≡ true → has_degree places d node ≡ true
  of_root places d node root e = let z : (node == 0) ≡ true = eq-eqb node 0 root in rw (z, e) refl

  of_open : (places : List ℕ) (d node : ℕ) → (slice_index places node == OPEN) ≡ true → (degree places node == d) ≡ true → has_degree places d node ≡ true
  of_open places d node o e = rw (o, e) (either (node == 0)) where
    either : (b : Bool) → ((b || true) && true) ≡ true
    either true = refl
    either false = refl

node_within : (word : List ℕ) (node : ℕ) → IsNode (contour word) node → node < length (contour word)
node_within word node is = elim is [
  | inl root ↦ omega (arith, root)
  | inr opened ↦ elim (cases_lt node (length (contour word))) [ inl h ↦ h | inr h ↦ absurd (omega (arith, opened, get_or_past (contour word) node 0 h)) ]
]

module _ (word : List ℕ) (map : RotationSystem) (order : IsInOrder word) (other : List ℕ) (bracketing : IsBracketing (contour word) other) (closed : IsClosed (contour word) map) (rooted : IsRootedMap map) where
  same_places : length map.sigma ≡ length (contour word)
  same_places = sym closed.carries.darts ∙ closed.is_closure.darts

  turns : IsPermutationBelow (length map.sigma) (slice_index map.sigma)
  turns = rooted.structure.rotation

  dart : ℕ → ℕ
  dart p = dart_of closed.closure.twin p

  dart_below : (p : ℕ) → p < length (contour word) → dart p < length map.sigma
  unfolding dart
  dart_below p l = omega (arith, closed.carries.renumbers.stays p (omega (arith, closed.is_closure.darts)), closed.carries.darts)

  next_permutes : IsPermutationBelow closed.closure.darts closed.closure.next
  next_permutes = record { stays = inside; injective = apart } where
    inside : (p : ℕ) → p < closed.closure.darts → closed.closure.next p < closed.closure.darts
    inside p l =
        let m : p < length (contour word) = omega (arith, closed.is_closure.darts) in
        omega (arith, closed.is_closure.rotation p (slice_index other p) m (bracketing_across (contour word) other bracketing p m), mod_under (suc (slice_index other p)) (length (contour word)) (omega arith), closed.is_closure.darts)

    apart : (p q : ℕ) → p < closed.closure.darts → q < closed.closure.darts → closed.closure.next p ≡ closed.closure.next q → p ≡ q
    apart p q l m e =
        closed.carries.renumbers.injective p q l m
        (turns.injective (dart_of closed.closure.twin p) (dart_of closed.closure.twin q)
        (omega (arith, closed.carries.renumbers.stays p l, closed.carries.darts)) (omega (arith, closed.carries.renumbers.stays q m, closed.carries.darts))
        (sym (closed.carries.next p l) ∙ ap (dart_of closed.closure.twin) e ∙ closed.carries.next q m))

  head : ℕ → ℕ
  head node = dart (slice_index other node)

  place_below : (node : ℕ) → IsNode (contour word) node → slice_index other node < closed.closure.darts
  place_below node is = omega (arith, other_below (contour word) other node bracketing (node_within word node is), closed.is_closure.darts)

  head_below : (node : ℕ) → IsNode (contour word) node → head node < length map.sigma
  unfolding head
  head_below node is = dart_below (slice_index other node) (omega (arith, place_below node is, closed.is_closure.darts))

  -- a node's degree is that of the vertex of its head
  degree_at_head : (node : ℕ) → IsNode (contour word) node → IsCycleSize (slice_index map.sigma) (head node) (degree (contour word) node)
  unfolding head dart
  degree_at_head node is =
      size_carried (dart_of closed.closure.twin) closed.closure (structure_of map) closed.carries next_permutes (slice_index other node) (degree (contour word) node) (place_below node is)
      (head_size word order other bracketing closed.closure closed.is_closure node is)

  record HasHead (d node : ℕ) : Type 0 where
    is_node : IsNode (contour word) node
    meets : IsInCycle (slice_index map.sigma) (head node) d

  -- each dart is in the vertex of a node
  has_head : (d : ℕ) → d < length map.sigma → (node : ℕ) × HasHead d node
  unfolding head dart
  has_head d l =
      let m : d < closed.closure.darts = omega (arith, closed.carries.darts) in
      let p = place_of (dart_of closed.closure.twin) closed.closure.darts d in
      let inside = place_of-stays (dart_of closed.closure.twin) closed.closure.darts d closed.carries.renumbers m in
      let value = value-place_of (dart_of closed.closure.twin) closed.closure.darts d closed.carries.renumbers m in
      let arrives = some_head word order other bracketing closed.closure closed.is_closure (place_of (dart_of closed.closure.twin) closed.closure.darts d) (omega (arith, inside, closed.is_closure.darts)) in
      let forth = cycle_carried (dart_of closed.closure.twin) closed.closure (structure_of map) closed.carries next_permutes (place_of (dart_of closed.closure.twin) closed.closure.darts d) (slice_index other arrives.0) inside arrives.1.arrives in
      let from_d = subst (λ (x : ℕ). IsInCycle (slice_index map.sigma) x (dart_of closed.closure.twin (slice_index other arrives.0))) value forth in
      (arrives.0, record { is_node = arrives.1.is_node; meets = in_cycle-back (length map.sigma) (slice_index map.sigma) turns d (dart_of closed.closure.twin (slice_index other arrives.0)) l from_d })

  -- and so that vertex has the node's degree
  degree_of_node : (d node : ℕ) → HasHead d node → IsCycleSize (slice_index map.sigma) d (degree (contour word) node)
  degree_of_node d node h =
      subst (λ (x : ℕ). IsCycleSize (slice_index map.sigma) x (degree (contour word) node)) h.meets.leads
      (IsCycleSize-along (length map.sigma) (slice_index map.sigma) (head node) (degree (contour word) node) h.meets.steps turns (head_below node h.is_node) (degree_at_head node h.is_node))

  -- two nodes whose heads are in one vertex are one
  one_node : (a b : ℕ) → IsNode (contour word) a → IsNode (contour word) b → IsInCycle (slice_index map.sigma) (head a) (head b) → a ≡ b
  unfolding head dart
  one_node a b a_node b_node met =
      let back = cycle_back (dart_of closed.closure.twin) closed.closure (structure_of map) closed.carries next_permutes (slice_index other a) (slice_index other b) (place_below a a_node) (place_below b b_node) met in
      let same = one_head word order other bracketing closed.closure closed.is_closure closed.closure.darts next_permutes a b (place_below a a_node) a_node b_node back in
      across_one (contour word) other a b bracketing (node_within word a a_node) (node_within word b b_node) same

  leads : ℕ → ℕ
  leads d = leader (length map.sigma) (slice_index map.sigma) d

  leads_below : (d : ℕ) → d < length map.sigma → leads d < length map.sigma
  unfolding leads
  leads_below d l = leader_map-inside (length map.sigma) (slice_index map.sigma) (leader (length map.sigma) (slice_index map.sigma)) (leader-map (length map.sigma) (slice_index map.sigma) turns) d l

  leads_twice : (d : ℕ) → d < length map.sigma → leads (leads d) ≡ leads d
  unfolding leads
  leads_twice d l = leader_map-twice (length map.sigma) (slice_index map.sigma) (leader (length map.sigma) (slice_index map.sigma)) (leader-map (length map.sigma) (slice_index map.sigma) turns) d l

  -- the tests of the two counts
  is_vertex : ℕ → ℕ → Bool
  is_vertex k d = (leader (length map.sigma) (slice_index map.sigma) d == d) && (degree_of (structure_of map) d == k)

  passes : (k d : ℕ) → d < length map.sigma → leads d ≡ d → IsCycleSize (slice_index map.sigma) d k → is_vertex k d ≡ true
  unfolding leads is_vertex
  passes k d l lead size =
      let a = eq-eqb (leader (length map.sigma) (slice_index map.sigma) d) d lead in
      let b = eq-eqb (degree_of (structure_of map) d) k ((degree_counts_darts (structure_of map) d k rooted.structure l).0 size) in
      rw (a, b) refl

  passed : (k d : ℕ) → d < length map.sigma → is_vertex k d ≡ true → (leads d ≡ d) × IsCycleSize (slice_index map.sigma) d k
  unfolding leads is_vertex
  passed k d l h =
      let both = split (leader (length map.sigma) (slice_index map.sigma) d == d) (degree_of (structure_of map) d == k) h in
      (eqb-true (leader (length map.sigma) (slice_index map.sigma) d) d both.0, (degree_counts_darts (structure_of map) d k rooted.structure l).1 (eqb-true (degree_of (structure_of map) d) k both.1)) where
        split : (a b : Bool) → (a && b) ≡ true → (a ≡ true) × (b ≡ true)
        split true b h = (refl, h)
        split false b h = absurd (no_truth h) where
          no_truth : false ≡ true → ⊥
          no_truth e = cc

  nodes_le : (k : ℕ) → count_below (has_degree (contour word) k) (length (contour word)) ≤ count_below (is_vertex k) (length map.sigma)
  unfolding leads
  nodes_le k =
      count_below-into (has_degree (contour word) k) (is_vertex k) (λ node. leads (head node)) (length (contour word)) (length map.sigma)
      (λ node l test. leads_below (head node) (head_below node (named (contour word) k node test).0))
      (λ node l test. vertex_of k node (named (contour word) k node test).0 (named (contour word) k node test).1)
      (λ a b la lb ta tb same. same_node a b (named (contour word) k a ta).0 (named (contour word) k b tb).0 same) where
        vertex_of : (k node : ℕ) → IsNode (contour word) node → degree (contour word) node ≡ k → is_vertex k (leads (head node)) ≡ true
        vertex_of k node is e =
            let below = head_below node is in
            let met : IsInCycle (slice_index map.sigma) (head node) (leader (length map.sigma) (slice_index map.sigma) (head node)) = (leader-is_least (length map.sigma) (slice_index map.sigma) turns (head node) below).met in
            passes k (leads (head node)) (leads_below (head node) below) (leads_twice (head node) below)
            (subst (λ (x : ℕ). IsCycleSize (slice_index map.sigma) (leader (length map.sigma) (slice_index map.sigma) (head node)) x) e (degree_of_node (leader (length map.sigma) (slice_index map.sigma) (head node)) node (record { is_node = is; meets = met })))

        same_node : (a b : ℕ) → IsNode (contour word) a → IsNode (contour word) b → leads (head a) ≡ leads (head b) → a ≡ b
        same_node a b a_node b_node same =
            one_node a b a_node b_node (leader-in_cycle (length map.sigma) (slice_index map.sigma) turns (head a) (head b) (head_below a a_node) (head_below b b_node) same)

  node_of : ℕ → ℕ
  node_of d = elim (cases_lt d (length map.sigma)) [ inl l ↦ (has_head d l).0 | inr far ↦ 0 ]

  node_of_is : (d : ℕ) → d < length map.sigma → HasHead d (node_of d)
  unfolding node_of
  node_of_is d l = elim (cases_lt d (length map.sigma)) as (λ c. HasHead d (elim c [ inl l ↦ (has_head d l).0 | inr far ↦ 0 ])) [ inl m ↦ (has_head d m).1 | inr far ↦ absurd (omega arith) ]

  vertices_le : (k : ℕ) → count_below (is_vertex k) (length map.sigma) ≤ count_below (has_degree (contour word) k) (length (contour word))
  unfolding leads
  vertices_le k =
      count_below-into (is_vertex k) (has_degree (contour word) k) node_of (length map.sigma) (length (contour word))
      (λ d l test. node_within word (node_of d) (node_of_is d l).is_node)
      (λ d l test. names (contour word) k (node_of d) (node_of_is d l).is_node (cycle_size_is_unique (slice_index map.sigma) d (degree (contour word) (node_of d)) k (degree_of_node d (node_of d) (node_of_is d l)) (passed k d l test).1))
      (λ d e l m dt et same. same_dart d e l m (passed k d l dt).0 (passed k e m et).0 same) where
        same_dart : (d e : ℕ) → d < length map.sigma → e < length map.sigma → leads d ≡ d → leads e ≡ e → node_of d ≡ node_of e → d ≡ e
        same_dart d e l m lead_d lead_e same =
            let a = node_of_is d l in
            let b = subst (HasHead e) (sym same) (node_of_is e m) in
            let below = head_below (node_of d) a.is_node in
            sym lead_d ∙ sym (in_cycle-leader (length map.sigma) (slice_index map.sigma) turns (head (node_of d)) d below a.meets)
            ∙ in_cycle-leader (length map.sigma) (slice_index map.sigma) turns (head (node_of d)) e below b.meets ∙ lead_e

  pub degrees_of_map : HasNodeDegrees word map
  unfolding is_vertex
  degrees_of_map = record {
    each = λ d l. ((has_head d l).0, record { is_node = (has_head d l).1.is_node; degree_is = degree_of_node d (has_head d l).0 (has_head d l).1 });
    counts = λ k. as_many k;
  } where
    antisym : (a b : ℕ) → a ≤ b → b ≤ a → a ≡ b
    antisym a b x y = omega arith

    as_many : (k : ℕ) → vertices_of_degree (structure_of map) k ≡ nodes_of word k
    as_many k =
        let some : (length map.sigma == 0) ≡ false = ne_eqb (length map.sigma) 0 (λ none. absurd (omega (arith, none, same_places))) in
        rw some (antisym (count_below (is_vertex k) (length map.sigma)) (count_below (has_degree (contour word) k) (length (contour word))) (vertices_le k) (nodes_le k) ∙ sym (nodes_are_counted (contour word) k (length (contour word))))

pub kept : DegreesAreKept
kept word map tree balanced closed =
    let bracketing = bracketing_exists word tree.in_order in
    degrees_of_map word map tree.in_order bracketing.0 bracketing.1 closed (rooted_closure word map tree balanced closed)
