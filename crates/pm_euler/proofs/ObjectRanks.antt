-- The ranks of node objects, from the kinds of objects in preorder.
use Rattle.std.proofs.Common.{◌≡◌, ℕ, suc, ◌-◌, ◌*◌, ◌<◌, List, length, map, get_or, All, refl, ap, sym, ◌∙◌, subst, arith, Contains}
use Rattle.std.specs.Prelude.{slice_index, slice_index_or}
use Rattle.std.proofs.lemmas.List.{length-map, get_or-map, ext_get_or}
use Rattle.std.proofs.lemmas.List.FromFn.{get_or-map-range_with_len, length-map-range_with_len}
use Rattle.pm_perm.specs.Permutation.{IsPermutationList}
use Rattle.pm_perm.proofs.Contained.{contains_at, is_at}
use Rattle.pm_perm.proofs.InverseLemmas.{place_of, place_of-of_value}
use Rattle.pm_perm.proofs.Permutations.{reached}
use Rattle.pm_trees.specs.Binomial.{choose}
use Rattle.pm_trees.specs.BudPattern.{IsHalfDegree}
use Rattle.pm_trees.specs.Pairs.{IsProfile, edges_of}
use Rattle.pm_words.specs.Word.{turned}
use Rattle.pm_objects.specs.Objects.{arity_of}
use Rattle.pm_objects.proofs.ObjectCounts.{numbers}
use Rattle.pm_objects.proofs.Sorting.{stands_turned}
use Rattle.pm_planting.specs.Kinds.{IsKind, half_of, halves_in}
use Rattle.pm_planting.specs.declared.kind.Kind.{Kind}
use Rattle.pm_planting.specs.declared.kind.Kind.TheVariants.{Leaf, Node}
use Rattle.pm_euler.specs.Objects.{halves_of, kind_of, kinds_of, nodes_of_profile}
use Rattle.pm_euler.proofs.ObjectKinds.{half_degrees, kind_leaf, kind_node, node_object}
use Rattle.pm_euler.proofs.ObjectLemmas.{halves_are}

-- ranks by object, where the objects in preorder have these kinds
pub record AreRanksOf (pairs : List (ℕ × ℕ)) (kinds : List Kind) (objects ranks : List ℕ) : Type 0 where
  pub long : length ranks ≡ nodes_of_profile pairs
  pub kinds_are : kinds_of (halves_of pairs) ranks objects ≡ kinds
  pub below : (k : ℕ) → k < nodes_of_profile pairs → slice_index ranks k < choose (2 * slice_index (halves_of pairs) k - 1) (slice_index (halves_of pairs) k)

rank_in : Kind → ℕ
rank_in Leaf = 0
rank_in (Node half rank) = rank

rank_is : (half rank : ℕ) → rank_in (Node half rank) ≡ rank
unfolding rank_in
rank_is half rank = refl

module _ (pairs : List (ℕ × ℕ)) (kinds : List Kind) (objects : List ℕ) (is : IsProfile pairs) (each : All IsKind kinds) (halves : half_degrees (halves_of pairs) objects ≡ halves_in kinds) where
  pub as_long : length objects ≡ length kinds
  as_long = sym (length-map objects (arity_of (halves_of pairs))) ∙ ap length halves ∙ length-map kinds half_of

  half_here : (k : ℕ) (kind : Kind) → k < length kinds → get_or kinds k Leaf ≡ kind → arity_of (halves_of pairs) (slice_index objects k) ≡ half_of kind
  half_here k kind less e =
      sym (get_or-map (arity_of (halves_of pairs)) objects k 0 0 (omega (arith, less, as_long))) ∙ ap (λ (hs : List ℕ). get_or hs k 0) halves ∙ get_or-map half_of kinds k Leaf 0 less ∙ ap half_of e

  node_here : (k half rank : ℕ) → k < length kinds → get_or kinds k Leaf ≡ Node half rank → 0 < arity_of (halves_of pairs) (slice_index objects k)
  node_here k half rank less e =
      let node : IsKind (Node half rank) = subst IsKind e (each k Leaf less) in
      let some = node.0.some in
      let same = half_here k (Node half rank) less e in
      omega (arith, some, same)

  -- the object of a node is a node object
  pub node_within : (k half rank : ℕ) → k < length kinds → get_or kinds k Leaf ≡ Node half rank → slice_index objects k < nodes_of_profile pairs
  node_within k half rank less e = node_object (halves_of pairs) (slice_index objects k) (node_here k half rank less e)

  module _ (ranks : List ℕ) (permute : IsPermutationList objects) (long : length ranks ≡ nodes_of_profile pairs)
      (ranked : (k half rank : ℕ) → k < length kinds → get_or kinds k Leaf ≡ Node half rank → slice_index ranks (slice_index objects k) ≡ rank) where
    kind_here : (k : ℕ) (kind : Kind) → k < length kinds → get_or kinds k Leaf ≡ kind → kind_of (halves_of pairs) ranks (slice_index objects k) ≡ kind
    kind_here k Leaf less e = kind_leaf (halves_of pairs) ranks (slice_index objects k) (half_here k Leaf less e)
    kind_here k (Node half rank) less e =
        let same : arity_of (halves_of pairs) (slice_index objects k) ≡ half = half_here k (Node half rank) less e in
        let rank_is : slice_index_or ranks (slice_index objects k) 0 ≡ rank = ranked k half rank less e in
        let node = kind_node (halves_of pairs) ranks (slice_index objects k) (node_here k half rank less e) in
        cc

    rank_low : (object k : ℕ) (kind : Kind) → object < nodes_of_profile pairs → k < length kinds → slice_index objects k ≡ object → get_or kinds k Leaf ≡ kind
        → slice_index ranks object < choose (2 * slice_index (halves_of pairs) object - 1) (slice_index (halves_of pairs) object)
    rank_low object k Leaf node less here e =
        absurd (
        let same = ap (arity_of (halves_of pairs)) (sym here) ∙ half_here k Leaf less e in
        let some = (halves_are pairs is object 0 node).some in
        omega (arith, same, some)
        )
    rank_low object k (Node half rank) node less here e =
        let is_node : IsKind (Node half rank) = subst IsKind e (each k Leaf less) in
        let same : arity_of (halves_of pairs) object ≡ half = ap (arity_of (halves_of pairs)) (sym here) ∙ half_here k (Node half rank) less e in
        let rank_is : slice_index ranks object ≡ rank = ap (slice_index ranks) (sym here) ∙ ranked k half rank less e in
        subst (λ (n : ℕ). n < choose (2 * slice_index (halves_of pairs) object - 1) (slice_index (halves_of pairs) object)) (sym rank_is) (subst (λ (h : ℕ). rank < choose (2 * h - 1) h) (sym same) is_node.1)

    pub ranks_of : length objects ≡ suc (edges_of pairs) → nodes_of_profile pairs < suc (edges_of pairs) → AreRanksOf pairs kinds objects ranks
    ranks_of many few = record {
      long = long;
      kinds_are = ext_get_or Leaf (kinds_of (halves_of pairs) ranks objects) kinds (length-map objects (kind_of (halves_of pairs) ranks) ∙ as_long)
          (λ k less. let inside : k < length objects = (let l = length-map objects (kind_of (halves_of pairs) ranks) in omega (arith, less, l)) in
          get_or-map (kind_of (halves_of pairs) ranks) objects k 0 Leaf inside ∙ kind_here k (get_or kinds k Leaf) (omega (arith, inside, as_long)) refl);
      below = λ object node.
          let at = reached (slice_index objects) (length objects) object permute (omega (arith, node, few, many)) in
          let inside = at.below in
          rank_low object at.from (get_or kinds at.from Leaf) node (omega (arith, inside, as_long)) at.value refl;
    }

  -- there are such ranks
  pub ranks_exist : IsPermutationList objects → length objects ≡ suc (edges_of pairs) → nodes_of_profile pairs < suc (edges_of pairs) → (ranks : List ℕ) × AreRanksOf pairs kinds objects ranks
  ranks_exist permute many few =
      let rank : ℕ → ℕ = λ object. rank_in (get_or kinds (place_of (slice_index objects) (length objects) object) Leaf) in (
        map rank (numbers (nodes_of_profile pairs)),
        ranks_of (map rank (numbers (nodes_of_profile pairs))) permute
            (length-map-range_with_len rank 0 (nodes_of_profile pairs))
            (λ k half r less e.
            get_or-map-range_with_len rank 0 (nodes_of_profile pairs) (slice_index objects k) (slice_index objects k) 0 (node_within k half r less e) (omega arith)
            ∙ ap (λ (n : ℕ). rank_in (get_or kinds n Leaf)) (place_of-of_value (slice_index objects) (length objects) k permute (omega (arith, less, as_long))) ∙ ap rank_in e ∙ rank_is half r)
            many few,
      )

-- the rank of an object that stands among objects of the same kinds
same_rank : (halves ranks others objects : List ℕ) (object : ℕ) → kinds_of halves ranks objects ≡ kinds_of halves others objects → Contains objects object → 0 < arity_of halves object
    → slice_index_or ranks object 0 ≡ slice_index_or others object 0
same_rank halves ranks others objects object same stands some =
    let here = is_at objects object stands in
    let at : (some_ranks : List ℕ) → get_or (kinds_of halves some_ranks objects) stands.0 Leaf ≡ kind_of halves some_ranks object =
    λ some_ranks. get_or-map (kind_of halves some_ranks) objects stands.0 0 Leaf stands.1 ∙ ap (kind_of halves some_ranks) here in
    let kinds : kind_of halves ranks object ≡ kind_of halves others object = sym (at ranks) ∙ ap (λ (ks : List Kind). get_or ks stands.0 Leaf) same ∙ at others in
    let nodes : Node (arity_of halves object) (slice_index_or ranks object 0) ≡ Node (arity_of halves object) (slice_index_or others object 0) = sym (kind_node halves ranks object some) ∙ kinds ∙ kind_node halves others object some in
    cc

pub same_ranks : (halves ranks others objects : List ℕ) → length ranks ≡ length halves → length others ≡ length halves → All IsHalfDegree halves → ((object : ℕ) → object < length halves → Contains objects object)
    → kinds_of halves ranks objects ≡ kinds_of halves others objects → ranks ≡ others
same_ranks halves ranks others objects long other_long are stand same =
    ext_get_or 0 ranks others (long ∙ sym other_long)
    (λ object less. let inside : object < length halves = omega (arith, less, long) in same_rank halves ranks others objects object same (stand object inside) (are object 0 inside).some)

-- an object stands wherever all of them are
pub object_stands : (start object : ℕ) (arrangement objects : List ℕ) → IsPermutationList arrangement → objects ≡ turned start arrangement → object < length arrangement → Contains objects object
object_stands start object arrangement objects is turned_is less =
    let at = reached (slice_index arrangement) (length arrangement) object is less in
    subst (λ (os : List ℕ). Contains os object) (sym turned_is) (stands_turned start arrangement object (contains_at arrangement object at.from at.below at.value))
