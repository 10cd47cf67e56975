-- The first step of sampling maps with given even degrees: a code of the objects and ranks make a tree and the rest.
use Rattle.std.proofs.Common.{length-take, ◌^◌, ◌≤◌, ◌+◌, take_all, length-drop, ◌==◌, count_by, ◌≡◌, ℕ, suc, ◌-◌, ◌*◌, ◌/◌, ◌<◌, inl, inr, List, [], ◌∷◌, ◌++◌, length, map, All, take, drop, take-append-drop, refl, ap, ap₂, sym, ◌∙◌, subst, arith}
use Rattle.pm_objects.proofs.ObjectCounts.{numbers}
use Rattle.pm_objects.proofs.ObjectsPut.{objects_many}
use Rattle.pm_words.proofs.Heights.{length-turned}
use Rattle.std.proofs.lemmas.List.FromFn.{length-range_with_len}
use Rattle.pm_planting.specs.declared.kind.Kind.TheVariants.{Node, Leaf}
use Rattle.pm_objects.proofs.SameCounts.{IsAsMany}
use Rattle.std.specs.Prelude.{slice_index_or, slice_index}
use Rattle.std.proofs.lemmas.Bool.{cases_eq}
use Rattle.std.proofs.lemmas.List.{drop_at, get_or-map, length-map, take_at}
use Rattle.pm_lists.specs.Valid.{IsValidList}
use Rattle.pm_lehmer.specs.Lehmer.{IsArrangementCode, code_of}
use Rattle.pm_lehmer.proofs.Arranged.{length-arrangement, length-code_of}
use Rattle.pm_trees.specs.Binomial.{choose}
use Rattle.pm_trees.specs.Blossoming.{IsBlossoming}
use Rattle.pm_trees.specs.Degrees.{nodes_of}
use Rattle.pm_trees.specs.Pairs.{IsProfile, edges_of, pair_at}
use Rattle.pm_words.specs.Word.{IsGood, turned}
use Rattle.pm_words.specs.Plane.{letter_of}
use Rattle.pm_objects.specs.Codes.{AreObjectsOf, bounds_by_range, code_bounds}
use Rattle.pm_objects.specs.Objects.{nodes_of_ranges, AreApart, arity_of, letters_of}
use Rattle.pm_objects.specs.Preorder.{ArePreordered}
use Rattle.pm_objects.proofs.CodeBounds.{length-bounds_by_range, length-code_bounds, valid_append, valid_code, valid_codes, valid_cons, valid_push}
use Rattle.pm_objects.proofs.ObjectsFound.{some_objects, found_of_objects, AreFound, objects_found}
use Rattle.pm_objects.proofs.OneOrder.{one_order, turned_injective}
use Rattle.pm_objects.proofs.Preorders.{letters_turned}
use Rattle.pm_objects.proofs.RangeCodes.{IsCodeOfLength, code_from_valid, codes_exist, valid_last, valid_parts}
use Rattle.pm_planting.specs.Kinds.{IsKind, IsWordOfKinds, halves_in, letters_in}
use Rattle.pm_planting.specs.declared.kind.Kind.{Kind}
use Rattle.pm_planting.proofs.KindLaws.{kinds_no_odd, kinds_nodes}
use Rattle.pm_planting.proofs.KindSides.{kinds_good}
use Rattle.pm_planting.proofs.PlaneTrees.{one_word, word_exists}
use Rattle.pm_planting.proofs.SideReading.{one_reading}
use Rattle.pm_planting.proofs.SideTexts.{same_push}
use Rattle.pm_planting.proofs.WordKinds.{kinds_each, kinds_exist}
use Rattle.pm_euler.specs.Bounds.{eulerian_prefixes, eulerian_residues, eulerian_rests}
use Rattle.pm_euler.specs.Eulerian.{MakesEulerian, codes_by_degree}
use Rattle.pm_euler.specs.Objects.{IsPlantedPlane, halves_of, kind_of, kinds_of, leaves_of_profile, nodes_of_profile, ranges_of}
use Rattle.pm_euler.specs.Sampled.{HasNodes, IsPrefixOf, IsMade}
use Rattle.pm_euler.proofs.ObjectKinds.{are_kinds, counted_halves, half_degrees, halves_in_kinds, letters_of_kinds, plane_planted_blossoming}
use Rattle.pm_euler.proofs.ObjectLemmas.{HasObjects, all_of_profile, halves_are, halves_few, halves_some, profile_apart}
use Rattle.pm_euler.proofs.ObjectRanks.{node_within, ranks_of, AreRanksOf, object_stands, ranks_exist, same_ranks}
use Rattle.pm_euler.proofs.Preorders.{IsPreorder, one_preorder, preorder_exists, preorder_is}
use Rattle.pm_euler.proofs.TreeNodes.{profile_kinds}
use Rattle.pm_euler.proofs.TreeSamples.{parts_are, HasParts, HasPrefix, HasMade, JoinsRests, MakesTrees}

-- an even degree and its half, or a degree that is odd or 0
data IsHalved (degree : ℕ) : Type 0 where
  even : (half : ℕ) → 0 < half → degree ≡ 2 * half → IsHalved degree
  unhalved : ((half : ℕ) → 0 < half → degree ≡ 2 * half → ⊥) → IsHalved degree

halved : (degree : ℕ) → IsHalved degree
halved degree = elim (cases_eq (2 * (degree / 2)) degree) [
  | inl same ↦ elim (cases_eq degree 0) [
    | inl none ↦ unhalved (λ half some e. omega (arith, none, some, e))
    | inr some ↦ even (degree / 2) (omega (arith, same, some)) (sym same)
  ]
  | inr apart ↦ unhalved (λ half some e. apart (omega (arith, e)))
]

-- the nodes of a tree whose objects are those of the profile
planted_nodes : (pairs : List (ℕ × ℕ)) (ranks objects word : List ℕ) → IsProfile pairs → HasObjects pairs objects → IsPlantedPlane (halves_of pairs) ranks objects word → HasNodes word pairs
planted_nodes pairs ranks objects word is has planted = record {
  counts = λ k less.
      let right = is.are_pairs.right k less in
      let twice : (pair_at pairs k).0 ≡ 2 * ((pair_at pairs k).0 / 2) = (let e = right.even in omega (arith, e)) in
      let some : 0 < (pair_at pairs k).0 / 2 = (let s = right.some in omega (arith, s)) in
      ap (nodes_of word) twice ∙ counted ((pair_at pairs k).0 / 2) some ∙ has.of_pair k less;
  others = λ degree none. by_half degree none (halved degree);
} where
  counted : (half : ℕ) → 0 < half → nodes_of word (2 * half) ≡ count_by (λ object. arity_of (halves_of pairs) object == half) objects
  counted half some = kinds_nodes (kinds_of (halves_of pairs) ranks objects) word planted half some ∙ counted_halves (halves_of pairs) ranks objects half

  by_half : (degree : ℕ) → ((k : ℕ) → k < length pairs → (pair_at pairs k).0 ≡ degree → ⊥) → IsHalved degree → nodes_of word degree ≡ 0
  by_half degree none (even half some twice) = ap (nodes_of word) twice ∙ counted half some ∙ has.of_no_pair half some (λ k less e. none k less (e ∙ sym twice))
  by_half degree none (unhalved apart) = kinds_no_odd (kinds_of (halves_of pairs) ranks objects) word planted degree apart

-- the two parts of a valid prefix
pub record AreParts (pairs : List (ℕ × ℕ)) (prefix : List ℕ) : Type 0 where
  pub coded : IsCodeOfLength (suc (edges_of pairs)) (take (suc (edges_of pairs)) prefix)
  pub ranks_long : length (drop (suc (edges_of pairs)) prefix) ≡ nodes_of_profile pairs
  pub ranks_low : (k : ℕ) → k < nodes_of_profile pairs → slice_index (drop (suc (edges_of pairs)) prefix) k < choose (2 * slice_index (halves_of pairs) k - 1) (slice_index (halves_of pairs) k)

pub prefix_parts : (pairs : List (ℕ × ℕ)) (prefix : List ℕ) → IsValidList prefix (eulerian_prefixes pairs) → AreParts pairs prefix
prefix_parts pairs prefix valid =
    let patterns : ℕ → ℕ = λ half. choose (2 * half - 1) half in
    let v = valid_parts (suc (edges_of pairs)) prefix (code_bounds (suc (edges_of pairs))) (map (λ half. choose (2 * half - 1) half) (halves_of pairs)) (length-code_bounds (suc (edges_of pairs))) valid in
    let long : length (drop (suc (edges_of pairs)) prefix) ≡ nodes_of_profile pairs = v.1.as_long ∙ length-map (halves_of pairs) patterns in
    record {
      coded = code_from_valid (suc (edges_of pairs)) (take (suc (edges_of pairs)) prefix) v.0;
      ranks_long = long;
      ranks_low = λ k less.
          subst (λ (n : ℕ). slice_index (drop (suc (edges_of pairs)) prefix) k < n) (get_or-map (λ half. choose (2 * half - 1) half) (halves_of pairs) k 0 0 less) (v.1.below k (omega (arith, less, long)));
    }

-- the same, where the objects are counted otherwise
module _ (pairs : List (ℕ × ℕ)) (prefix : List ℕ) (m : ℕ) (valid : IsValidList prefix (eulerian_prefixes pairs)) (counted : m ≡ suc (edges_of pairs)) where
  pub code_long : length (take m prefix) ≡ suc (edges_of pairs)
  code_long = ap (λ (n : ℕ). length (take n prefix)) counted ∙ (prefix_parts pairs prefix valid).coded.long

  pub code_valid : IsArrangementCode (take m prefix)
  code_valid = subst (λ (n : ℕ). IsArrangementCode (take n prefix)) (sym counted) (prefix_parts pairs prefix valid).coded.is_code

  pub code_within : m ≤ length prefix
  code_within = let l = code_long in omega (arith, counted, l, length-take m prefix)

  pub ranks_are : take (length prefix - m) (drop m prefix) ≡ drop (suc (edges_of pairs)) prefix
  ranks_are = take_all (length prefix - m) (drop m prefix) (omega (arith, length-drop m prefix)) ∙ ap (λ (n : ℕ). drop n prefix) counted

  pub preordered_of : (halves : List ℕ) (start : ℕ) (objects : List ℕ) → halves ≡ halves_of pairs → ArePreordered 1 halves (take m prefix) start objects → ArePreordered 1 (halves_of pairs) (take (suc (edges_of pairs)) prefix) start objects
  preordered_of halves start objects same p =
      subst (λ (hs : List ℕ). ArePreordered 1 hs (take (suc (edges_of pairs)) prefix) start objects) same (subst (λ (n : ℕ). ArePreordered 1 halves (take n prefix) start objects) counted p)

  pub kinds_are : (kinds : List Kind) (halves objects others : List ℕ) → halves ≡ halves_of pairs → others ≡ objects → kinds ≡ kinds_of halves (take (length prefix - m) (drop m prefix)) others → kinds ≡ kinds_of (halves_of pairs) (drop (suc (edges_of pairs)) prefix) objects
  kinds_are kinds halves objects others h o e = e ∙ ap₂ (λ (hs rs : List ℕ). kinds_of hs rs others) h ranks_are ∙ ap (kinds_of (halves_of pairs) (drop (suc (edges_of pairs)) prefix)) o

-- what is known of the objects and the tree that a prefix makes
pub made_preorder : (pairs : List (ℕ × ℕ)) (prefix : List ℕ) (start : ℕ) (objects : List ℕ) → IsProfile pairs → IsValidList prefix (eulerian_prefixes pairs) → ArePreordered 1 (halves_of pairs) (take (suc (edges_of pairs)) prefix) start objects → IsPreorder pairs start objects
made_preorder pairs prefix start objects is valid preordered = preorder_is pairs (take (suc (edges_of pairs)) prefix) start objects is (prefix_parts pairs prefix valid).coded.long preordered

made_blossoms : (pairs : List (ℕ × ℕ)) (prefix word rest : List ℕ) → IsProfile pairs → IsValidList prefix (eulerian_prefixes pairs) → MakesEulerian pairs prefix word rest → IsBlossoming word
made_blossoms pairs prefix word rest is valid made =
    let long = (made_preorder pairs prefix made.start made.objects is valid made.are_preordered).long in
    let few = is.few in
    plane_planted_blossoming (halves_of pairs) (drop (suc (edges_of pairs)) prefix) made.objects word (halves_are pairs is) made.is_planted (omega (arith, long, few))

only : (pairs : List (ℕ × ℕ)) (prefix word rest : List ℕ) → IsProfile pairs → IsValidList prefix (eulerian_prefixes pairs) → MakesEulerian pairs prefix word rest → IsMade pairs (eulerian_rests pairs) word rest
only pairs prefix word rest is valid made =
    let p = made_preorder pairs prefix made.start made.objects is valid made.are_preordered in
    record {
      blossoming = made_blossoms pairs prefix word rest is valid made;
      nodes = planted_nodes pairs (drop (suc (edges_of pairs)) prefix) made.objects word is p.has made.is_planted;
      valid = subst (λ (r : List ℕ). IsValidList r (eulerian_rests pairs)) (sym made.rest_is)
          (valid_cons made.start (suc (edges_of pairs)) (codes_by_degree pairs made.objects) (bounds_by_range (ranges_of pairs) (leaves_of_profile pairs)) p.within (valid_codes (ranges_of pairs) (leaves_of_profile pairs) made.objects p.ranged));
    }

-- the kinds of the objects can be planted
pub record ArePlantable (pairs : List (ℕ × ℕ)) (kinds : List Kind) : Type 0 where
  pub each : All IsKind kinds
  pub long : length kinds ≡ suc (edges_of pairs)
  pub some : 1 < length kinds
  pub good : IsGood 1 (letters_in kinds)

pub plantable : (pairs : List (ℕ × ℕ)) (prefix : List ℕ) (start : ℕ) (objects : List ℕ) → IsProfile pairs → IsValidList prefix (eulerian_prefixes pairs) → ArePreordered 1 (halves_of pairs) (take (suc (edges_of pairs)) prefix) start objects
    → ArePlantable pairs (kinds_of (halves_of pairs) (drop (suc (edges_of pairs)) prefix) objects)
plantable pairs prefix start objects is valid preordered =
    let ranks : List ℕ = drop (suc (edges_of pairs)) prefix in
    let p = made_preorder pairs prefix start objects is valid preordered in
    let parts = prefix_parts pairs prefix valid in
    let all : length (kinds_of (halves_of pairs) (drop (suc (edges_of pairs)) prefix) objects) ≡ suc (edges_of pairs) = length-map objects (kind_of (halves_of pairs) (drop (suc (edges_of pairs)) prefix)) ∙ p.long in
    record {
      each = are_kinds (halves_of pairs) (drop (suc (edges_of pairs)) prefix) objects (halves_are pairs is) parts.ranks_low;
      long = all;
      some = (let some = halves_some pairs is in let few = halves_few pairs is in omega (arith, all, some, few));
      good = subst (IsGood 1) (sym (letters_of_kinds (halves_of pairs) (drop (suc (edges_of pairs)) prefix) objects)) p.good;
    }

each_prefix : (pairs : List (ℕ × ℕ)) → IsProfile pairs → (prefix : List ℕ) → IsValidList prefix (eulerian_prefixes pairs) → HasMade (MakesEulerian pairs) prefix
each_prefix pairs is prefix valid =
    let coded = (prefix_parts pairs prefix valid).coded in
    let preorder = preorder_exists pairs (take (suc (edges_of pairs)) prefix) is coded.long coded.is_code in
    let kinds = plantable pairs prefix preorder.start preorder.objects is valid preorder.are_preordered in
    let planted = word_exists (kinds_of (halves_of pairs) (drop (suc (edges_of pairs)) prefix) preorder.objects) kinds.each kinds.some kinds.good in
    record {
      word = planted.0;
      rest = preorder.start ∷ codes_by_degree pairs preorder.objects;
      is_made = record { start = preorder.start; objects = preorder.objects; are_preordered = preorder.are_preordered; is_planted = planted.1; rest_is = refl };
    }

-- objects whose word is good are the preorder of their arrangement
found_preorder : (pairs : List (ℕ × ℕ)) (halves : List ℕ) (start : ℕ) (codes code : List ℕ) → IsProfile pairs → (f : AreFound (ranges_of pairs) (leaves_of_profile pairs) halves start codes) → start < suc (edges_of pairs) → code_of f.arrangement ≡ code
    → IsGood 1 (letters_of (halves_of pairs) f.objects) → ArePreordered 1 (halves_of pairs) code start f.objects
found_preorder pairs halves start codes code is f less coded good =
    let letters : length (letters_of (halves_of pairs) f.arrangement) ≡ length f.arrangement = length-map f.arrangement (λ object. letter_of (arity_of (halves_of pairs) object)) in
    let long = f.arranged_long ∙ all_of_profile pairs is in
    record {
      arrangement = f.arrangement;
      is_arranged = record { is_permutation = f.arranged; has_code = coded };
      is_start = record {
        within = omega (arith, less, letters, long);
        good = subst (IsGood 1) (ap (letters_of (halves_of pairs)) f.turned_is ∙ letters_turned (halves_of pairs) start f.arrangement) good;
      };
      are_turned = f.turned_is;
    }

-- objects of the kinds of a tree and their ranks, as a prefix
pub prefix_of_objects : (pairs : List (ℕ × ℕ)) (kinds : List Kind) (start : ℕ) (codes word ranks : List ℕ) → IsProfile pairs → start < suc (edges_of pairs) → IsWordOfKinds kinds word
    → (f : AreFound (ranges_of pairs) (leaves_of_profile pairs) (halves_in kinds) start codes) → AreRanksOf pairs kinds f.objects ranks
    → IsPrefixOf (eulerian_prefixes pairs) (MakesEulerian pairs) (code_of f.arrangement ++ ranks) word (start ∷ codes)
prefix_of_objects pairs kinds start codes word ranks is less planted f r =
    let m : ℕ = suc (edges_of pairs) in
    let long : length (code_of f.arrangement) ≡ suc (edges_of pairs) = length-code_of f.arrangement ∙ f.arranged_long ∙ all_of_profile pairs is in
    let good : IsGood 1 (letters_of (halves_of pairs) f.objects) = subst (IsGood 1) (sym (ap letters_in r.kinds_are) ∙ letters_of_kinds (halves_of pairs) ranks f.objects) (kinds_good kinds word planted) in
    record {
      valid = valid_append (code_of f.arrangement) ranks (code_bounds (suc (edges_of pairs))) (map (λ half. choose (2 * half - 1) half) (halves_of pairs))
          (valid_code (suc (edges_of pairs)) f.arrangement (f.arranged_long ∙ all_of_profile pairs is)) (record {
            as_long = r.long ∙ sym (length-map (halves_of pairs) (λ half. choose (2 * half - 1) half));
            below = λ k inside.
                let node : k < nodes_of_profile pairs = (let l = r.long in omega (arith, inside, l)) in
                subst (λ (n : ℕ). slice_index ranks k < n) (sym (get_or-map (λ half. choose (2 * half - 1) half) (halves_of pairs) k 0 0 node)) (r.below k node);
          });
      is_made = record {
        start = start;
        objects = f.objects;
        are_preordered = found_preorder pairs (halves_in kinds) start codes (take m (code_of f.arrangement ++ ranks)) is f less (sym (take_at (code_of f.arrangement) ranks m long)) good;
        is_planted = subst (λ (rs : List ℕ). IsPlantedPlane (halves_of pairs) rs f.objects word) (sym (drop_at (code_of f.arrangement) ranks m long)) (subst (λ (ks : List Kind). IsWordOfKinds ks word) (sym r.kinds_are) planted);
        rest_is = ap (λ (cs : List ℕ). start ∷ cs) (sym f.codes_are);
      };
    }

-- the two parts of a valid rest
pub record AreRestParts (pairs : List (ℕ × ℕ)) (rest : List ℕ) : Type 0 where
  pub start_low : slice_index rest 0 < suc (edges_of pairs)
  pub codes_valid : IsValidList (drop 1 rest) (bounds_by_range (ranges_of pairs) (leaves_of_profile pairs))
  pub whole : rest ≡ slice_index rest 0 ∷ drop 1 rest

pub rest_parts : (pairs : List (ℕ × ℕ)) (rest : List ℕ) → IsValidList rest (eulerian_rests pairs) → AreRestParts pairs rest
rest_parts pairs [] valid = absurd (let l = valid.as_long in omega (arith, l))
rest_parts pairs (start ∷ codes) valid = record {
  start_low = valid.below 0 (omega arith);
  codes_valid = (let l = valid.as_long in record { as_long = omega (arith, l); below = λ k less. valid.below (suc k) (omega (arith, less)) });
  whole = refl;
}

each_tree : (pairs : List (ℕ × ℕ)) → IsProfile pairs → (word rest : List ℕ) → IsMade pairs (eulerian_rests pairs) word rest → HasPrefix (eulerian_prefixes pairs) (MakesEulerian pairs) word rest
each_tree pairs is word rest made =
    let r = rest_parts pairs rest made.valid in
    let less = r.start_low in
    let all = all_of_profile pairs is in
    let few = halves_few pairs is in
    let kinds = kinds_exist word made.blossoming in
    let many = profile_kinds pairs kinds.0 word is kinds.1 made.nodes in
    let have = codes_exist (ranges_of pairs) (leaves_of_profile pairs) (drop 1 rest) (profile_apart pairs is) r.codes_valid in
    let f = objects_found (ranges_of pairs) (leaves_of_profile pairs) (profile_apart pairs is) (halves_in kinds.0) many (drop 1 rest) have (slice_index rest 0) (omega (arith, all, less)) in
    let ranks = ranks_exist pairs kinds.0 f.objects is (kinds_each kinds.0 word made.blossoming kinds.1) f.arities_are f.permute (f.long ∙ all) (omega (arith, few)) in
    record {
      prefix = code_of f.arrangement ++ ranks.0;
      is = subst (IsPrefixOf (eulerian_prefixes pairs) (MakesEulerian pairs) (code_of f.arrangement ++ ranks.0) word) (sym r.whole) (prefix_of_objects pairs kinds.0 (slice_index rest 0) (drop 1 rest) word ranks.0 is less kinds.1 f ranks.1);
    }

one_tree : (pairs : List (ℕ × ℕ)) → IsProfile pairs → (prefix word other rest more : List ℕ) → IsValidList prefix (eulerian_prefixes pairs) → MakesEulerian pairs prefix word rest → MakesEulerian pairs prefix other more → (word ≡ other) × (rest ≡ more)
one_tree pairs is prefix word other rest more valid x y =
    let ranks : List ℕ = drop (suc (edges_of pairs)) prefix in
    let one = one_preorder pairs (take (suc (edges_of pairs)) prefix) x.start y.start x.objects y.objects is (prefix_parts pairs prefix valid).coded.long x.are_preordered y.are_preordered in (
      one_word (kinds_of (halves_of pairs) (drop (suc (edges_of pairs)) prefix) x.objects) word other x.is_planted (subst (λ (os : List ℕ). IsPlantedPlane (halves_of pairs) (drop (suc (edges_of pairs)) prefix) os other) (sym one.same) y.is_planted),
      x.rest_is ∙ ap₂ (λ (s : ℕ) (os : List ℕ). s ∷ codes_by_degree pairs os) one.starts one.same ∙ sym y.rest_is,
    )

one_prefix : (pairs : List (ℕ × ℕ)) → IsProfile pairs → (prefix other word rest : List ℕ) → IsValidList prefix (eulerian_prefixes pairs) → IsValidList other (eulerian_prefixes pairs) → MakesEulerian pairs prefix word rest → MakesEulerian pairs other word rest → prefix ≡ other
one_prefix pairs is prefix other word rest valid other_valid x y =
    let m : ℕ = suc (edges_of pairs) in
    let halves : List ℕ = halves_of pairs in
    let ranks : List ℕ = drop (suc (edges_of pairs)) prefix in
    let other_ranks : List ℕ = drop (suc (edges_of pairs)) other in
    let a = prefix_parts pairs prefix valid in
    let b = prefix_parts pairs other other_valid in
    let p = made_preorder pairs prefix x.start x.objects is valid x.are_preordered in
    let q = made_preorder pairs other y.start y.objects is other_valid y.are_preordered in
    let arranged : length x.are_preordered.arrangement ≡ suc (edges_of pairs) = length-arrangement (take m prefix) x.are_preordered.arrangement x.are_preordered.is_arranged ∙ a.coded.long in
    let other_arranged : length y.are_preordered.arrangement ≡ suc (edges_of pairs) = length-arrangement (take m other) y.are_preordered.arrangement y.are_preordered.is_arranged ∙ b.coded.long in
    let as_long : length x.are_preordered.arrangement ≡ length y.are_preordered.arrangement = arranged ∙ sym other_arranged in
    let rests : x.start ∷ codes_by_degree pairs x.objects ≡ y.start ∷ codes_by_degree pairs y.objects = sym x.rest_is ∙ y.rest_is in
    let starts : x.start ≡ y.start = cc in
    let codes_are : codes_by_degree pairs x.objects ≡ codes_by_degree pairs y.objects = cc in
    let kinds : kinds_of halves ranks x.objects ≡ kinds_of halves other_ranks y.objects = one_reading (kinds_of halves ranks x.objects) (kinds_of halves other_ranks y.objects) word x.is_planted y.is_planted in
    let keys : half_degrees halves x.objects ≡ half_degrees halves y.objects = sym (halves_in_kinds halves ranks x.objects) ∙ ap halves_in kinds ∙ halves_in_kinds halves other_ranks y.objects in
    let objects : x.objects ≡ y.objects =
    one_order (ranges_of pairs) (leaves_of_profile pairs) x.start y.start x.are_preordered.arrangement y.are_preordered.arrangement x.objects y.objects p.ranged q.ranged x.are_preordered.is_arranged.is_permutation
    y.are_preordered.is_arranged.is_permutation as_long x.are_preordered.are_turned y.are_preordered.are_turned keys codes_are in
    let arrangements : x.are_preordered.arrangement ≡ y.are_preordered.arrangement =
    turned_injective x.start x.are_preordered.arrangement y.are_preordered.arrangement as_long
    (sym x.are_preordered.are_turned ∙ objects ∙ y.are_preordered.are_turned ∙ ap (λ (s : ℕ). turned s y.are_preordered.arrangement) (sym starts)) in
    let codes : take m prefix ≡ take m other = sym x.are_preordered.is_arranged.has_code ∙ ap code_of arrangements ∙ y.are_preordered.is_arranged.has_code in
    let few = halves_few pairs is in
    let all_ranks : ranks ≡ other_ranks =
    same_ranks halves ranks other_ranks x.objects a.ranks_long b.ranks_long (halves_are pairs is)
    (λ object less. object_stands x.start object x.are_preordered.arrangement x.objects x.are_preordered.is_arranged.is_permutation x.are_preordered.are_turned (omega (arith, less, few, arranged)))
    (kinds ∙ ap (kinds_of halves other_ranks) (sym objects)) in
    sym (take-append-drop m prefix) ∙ ap₂ (λ (c r : List ℕ). c ++ r) codes all_ranks ∙ take-append-drop m other

pub eulerian_makes : (pairs : List (ℕ × ℕ)) → IsProfile pairs → MakesTrees pairs (eulerian_prefixes pairs) (eulerian_rests pairs) (MakesEulerian pairs)
eulerian_makes pairs is = record {
  only = λ prefix word rest valid made. only pairs prefix word rest is valid made;
  each_prefix = each_prefix pairs is;
  each_tree = each_tree pairs is;
  one_tree = one_tree pairs is;
  one_prefix = one_prefix pairs is;
}

-- the residue is the rest and the old plant
abbrev pub eulerian_parts : (pairs : List (ℕ × ℕ)) (residue : List ℕ) → IsValidList residue (eulerian_residues pairs) → HasParts (eulerian_rests pairs) (suc (leaves_of_profile pairs)) (λ rest old_plant. rest ++ old_plant ∷ []) residue
eulerian_parts pairs residue valid =
    let p = valid_last residue (eulerian_rests pairs) (suc (leaves_of_profile pairs)) valid in
    let parts = parts_are residue p.prefix p.last p.whole in
    record {
      rest = take (length residue - 1) residue;
      old_plant = slice_index residue (length residue - 1);
      whole = p.whole ∙ ap₂ (λ (xs : List ℕ) (k : ℕ). xs ++ k ∷ []) (sym parts.0) (sym parts.1);
      valid = subst (λ (xs : List ℕ). IsValidList xs (eulerian_rests pairs)) (sym parts.0) p.valid;
      low = subst (λ (k : ℕ). k < suc (leaves_of_profile pairs)) (sym parts.1) p.low;
    }

pub eulerian_joins : (pairs : List (ℕ × ℕ)) → JoinsRests (eulerian_rests pairs) (eulerian_residues pairs) (suc (leaves_of_profile pairs)) (λ rest old_plant. rest ++ old_plant ∷ [])
eulerian_joins pairs = record {
  whole = λ rest old_plant valid low. valid_push rest (eulerian_rests pairs) old_plant (suc (leaves_of_profile pairs)) valid low;
  parts = λ residue valid. eulerian_parts pairs residue valid;
  once = λ rest other old_plant plant e. let s = same_push rest other old_plant plant e in (s.lists, s.last);
}

-- what the call for the objects of a tree's kinds with the codes of a rest asks
pub record AreOwed (ranges : List (ℕ × ℕ)) (halves codes : List ℕ) : Type 0 where
  pub apart : AreApart ranges
  pub nodes : nodes_of_ranges ranges ≤ length halves
  pub as_long : length codes ≡ length halves
  pub few : length halves < 2 ^ 32
  pub some : (objects : List ℕ) × AreObjectsOf ranges halves codes objects

module _ (pairs : List (ℕ × ℕ)) (kinds : List Kind) (word rest : List ℕ) (is : IsProfile pairs) (made : IsMade pairs (eulerian_rests pairs) word rest) (planted : IsWordOfKinds kinds word) where
  many : IsAsMany (halves_in kinds) (half_degrees (halves_of pairs) (numbers (nodes_of_profile pairs + leaves_of_profile pairs)))
  many = profile_kinds pairs kinds word is planted made.nodes

  kinds_many : length (halves_in kinds) ≡ suc (edges_of pairs)
  kinds_many =
      many.lengths ∙ length-map (numbers (nodes_of_profile pairs + leaves_of_profile pairs)) (arity_of (halves_of pairs)) ∙ length-range_with_len 0 (nodes_of_profile pairs + leaves_of_profile pairs) ∙ all_of_profile pairs is

  codes_are : take (length rest - 1) (drop 1 rest) ≡ drop 1 rest
  codes_are = take_all (length rest - 1) (drop 1 rest) (omega (arith, length-drop 1 rest))

  pub objects_owed : (ranges : List (ℕ × ℕ)) (halves : List ℕ) → ranges ≡ ranges_of pairs → halves ≡ halves_in kinds → AreOwed ranges halves (take (length rest - 1) (drop 1 rest))
  objects_owed ranges halves r h =
      let p = rest_parts pairs rest made.valid in
      let few = is.few in
      let nodes = halves_few pairs is in
      let long : length (drop 1 rest) ≡ suc (edges_of pairs) = p.codes_valid.as_long ∙ length-bounds_by_range (ranges_of pairs) (leaves_of_profile pairs) ∙ all_of_profile pairs is in
      let have = codes_exist (ranges_of pairs) (leaves_of_profile pairs) (drop 1 rest) (profile_apart pairs is) p.codes_valid in
      subst (λ (rs : List (ℕ × ℕ)). AreOwed rs halves (take (length rest - 1) (drop 1 rest))) (sym r)
      (subst (λ (hs : List ℕ). AreOwed (ranges_of pairs) hs (take (length rest - 1) (drop 1 rest))) (sym h)
      (subst (AreOwed (ranges_of pairs) (halves_in kinds)) (sym codes_are) (record {
        apart = profile_apart pairs is;
        nodes = omega (arith, kinds_many, nodes);
        as_long = long ∙ sym kinds_many;
        few = omega (arith, kinds_many, few);
        some = some_objects (ranges_of pairs) (leaves_of_profile pairs) (profile_apart pairs is) (halves_in kinds) many (drop 1 rest) have;
      })))

  -- the objects that are read
  module _ (objects : List ℕ) (read : AreObjectsOf (ranges_of pairs) (halves_in kinds) (take (length rest - 1) (drop 1 rest)) objects) where
    pub objects_total : length objects ≡ suc (edges_of pairs)
    objects_total = objects_many (ranges_of pairs) (halves_in kinds) (take (length rest - 1) (drop 1 rest)) objects read ∙ kinds_many

    pub objects_turned : length (turned (length objects - slice_index rest 0) objects) ≡ suc (edges_of pairs)
    objects_turned = length-turned (length objects - slice_index rest 0) objects (omega arith) ∙ objects_total

    pub start_within : slice_index rest 0 < length objects
    start_within = let low = (rest_parts pairs rest made.valid).start_low in omega (arith, low, objects_total)

    pub objects_within : (k half rank : ℕ) → k < length kinds → slice_index_or kinds k Leaf ≡ Node half rank → slice_index objects k < nodes_of_profile pairs
    objects_within = node_within pairs kinds objects is (kinds_each kinds word made.blossoming planted) read.arities_are

    pub prefix_read : (ranks prefix : List ℕ) → length ranks ≡ nodes_of_profile pairs
        → ((k half rank : ℕ) → k < length kinds → slice_index_or kinds k Leaf ≡ Node half rank → slice_index ranks (slice_index objects k) ≡ rank)
        → prefix ≡ code_of (turned (length objects - slice_index rest 0) objects) ++ ranks → IsPrefixOf (eulerian_prefixes pairs) (MakesEulerian pairs) prefix word rest
    prefix_read ranks prefix long ranked e =
        let p = rest_parts pairs rest made.valid in
        let less = p.start_low in
        let all = all_of_profile pairs is in
        let few = halves_few pairs is in
        let f = found_of_objects (ranges_of pairs) (leaves_of_profile pairs) (halves_in kinds) (slice_index rest 0) (drop 1 rest) objects
        (record { permute = read.permute; arities_are = read.arities_are; codes_are = read.codes_are ∙ codes_are }) (objects_total ∙ sym all) (omega (arith, all, less)) in
        let right = ranks_of pairs kinds objects is (kinds_each kinds word made.blossoming planted) read.arities_are ranks read.permute long ranked objects_total (omega (arith, few)) in
        subst (λ (fs : List ℕ). IsPrefixOf (eulerian_prefixes pairs) (MakesEulerian pairs) fs word rest) (sym e)
        (subst (IsPrefixOf (eulerian_prefixes pairs) (MakesEulerian pairs) (code_of f.arrangement ++ ranks) word) (sym p.whole) (prefix_of_objects pairs kinds (slice_index rest 0) (drop 1 rest) word ranks is less planted f right))
