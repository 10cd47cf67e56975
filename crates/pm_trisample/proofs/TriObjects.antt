-- The objects of a simple triangulation, read from a good start: they are the bits of a stem tree, and their codes are valid.
use Rattle.std.proofs.Common.{◌≡◌, ℕ, zero, suc, ◌-◌, ◌*◌, ◌<◌, ltb, inl, inr, ℤ, List, [], ◌∷◌, ◌++◌, map, length, replicate, append-nil, refl, ap, ap₂, sym, ◌∙◌, subst, arith}
use Rattle.std.specs.Prelude.{slice_index, slice_index_or}
use Rattle.std.proofs.lemmas.Bool.{cases_eq, cases_lt, lt-ltb, le-ltb}
use Rattle.std.proofs.lemmas.List.{get_or-replicate, get_or_past, length-map, length-replicate}
use Rattle.pm_brackets.specs.PlantedAt.{AreTwo, IsChosen}
use Rattle.pm_brackets.proofs.PlantedAt.{chosen_is, one_chosen}
use Rattle.pm_lehmer.specs.Lehmer.{IsArrangementCode, IsArrangementOf}
use Rattle.pm_lehmer.proofs.Arranged.{IsArrangementOf-unique, has_arrangement, length-arrangement}
use Rattle.pm_lists.specs.Valid.{IsValidList}
use Rattle.pm_words.specs.Plane.{letter_of}
use Rattle.pm_words.specs.Word.{IsGood, IsGoodStart, IsGoodStarts, turned}
use Rattle.pm_words.proofs.Cycle.{good_starts_exist}
use Rattle.pm_words.proofs.PlaneWords.{letters-word}
use Rattle.pm_objects.specs.Codes.{code_bounds, codes_by_range}
use Rattle.pm_objects.specs.Objects.{AreApart, arity_of, letters_of, nodes_of_ranges, range_at}
use Rattle.pm_objects.proofs.CodeBounds.{valid_codes, valid_cons}
use Rattle.pm_objects.proofs.ObjectCounts.{letters_sum, sum_by-arities}
use Rattle.pm_objects.proofs.Preorders.{IsPreorder, preorder_is}
use Rattle.pm_tri.specs.Bits.{AreTreeBits, weight}
use Rattle.pm_tri.specs.StemTree.{nodes}
use Rattle.pm_tri.specs.Triangulations.{IsTriSize}
use Rattle.pm_tri.proofs.BitTrees.{trees_have_bits}
use Rattle.pm_trisample.specs.Made.{MakesTree}
use Rattle.pm_trisample.specs.Objects.{AreTriObjects, bits_of_objects, tri_arities, tri_ranges}
use Rattle.pm_trisample.proofs.Chosen.{first_chosen, second_chosen}

-- a word with goal 2 has two good starts
pub two_good_starts : (word : List ℤ) (starts : List ℕ) → IsGoodStarts 2 word starts → AreTwo (IsGoodStart 2 word)
two_good_starts word starts found =
    let many = found.as_many in
    record {
      earlier = slice_index starts 0;
      later = slice_index starts 1;
      in_order = found.rising 0 (omega (arith, many));
      earlier_is = found.good 0 (omega (arith, many));
      later_is = found.good 1 (omega (arith, many));
      no_third = λ place is.
          let at = found.all place is in
          let less = at.1 in
          elim (cases_eq at.0 0) [
            | inl first ↦ inl (sym at.2 ∙ ap (slice_index starts) first)
            | inr other ↦ (let second : at.0 ≡ 1 = omega (arith, less, many, other) in inr (sym at.2 ∙ ap (slice_index starts) second))
          ];
    }

-- the one that is found at a place has the place's number
pub start_chosen : (word : List ℤ) (starts : List ℕ) (which start : ℕ) → IsGoodStarts 2 word starts → which < 2 → start ≡ slice_index starts which → IsChosen (IsGoodStart 2 word) which start
unfolding two_good_starts
start_chosen word starts which start found low e = elim (cases_eq which 0) [
  | inl none ↦ first_chosen (IsGoodStart 2 word) (two_good_starts word starts found) which start none (e ∙ ap (slice_index starts) none)
  | inr some ↦
      let one : which ≡ 1 = omega (arith, low, some) in
      second_chosen (IsGoodStart 2 word) (two_good_starts word starts found) which start low some (e ∙ ap (slice_index starts) one)
]

-- objects that are read from a start that is found
pub tri_objects_read : (n : ℕ) (code arrangement objects starts : List ℕ) (which start : ℕ) → IsArrangementOf code arrangement → IsGoodStarts 2 (letters_of (tri_arities n) arrangement) starts → which < 2 → start ≡ slice_index starts which
    → objects ≡ turned start arrangement → AreTriObjects n code which start objects
tri_objects_read n code arrangement objects starts which start arranged found low start_is turned_is =
    let chosen = start_chosen (letters_of (tri_arities n) arrangement) starts which start found low start_is in
    record {
      are_preordered = record {
        arrangement = arrangement;
        is_arranged = arranged;
        is_start = chosen_is (IsGoodStart 2 (letters_of (tri_arities n) arrangement)) which start chosen;
        are_turned = turned_is;
      };
      is_chosen = chosen;
    }

module _ (n : ℕ) where
  pub tri_ranges_apart : AreApart (tri_ranges n)
  tri_ranges_apart = record { some = some_arity; apart = λ j k before less e. absurd (omega (arith, before, less)) } where
    some_arity : (k : ℕ) → k < 1 → 0 < (range_at (tri_ranges n) k).0
    some_arity zero less = omega arith
    some_arity (suc k) less = absurd (omega (arith, less))

  pub ones_many : nodes_of_ranges (tri_ranges n) ≡ n - 1
  ones_many = ap length (append-nil (replicate (n - 1) 4)) ∙ length-replicate (n - 1) 4

  -- an object weighs as its bit does
  one_weighs : (object : ℕ) → weight (ltb object (n - 1)) ≡ letter_of (arity_of (tri_arities n) object)
  one_weighs object = elim (cases_lt object (n - 1)) [
    | inl less ↦
        let arity : arity_of (tri_arities n) object ≡ 4 = ap (λ (xs : List ℕ). slice_index_or xs object 0) (append-nil (replicate (n - 1) 4)) ∙ get_or-replicate (n - 1) object 4 0 less in
        ap weight (lt-ltb object (n - 1) less) ∙ sym (ap letter_of arity)
    | inr more ↦
        let arity : arity_of (tri_arities n) object ≡ 0 = get_or_past (tri_arities n) object 0 (omega (arith, more, ones_many)) in
        ap weight (le-ltb object (n - 1) (omega (arith, more))) ∙ sym (ap letter_of arity)
  ]

  pub weights_are : (objects : List ℕ) → map weight (bits_of_objects n objects) ≡ letters_of (tri_arities n) objects
  weights_are [] = refl
  weights_are (object ∷ objects) = ap₂ (λ (x : ℤ) (xs : List ℤ). x ∷ xs) (one_weighs object) (weights_are objects)

-- the bounds of the rest that the choices tell beside the tree
abbrev pub tri_rests : ℕ → List ℕ
tri_rests n = (4 * n - 2) ∷ (code_bounds (n - 1) ++ code_bounds (3 * n - 1))

module _ (n : ℕ) (code : List ℕ) (which start : ℕ) (objects : List ℕ) (size : IsTriSize n) (long : length code ≡ 4 * n - 2) (read : AreTriObjects n code which start objects) where
  pub tri_preorder : IsPreorder (tri_ranges n) (3 * n - 1) 2 start objects
  tri_preorder = preorder_is (tri_ranges n) (3 * n - 1) 2 code start objects (tri_ranges_apart n) (let some = size.some in omega (arith, some, long, ones_many n)) read.are_preordered

  pub bits_long : length (bits_of_objects n objects) ≡ 4 * n - 2
  bits_long =
      let some = size.some in
      let all = tri_preorder.long in
      omega (arith, some, all, ones_many n, length-map objects (λ object. ltb object (n - 1)))

  pub bits_are_tree_bits : AreTreeBits (bits_of_objects n objects)
  bits_are_tree_bits = record {
    good = subst (IsGood 2) (sym (weights_are n objects)) tri_preorder.good;
    short = (let few = size.few in omega (arith, few, bits_long));
  }

  pub rest_is_valid : IsValidList (start ∷ codes_by_range (tri_ranges n) objects) (tri_rests n)
  rest_is_valid =
      valid_cons start (4 * n - 2) (codes_by_range (tri_ranges n) objects) (code_bounds (n - 1) ++ code_bounds (3 * n - 1))
      (let within = tri_preorder.within in let some = size.some in omega (arith, within, some, ones_many n))
      (subst (λ (bounds : List ℕ). IsValidList (codes_by_range (tri_ranges n) objects) (bounds ++ code_bounds (3 * n - 1))) (append-nil (code_bounds (n - 1)))
      (valid_codes (tri_ranges n) (3 * n - 1) objects tri_preorder.has))

-- a tree that is made has as many nodes as the size says
module _ (n : ℕ) (code : List ℕ) (which : ℕ) (word rest : List ℕ) (size : IsTriSize n) (long : length code ≡ 4 * n - 2) (made : MakesTree n code which word rest) where
  pub made_nodes : nodes word ≡ n
  made_nodes =
      let some = size.some in
      let bits = bits_long n code which made.start made.objects size long made.are_objects in
      let four = (trees_have_bits word made.is_tree.tree).1 in
      omega (arith, some, bits, four, ap length made.is_tree.bits_are)

  pub made_rest_is_valid : IsValidList rest (tri_rests n)
  made_rest_is_valid = subst (λ (r : List ℕ). IsValidList r (tri_rests n)) (sym made.rest_is) (rest_is_valid n code which made.start made.objects size long made.are_objects)

-- an arrangement of the objects has two good starts
module _ (n : ℕ) (code arrangement : List ℕ) (size : IsTriSize n) (long : length code ≡ 4 * n - 2) (arranged : IsArrangementOf code arrangement) where
  found_starts : (starts : List ℕ) × IsGoodStarts 2 (letters_of (tri_arities n) arrangement) starts
  found_starts =
      let some = size.some in
      let all = length-arrangement code arrangement arranged in
      let children = sum_by-arities (λ arity. arity) (tri_ranges n) in
      let total = letters_sum 2 (tri_arities n) arrangement arranged.is_permutation (omega (arith, some, long, all, ones_many n)) (omega (arith, some, long, all, children)) in
      good_starts_exist 2 (letters_of (tri_arities n) arrangement) (omega arith) (letters-word (arity_of (tri_arities n)) arrangement) total

  tri_two_starts : AreTwo (IsGoodStart 2 (letters_of (tri_arities n) arrangement))
  tri_two_starts = two_good_starts (letters_of (tri_arities n) arrangement) found_starts.0 found_starts.1

-- the objects that a code and the number of a good start give
pub record HasTriObjects (n : ℕ) (code : List ℕ) (which : ℕ) : Type 0 where
  pub start : ℕ
  pub objects : List ℕ
  pub are : AreTriObjects n code which start objects

module _ (n : ℕ) (code : List ℕ) (which : ℕ) (size : IsTriSize n) (long : length code ≡ 4 * n - 2) where
  pub tri_objects_exist : IsArrangementCode code → which < 2 → HasTriObjects n code which
  tri_objects_exist is_code low =
      let arranged : (arrangement : List ℕ) × IsArrangementOf code arrangement = has_arrangement code is_code in
      let found = found_starts n code arranged.0 size long arranged.1 in
      record {
        start = slice_index found.0 which;
        objects = turned (slice_index found.0 which) arranged.0;
        are = tri_objects_read n code arranged.0 (turned (slice_index found.0 which) arranged.0) found.0 which (slice_index found.0 which) arranged.1 found.1 low refl refl;
      }

  -- they are one list, from one start
  pub one_tri_objects : (first second : ℕ) (objects others : List ℕ) → AreTriObjects n code which first objects → AreTriObjects n code which second others → (first ≡ second) × (objects ≡ others)
  one_tri_objects first second objects others x y =
      let p = x.are_preordered in
      let q = y.are_preordered in
      let same : q.arrangement ≡ p.arrangement = IsArrangementOf-unique code q.arrangement p.arrangement q.is_arranged p.is_arranged in
      let chosen : IsChosen (IsGoodStart 2 (letters_of (tri_arities n) p.arrangement)) which second =
      subst (λ (xs : List ℕ). IsChosen (IsGoodStart 2 (letters_of (tri_arities n) xs)) which second) same y.is_chosen in
      let starts : first ≡ second =
      one_chosen (IsGoodStart 2 (letters_of (tri_arities n) p.arrangement)) (tri_two_starts n code p.arrangement size long p.is_arranged) which which first second refl x.is_chosen chosen in
      (starts, p.are_turned ∙ ap₂ (λ (k : ℕ) (xs : List ℕ). turned k xs) starts (sym same) ∙ sym q.are_turned)
