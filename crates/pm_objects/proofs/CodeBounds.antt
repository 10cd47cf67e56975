-- The bounds of arrangement codes, and lists that are valid for the bounds of several lists.
use Rattle.std.proofs.Common.{◌≡◌, ℕ, zero, suc, ◌+◌, ◌-◌, ◌<◌, ◌≤◌, ◌==◌, List, [], ◌∷◌, ◌++◌, length, length-append, replicate, refl, sym, ◌∙◌, ap, arith}
use Rattle.std.specs.Prelude.{slice_index, All, count_by, flat_map}
use Rattle.std.proofs.lemmas.List.{length-replicate}
use Rattle.std.proofs.lemmas.List.Elements.{All-nil, All-cons}
use Rattle.std.proofs.lemmas.List.Sums.{length-filter}
use Rattle.pm_lists.specs.Valid.{IsValidList}
use Rattle.pm_lehmer.specs.Lehmer.{code_of}
use Rattle.pm_lehmer.proofs.Arranged.{code_of-is_code, length-code_of}
use Rattle.pm_objects.specs.Codes.{code_bounds, codes_by_range, bounds_by_range}
use Rattle.pm_objects.specs.Objects.{range_at, arities_of, arity_of, nodes_of_ranges, objects_of}
use Rattle.pm_objects.proofs.ObjectCounts.{HasObjects}

pub code_positive : (n : ℕ) → All (λ bound. 1 ≤ bound) (code_bounds n)
code_positive zero = All-nil (λ (bound : ℕ). 1 ≤ bound)
code_positive (suc n) = All-cons (λ (bound : ℕ). 1 ≤ bound) (suc n) (code_bounds n) (omega arith) (code_positive n)

pub code_bounds_low : (most n : ℕ) → n ≤ most → All (λ bound. bound ≤ most) (code_bounds n)
code_bounds_low most zero few = All-nil (λ (bound : ℕ). bound ≤ most)
code_bounds_low most (suc n) few = All-cons (λ (bound : ℕ). bound ≤ most) (suc n) (code_bounds n) few (code_bounds_low most n (omega arith))

pub length-code_bounds : (n : ℕ) → length (code_bounds n) ≡ n
length-code_bounds zero = refl
length-code_bounds (suc n) = ap suc (length-code_bounds n)

pub code_bound : (n k : ℕ) → k < n → slice_index (code_bounds n) k ≡ n - k
code_bound (suc n) zero less = let e : suc n ≡ suc n - 0 = omega arith in e
code_bound (suc n) (suc k) less = let e : n - k ≡ suc n - suc k = omega arith in code_bound n k (omega arith) ∙ e
code_bound zero k less = absurd (omega arith)

nodes_long : (ranges : List (ℕ × ℕ)) → length (flat_map (λ (r : ℕ × ℕ). code_bounds r.1) ranges) ≡ nodes_of_ranges ranges
nodes_long [] = refl
nodes_long (r ∷ ranges) =
    omega (
      arith,
      length-append (code_bounds r.1) (flat_map (λ (r : ℕ × ℕ). code_bounds r.1) ranges),
      length-code_bounds r.1,
      nodes_long ranges,
      length-append (replicate r.1 r.0) (arities_of ranges),
      length-replicate r.1 r.0,
    )

pub length-bounds_by_range : (ranges : List (ℕ × ℕ)) (leaves : ℕ) → length (bounds_by_range ranges leaves) ≡ nodes_of_ranges ranges + leaves
length-bounds_by_range ranges leaves = omega (arith, length-append (flat_map (λ (r : ℕ × ℕ). code_bounds r.1) ranges) (code_bounds leaves), nodes_long ranges, length-code_bounds leaves)

-- valid lists, one after another
pub valid_cons : (value bound : ℕ) (values bounds : List ℕ) → value < bound → IsValidList values bounds → IsValidList (value ∷ values) (bound ∷ bounds)
valid_cons value bound values bounds low valid = record { as_long = ap suc valid.as_long; below = each } where
  each : (place : ℕ) → place < suc (length values) → slice_index (value ∷ values) place < slice_index (bound ∷ bounds) place
  each zero less = low
  each (suc k) less = valid.below k (omega arith)

pub valid_append : (values more bounds others : List ℕ) → IsValidList values bounds → IsValidList more others → IsValidList (values ++ more) (bounds ++ others)
valid_append [] more [] others first second = second
valid_append [] more (bound ∷ bounds) others first second = absurd (let e = first.as_long in omega arith)
valid_append (value ∷ values) more [] others first second = absurd (let e = first.as_long in omega arith)
valid_append (value ∷ values) more (bound ∷ bounds) others first second =
    let e = first.as_long in
    valid_cons value bound (values ++ more) (bounds ++ others) (first.below 0 (omega arith))
    (valid_append values more bounds others (record { as_long = omega arith; below = λ k less. first.below (suc k) (omega arith) }) second)

pub valid_nothing : IsValidList [] []
valid_nothing = record { as_long = refl; below = λ k less. absurd (omega arith) }

pub valid_push : (values bounds : List ℕ) (value bound : ℕ) → IsValidList values bounds → value < bound → IsValidList (values ++ value ∷ []) (bounds ++ bound ∷ [])
valid_push values bounds value bound valid low = valid_append values (value ∷ []) bounds (bound ∷ []) valid (valid_cons value bound [] [] low valid_nothing)

-- a code is valid for the bounds of its length
pub valid_code : (n : ℕ) (entries : List ℕ) → length entries ≡ n → IsValidList (code_of entries) (code_bounds n)
valid_code n entries long =
    let same = length-code_of entries in
    let is = code_of-is_code entries in
    record {
      as_long = same ∙ long ∙ sym (length-code_bounds n);
      below = λ k less. (let bound = code_bound n k (omega arith) in let here = is.below k less in omega arith);
    }

-- the codes of the ranges, one after another
valid_nodes : (arities objects : List ℕ) (ranges : List (ℕ × ℕ)) → ((k : ℕ) → k < length ranges → count_by (λ object. arity_of arities object == (range_at ranges k).0) objects ≡ (range_at ranges k).1)
    → IsValidList (flat_map (λ (r : ℕ × ℕ). code_of (objects_of arities r.0 objects)) ranges) (flat_map (λ (r : ℕ × ℕ). code_bounds r.1) ranges)
valid_nodes arities objects [] counted = record { as_long = refl; below = λ k less. absurd (omega arith) }
valid_nodes arities objects (r ∷ ranges) counted =
    valid_append (code_of (objects_of arities r.0 objects)) (flat_map (λ (r : ℕ × ℕ). code_of (objects_of arities r.0 objects)) ranges) (code_bounds r.1) (flat_map (λ (r : ℕ × ℕ). code_bounds r.1) ranges)
    (valid_code r.1 (objects_of arities r.0 objects) (length-filter (λ object. arity_of arities object == r.0) objects ∙ counted 0 (omega arith)))
    (valid_nodes arities objects ranges (λ k less. counted (suc k) (omega arith)))

-- and that of the leaf objects
pub valid_codes : (ranges : List (ℕ × ℕ)) (leaves : ℕ) (objects : List ℕ) → HasObjects ranges leaves objects → IsValidList (codes_by_range ranges objects) (bounds_by_range ranges leaves)
valid_codes ranges leaves objects has =
    valid_append (flat_map (λ (r : ℕ × ℕ). code_of (objects_of (arities_of ranges) r.0 objects)) ranges) (code_of (objects_of (arities_of ranges) 0 objects)) (flat_map (λ (r : ℕ × ℕ). code_bounds r.1) ranges) (code_bounds leaves)
    (valid_nodes (arities_of ranges) objects ranges has.of_range)
    (valid_code leaves (objects_of (arities_of ranges) 0 objects) (length-filter (λ object. arity_of (arities_of ranges) object == 0) objects ∙ has.of_leaves))
