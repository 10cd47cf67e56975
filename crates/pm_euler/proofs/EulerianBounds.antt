-- The bounds of the choices and the residues of Eulerian maps are bounds, and what is below them.
use Rattle.std.proofs.Common.{◌≡◌, ℕ, zero, suc, ◌+◌, ◌-◌, ◌*◌, ◌/◌, ◌^◌, ◌<◌, ◌≤◌, pow_mono, List, [], ◌∷◌, ◌++◌, length, length-append, take, replicate, append_assoc, map, refl, sym, ◌∙◌, ap, arith, take_all, ap₂}
use Rattle.std.specs.Prelude.{All, flat_map}
use Rattle.std.proofs.lemmas.List.{flat_map_more, take_more, map-append, length-map}
use Rattle.std.proofs.lemmas.List.Elements.{All-append, All-map, All-weaker, All-nil, All-cons}
use Rattle.pm_lists.specs.ListLine.{AreWords}
use Rattle.pm_lists.specs.Valid.{AreBounds}
use Rattle.pm_trees.specs.Binomial.{choose}
use Rattle.pm_trees.specs.BudPattern.{IsHalfDegree}
use Rattle.pm_trees.specs.Pairs.{IsProfile, edges_of, pair_at}
use Rattle.pm_trees.proofs.Binomials.{choose_some, choose-le-power}
use Rattle.pm_objects.specs.Codes.{code_bounds, bounds_by_range}
use Rattle.pm_euler.specs.Objects.{halves_of, nodes_of_profile, leaves_of_profile, ranges_of}
use Rattle.pm_euler.specs.Bounds.{eulerian_choices, eulerian_residues}
use Rattle.pm_objects.proofs.CodeBounds.{code_positive, code_bounds_low, length-code_bounds}
use Rattle.pm_euler.proofs.ObjectLemmas.{halves_are}

patterns_some : (half : ℕ) → IsHalfDegree half → 1 ≤ choose (2 * half - 1) half
patterns_some half is = let h = choose_some (2 * half - 1) half (let some = is.some in omega arith) in omega (arith, h)

pub eulerian_choices_are : (pairs : List (ℕ × ℕ)) → IsProfile pairs → AreBounds (eulerian_choices pairs)
eulerian_choices_are pairs is = record {
  each =
      All-append (λ (bound : ℕ). 1 ≤ bound) (code_bounds (suc (edges_of pairs)) ++ map (λ half. choose (2 * half - 1) half) (halves_of pairs)) (2 ∷ [])
      (All-append (λ (bound : ℕ). 1 ≤ bound) (code_bounds (suc (edges_of pairs))) (map (λ half. choose (2 * half - 1) half) (halves_of pairs)) (code_positive (suc (edges_of pairs)))
      (All-map (λ (bound : ℕ). 1 ≤ bound) (λ half. choose (2 * half - 1) half) (halves_of pairs)
      (All-weaker IsHalfDegree (λ half. 1 ≤ choose (2 * half - 1) half) patterns_some (halves_of pairs) (halves_are pairs is))))
      (All-cons (λ (bound : ℕ). 1 ≤ bound) 2 [] (omega arith) (All-nil (λ (bound : ℕ). 1 ≤ bound)));
}

-- at most 63 entries, so fewer than 2^63 patterns
patterns_fit : (half : ℕ) → IsHalfDegree half → choose (2 * half - 1) half < 2 ^ 64
patterns_fit half is =
    let power : choose (2 * half - 1) half ≤ 2 ^ (2 * half - 1) = choose-le-power (2 * half - 1) half in
    let within : 2 * half - 1 ≤ 63 = (let few = is.few in omega arith) in
    let most : 2 ^ (2 * half - 1) ≤ 2 ^ 63 = pow_mono within in
    omega (arith, power, most)

pub eulerian_choices_fit : (pairs : List (ℕ × ℕ)) → IsProfile pairs → edges_of pairs ≤ 2 ^ 32 → AreWords (eulerian_choices pairs)
eulerian_choices_fit pairs is few = record {
  each =
      All-append (λ (bound : ℕ). bound < 2 ^ 64) (code_bounds (suc (edges_of pairs)) ++ map (λ half. choose (2 * half - 1) half) (halves_of pairs)) (2 ∷ [])
      (All-append (λ (bound : ℕ). bound < 2 ^ 64) (code_bounds (suc (edges_of pairs))) (map (λ half. choose (2 * half - 1) half) (halves_of pairs))
      (All-weaker (λ (bound : ℕ). bound ≤ suc (edges_of pairs)) (λ (bound : ℕ). bound < 2 ^ 64) (λ bound low. omega (arith, low, few)) (code_bounds (suc (edges_of pairs))) (code_bounds_low (suc (edges_of pairs)) (suc (edges_of pairs)) (omega arith)))
      (All-map (λ (bound : ℕ). bound < 2 ^ 64) (λ half. choose (2 * half - 1) half) (halves_of pairs)
      (All-weaker IsHalfDegree (λ half. choose (2 * half - 1) half < 2 ^ 64) patterns_fit (halves_of pairs) (halves_are pairs is))))
      (All-cons (λ (bound : ℕ). bound < 2 ^ 64) 2 [] (omega arith) (All-nil (λ (bound : ℕ). bound < 2 ^ 64)));
}

codes_positive : (ranges : List (ℕ × ℕ)) → All (λ bound. 1 ≤ bound) (flat_map (λ (r : ℕ × ℕ). code_bounds r.1) ranges)
codes_positive [] = All-nil (λ (bound : ℕ). 1 ≤ bound)
codes_positive (r ∷ ranges) = All-append (λ (bound : ℕ). 1 ≤ bound) (code_bounds r.1) (flat_map (λ (r : ℕ × ℕ). code_bounds r.1) ranges) (code_positive r.1) (codes_positive ranges)

-- the bounds of the codes, pair by pair
pub bounds_flat : (pairs : List (ℕ × ℕ)) → flat_map (λ (r : ℕ × ℕ). code_bounds r.1) (ranges_of pairs) ≡ flat_map (λ (p : ℕ × ℕ). code_bounds p.1) pairs
bounds_flat [] = refl
bounds_flat (p ∷ pairs) = ap (λ (xs : List ℕ). code_bounds p.1 ++ xs) (bounds_flat pairs)

pub eulerian_residues_are : (pairs : List (ℕ × ℕ)) → AreBounds (eulerian_residues pairs)
eulerian_residues_are pairs =
    let leaves : ℕ = leaves_of_profile pairs in
    record {
      each =
          All-cons (λ (bound : ℕ). 1 ≤ bound) (suc (edges_of pairs)) (bounds_by_range (ranges_of pairs) leaves ++ suc leaves ∷ []) (omega arith)
          (All-append (λ (bound : ℕ). 1 ≤ bound) (bounds_by_range (ranges_of pairs) leaves) (suc leaves ∷ [])
          (All-append (λ (bound : ℕ). 1 ≤ bound) (flat_map (λ (r : ℕ × ℕ). code_bounds r.1) (ranges_of pairs)) (code_bounds leaves) (codes_positive (ranges_of pairs)) (code_positive leaves))
          (All-cons (λ (bound : ℕ). 1 ≤ bound) (suc leaves) [] (omega arith) (All-nil (λ (bound : ℕ). 1 ≤ bound))));
    }

-- the residue's bounds, as they are written
pub residue_limits_are : (pairs items : List (ℕ × ℕ)) (i leaves last : ℕ) (limits more all : List ℕ) → items ≡ pairs → length items ≤ i → limits ≡ suc (edges_of pairs) ∷ flat_map (λ (p : ℕ × ℕ). code_bounds p.1) (take i items)
    → leaves ≡ leaves_of_profile pairs → more ≡ limits ++ code_bounds leaves → last ≡ suc leaves → all ≡ more ++ last ∷ [] → all ≡ eulerian_residues pairs
residue_limits_are pairs items i leaves last limits more all same past l counted m ends e =
    let flat = l ∙ ap (λ (ps : List (ℕ × ℕ)). suc (edges_of pairs) ∷ flat_map (λ (p : ℕ × ℕ). code_bounds p.1) ps) (take_all i items past ∙ same) ∙ ap (λ (bs : List ℕ). suc (edges_of pairs) ∷ bs) (sym (bounds_flat pairs)) in
    e ∙ ap₂ (λ (xs : List ℕ) (k : ℕ). xs ++ k ∷ []) (m ∙ ap₂ (λ (xs : List ℕ) (n : ℕ). xs ++ code_bounds n) flat counted) (ends ∙ ap suc counted)

-- the half degrees, pair by pair
pub halves_flat : (pairs : List (ℕ × ℕ)) → halves_of pairs ≡ flat_map (λ (p : ℕ × ℕ). replicate p.1 (p.0 / 2)) pairs
halves_flat [] = refl
halves_flat (p ∷ pairs) = ap (λ (xs : List ℕ). replicate p.1 (p.0 / 2) ++ xs) (halves_flat pairs)

-- the bounds of the patterns of one pair more
map-replicate : (f : ℕ → ℕ) (n x : ℕ) → map f (replicate n x) ≡ replicate n (f x)
map-replicate f zero x = refl
map-replicate f (suc n) x = ap (λ (ys : List ℕ). f x ∷ ys) (map-replicate f n x)

pub patterns_more : (pairs : List (ℕ × ℕ)) (i : ℕ) (prefix limits after : List ℕ) → i < length pairs → limits ≡ prefix ++ map (λ half. choose (2 * half - 1) half) (halves_of (take i pairs))
    → after ≡ limits ++ replicate (pair_at pairs i).1 (choose (2 * ((pair_at pairs i).0 / 2) - 1) ((pair_at pairs i).0 / 2))
    → after ≡ prefix ++ map (λ half. choose (2 * half - 1) half) (halves_of (take (i + 1) pairs))
patterns_more pairs i prefix limits after less before e =
    let patterns : ℕ → ℕ = λ half. choose (2 * half - 1) half in
    let nodes : ℕ × ℕ → List ℕ = λ p. replicate p.1 (p.0 / 2) in
    let here : List ℕ = nodes (pair_at pairs i) in
    let halves : halves_of (take i pairs) ++ here ≡ halves_of (take (i + 1) pairs) =
    ap (λ (xs : List ℕ). xs ++ here) (halves_flat (take i pairs)) ∙ flat_map_more nodes [] (take i pairs) (pair_at pairs i) ∙ sym (halves_flat (take i pairs ++ pair_at pairs i ∷ [])) ∙ ap halves_of (sym (take_more pairs i (0, 0) less)) in
    e
    ∙ ap (λ (xs : List ℕ). limits ++ xs) (sym (map-replicate patterns (pair_at pairs i).1 ((pair_at pairs i).0 / 2)))
    ∙ ap (λ (xs : List ℕ). xs ++ map patterns here) before
    ∙ append_assoc prefix (map patterns (halves_of (take i pairs))) (map patterns here)
    ∙ ap (λ (xs : List ℕ). prefix ++ xs) (sym (map-append patterns (halves_of (take i pairs)) here) ∙ ap (map patterns) halves)

-- the three parts of the choices
pub length-eulerian_choices : (pairs : List (ℕ × ℕ)) → length (eulerian_choices pairs) ≡ suc (edges_of pairs) + nodes_of_profile pairs + 1
length-eulerian_choices pairs =
    let e : ℕ = edges_of pairs in
    omega (
      arith,
      length-append (code_bounds (suc e) ++ map (λ half. choose (2 * half - 1) half) (halves_of pairs)) (2 ∷ []),
      length-append (code_bounds (suc e)) (map (λ half. choose (2 * half - 1) half) (halves_of pairs)),
      length-code_bounds (suc e),
      length-map (halves_of pairs) (λ half. choose (2 * half - 1) half),
    )
