-- The kinds of objects that have half degrees and ranks.
use Rattle.std.proofs.Common.{◌≡◌, ℕ, zero, suc, ◌-◌, ◌*◌, ◌/◌, ◌<◌, ◌≤◌, ◌==◌, ℤ, List, [], ◌∷◌, inl, inr, length, get_or, map, All, count_by, refl, ap, sym, ◌∙◌, subst, arith, eq-eqb, ne_eqb}
use Rattle.std.specs.Prelude.{slice_index, slice_index_or}
use Rattle.std.proofs.lemmas.Bool.{cases_eq, cases_lt}
use Rattle.std.proofs.lemmas.List.{get_or_past, length-map}
use Rattle.std.proofs.lemmas.List.Elements.{All-map}
use Rattle.pm_limits.specs.declared.TheConstants.{MAX_EDGES, MAX_DEGREE}
use Rattle.pm_trees.specs.Binomial.{choose}
use Rattle.pm_trees.specs.Blossoming.{IsBlossoming}
use Rattle.pm_trees.specs.BudPattern.{IsHalfDegree}
use Rattle.pm_words.specs.Plane.{letter_of}
use Rattle.pm_objects.specs.Objects.{arity_of, letters_of}
use Rattle.pm_objects.proofs.SameCounts.{counted_keys}
use Rattle.pm_planting.specs.Kinds.{IsKind, half_of, halves_in, letters_in}
use Rattle.pm_planting.specs.declared.kind.Kind.TheVariants.{Leaf, Node}
use Rattle.pm_planting.proofs.KindLaws.{kinds_blossoming}
use Rattle.pm_euler.specs.Objects.{IsPlantedPlane, kind_of, kinds_of}

pub kind_leaf : (halves ranks : List ℕ) (object : ℕ) → arity_of halves object ≡ 0 → kind_of halves ranks object ≡ Leaf
kind_leaf halves ranks object e = rw (eq-eqb (arity_of halves object) 0 e) refl

pub kind_node : (halves ranks : List ℕ) (object : ℕ) → 0 < arity_of halves object → kind_of halves ranks object ≡ Node (arity_of halves object) (slice_index_or ranks object 0)
kind_node halves ranks object some = rw (ne_eqb (arity_of halves object) 0 (λ e. omega (arith, e, some))) refl

pub half_is : (halves ranks : List ℕ) (object : ℕ) → half_of (kind_of halves ranks object) ≡ arity_of halves object
half_is halves ranks object = elim (cases_eq (arity_of halves object) 0) [
  | inl z ↦ ap half_of (kind_leaf halves ranks object z) ∙ sym z
  | inr n ↦ ap half_of (kind_node halves ranks object (omega (arith, n)))
]

pub letters_of_kinds : (halves ranks objects : List ℕ) → letters_in (kinds_of halves ranks objects) ≡ letters_of halves objects
letters_of_kinds halves ranks [] = refl
letters_of_kinds halves ranks (object ∷ objects) =
    ap (λ (n : ℕ). letter_of n ∷ letters_in (kinds_of halves ranks objects)) (half_is halves ranks object) ∙ ap (λ (ls : List ℤ). letter_of (arity_of halves object) ∷ ls) (letters_of_kinds halves ranks objects)

-- the half degrees of these objects
abbrev pub half_degrees : List ℕ → List ℕ → List ℕ
half_degrees halves objects = map (λ object. arity_of halves object) objects

pub halves_in_kinds : (halves ranks objects : List ℕ) → halves_in (kinds_of halves ranks objects) ≡ half_degrees halves objects
halves_in_kinds halves ranks [] = refl
halves_in_kinds halves ranks (object ∷ objects) =
    ap (λ (n : ℕ). n ∷ halves_in (kinds_of halves ranks objects)) (half_is halves ranks object) ∙ ap (λ (hs : List ℕ). arity_of halves object ∷ hs) (halves_in_kinds halves ranks objects)

pub counted_halves : (halves ranks objects : List ℕ) (half : ℕ) → count_by (λ y. y == half) (halves_in (kinds_of halves ranks objects)) ≡ count_by (λ object. arity_of halves object == half) objects
counted_halves halves ranks objects half = ap (count_by (λ y. y == half)) (halves_in_kinds halves ranks objects) ∙ counted_keys (arity_of halves) half objects

-- an object with a half degree is a node object
pub node_object : (halves : List ℕ) (object : ℕ) → 0 < arity_of halves object → object < length halves
node_object [] object some = absurd (omega arith)
node_object (half ∷ halves) zero some = omega arith
node_object (half ∷ halves) (suc object) some = let h = node_object halves object some in omega arith

-- the kinds of objects whose ranks are those of patterns
pub are_kinds : (halves ranks objects : List ℕ) → All IsHalfDegree halves → ((k : ℕ) → k < length halves → slice_index ranks k < choose (2 * slice_index halves k - 1) (slice_index halves k)) → All IsKind (kinds_of halves ranks objects)
are_kinds halves ranks objects half_degrees below = All-map IsKind (kind_of halves ranks) objects (λ k other less. here (get_or objects k other)) where
  here : (object : ℕ) → IsKind (kind_of halves ranks object)
  here object = elim (cases_eq (arity_of halves object) 0) [
    | inl z ↦ subst IsKind (sym (kind_leaf halves ranks object z)) tt
    | inr n ↦
        let inside : object < length halves = node_object halves object (omega (arith, n)) in
        subst IsKind (sym (kind_node halves ranks object (omega (arith, n)))) (half_degrees object 0 inside, below object inside)
  ]

-- each half degree is within the limit
half_low : (halves : List ℕ) (object : ℕ) → All IsHalfDegree halves → arity_of halves object ≤ MAX_DEGREE / 2
half_low halves object all =
    elim (cases_lt object (length halves)) [
      | inl l ↦ (all object 0 l).few
      | inr g ↦ (let a : arity_of halves object ≡ 0 = get_or_past halves object 0 g in omega (arith, a))
    ]

pub plane_planted_blossoming : (halves ranks objects word : List ℕ) → All IsHalfDegree halves → IsPlantedPlane halves ranks objects word → length objects ≤ suc MAX_EDGES → IsBlossoming word
plane_planted_blossoming halves ranks objects word all h few =
    let within : All (λ half. half ≤ MAX_DEGREE / 2) (half_degrees halves objects) = All-map (λ half. half ≤ MAX_DEGREE / 2) (arity_of halves) objects (λ k other less. half_low halves (get_or objects k other) all) in
    let m = length-map objects (kind_of halves ranks) in
    kinds_blossoming (kinds_of halves ranks objects) word h (subst (All (λ half. half ≤ MAX_DEGREE / 2)) (sym (halves_in_kinds halves ranks objects)) within) (omega (arith, few, m))
