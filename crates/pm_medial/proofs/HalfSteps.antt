-- The loops of colouring and of taking half of the darts: one entry more, and what stands at the end.
use Rattle.std.proofs.Common.{◌≡◌, ℕ, ◌+◌, ◌<◌, inl, inr, Bool, false, not, List, [], ◌∷◌, ◌++◌, length, length-set, length-append, get_or, set, slice_index, refl, sym, ap, ◌∙◌, arith}
use Rattle.std.specs.Prelude.{slice_index_or}
use Rattle.std.proofs.lemmas.Bool.{cases_eq}
use Rattle.std.proofs.lemmas.List.{get_or_append_left, get_or_push, get_or-set_same, get_or-set_other}
use Rattle.pm_perm.specs.Permutation.{IsPermutationList}
use Rattle.pm_map.specs.Rotation.{RotationSystem, structure_of, twin, IsRootedMap}
use Rattle.pm_map.proofs.CarriedStructure.{rooted_is_plane}
use Rattle.pm_distances.specs.AcrossEdges.{AllDegreesAreEven}
use Rattle.pm_distances.specs.Distances.{AreFaceDistances}
use Rattle.pm_medial.specs.Colouring.{AreColours}
use Rattle.pm_medial.specs.steps.Halved.{edge_two_on, edge_before, IsHalfRotation}
use Rattle.pm_medial.proofs.TwoColours.{even, distances_colour}

-- one entry more at the end of a list
pushed : {A : Type 0} (default : A) (xs : List A) (x : A) (value : ℕ → A) (bound : ℕ) → length xs ≡ bound → ((k : ℕ) → k < bound → get_or xs k default ≡ value k) → x ≡ value bound
    → (k : ℕ) → k < bound + 1 → get_or (xs ++ x ∷ []) k default ≡ value k
pushed default xs x value bound long each last k h = elim (cases_eq k bound) [
  | inl same ↦ get_or_push xs x default k (long ∙ sym same) ∙ last ∙ ap value (sym same)
  | inr other ↦ get_or_append_left xs (x ∷ []) default k (omega (arith, long, h, other)) ∙ each k (omega (arith, h, other))
]

-- the colours of the darts below the bound are written
pub record IsColouredBelow (distances : List ℕ) (colours : List Bool) (bound : ℕ) : Type 0 where
  pub long : length colours ≡ bound
  pub entry : (d : ℕ) → d < bound → slice_index_or colours d false ≡ even (slice_index distances d)

pub coloured_none : (distances : List ℕ) → IsColouredBelow distances [] 0
coloured_none distances = record { long = refl; entry = λ d h. absurd (omega arith) }

pub coloured_more : (distances : List ℕ) (colours : List Bool) (dart : ℕ) (colour : Bool) → IsColouredBelow distances colours dart → colour ≡ even (slice_index distances dart)
    → IsColouredBelow distances (colours ++ colour ∷ []) (dart + 1)
coloured_more distances colours dart colour w is = record {
  long = length-append colours (colour ∷ []) ∙ ap (λ n. n + 1) w.long;
  entry = pushed false colours colour (λ d. even (slice_index distances d)) dart w.long w.entry is;
}

pub all_coloured : (map : RotationSystem) (distances : List ℕ) (colours : List Bool) (bound : ℕ) → IsRootedMap map → AllDegreesAreEven (structure_of map) → AreFaceDistances map distances
    → IsColouredBelow distances colours bound → bound ≡ length distances → AreColours map colours
all_coloured map distances colours bound rooted degrees far w whole =
    let long : bound ≡ length map.sigma = whole ∙ far.as_long in
    let colouring = distances_colour (structure_of map) (slice_index distances) (rooted_is_plane map rooted) degrees far.each in
    let here : (d : ℕ) → d < length map.sigma → slice_index_or colours d false ≡ even (slice_index distances d) = λ d h. w.entry d (omega (arith, long, h)) in
    let faces = λ (d : ℕ) (h : d < length map.sigma). face_stays map rooted d h in
    record {
      as_long = w.long ∙ long;
      colouring = record {
        root = λ some. here map.root (rooted.structure.root_stays some) ∙ colouring.root some;
        around = λ d h. here _ (faces d h) ∙ colouring.around d h ∙ sym (here d h);
        across = λ d h. here _ (rooted.structure.twin_stays d h) ∙ colouring.across d h ∙ ap not (sym (here d h));
      };
    } where
      face_stays : (map : RotationSystem) → IsRootedMap map → (d : ℕ) → d < length map.sigma → slice_index map.sigma (twin d) < length map.sigma
      face_stays map rooted d h = rooted.structure.rotation.stays (twin d) (rooted.structure.twin_stays d h)

-- the edges two steps on
pub record AreEdgesBelow (q : RotationSystem) (colours : List Bool) (twins : List ℕ) (bound : ℕ) : Type 0 where
  pub long : length twins ≡ bound
  pub entry : (k : ℕ) → k < bound → slice_index twins k ≡ edge_two_on (slice_index q.sigma) (λ d. slice_index_or colours d false) k

pub edges_more : (q : RotationSystem) (colours : List Bool) (twins : List ℕ) (edge other : ℕ) → AreEdgesBelow q colours twins edge
    → other ≡ edge_two_on (slice_index q.sigma) (λ d. slice_index_or colours d false) edge → AreEdgesBelow q colours (twins ++ other ∷ []) (edge + 1)
edges_more q colours twins edge other w is = record {
  long = length-append twins (other ∷ []) ∙ ap (λ n. n + 1) w.long;
  entry = pushed 0 twins other (edge_two_on (slice_index q.sigma) (λ d. slice_index_or colours d false)) edge w.long w.entry is;
}

-- the rotation of the half
pub half_more : (q : RotationSystem) (colours : List Bool) (darts rotation : List ℕ) (edge place after : ℕ) → IsPermutationList darts → edge < length darts → IsHalfRotation q colours darts rotation edge
    → place ≡ slice_index darts edge → after ≡ slice_index darts (edge_before (slice_index q.sigma) (λ d. slice_index_or colours d false) edge)
    → IsHalfRotation q colours darts (set rotation place after) (edge + 1)
half_more q colours darts rotation edge place after p h w at is =
    let stays : slice_index darts edge < length darts = p.stays edge h in
    record {
      long = length-set rotation place after ∙ w.long;
      entry = λ k l. elim (cases_eq k edge) [
        | inl same ↦
            let here : get_or (set rotation place after) place 0 ≡ after = get_or-set_same rotation place after 0 (omega (arith, at, w.long, stays)) in
            ap (λ x. get_or (set rotation place after) x 0) (ap (slice_index darts) same ∙ sym at) ∙ here ∙ is
            ∙ ap (λ x. slice_index darts (edge_before (slice_index q.sigma) (λ d. slice_index_or colours d false) x)) (sym same)
        | inr other ↦
            let before : k < edge = omega (arith, l, other) in
            get_or-set_other rotation place (slice_index darts k) after 0 (λ e. other (p.injective k edge (omega (arith, before, h)) h (e ∙ at))) ∙ w.entry k before
      ];
    }
