-- Each rooted map has layers.
use Rattle.std.proofs.Common.{◌≡◌, ◌⊎◌, ℕ, zero, suc, ◌<◌, ◌≤◌, inl, inr, Bool, true, eqb, ◌&&◌, List, [], ◌∷◌, ◌++◌, length, slice_index, get_or, length-append, eq-eqb, refl, sym, ◌∙◌, ap, subst, arith}
use Rattle.std.proofs.lemmas.Bool.{cases_eq, cases_lt, eqb-true, and_from, and_parts}
use Rattle.std.proofs.lemmas.List.{get_or_append_left}
use Rattle.std.proofs.Math.Seq.{get_or-append_seam}
use Rattle.pm_perm.specs.Permutation.{IsPermutationBelow}
use Rattle.pm_perm.specs.Cycles.{leader}
use Rattle.pm_perm.specs.Least.{IsLeast}
use Rattle.pm_perm.proofs.SameCycle.{in_cycle-leader, leader-in_cycle}
use Rattle.pm_map.specs.Structure.{Structure, face_next}
use Rattle.pm_map.specs.FaceDistance.{AreInOneFace, IsFaceDistance}
use Rattle.pm_map.specs.Rotation.{RotationSystem, IsRootedMap, structure_of}
use Rattle.pm_map.proofs.CarriedStructure.{face_permutes}
use Rattle.pm_map.proofs.DistanceLemmas.{levels-around}
use Rattle.pm_map.proofs.DistanceRounds.{IsLeastPassing, least_passing, each_face_has_distance}
use Rattle.pm_distances.specs.Distances.{AreFaceDistances}
use Rattle.pm_reach.specs.Layers.{Layers, AreLayers, AreParents, LeadsNearer, IsParent, of_root, of_other}
use Rattle.pm_reach.specs.LayerLaws.{EachMapHasLayers}
use Rattle.pm_reach.proofs.NearerFaces.{AreLevels, levels_of_distances, nearer_lower, lower_nearer}

-- a list of so many entries, each of which goes with its place
record IsListOf (P : ℕ → ℕ → Type 0) (n : ℕ) (entries : List ℕ) : Type 0 where
  as_long : length entries ≡ n
  each : (k : ℕ) → k < n → P k (slice_index entries k)

list_of : (P : ℕ → ℕ → Type 0) (n : ℕ) → ((k : ℕ) → k < n → (x : ℕ) × P k x) → (entries : List ℕ) × IsListOf P n entries
list_of P zero some = ([], record { as_long = refl; each = λ k h. absurd (omega arith) })
list_of P (suc n) some =
    let before = list_of P n (λ k h. some k (omega (arith, h))) in
    let last = some n (omega arith) in (
      before.0 ++ last.0 ∷ [],
      record {
        as_long = omega (arith, length-append before.0 (last.0 ∷ []), before.1.as_long);
        each = λ k h. entry P n before.0 last.0 before.1 last.1 k h (cases_lt k n);
      },
    ) where
      entry : (P : ℕ → ℕ → Type 0) (n : ℕ) (xs : List ℕ) (x : ℕ) → IsListOf P n xs → P n x → (k : ℕ) → k < suc n → (k < n) ⊎ (n ≤ k) → P k (slice_index (xs ++ x ∷ []) k)
      entry P n xs x is here k h (inl less) = subst (P k) (sym (get_or_append_left xs (x ∷ []) 0 k (omega (arith, less, is.as_long)))) (is.each k less)
      entry P n xs x is here k h (inr last) =
          let same : n ≡ k = omega (arith, h, last) in
          subst (λ j. P j (slice_index (xs ++ x ∷ []) j)) same (subst (P n) (sym (ap (λ j. slice_index (xs ++ x ∷ []) j) (sym is.as_long) ∙ get_or-append_seam xs x [] 0)) here)

-- a dart leads nearer from the face of d: a test by leaders and levels
abbrev leads : (s : Structure) (level : ℕ → ℕ) (d e : ℕ) → Bool
leads s level d e = eqb (leader s.darts (face_next s) d) (leader s.darts (face_next s) e) && eqb (level d) (suc (level (s.twin e)))

leads_yes : (s : Structure) (level : ℕ → ℕ) → AreLevels s level → (d e : ℕ) → d < s.darts → e < s.darts → LeadsNearer s d e → leads s level d e ≡ true
leads_yes s level l d e hd he near =
    and_from _ _ (eq-eqb _ _ (in_cycle-leader s.darts (face_next s) (face_permutes s l.structure) d e hd near.one_face)) (eq-eqb _ _ (nearer_lower s level l d e hd he near))

leads_told : (s : Structure) (level : ℕ → ℕ) → AreLevels s level → (d e : ℕ) → d < s.darts → e < s.darts → leads s level d e ≡ true → LeadsNearer s d e
leads_told s level l d e hd he told =
    let parts = and_parts _ _ told in
    lower_nearer s level l d e hd he (leader-in_cycle s.darts (face_next s) (face_permutes s l.structure) d e hd he (eqb-true _ _ parts.0)) (eqb-true _ _ parts.1)

-- the face of each dart has a parent
parent_of : (s : Structure) (level : ℕ → ℕ) → AreLevels s level → (d : ℕ) → d < s.darts → (parent : ℕ) × IsParent s d parent
parent_of s level l d h = elim (cases_eq (level d) 0) [
  | inl low ↦ (s.root, of_root (l.levels.lowest d h low))
  | inr high ↦
      let near = l.levels.nearer d h (omega (arith, high)) in
      let same : level near.0 ≡ level d = levels-around s level l.structure l.levels d near.0 h near.2 in
      let one : LeadsNearer s d near.0 = lower_nearer s level l d near.0 h near.1 near.2 (omega (arith, same, near.3)) in
      let least = least_passing (λ e. leads s level d e) near.0 (leads_yes s level l d near.0 h near.1 one) in
      let within : least.0 < s.darts = omega (arith, near.1, least.1.least near.0 (leads_yes s level l d near.0 h near.1 one)) in (
        least.0,
        of_other least.0 (record {
          within = within;
          breaks = leads_told s level l d least.0 h within least.1.passes;
          least = λ k less leads_nearer. omega (arith, less, least.1.least k (leads_yes s level l d k h (omega (arith, less, within)) leads_nearer));
        }),
      )
]

pub each_map_has_layers : EachMapHasLayers
each_map_has_layers map rooted =
    let s : Structure = structure_of map in
    let distances = each_face_has_distance s rooted.structure rooted.connected in
    let l : AreLevels s distances.0 = levels_of_distances s distances.0 rooted.structure distances.1 in
    let listed = list_of (λ d distance. IsFaceDistance s s.root d distance) s.darts (λ d h. (distances.0 d, distances.1 d h)) in
    let parents = list_of (λ d parent. IsParent s d parent) s.darts (λ d h. parent_of s distances.0 l d h) in (
      record { distances = listed.0; parents = parents.0 },
      record {
        distances = record { as_long = listed.1.as_long; each = listed.1.each };
        parents = record { as_long = parents.1.as_long; each = parents.1.each };
      },
    )
