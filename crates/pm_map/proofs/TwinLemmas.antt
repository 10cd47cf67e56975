-- Twins among an even number of darts.
use Rattle.std.proofs.Common.{◌≡◌, ℕ, zero, suc, refl, ◌/◌, ◌%◌, ◌<◌, ◌⊎◌, inl, inr, List, length, arith}
use Rattle.std.proofs.lemmas.Bool.{cases_eq}
use Rattle.pm_perm.specs.Permutation.{IsPermutationList}
use Rattle.pm_map.specs.Structure.{IsStructure}
use Rattle.pm_map.specs.Rotation.{RotationSystem, structure_of, twin}

pub twin_stays : (darts d : ℕ) → darts % 2 ≡ 0 → d < darts → twin d < darts
twin_stays darts d even h = omega arith

pub twin_back : (d : ℕ) → twin (twin d) ≡ d
twin_back d = omega arith

pub twin_other : (d : ℕ) → twin d ≡ d → ⊥
twin_other d e = omega arith

-- the darts of an edge have one half, the number of the edge
pub edge_of_twin : (d : ℕ) → twin d / 2 ≡ d / 2
edge_of_twin d = omega arith

pub one_edge : (d e : ℕ) → d / 2 ≡ e / 2 → (d ≡ e) ⊎ (d ≡ twin e)
one_edge d e same = elim (cases_eq d e) [ inl one ↦ inl one | inr two ↦ inr (omega arith) ]

-- a rotation of an even number of darts, with a root among them, makes a structure
pub structure_of_parts : (sigma : List ℕ) (root : ℕ) → length sigma % 2 ≡ 0 → IsPermutationList sigma → (0 < length sigma → root < length sigma)
    → (length sigma ≡ 0 → root ≡ 0) → IsStructure (structure_of (record { sigma = sigma; root = root }))
structure_of_parts sigma root even turns stays none = record {
  rotation = turns;
  twin_stays = λ d h. twin_stays (length sigma) d even h;
  twin_back = λ d h. twin_back d;
  twin_other = λ d h. twin_other d;
  root_stays = stays;
  no_root = none;
}

-- a structure with the twins 2k and 2k+1 has an even number of darts
pub even_darts : (m : RotationSystem) → IsStructure (structure_of m) → length m.sigma % 2 ≡ 0
even_darts m is = even (length m.sigma) (λ d h. is.twin_stays d h) where
  even : (n : ℕ) → ((d : ℕ) → d < n → twin d < n) → n % 2 ≡ 0
  even zero stays = refl
  even (suc last) stays = let inside = stays last (omega arith) in omega arith
