-- Each rooted map has a dual, told by its rotation.
use Rattle.std.proofs.Common.{◌≡◌, ℕ, ◌<◌, length, map, slice_index, refl, sym, ◌∙◌, ap, subst, arith}
use Rattle.std.specs.List.{range_with_len}
use Rattle.std.proofs.lemmas.List.FromFn.{get_or-map-range_with_len, length-map-range_with_len}
use Rattle.pm_map.specs.Structure.{Structure, IsStructure, CarriesTo, dual}
use Rattle.pm_map.specs.Rotation.{RotationSystem, structure_of, twin, face_step}
use Rattle.pm_map.specs.DualLaws.{IsDualOf}

pub dual_map : RotationSystem → RotationSystem
dual_map m = record { sigma = map (face_step m.sigma) (range_with_len 0 (length m.sigma)); root = m.root }

pub dual_map_is : (m : RotationSystem) → IsDualOf m (dual_map m)
unfolding dual_map
dual_map_is m =
    let long : length (map (face_step m.sigma) (range_with_len 0 (length m.sigma))) ≡ length m.sigma = length-map-range_with_len (face_step m.sigma) 0 (length m.sigma) in
    record {
      as_long = long;
      entry = λ d h. get_or-map-range_with_len (face_step m.sigma) 0 (length m.sigma) d d 0 h (omega arith);
      root = refl;
    }

-- structures with the same darts, the same next ones, twins and root carry each other
same_darts : (a b : Structure) → a.darts ≡ b.darts → ((d : ℕ) → d < a.darts → a.next d ≡ b.next d) → ((d : ℕ) → d < a.darts → a.twin d ≡ b.twin d) → (0 < a.darts → a.root ≡ b.root) → CarriesTo (λ d. d) a b
same_darts a b darts next twin root = record { darts = darts; renumbers = record { stays = λ k h. h; injective = λ j k hj hk e. e }; next = next; twin = twin; root = root }

-- the dual map has the dual structure
pub map_to_dual : (m other : RotationSystem) → IsDualOf m other → CarriesTo (λ d. d) (structure_of other) (dual (structure_of m))
map_to_dual m other of = same_darts (structure_of other) (dual (structure_of m)) of.as_long (λ d h. of.entry d (subst (λ n. d < n) of.as_long h)) (λ d h. refl) (λ some. of.root)

pub dual_to_map : (m other : RotationSystem) → IsDualOf m other → CarriesTo (λ d. d) (dual (structure_of m)) (structure_of other)
dual_to_map m other of = same_darts (dual (structure_of m)) (structure_of other) (sym of.as_long) (λ d h. sym (of.entry d h)) (λ d h. refl) (λ some. sym of.root)

-- the map is the dual of its dual
pub dual_back : (m other : RotationSystem) → IsStructure (structure_of m) → IsDualOf m other → IsDualOf other m
dual_back m other is of = record {
  as_long = sym of.as_long;
  entry = λ d h.
      let less : d < length m.sigma = subst (λ n. d < n) of.as_long h in
      ap (slice_index m.sigma) (sym (is.twin_back d less)) ∙ sym (of.entry (twin d) (is.twin_stays d less));
  root = sym of.root;
}
