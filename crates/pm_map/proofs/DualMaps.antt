-- The dual of a map is a map, the dual of the dual is the same, and duals tell what is the same.
use Rattle.std.proofs.Common.{◌≡◌, ℕ, ◌+◌, ◌<◌, IsTrue, cond, eqb, refl, sym, ◌∙◌, ap, subst, arith}
use Rattle.pm_perm.proofs.SameCycle.{cycles-same}
use Rattle.pm_map.specs.Structure.{Structure, IsStructure, IsConnected, CarriesTo, dual}
use Rattle.pm_map.specs.Plane.{IsPlane, vertices, faces, edges}
use Rattle.pm_map.specs.Rotation.{RotationSystem, structure_of}
use Rattle.pm_map.specs.DualLaws.{IsDualOf, DualIsRooted, DualExchangesCounts, DualsTell, DualTwiceIsSame, FaceDegreeCountsDarts}
use Rattle.pm_map.proofs.CarriedStructure.{dual_carries, dual_is_structure, rooted_carried, rooted_is_plane}
use Rattle.pm_map.proofs.DegreeCounts.{degree_counts_darts}

pub dual_exchanges_counts : DualExchangesCounts
dual_exchanges_counts s is = (
  refl,
  ap (λ v. cond (eqb s.darts 0) 1 v)
      (sym (cycles-same s.darts s.next (λ d. s.next (s.twin (s.twin d))) is.rotation (λ d h. ap s.next (sym (is.twin_back d h))))),
)

-- a set that is closed under the dual's rotation and twin is closed under the rotation
pub dual_is_connected : (s : Structure) → IsStructure s → IsConnected s → IsConnected (dual s)
dual_is_connected s is connected holds root closed =
    connected holds root
    (record {
      under_next = λ d h test. subst (λ e. IsTrue (holds (s.next e))) (is.twin_back d h) (closed.under_next (s.twin d) (is.twin_stays d h) (closed.under_twin d h test));
      under_twin = closed.under_twin;
    })

-- the dual of a plane structure is plane
pub dual_is_plane : (s : Structure) → IsPlane s → IsPlane (dual s)
dual_is_plane s plane = record {
  structure = dual_is_structure s plane.structure;
  connected = dual_is_connected s plane.structure plane.connected;
  euler = exchanged (vertices s) (faces s) (faces (dual s)) (edges s) ((dual_exchanges_counts s plane.structure).1) plane.euler;
} where
  exchanged : (v f w e : ℕ) → w ≡ v → v + f ≡ e + 2 → f + w ≡ e + 2
  exchanged v f w e same euler = omega arith

-- the dual map has the dual structure
dual_is_carried : (m other : RotationSystem) → IsStructure (structure_of m) → IsDualOf m other → CarriesTo (λ d. d) (dual (structure_of m)) (structure_of other)
dual_is_carried m other is of = record {
  darts = sym of.as_long;
  renumbers = record { stays = λ k h. h; injective = λ j k hj hk e. e };
  next = λ d h. sym (of.entry d h);
  twin = λ d h. refl;
  root = λ some. sym of.root;
}

pub dual_is_rooted : DualIsRooted
dual_is_rooted m other rooted of =
    rooted_carried (λ d. d) (dual (structure_of m)) other (dual_is_plane (structure_of m) (rooted_is_plane m rooted)) rooted.even rooted.few
    (dual_is_carried m other rooted.structure of) (λ none. of.root ∙ rooted.structure.no_root (sym of.as_long ∙ none))

-- the dual of the dual has the same darts, with the same next one and the same twin
pub dual_twice_is_same : DualTwiceIsSame
dual_twice_is_same s is = (
  λ d. d,
  record {
    darts = refl;
    renumbers = record { stays = λ k h. h; injective = λ j k hj hk e. e };
    next = λ d h. ap s.next (sym (is.twin_back d h));
    twin = λ d h. refl;
    root = λ some. refl;
  },
)

-- what carries the duals carries the structures
dual_carried_back : (f : ℕ → ℕ) (a b : Structure) → IsStructure a → IsStructure b → CarriesTo f (dual a) (dual b) → CarriesTo f a b
dual_carried_back f a b one other carries = record {
  darts = carries.darts;
  renumbers = carries.renumbers;
  next = λ d h.
      let there : f d < b.darts = subst (λ n. f d < n) carries.darts (carries.renumbers.stays d h) in
      ap (λ e. f (a.next e)) (sym (one.twin_back d h)) ∙ carries.next (a.twin d) (one.twin_stays d h)
      ∙ ap (λ e. b.next (b.twin e)) (carries.twin d h) ∙ ap b.next (other.twin_back (f d) there);
  twin = carries.twin;
  root = carries.root;
}

pub duals_tell : DualsTell
duals_tell a b one other = (
  λ same. (same.0, dual_carries same.0 a b one same.1),
  λ same. (same.0, dual_carried_back same.0 a b one other same.1),
)

pub face_degree_counts_darts : FaceDegreeCountsDarts
face_degree_counts_darts s d degree is h = degree_counts_darts (dual s) d degree (dual_is_structure s is) h
