-- Orientations and their out-degrees where the darts are renumbered.
use Rattle.std.proofs.Common.{◌≡◌, ℕ, ◌<◌, ◌≤◌, ◌&&◌, Bool, not, eqb, eq-eqb, sym, ap, ◌∙◌, subst, arith}
use Rattle.std.proofs.lemmas.Bool.{and_parts, and_from, eqb-true}
use Rattle.pm_perm.specs.Cycles.{leader}
use Rattle.pm_perm.specs.Permutation.{IsPermutationBelow}
use Rattle.pm_perm.proofs.Counts.{count_below-into}
use Rattle.pm_perm.proofs.InverseLemmas.{place_of, place_of-stays, place_of-of_value, value-place_of}
use Rattle.pm_perm.proofs.Renumbered.{renumbered-leaders}
use Rattle.pm_map.specs.Structure.{Structure, IsStructure, CarriesTo, dual}
use Rattle.pm_map.proofs.CarriedStructure.{dual_carries, euler_carried}
use Rattle.pm_map.proofs.SameMaps.{carries_back}
use Rattle.pm_led.specs.Orientation.{IsOrientation, HaveSameDegrees, out_degree, WalkedMapHasOneOrientation}
use Rattle.pm_led.proofs.Potential.{one_orientation}
use Rattle.pm_led.proofs.WalkedLed.{led_carried}

-- no fewer darts go out
no_fewer : (f : ℕ → ℕ) (a b : Structure) (out there : ℕ → Bool) → IsStructure a → IsStructure b → CarriesTo f a b → ((k : ℕ) → k < a.darts → there (f k) ≡ out k)
    → (d : ℕ) → d < a.darts → out_degree a out d ≤ out_degree b there (f d)
no_fewer f a b out there one other carries same d l =
    let permutes : IsPermutationBelow a.darts b.next = subst (λ n. IsPermutationBelow n b.next) (sym carries.darts) other.rotation in
    count_below-into (λ k. eqb (leader a.darts a.next k) (leader a.darts a.next d) && out k) (λ k. eqb (leader b.darts b.next k) (leader b.darts b.next (f d)) && there k) f a.darts b.darts
    (λ k m _. subst (λ n. f k < n) carries.darts (carries.renumbers.stays k m))
    (λ k m e.
    let both = and_parts (eqb (leader a.darts a.next k) (leader a.darts a.next d)) (out k) e in
    let led : leader a.darts b.next (f k) ≡ leader a.darts b.next (f d) =
    renumbered-leaders a.darts f a.next b.next one.rotation permutes (record { permutes = carries.renumbers; carries = carries.next }) k d m l
    (eqb-true (leader a.darts a.next k) (leader a.darts a.next d) both.0) in
    and_from (eqb (leader b.darts b.next (f k)) (leader b.darts b.next (f d))) (there (f k))
    (eq-eqb (leader b.darts b.next (f k)) (leader b.darts b.next (f d)) (subst (λ n. leader n b.next (f k) ≡ leader n b.next (f d)) carries.darts led))
    (same k m ∙ both.1))
    (λ j k m n _ _ e. carries.renumbers.injective j k m n e)

module _ (f : ℕ → ℕ) (a b : Structure) (one : IsStructure a) (other : IsStructure b) (carries : CarriesTo f a b) where
  within : (k : ℕ) → k < b.darts → k < a.darts
  within k l = omega (arith, l, carries.darts)

  source_inside : (k : ℕ) → k < b.darts → place_of f a.darts k < a.darts
  source_inside k l = place_of-stays f a.darts k carries.renumbers (within k l)

  source_there : (k : ℕ) → k < b.darts → f (place_of f a.darts k) ≡ k
  source_there k l = value-place_of f a.darts k carries.renumbers (within k l)

  -- as many darts go out
  out_degree_carried : (out there : ℕ → Bool) → ((k : ℕ) → k < a.darts → there (f k) ≡ out k) → (d : ℕ) → d < a.darts → out_degree b there (f d) ≡ out_degree a out d
  out_degree_carried out there same d l =
      let up = no_fewer f a b out there one other carries same d l in
      let down = no_fewer (place_of f a.darts) b a there out other one (carries_back f a b one carries)
      (λ k m. sym (same (place_of f a.darts k) (source_inside k m)) ∙ ap there (source_there k m)) (f d) (subst (λ n. f d < n) carries.darts (carries.renumbers.stays d l)) in
      omega (arith, up, down, ap (out_degree a out) (place_of-of_value f a.darts d carries.renumbers l))

  -- an orientation stays one
  oriented_carried : (out there : ℕ → Bool) → ((k : ℕ) → k < a.darts → there (f k) ≡ out k) → IsOrientation a out → IsOrientation b there
  oriented_carried out there same oriented = record {
    one_out = λ k l.
        let d : ℕ = place_of f a.darts k in
        let m : place_of f a.darts k < a.darts = source_inside k l in
        let at : f (place_of f a.darts k) ≡ k = source_there k l in
        let twin : b.twin k ≡ f (a.twin (place_of f a.darts k)) = ap b.twin (sym at) ∙ sym (carries.twin (place_of f a.darts k) m) in
        ap there twin ∙ same (a.twin (place_of f a.darts k)) (one.twin_stays (place_of f a.darts k) m) ∙ oriented.one_out (place_of f a.darts k) m
        ∙ ap not (sym (same (place_of f a.darts k) m) ∙ ap there at);
  }

  -- and two have the same out-degrees as before
  pub same_degrees_carried : (out other_out there other_there : ℕ → Bool) → ((k : ℕ) → k < a.darts → there (f k) ≡ out k) → ((k : ℕ) → k < a.darts → other_there (f k) ≡ other_out k)
      → HaveSameDegrees a out other_out → HaveSameDegrees b there other_there
  same_degrees_carried out other_out there other_there same other_same both = record {
    first = oriented_carried out there same both.first;
    second = oriented_carried other_out other_there other_same both.second;
    degrees = λ k l.
        let m : place_of f a.darts k < a.darts = source_inside k l in
        ap (out_degree b other_there) (sym (source_there k l)) ∙ out_degree_carried other_out other_there other_same (place_of f a.darts k) m
        ∙ both.degrees (place_of f a.darts k) m ∙ sym (out_degree_carried out there same (place_of f a.darts k) m) ∙ ap (out_degree b there) (source_there k l);
  }

pub walked_has_one_orientation : WalkedMapHasOneOrientation
walked_has_one_orientation s out other is some euler w same led d l =
    let moved : ℕ → Bool = λ k. other (place_of w.rename s.darts k) in
    let as_before : (k : ℕ) → k < s.darts → other (place_of w.rename s.darts (w.rename k)) ≡ other k = λ k m. ap other (place_of-of_value w.rename s.darts k w.carries.renumbers m) in
    let there : w.rename d < w.walked.darts = subst (λ n. w.rename d < n) w.carries.darts (w.carries.renumbers.stays d l) in
    sym (as_before d l)
    ∙ one_orientation w.walked w.passes (λ k. other (place_of w.rename s.darts k)) w.structure (omega (arith, some, w.carries.darts))
    (euler_carried w.rename s w.walked is w.structure w.carries euler) w.in_order
    (same_degrees_carried w.rename s w.walked is w.structure w.carries out other w.passes (λ k. other (place_of w.rename s.darts k)) w.same as_before same)
    (λ holds root closed e m. led_carried w.rename (dual s) (dual w.walked) (λ k. other (place_of w.rename s.darts k)) other (dual_carries w.rename s w.walked is w.carries)
    (λ k h. sym (as_before k h)) some led holds root closed e m)
    (w.rename d) there
    ∙ w.same d l
