-- Where the walk meets every dart, darts lead both ways.
use Rattle.std.proofs.Common.{◌≡◌, ℕ, ◌<◌, Bool, not, IsTrue, sym, ap, ◌∙◌, subst, arith}
use Rattle.pm_perm.proofs.InverseLemmas.{place_of, place_of-stays, value-place_of}
use Rattle.pm_map.specs.Structure.{Structure, CarriesTo, dual}
use Rattle.pm_map.proofs.CarriedStructure.{dual_carries}
use Rattle.pm_map.proofs.SameMaps.{carries_back}
use Rattle.pm_walk.specs.Led.{IsLed}
use Rattle.pm_walk.proofs.LedWalk.{walked_is_led}
use Rattle.pm_led.specs.LedLaws.{EachWalkedMapIsLed}
use Rattle.pm_led.specs.Walked.{IsWalked}

-- what a led structure is carried to is led
pub led_carried : (f : ℕ → ℕ) (a b : Structure) (passes other : ℕ → Bool) → CarriesTo f a b → ((k : ℕ) → k < a.darts → other k ≡ passes (f k)) → 0 < a.darts → IsLed a other → IsLed b passes
led_carried f a b passes other carries same some led holds root closed d l =
    let inside : d < a.darts = omega (arith, carries.darts) in
    let stays : (x : ℕ) → x < a.darts → f x < b.darts = λ x h. subst (λ n. f x < n) carries.darts (carries.renumbers.stays x h) in
    subst (λ x. IsTrue (holds x)) (value-place_of f a.darts d carries.renumbers inside)
    (led (λ k. holds (f k)) (subst (λ x. IsTrue (holds x)) (sym (carries.root some)) root)
    (record {
      under_next = λ k h test. subst (λ x. IsTrue (holds x)) (sym (carries.next k h)) (closed.under_next (f k) (stays k h) test);
      under_twin = λ k h goes test. subst (λ x. IsTrue (holds x)) (sym (carries.twin k h)) (closed.under_twin (f k) (stays k h) (sym (same k h) ∙ goes) test);
    }) (place_of f a.darts d) (place_of-stays f a.darts d carries.renumbers inside))

-- the test of a place is that of its dart
passes_back : (s : Structure) (out : ℕ → Bool) (w : IsWalked s out) → (k : ℕ) → k < w.walked.darts → w.passes k ≡ out (place_of w.rename s.darts k)
passes_back s out w k l =
    let inside : k < s.darts = omega (arith, w.carries.darts) in
    ap w.passes (sym (value-place_of w.rename s.darts k w.carries.renumbers inside)) ∙ w.same (place_of w.rename s.darts k) (place_of-stays w.rename s.darts k w.carries.renumbers inside)

pub each_walked_is_led : EachWalkedMapIsLed
each_walked_is_led s out is w =
    let back : CarriesTo (place_of w.rename s.darts) w.walked s = carries_back w.rename s w.walked is w.carries in
    let led = walked_is_led w.walked w.passes w.structure w.in_order in
    record {
      vertices = λ holds root closed d l. led_carried (place_of w.rename s.darts) w.walked s (λ k. not (out k)) (λ k. not (w.passes k)) back
          (λ k h. ap not (passes_back s out w k h)) (omega (arith, w.carries.darts, l)) led.0 holds root closed d l;
      faces = λ holds root closed d l. led_carried (place_of w.rename s.darts) (dual w.walked) (dual s) out w.passes
          (dual_carries (place_of w.rename s.darts) w.walked s w.structure back) (passes_back s out w) (omega (arith, w.carries.darts, l)) led.1 holds root closed d l;
    }
