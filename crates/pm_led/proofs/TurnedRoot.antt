-- Orientations with the root's edge turned over keep that they have the same out-degrees.
use Rattle.std.proofs.Common.{◌≡◌, ℕ, ◌+◌, ◌<◌, ◌&&◌, ◌⊎◌, inl, inr, Bool, true, false, not, cond, eqb, eq-eqb, refl, sym, ap, ◌∙◌, arith}
use Rattle.std.proofs.lemmas.Bool.{cases_Bool, cond-false, or_cases, or_left, or_right, eqb-true}
use Rattle.pm_perm.specs.Count.{count_below}
use Rattle.pm_perm.specs.Cycles.{leader}
use Rattle.pm_perm.proofs.Counts.{count_below-same, count_below-split}
use Rattle.pm_map.specs.Structure.{Structure, IsStructure}
use Rattle.pm_led.specs.Orientation.{IsOrientation, HaveSameDegrees}
use Rattle.pm_led.specs.TurnedEdge.{is_at_root, turned_at_root, TurnedOrientationIsOne}
use Rattle.pm_led.proofs.CarriedOrientation.{walked_has_one_orientation}
use Rattle.pm_led.proofs.LedWalked.{each_led_is_walked}

at_or_off : (v mark f : Bool) → ((v && (mark && f) ≡ v && f) × (v && (not mark && f) ≡ false)) ⊎ ((v && (mark && f) ≡ false) × (v && (not mark && f) ≡ v && f))
at_or_off true true f = inl (refl, refl)
at_or_off true false f = inr (refl, refl)
at_or_off false mark f = inl (refl, refl)

turned_at : (v mark f : Bool) → v && (mark && cond mark (not f) f) ≡ v && (mark && not f)
turned_at v true f = refl
turned_at v false f = refl

turned_off : (v mark f : Bool) → v && (not mark && cond mark (not f) f) ≡ v && (not mark && f)
turned_off v true f = refl
turned_off v false f = refl

module _ (s : Structure) (is : IsStructure s) where
  -- a dart of the root's edge is the root or its twin
  edge_of : (d : ℕ) → is_at_root s d ≡ true → (d ≡ s.root) ⊎ (d ≡ s.twin s.root)
  edge_of d at = elim (or_cases (eqb d s.root) (eqb d (s.twin s.root)) at) [
    | inl root ↦ inl (eqb-true d s.root root)
    | inr twin ↦ inr (eqb-true d (s.twin s.root) twin)
  ]

  -- and so is its twin
  twin_at : (d : ℕ) → d < s.darts → 0 < s.darts → is_at_root s d ≡ true → is_at_root s (s.twin d) ≡ true
  twin_at d l some at = elim (edge_of d at) [
    | inl root ↦ or_right (eqb (s.twin d) s.root) (eqb (s.twin d) (s.twin s.root)) (eq-eqb (s.twin d) (s.twin s.root) (ap s.twin root))
    | inr twin ↦ or_left (eqb (s.twin d) s.root) (eqb (s.twin d) (s.twin s.root)) (eq-eqb (s.twin d) s.root (ap s.twin twin ∙ is.twin_back s.root (is.root_stays some)))
  ]

  both_at : (d : ℕ) → d < s.darts → 0 < s.darts → is_at_root s (s.twin d) ≡ is_at_root s d
  both_at d l some = elim (cases_Bool (is_at_root s d)) [
    | inl at ↦ twin_at d l some at ∙ sym at
    | inr off ↦ elim (cases_Bool (is_at_root s (s.twin d))) [
      | inl there ↦ there ∙ sym (twin_at (s.twin d) (is.twin_stays d l) some there) ∙ ap (is_at_root s) (is.twin_back d l)
      | inr neither ↦ neither ∙ sym off
    ]
  ]

  turned_oriented : (out : ℕ → Bool) → IsOrientation s out → IsOrientation s (turned_at_root s out)
  turned_oriented out oriented = record {
    one_out = λ d l.
        ap (λ (b : Bool). cond b (not (out (s.twin d))) (out (s.twin d))) (both_at d l (omega (arith, l)))
        ∙ ap (λ (b : Bool). cond (is_at_root s d) (not b) b) (oriented.one_out d l) ∙ turns (is_at_root s d) (out d);
  } where
    turns : (mark f : Bool) → cond mark (not (not f)) (not f) ≡ not (cond mark (not f) f)
    turns true f = refl
    turns false f = refl

  module _ (out other : ℕ → Bool) (same : HaveSameDegrees s out other) (root : other s.root ≡ out s.root) (some : 0 < s.darts) where
    same_at : (d : ℕ) → is_at_root s d ≡ true → other d ≡ out d
    same_at d at = elim (edge_of d at) [
      | inl own ↦ ap other own ∙ root ∙ ap out (sym own)
      | inr twin ↦
          let inside : s.root < s.darts = is.root_stays some in
          ap other twin ∙ same.second.one_out s.root inside ∙ ap not root ∙ sym (same.first.one_out s.root inside) ∙ ap out (sym twin)
    ]

    alike_at : (turn : Bool → Bool) (v : ℕ → Bool) (k : ℕ) → v k && (is_at_root s k && turn (other k)) ≡ v k && (is_at_root s k && turn (out k))
    alike_at turn v k = elim (cases_Bool (is_at_root s k)) [
      | inl at ↦ ap (λ b. v k && (is_at_root s k && turn b)) (same_at k at)
      | inr off ↦ ap (λ b. v k && (b && turn (other k))) off ∙ ap (λ b. v k && (b && turn (out k))) (sym off)
    ]

    split : (v f : ℕ → Bool) → count_below (λ k. v k && (is_at_root s k && f k)) s.darts + count_below (λ k. v k && (not (is_at_root s k) && f k)) s.darts ≡ count_below (λ k. v k && f k) s.darts
    split v f = count_below-split (λ k. v k && (is_at_root s k && f k)) (λ k. v k && (not (is_at_root s k) && f k)) (λ k. v k && f k) s.darts (λ k l. at_or_off (v k) (is_at_root s k) (f k))

    turned_counts : (v : ℕ → Bool) → count_below (λ k. v k && other k) s.darts ≡ count_below (λ k. v k && out k) s.darts
        → count_below (λ k. v k && turned_at_root s other k) s.darts ≡ count_below (λ k. v k && turned_at_root s out k) s.darts
    turned_counts v before =
        let at : (f : ℕ → Bool) → count_below (λ k. v k && (is_at_root s k && turned_at_root s f k)) s.darts ≡ count_below (λ k. v k && (is_at_root s k && not (f k))) s.darts = λ f.
        count_below-same (λ k. v k && (is_at_root s k && turned_at_root s f k)) (λ k. v k && (is_at_root s k && not (f k))) s.darts (λ k l. turned_at (v k) (is_at_root s k) (f k)) in
        let off : (f : ℕ → Bool) → count_below (λ k. v k && (not (is_at_root s k) && turned_at_root s f k)) s.darts ≡ count_below (λ k. v k && (not (is_at_root s k) && f k)) s.darts = λ f.
        count_below-same (λ k. v k && (not (is_at_root s k) && turned_at_root s f k)) (λ k. v k && (not (is_at_root s k) && f k)) s.darts (λ k l. turned_off (v k) (is_at_root s k) (f k)) in
        let plain = count_below-same (λ k. v k && (is_at_root s k && other k)) (λ k. v k && (is_at_root s k && out k)) s.darts (λ k l. alike_at (λ b. b) v k) in
        let over = count_below-same (λ k. v k && (is_at_root s k && not (other k))) (λ k. v k && (is_at_root s k && not (out k))) s.darts (λ k l. alike_at not v k) in
        omega (arith, before, at out, at other, off out, off other, plain, over, split v out, split v other, split v (turned_at_root s out), split v (turned_at_root s other))

    turned_degrees : HaveSameDegrees s (turned_at_root s out) (turned_at_root s other)
    turned_degrees = record {
      first = turned_oriented out same.first;
      second = turned_oriented other same.second;
      degrees = λ d l. turned_counts (λ k. eqb (leader s.darts s.next k) (leader s.darts s.next d)) (same.degrees d l);
    }

    turned_back : (d : ℕ) → turned_at_root s other d ≡ turned_at_root s out d → other d ≡ out d
    turned_back d turned = elim (cases_Bool (is_at_root s d)) [
      | inl at ↦ same_at d at
      | inr off ↦ sym (cond-false (is_at_root s d) (not (other d)) (other d) off) ∙ turned ∙ cond-false (is_at_root s d) (not (out d)) (out d) off
    ]

pub turned_is_one : TurnedOrientationIsOne
turned_is_one s out other is some euler same root led other_led d l =
    turned_back s is out other same root some d
    (walked_has_one_orientation s (turned_at_root s out) (turned_at_root s other) is some euler (each_led_is_walked s (turned_at_root s out) is some euler led).walk
    (turned_degrees s is out other same root some) other_led d l)
