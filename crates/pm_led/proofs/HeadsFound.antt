-- Heads of vertices: the places of a vertex lie between the two darts of the kept edge that leads to it.
use Rattle.std.proofs.Common.{◌≡◌, ℕ, zero, suc, ◌<◌, ◌≤◌, inl, inr, Bool, refl, sym, ap, ◌∙◌, subst, arith}
use Rattle.std.proofs.Math.Nat.{mod-eq_of_lt}
use Rattle.std.proofs.lemmas.Bool.{cases_Bool}
use Rattle.pm_perm.specs.Cycles.{repeated, leader, IsInCycle, IsLeastInCycle}
use Rattle.pm_perm.proofs.LeaderMaps.{leader-is_least}
use Rattle.pm_perm.proofs.Repeats.{repeated-inside}
use Rattle.pm_perm.proofs.SameCycle.{in_cycle-through, in_cycle-back}
use Rattle.pm_perm.proofs.Stretches.{is_between, between-in, between-bounds, stretch-kept}
use Rattle.pm_map.specs.Structure.{Structure, IsStructure}
use Rattle.pm_map.specs.Plane.{HasEulerTwo}
use Rattle.pm_walk.specs.Walk.{is_cut, across, IsWalkedInOrder}
use Rattle.pm_walk.proofs.Edges.{cut_twin, across_cut, across_kept}
use Rattle.pm_walk.proofs.NestedEdges.{walked_nested, across-involution, next-across}
use Rattle.pm_led.specs.Heads.{IsHead, HasHead, VerticesHaveHeads}

module _ (s : Structure) (out : ℕ → Bool) (is : IsStructure s) (some : 0 < s.darts) (euler : HasEulerTwo s) (walked : IsWalkedInOrder s out) where
  -- what a vertex holds of a head's stretch it holds wholly
  pub around_same : (q : ℕ) → q < s.darts → IsHead s out q → (steps d : ℕ) → d < s.darts
      → is_between (suc (s.twin q)) (suc q) (repeated s.next steps d) ≡ is_between (suc (s.twin q)) (suc q) d
  around_same q l h zero d m = refl
  around_same q l h (suc steps) d m =
      let crossed : across s out (s.twin q) ≡ q = across_kept s out (s.twin q) (cut_twin s out q is l ∙ h.kept) ∙ is.twin_back q l in
      let inside : repeated s.next steps d < s.darts = repeated-inside s.next s.darts is.rotation steps d m in
      stretch-kept s.darts s.next (across s out) (s.twin q) q (across-involution s out is) (walked_nested s out is some euler walked).0 crossed h.again l
      (λ k below. next-across s out k is walked below) (repeated s.next steps d) inside
      ∙ around_same q l h steps d m

  -- so the places of a head's vertex lie behind the head's twin, and no further than the head
  head_bounds : (q d : ℕ) → q < s.darts → d < s.darts → IsHead s out q → IsInCycle s.next d q → (s.twin q < d) × (d ≤ q)
  head_bounds q d l m h around =
      let bounds = between-bounds (suc (s.twin q)) (suc q) d
      (sym (around_same q l h around.steps d m) ∙ ap (is_between (suc (s.twin q)) (suc q)) around.leads ∙ between-in (suc (s.twin q)) (suc q) q (omega (arith, h.again)) (omega arith)) in
      (omega (arith, bounds.0), omega (arith, bounds.1))

  inside_of : (d e : ℕ) → d < s.darts → IsInCycle s.next d e → e < s.darts
  inside_of d e l around = subst (λ x. x < s.darts) around.leads (repeated-inside s.next s.darts is.rotation around.steps d l)

  no_root_head : (d : ℕ) → IsInCycle s.next s.root d → IsHead s out d → ⊥
  no_root_head d around h =
      let bounds = head_bounds d s.root (inside_of s.root d (is.root_stays some) around) (is.root_stays some) h around in
      omega (arith, bounds.0, walked.root)

  back : (d e : ℕ) → d < s.darts → IsInCycle s.next d e → IsInCycle s.next e d
  back d e l around = in_cycle-back s.darts s.next is.rotation d e l around

  -- before the least place of a vertex, which isn't the first of all, stands the twin of its head
  head_at : (d k : ℕ) → d < s.darts → suc k < s.darts → IsInCycle s.next d (suc k) → ((e : ℕ) → IsInCycle s.next d e → suc k ≤ e) → HasHead s out d
  head_at d k l m around least = elim (cases_Bool (is_cut s out k)) [
    | inl cut ↦
        let goes : s.next k ≡ suc k = ap s.next (sym (across_cut s out k cut)) ∙ walked.onward k (omega arith) ∙ mod-eq_of_lt m in
        absurd (low (least k (in_cycle-through s.next d (suc k) k around (back k (suc k) (omega arith) (record { steps = 1; leads = goes })))))
    | inr kept ↦
        let q : ℕ = s.twin k in
        let inside : s.twin k < s.darts = is.twin_stays k (omega arith) in
        let goes : s.next (s.twin k) ≡ suc k = ap s.next (sym (across_kept s out k kept)) ∙ walked.onward k (omega arith) ∙ mod-eq_of_lt m in
        let there : IsInCycle s.next d (s.twin k) = in_cycle-through s.next d (suc k) (s.twin k) around (back (s.twin k) (suc k) inside (record { steps = 1; leads = goes })) in
        let twin : s.twin (s.twin k) ≡ k = is.twin_back k (omega arith) in
        let head : IsHead s out (s.twin k) = record { kept = cut_twin s out k is (omega arith) ∙ kept; again = omega (arith, twin, least (s.twin k) there) } in
        record {
          head = s.twin k;
          around = there;
          is_head = head;
          last = λ e at. (head_bounds (s.twin k) e inside (inside_of d e l at) head (in_cycle-through s.next e d (s.twin k) (back d e l at) there)).1;
          only = λ e at other.
              let within : e < s.darts = inside_of d e l at in
              let up : e ≤ s.twin k = (head_bounds (s.twin k) e inside within head (in_cycle-through s.next e d (s.twin k) (back d e l at) there)).1 in
              let down : s.twin k ≤ e = (head_bounds e (s.twin k) within inside other (in_cycle-through s.next (s.twin k) d e (back d (s.twin k) l there) at)).1 in
              omega (arith, up, down);
        }
  ] where
    low : suc k ≤ k → ⊥
    low h = omega (arith, h)

  by_least : (d least : ℕ) → d < s.darts → (IsInCycle s.next s.root d → ⊥) → IsLeastInCycle s.next d least → HasHead s out d
  by_least d zero l apart is_least = absurd (apart (back d s.root l (record { steps = is_least.met.steps; leads = is_least.met.leads ∙ sym walked.root })))
  by_least d (suc k) l apart is_least = head_at d k l (inside_of d (suc k) l is_least.met) is_least.met is_least.least

pub have_heads : VerticesHaveHeads
have_heads s out is some euler walked = record {
  root = no_root_head s out is some euler walked;
  others = λ d l apart. by_least s out is some euler walked d (leader s.darts s.next d) l apart (leader-is_least s.darts s.next is.rotation d l);
}
