-- No stem tree is without a reason why it is or isn't balanced.
use Rattle.std.proofs.Common.{◌≡◌, ℕ, suc, ◌+◌, ◌-◌, ◌%◌, ◌<◌, inl, inr, List, length, refl, ap, ◌∙◌, subst, arith, Some, None}
use Rattle.std.proofs.Math.Nat.{add-mod_left}
use Rattle.pm_perm.proofs.LeastCases.{all_or_least}
use Rattle.pm_brackets.proofs.RingPlaces.{mod_stays}
use Rattle.pm_tri.specs.declared.balance.Imbalance.TheVariants.{Closes, Follows}
use Rattle.pm_tri.specs.BalanceLaws.{HasSomeReason}
use Rattle.pm_tri.specs.Runs.{IsFreeBefore, IsFreeStem}
use Rattle.pm_tri.specs.StemTree.{contour}
use Rattle.pm_tri.proofs.ClosingLaws.{closes_or_free}

-- a free plant has a free stem before it: itself, where there is no other
some_before : (places : List ℕ) → 0 < length places → IsFreeStem places 0 → ((stem apart : ℕ) → IsFreeBefore places stem apart 0 → ⊥) → ⊥
some_before places some free none =
    all_or_least (λ k. IsFreeStem places (length places - suc k) → ⊥) (length places)
    (λ all. all (length places - 1) (omega (arith, some)) (subst (IsFreeStem places) (omega (arith, some)) free))
    (λ k is. is.breaks (λ before. none (length places - suc k) k (record {
      is_free = free;
      before_is = before;
      in_turn = is.within;
      meets =
          let whole : suc (length places - suc k) + k ≡ length places + 0 = (let l = is.within in omega (arith, l)) in
          ap (λ (p : ℕ). p % length places) whole ∙ add-mod_left (length places) 0 ∙ mod_stays 0 (length places) some;
      none_between = λ j l between.
          let within = is.within in
          let place : suc (length places - suc k) + j ≡ length places - suc (k - suc j) = omega (arith, l, within) in
          let there : (suc (length places - suc k) + j) % length places ≡ length places - suc (k - suc j) =
          mod_stays (suc (length places - suc k) + j) (length places) (omega (arith, l, within)) ∙ place in
          is.least (k - suc j) (omega (arith, l)) (subst (IsFreeStem places) there between);
    })))

pub some_reason : HasSomeReason
some_reason word tree none = elim (closes_or_free word 0 tree refl) [
  | inl closes ↦ none (Some (Closes closes.0)) closes.1
  | inr free ↦ some_before (contour word) (omega arith) free
      (λ stem apart before. none (Some (Follows stem)) (record { apart = apart; is_before = before; not_directly = none None }))
]
