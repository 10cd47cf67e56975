-- There is one reason why a stem tree isn't balanced.
use Rattle.std.proofs.Common.{◌≡◌, ℕ, suc, ◌+◌, ◌-◌, ◌%◌, ◌<◌, inl, inr, List, length, refl, ap, ◌∙◌, sym, subst, arith, Option, Some, None}
use Rattle.std.proofs.lemmas.Bool.{cases_lt, cases_order}
use Rattle.std.proofs.Math.Nat.{add-mod_left}
use Rattle.pm_brackets.proofs.RingPlaces.{mod_stays}
use Rattle.pm_tri.specs.declared.balance.Imbalance.{Imbalance}
use Rattle.pm_tri.specs.declared.balance.Imbalance.TheVariants.{Closes, Follows}
use Rattle.pm_tri.specs.Balance.{IsWhyNotBalanced}
use Rattle.pm_tri.specs.BalanceLaws.{HasOneReason}
use Rattle.pm_tri.specs.Runs.{IsClosing, IsFreeBefore, IsFreeStem}
use Rattle.pm_tri.specs.StemTree.{contour}
use Rattle.pm_tri.proofs.HighCorners.{stem_within}
use Rattle.pm_tri.proofs.SideCounts.{IsFalling, tree_falls}

-- a stem closes at one side
pub one_closing : (places : List ℕ) (p q r : ℕ) → IsClosing places p q → IsClosing places p r → q ≡ r
one_closing places p q r a b = elim (cases_order a.steps b.steps) [
  | inl e ↦ sym a.meets ∙ ap (λ (k : ℕ). (p + k) % length places) e ∙ b.meets
  | inr ne ↦ elim ne [
    | inl less ↦ absurd (b.is_first a.steps less a.sum)
    | inr more ↦ absurd (a.is_first b.steps more b.sum)
  ]
]

-- from a place, so many further ones lead to the place 0 within a turn
to_plant : (n p apart : ℕ) → p < n → apart < n → (suc p + apart) % n ≡ 0 → suc p + apart ≡ n
to_plant n p apart l m e = elim (cases_lt (suc p + apart) n) [
  | inl less ↦ absurd (let same = mod_stays (suc p + apart) n less in omega (arith, same, e))
  | inr far ↦
      let back : suc p + apart ≡ n + (suc p + apart - n) = omega arith in
      let rest : (suc p + apart) % n ≡ suc p + apart - n = ap (λ (k : ℕ). k % n) back ∙ add-mod_left n (suc p + apart - n) ∙ mod_stays (suc p + apart - n) n (omega arith) in
      omega (arith, rest, e)
]

module _ (places : List ℕ) (w : IsFalling places) where
  -- none later: the earlier of the two would have the later one behind it
  not_later : (p q a b : ℕ) → p < q → IsFreeBefore places p a 0 → IsFreeBefore places q b 0 → ⊥
  not_later p q a b l f g =
      let p_in = stem_within places w p f.before_is.stem in
      let q_in = stem_within places w q g.before_is.stem in
      let whole = to_plant (length places) p a p_in f.in_turn f.meets in
      let e : suc p + (q - suc p) ≡ q = omega arith in
      f.none_between (q - suc p) (omega arith) (subst (IsFreeStem places) (sym (mod_stays q (length places) q_in) ∙ ap (λ (k : ℕ). k % length places) (sym e)) g.before_is)

  pub one_before : (p q a b : ℕ) → IsFreeBefore places p a 0 → IsFreeBefore places q b 0 → p ≡ q
  one_before p q a b f g = elim (cases_order p q) [
    | inl e ↦ e
    | inr ne ↦ elim ne [
      | inl less ↦ absurd (not_later p q a b less f g)
      | inr more ↦ absurd (not_later q p b a more g f)
    ]
  ]

  reason : (first second : Option Imbalance) → IsWhyNotBalanced places first → IsWhyNotBalanced places second → first ≡ second
  reason None None a b = refl
  reason None (Some (Closes q)) a b = absurd (a.is_before.is_free.open_ended q b)
  reason None (Some (Follows q)) a b = absurd (b.not_directly a)
  reason (Some (Closes p)) None a b = absurd (b.is_before.is_free.open_ended p a)
  reason (Some (Closes p)) (Some (Closes q)) a b = ap (λ (k : ℕ). Some (Closes k)) (one_closing places 0 p q a b)
  reason (Some (Closes p)) (Some (Follows q)) a b = absurd (b.is_before.is_free.open_ended p a)
  reason (Some (Follows p)) None a b = absurd (a.not_directly b)
  reason (Some (Follows p)) (Some (Closes q)) a b = absurd (a.is_before.is_free.open_ended q b)
  reason (Some (Follows p)) (Some (Follows q)) a b = ap (λ (k : ℕ). Some (Follows k)) (one_before p q a.apart b.apart a.is_before b.is_before)

pub one_reason : HasOneReason
one_reason word first second t a b = reason (contour word) (tree_falls word t) first second a b
