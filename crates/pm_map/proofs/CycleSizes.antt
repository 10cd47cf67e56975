-- Steps along the cycles of a permutation, and how many lead back.
use Rattle.std.proofs.Common.{◌≡◌, ◌≢◌, ℕ, suc, ◌+◌, ◌-◌, ◌<◌, ◌≤◌, inl, inr, List, length, length-set, get_or, set, refl, sym, ◌∙◌, ap, subst, arith}
use Rattle.std.proofs.lemmas.List.{get_or-set_same, get_or-set_other}
use Rattle.std.proofs.lemmas.Bool.{cases_eq, cases_order}
use Rattle.pm_perm.specs.Permutation.{IsPermutationBelow}
use Rattle.pm_perm.proofs.Permutations.{pigeonhole}
use Rattle.pm_perm.specs.Cycles.{repeated}
use Rattle.pm_perm.proofs.Repeats.{repeated-inside, repeated-injective, repeated-swap, repeated-back}
use Rattle.pm_map.specs.CycleSize.{IsCycleSize}
use Rattle.pm_map.specs.steps.Sizes.{IsSized}

-- a way of so many steps that isn't back before its end
pub record IsAway (f : ℕ → ℕ) (d steps next : ℕ) : Type 0 where
  pub some : 0 < steps
  pub leads : next ≡ repeated f steps d
  pub away : (k : ℕ) → 0 < k → k < steps → repeated f k d ≢ d

pub IsAway-one : (f : ℕ → ℕ) (d : ℕ) → IsAway f d 1 (f d)
IsAway-one f d = record { some = omega arith; leads = refl; away = λ k h less. absurd (omega arith) }

pub IsAway-more : (f : ℕ → ℕ) (d steps next : ℕ) → IsAway f d steps next → next ≢ d → IsAway f d (steps + 1) (f next)
IsAway-more f d steps next w more =
    let one : suc steps ≡ steps + 1 = omega arith in
    record {
      some = omega arith;
      leads = ap f w.leads ∙ ap (λ k. repeated f k d) one;
      away = λ k h less. elim (cases_eq k steps) [
        | inl last ↦ (λ e. more (w.leads ∙ ap (λ j. repeated f j d) (sym last) ∙ e))
        | inr before ↦ w.away k h (omega (arith, before))
      ];
    }

-- such a way is no longer than there are numbers
pub IsAway-short : (n : ℕ) (f : ℕ → ℕ) (d steps next : ℕ) → IsPermutationBelow n f → d < n → IsAway f d steps next → steps ≤ n
IsAway-short n f d steps next p h w =
    let apart : (j k : ℕ) → j < k → k < steps → repeated f j d ≡ repeated f k d → ⊥ =
    λ j k less within e. w.away (k - j) (omega arith) (omega arith) (repeated-back n f j k d p h less e) in
    pigeonhole (λ k. repeated f k d) steps n (λ k _. repeated-inside f n p k d h) (λ j k hj hk e. elim (cases_order j k) [
      | inl same ↦ same
      | inr differs ↦ elim differs [ inl less ↦ absurd (apart j k less hk e) | inr more ↦ absurd (apart k j more hj (sym e)) ]
    ])

pub IsAway-size : (f : ℕ → ℕ) (d steps next : ℕ) → IsAway f d steps next → next ≡ d → IsCycleSize f d steps
IsAway-size f d steps next w back = record { some = w.some; back = sym w.leads ∙ back; least = w.away }

pub IsAway-below : (n : ℕ) (f : ℕ → ℕ) (d steps next : ℕ) → IsPermutationBelow n f → d < n → IsAway f d steps next → next < n
IsAway-below n f d steps next p h w = subst (λ x. x < n) (sym w.leads) (repeated-inside f n p steps d h)

-- all numbers of a cycle have its size
pub IsCycleSize-along : (n : ℕ) (f : ℕ → ℕ) (d size i : ℕ) → IsPermutationBelow n f → d < n → IsCycleSize f d size → IsCycleSize f (repeated f i d) size
IsCycleSize-along n f d size i p h is = record {
  some = is.some;
  back = repeated-swap f size i d ∙ ap (repeated f i) is.back;
  least = λ k some less e. is.least k some less (repeated-injective f n p i (repeated f k d) d (repeated-inside f n p k d h) h (repeated-swap f i k d ∙ e));
}

-- a size more is written
pub IsSized-write : (f : ℕ → ℕ) (sizes : List ℕ) (bound d size : ℕ) → IsSized f sizes bound → d < length sizes → IsCycleSize f d size → IsSized f (set sizes d size) bound
IsSized-write f sizes bound d size sized within is =
    let here : get_or (set sizes d size) d 0 ≡ size = get_or-set_same sizes d size 0 within in
    let written : IsCycleSize f d (get_or (set sizes d size) d 0) = subst (λ x. IsCycleSize f d x) (sym here) is in
    let other : (e : ℕ) → (e ≡ d → ⊥) → get_or (set sizes d size) e 0 ≡ get_or sizes e 0 = λ e differs. get_or-set_other sizes d e size 0 differs in
    record {
      known = λ e below. elim (cases_eq e d) [
        | inl same ↦ subst (λ x. IsCycleSize f x (get_or (set sizes d size) x 0)) (sym same) written
        | inr differs ↦ subst (λ x. IsCycleSize f e x) (sym (other e differs)) (sized.known e below)
      ];
      right = λ e he. elim (cases_eq e d) [
        | inl same ↦ inr (subst (λ x. IsCycleSize f x (get_or (set sizes d size) x 0)) (sym same) written)
        | inr differs ↦ elim (sized.right e (let long : length (set sizes d size) ≡ length sizes = length-set sizes d size in omega (arith, he))) [
          | inl none ↦ inl (other e differs ∙ none)
          | inr right ↦ inr (subst (λ x. IsCycleSize f e x) (sym (other e differs)) right)
        ]
      ];
    }

-- the state while a cycle is written
pub record IsWriting (f : ℕ → ℕ) (start size : ℕ) (sizes : List ℕ) (steps next : ℕ) : Type 0 where
  pub leads : next ≡ repeated f steps start
  pub sized : IsSized f sizes start
  pub here : 0 < steps → IsCycleSize f start (get_or sizes start 0)

pub IsWriting-begins : (f : ℕ → ℕ) (start size : ℕ) (sizes : List ℕ) → IsSized f sizes start → IsWriting f start size sizes 0 start
IsWriting-begins f start size sizes sized = record { leads = refl; sized = sized; here = λ h. absurd (omega arith) }

pub IsWriting-below : (n : ℕ) (f : ℕ → ℕ) (start size : ℕ) (sizes : List ℕ) (steps next : ℕ) → IsPermutationBelow n f → start < n
    → IsWriting f start size sizes steps next → next < n
IsWriting-below n f start size sizes steps next p h w = subst (λ x. x < n) (sym w.leads) (repeated-inside f n p steps start h)

pub IsWriting-step : (n : ℕ) (f : ℕ → ℕ) (start size : ℕ) (sizes : List ℕ) (steps next : ℕ) → IsPermutationBelow n f → start < n → length sizes ≡ n
    → IsCycleSize f start size → IsWriting f start size sizes steps next → IsWriting f start size (set sizes next size) (steps + 1) (f next)
IsWriting-step n f start size sizes steps next p h long is w =
    let one : suc steps ≡ steps + 1 = omega arith in
    let below : next < n = IsWriting-below n f start size sizes steps next p h w in
    let size_next : IsCycleSize f next size = subst (λ x. IsCycleSize f x size) (sym w.leads) (IsCycleSize-along n f start size steps p h is) in
    let within : next < length sizes = omega arith in
    let here : get_or (set sizes next size) next 0 ≡ size = get_or-set_same sizes next size 0 within in
    record {
      leads = ap f w.leads ∙ ap (λ k. repeated f k start) one;
      sized = IsSized-write f sizes start next size w.sized within size_next;
      here = λ _. elim (cases_eq start next) [
        | inl same ↦ subst (λ x. IsCycleSize f start x) (sym (ap (λ k. get_or (set sizes next size) k 0) same ∙ here)) is
        | inr differs ↦ elim (cases_eq steps 0) [
          | inl none ↦ absurd (differs (sym (w.leads ∙ ap (λ k. repeated f k start) none)))
          | inr some ↦ subst (λ x. IsCycleSize f start x) (sym (get_or-set_other sizes next start size 0 differs)) (w.here (omega (arith, some)))
        ]
      ];
    }

-- one number more is sized
pub IsSized-more : (f : ℕ → ℕ) (sizes : List ℕ) (bound : ℕ) → IsSized f sizes bound → IsCycleSize f bound (get_or sizes bound 0) → IsSized f sizes (bound + 1)
IsSized-more f sizes bound sized here = record {
  known = λ d below. elim (cases_eq d bound) [
    | inl same ↦ subst (λ x. IsCycleSize f x (get_or sizes x 0)) (sym same) here
    | inr before ↦ sized.known d (omega (arith, before))
  ];
  right = sized.right;
}

-- an entry that isn't 0 is sized
pub IsSized-nonzero : (f : ℕ → ℕ) (sizes : List ℕ) (bound : ℕ) → IsSized f sizes bound → bound < length sizes → (get_or sizes bound 0 ≡ 0 → ⊥) → IsSized f sizes (bound + 1)
IsSized-nonzero f sizes bound sized within some =
    IsSized-more f sizes bound sized (elim (sized.right bound within) [ inl none ↦ absurd (some none) | inr right ↦ right ])

-- nothing is sized at the start
pub IsSized-none : (f : ℕ → ℕ) (sizes : List ℕ) → ((d : ℕ) → d < length sizes → get_or sizes d 0 ≡ 0) → IsSized f sizes 0
IsSized-none f sizes none = record { known = λ d below. absurd (omega arith); right = λ d h. inl (none d h) }
