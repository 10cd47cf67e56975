-- The least place with a property among the places that were looked at.
use Rattle.std.proofs.Common.{◌≡◌, ℕ, ◌≤◌, ◌⊎◌, ◌↔◌, inl, inr, min, Bool, true, false, cond, IsTrue, Option, Some, None, MatchOption, refl, ap, ◌∙◌, sym, subst, arith}
use Rattle.std.proofs.lemmas.Bool.{cases_lt, false≢true}
use Rattle.pm_brackets.specs.First.{IsFirst}
use Rattle.pm_brackets.specs.Noted.{lesser, IsNoted}

-- nothing is found where no place that was looked at has the property; else the least of them
pub record IsLeastOf (Bad Looked : ℕ → Type 0) (found : Option ℕ) : Type 0 where
  pub sound : (p : ℕ) → found ≡ Some p → Bad p
  pub least : (k : ℕ) → Looked k → Bad k → (p : ℕ) × (found ≡ Some p) × (p ≤ k)

pub least_none : (Bad Looked : ℕ → Type 0) → ((k : ℕ) → Looked k → ⊥) → IsLeastOf Bad Looked None
least_none Bad Looked h = record { sound = λ p e. absurd (cc); least = λ k l b. absurd (h k l) }

pub least_fewer : (Bad Looked Less : ℕ → Type 0) (found : Option ℕ) → ((k : ℕ) → Less k → Looked k) → IsLeastOf Bad Looked found → IsLeastOf Bad Less found
least_fewer Bad Looked Less found h r = record { sound = r.sound; least = λ k l b. r.least k (h k l) b }

-- another property that is the same one at the places that were looked at
pub least_alike : (Bad Other Looked Still : ℕ → Type 0) (found : Option ℕ) → ((k : ℕ) → Bad k → Other k) → ((k : ℕ) → Still k → Looked k) → ((k : ℕ) → Still k → Other k → Bad k) → IsLeastOf Bad Looked found → IsLeastOf Other Still found
least_alike Bad Other Looked Still found to fewer back r = record { sound = λ p e. to p (r.sound p e); least = λ k l b. r.least k (fewer k l) (back k l b) }

lesser_is : (found : Option ℕ) (x : ℕ) → (p : ℕ) × (lesser found (Some x) ≡ Some p) × (p ≤ x) × (((found ≡ Some p) ⊎ (p ≡ x)) × ((q : ℕ) → found ≡ Some q → p ≤ q))
lesser_is None x = (x, refl, omega arith, (inr refl, λ q e. absurd (cc)))
lesser_is (Some y) x = (
  min y x,
  refl,
  omega arith,
  (
    elim (cases_lt y x) [
      | inl l ↦ (let e : min y x ≡ y = omega arith in inl (ap Some (sym e)))
      | inr g ↦ (let e : min y x ≡ x = omega arith in inr e)
    ],
    λ q e. let f : y ≡ q = cc in omega arith,
  ),
)

pub least_bad : (Bad Looked : ℕ → Type 0) (found : Option ℕ) (x : ℕ) → Bad x → IsLeastOf Bad Looked found → IsLeastOf Bad (λ k. Looked k ⊎ (k ≡ x)) (lesser found (Some x))
least_bad Bad Looked found x b r =
    let w = lesser_is found x in
    record {
      sound = λ p e.
          let f : p ≡ w.0 = let g : Some p ≡ Some w.0 = sym e ∙ w.1 in cc in
          let h : Bad w.0 = elim w.3.0 [ inl i ↦ r.sound w.0 i | inr i ↦ subst Bad (sym i) b ] in
          subst Bad (sym f) h;
      least = λ k l c. (
        w.0,
        w.1,
        elim l [
          | inl i ↦ (let m = r.least k i c in let n = w.3.1 m.0 m.1 in let o = m.2 in omega arith)
          | inr i ↦ (let o = w.2 in omega arith)
        ],
      );
    }

pub least_good : (Bad Looked : ℕ → Type 0) (found : Option ℕ) (x : ℕ) → (Bad x → ⊥) → IsLeastOf Bad Looked found → IsLeastOf Bad (λ k. Looked k ⊎ (k ≡ x)) found
least_good Bad Looked found x n r = record {
  sound = r.sound;
  least = λ k l c. elim l [ inl i ↦ r.least k i c | inr i ↦ absurd (n (subst Bad i c)) ];
}

pub noted_from_test : (Right : Type 0) (test : Bool) (old new : Option ℕ) (place : ℕ) → (IsTrue test ↔ Right) → new ≡ cond test old (lesser old (Some place)) → IsNoted Right old new place
noted_from_test Right true old new place h e = inl (h.0 refl, e)
noted_from_test Right false old new place h e = inr (λ r. false≢true (h.1 r), e)

pub least_noted : (Bad Looked : ℕ → Type 0) (Right : Type 0) (old new : Option ℕ) (x : ℕ) → (Right → Bad x → ⊥) → ((Right → ⊥) → Bad x) → IsNoted Right old new x → IsLeastOf Bad Looked old → IsLeastOf Bad (λ k. Looked k ⊎ (k ≡ x)) new
least_noted Bad Looked Right old new x g b n r =
    let P : Option ℕ → Type 0 = λ o. IsLeastOf Bad (λ k. Looked k ⊎ (k ≡ x)) o in
    elim n [
      | inl i ↦ subst P (sym i.1) (least_good Bad Looked old x (g i.0) r)
      | inr i ↦ subst P (sym i.1) (least_bad Bad Looked old x (b i.0) r)
    ]

-- where each place with the property was looked at, the answer is right
pub first_of_all : (Bad Looked : ℕ → Type 0) (found : Option ℕ) → ((k : ℕ) → Bad k → Looked k) → IsLeastOf Bad Looked found → MatchOption found ((k : ℕ) → Bad k → ⊥) (IsFirst Bad)
first_of_all Bad Looked None h r = λ k b. let m = r.least k (h k b) b in let e = m.1 in absurd (cc)
first_of_all Bad Looked (Some p) h r = record {
  here = r.sound p refl;
  least = λ k b. let m = r.least k (h k b) b in let e : p ≡ m.0 = let f = m.1 in cc in let o = m.2 in omega arith;
}

-- there is one least place with a property
pub first_same : (P : ℕ → Type 0) (a b : ℕ) → IsFirst P a → IsFirst P b → a ≡ b
first_same P a b p q = let e = p.least b q.here in let f = q.least a p.here in omega arith
