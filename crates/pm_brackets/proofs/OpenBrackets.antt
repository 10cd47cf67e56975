-- The open brackets from place to place.
use Rattle.std.proofs.Common.{◌≡◌, ℕ, zero, suc, ◌+◌, ◌-◌, ◌≤◌, ◌<◌, inl, inr, List, [], ◌∷◌, drop, slice_index, refl, ap, ◌∙◌, sym, subst, arith, eq-eqb, ne_eqb}
use Rattle.std.proofs.lemmas.Bool.{cases_eq}
use Rattle.pm_brackets.specs.declared.letters.TheConstants.{OPEN, CLOSE}
use Rattle.pm_brackets.specs.Node.{open_before}
use Rattle.pm_brackets.specs.Word.{IsOther}

pub open_at_open : (places : List ℕ) (p : ℕ) → slice_index places p ≡ OPEN → open_before places (suc p) ≡ p ∷ open_before places p
open_at_open places p h = rw (eq-eqb (slice_index places p) OPEN h) refl

pub open_at_close : (places : List ℕ) (p : ℕ) → slice_index places p ≡ CLOSE → open_before places (suc p) ≡ drop 1 (open_before places p)
open_at_close places p h = rw (ne_eqb (slice_index places p) OPEN (λ e. omega arith), eq-eqb (slice_index places p) CLOSE h) refl

pub open_at_other : (places : List ℕ) (p : ℕ) → IsOther (slice_index places p) → open_before places (suc p) ≡ open_before places p
open_at_other places p o = rw (ne_eqb (slice_index places p) OPEN o.not_open, ne_eqb (slice_index places p) CLOSE o.not_close) refl

dropped : (xs : List ℕ) (k : ℕ) → slice_index (drop 1 xs) k ≡ slice_index xs (suc k)
dropped [] k = refl
dropped (x ∷ xs) k = refl

-- an open bracket stands before the place: the new one, and those before it
at_open : (xs : List ℕ) (p k : ℕ) → ((j : ℕ) → slice_index xs j ≤ p - 1) → slice_index (p ∷ xs) k ≤ p
at_open xs p zero h = omega arith
at_open xs p (suc k) h = let a = h k in omega (arith, a)

pub open_is_before : (places : List ℕ) (p k : ℕ) → slice_index (open_before places p) k ≤ p - 1
open_is_before places zero k = omega arith
open_is_before places (suc p) k =
    elim (cases_eq (slice_index places p) OPEN) [
      | inl o ↦
          let e = ap (λ (xs : List ℕ). slice_index xs k) (open_at_open places p o) in
          let h = at_open (open_before places p) p k (λ j. open_is_before places p j) in
          omega (arith, e, h)
      | inr n ↦ elim (cases_eq (slice_index places p) CLOSE) [
        | inl c ↦
            let e = ap (λ (xs : List ℕ). slice_index xs k) (open_at_close places p c) ∙ dropped (open_before places p) k in
            let h = open_is_before places p (suc k) in
            omega (arith, e, h)
        | inr m ↦
            let e = ap (λ (xs : List ℕ). slice_index xs k) (open_at_other places p (record { not_open = n; not_close = m })) in
            let h = open_is_before places p k in
            omega (arith, e, h)
      ]
    ]

-- the bracket isn't open any more
pub record IsGone (places : List ℕ) (node p : ℕ) : Type 0 where
  pub not_open : (k : ℕ) → slice_index (open_before places p) k ≡ node → ⊥

not_among : (xs : List ℕ) (p node k : ℕ) → node < p → ((j : ℕ) → slice_index xs j ≡ node → ⊥) → slice_index (p ∷ xs) k ≡ node → ⊥
not_among xs p node zero l h e = omega arith
not_among xs p node (suc k) l h e = h k e

gone_next : (places : List ℕ) (node p : ℕ) → node < p → IsGone places node p → IsGone places node (suc p)
gone_next places node p l g = record {
  not_open = λ k e.
      elim (cases_eq (slice_index places p) OPEN) [
        | inl o ↦ not_among (open_before places p) p node k l g.not_open (sym (ap (λ (xs : List ℕ). slice_index xs k) (open_at_open places p o)) ∙ e)
        | inr n ↦ elim (cases_eq (slice_index places p) CLOSE) [
          | inl c ↦ g.not_open (suc k) (sym (dropped (open_before places p) k) ∙ sym (ap (λ (xs : List ℕ). slice_index xs k) (open_at_close places p c)) ∙ e)
          | inr m ↦ g.not_open k (sym (ap (λ (xs : List ℕ). slice_index xs k) (open_at_other places p (record { not_open = n; not_close = m }))) ∙ e)
        ]
      ];
}

-- and stays so
pub gone_stays : (places : List ℕ) (node p n : ℕ) → node < p → IsGone places node p → IsGone places node (n + p)
gone_stays places node p zero l g = let e : 0 + p ≡ p = omega arith in subst (IsGone places node) (sym e) g
gone_stays places node p (suc n) l g =
    let e : suc n + p ≡ suc (n + p) = omega arith in
    subst (IsGone places node) (sym e) (gone_next places node (n + p) (omega arith) (gone_stays places node p n l g))
