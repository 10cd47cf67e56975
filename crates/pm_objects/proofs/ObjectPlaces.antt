-- Objects that are put at the places of their arities.
use Rattle.std.proofs.Common.{◌≡◌, ℕ, ◌+◌, ◌<◌, ◌≤◌, ◌==◌, take-take, Bool, true, false, cond, inl, inr, List, length, take, refl, ap, sym, ◌∙◌, arith, eq-eqb, ne_eqb, eqb-true}
use Rattle.std.specs.Int.{from_bool}
use Rattle.std.specs.Prelude.{count_by, slice_index, slice_set}
use Rattle.std.proofs.lemmas.Bool.{cases_eq, cases_lt, eqb-false}
use Rattle.std.proofs.lemmas.List.{get_or-set_same, get_or-set_other, set-get_or}
use Rattle.std.proofs.lemmas.List.Sums.{sum_by_more, sum_by-take-le}

-- how often an arity stands among others
abbrev pub with_arity : ℕ → List ℕ → ℕ
with_arity arity arities = count_by (λ y. y == arity) arities

with_arity_more : (arity : ℕ) (arities : List ℕ) (place : ℕ) → place < length arities → slice_index arities place ≡ arity → with_arity arity (take (place + 1) arities) ≡ with_arity arity (take place arities) + 1
with_arity_more arity arities place less e =
    let a = sum_by_more (λ (y : ℕ). cond (y == arity) 1 0) arities place 0 less in
    let b : cond {A = ℕ} (slice_index arities place == arity) 1 0 ≡ 1 = rw (eq-eqb (slice_index arities place) arity e) refl in
    omega (arith, a, b)

with_arity_same : (arity : ℕ) (arities : List ℕ) (place : ℕ) → place < length arities → (slice_index arities place ≡ arity → ⊥) → with_arity arity (take (place + 1) arities) ≡ with_arity arity (take place arities)
with_arity_same arity arities place less n =
    let a = sum_by_more (λ (y : ℕ). cond (y == arity) 1 0) arities place 0 less in
    let b : cond {A = ℕ} (slice_index arities place == arity) 1 0 ≡ 0 = rw (ne_eqb (slice_index arities place) arity n) refl in
    omega (arith, a, b)

-- the objects of the arity are put at the places before this one
pub record ArePut (arities : List ℕ) (arity : ℕ) (list before objects : List ℕ) (next place : ℕ) : Type 0 where
  pub next_is : next ≡ with_arity arity (take place arities)
  pub here : (p : ℕ) → p < place → slice_index arities p ≡ arity → slice_index objects p ≡ slice_index list (with_arity arity (take p arities))
  pub others : (p : ℕ) → (p < place → slice_index arities p ≡ arity → ⊥) → slice_index objects p ≡ slice_index before p

pub put_none : (arities : List ℕ) (arity : ℕ) (list before : List ℕ) → ArePut arities arity list before before 0 0
put_none arities arity list before = record { next_is = refl; here = λ p less e. absurd (omega (arith, less)); others = λ p n. refl }

put_skipped : (arities : List ℕ) (arity : ℕ) (list before objects : List ℕ) (next place : ℕ) → ArePut arities arity list before objects next place → place < length arities
    → (slice_index arities place ≡ arity → ⊥) → ArePut arities arity list before objects next (place + 1)
put_skipped arities arity list before objects next place a less n = record {
  next_is = a.next_is ∙ sym (with_arity_same arity arities place less n);
  here = λ p within e. elim (cases_eq p place) [
    | inl last ↦ absurd (n (sym (ap (λ (k : ℕ). slice_index arities k) last) ∙ e))
    | inr apart ↦ a.here p (omega (arith, within, apart)) e
  ];
  others = λ p other. a.others p (λ within e. other (omega (arith, within)) e);
}

put_one : (arities : List ℕ) (arity : ℕ) (list before objects after : List ℕ) (next place : ℕ) → ArePut arities arity list before objects next place → place < length arities → place < length objects
    → slice_index arities place ≡ arity → after ≡ slice_set objects place (slice_index list next) → ArePut arities arity list before after (next + 1) (place + 1)
put_one arities arity list before objects after next place a less inside e set =
    let counted = a.next_is in
    let more = with_arity_more arity arities place less e in
    let same : slice_index after place ≡ slice_index list next = ap (λ (xs : List ℕ). slice_index xs place) set ∙ get_or-set_same objects place (slice_index list next) 0 inside in
    let other : (p : ℕ) → (p ≡ place → ⊥) → slice_index after p ≡ slice_index objects p = λ p apart. ap (λ (xs : List ℕ). slice_index xs p) set ∙ get_or-set_other objects place p (slice_index list next) 0 apart in
    record {
      next_is = omega (arith, counted, more);
      here = λ p within h. elim (cases_eq p place) [
        | inl last ↦ ap (slice_index after) last ∙ same ∙ ap (slice_index list) (counted ∙ sym (ap (λ (k : ℕ). with_arity arity (take k arities)) last))
        | inr apart ↦ other p apart ∙ a.here p (omega (arith, within, apart)) h
      ];
      others = λ p n. elim (cases_eq p place) [
        | inl last ↦ absurd (n (omega (arith, last)) (ap (λ (k : ℕ). slice_index arities k) last ∙ e))
        | inr apart ↦ other p apart ∙ a.others p (λ within h. n (omega (arith, within)) h)
      ];
    }

-- at each place what the test chooses is written
pub put_step : (arities : List ℕ) (arity : ℕ) (list before objects : List ℕ) (next place : ℕ) (here : Bool) → ArePut arities arity list before objects next place → place < length arities → place < length objects
    → here ≡ (slice_index arities place == arity)
    → ArePut arities arity list before (slice_set objects place (cond here (slice_index list next) (slice_index objects place))) (next + from_bool here) (place + 1)
put_step arities arity list before objects next place true a less inside is = put_one arities arity list before objects _ next place a less inside (eqb-true (slice_index arities place) arity (sym is)) refl
put_step arities arity list before objects next place false a less inside is =
    let none : next + 0 ≡ next = omega arith in
    rw (none, set-get_or objects place 0) (put_skipped arities arity list before objects next place a less (eqb-false (slice_index arities place) arity (sym is)))

-- where all of the list are put, no place behind has the arity
pub put_whole : (arities : List ℕ) (arity : ℕ) (list before objects : List ℕ) (next place : ℕ) → ArePut arities arity list before objects next place → length list ≡ with_arity arity arities → length list ≤ next
    → (p : ℕ) → p < length arities → slice_index arities p ≡ arity → p < place
put_whole arities arity list before objects next place a many all p inside e = elim (cases_lt p place) [
  | inl within ↦ within
  | inr past ↦
      let prefix : with_arity arity (take place (take p arities)) ≤ with_arity arity (take p arities) = sum_by-take-le (λ (y : ℕ). cond (y == arity) 1 0) (take p arities) place in
      let same : take place (take p arities) ≡ take place arities = take-take place p arities past in
      let one = with_arity_more arity arities p inside e in
      let whole = sum_by-take-le (λ (y : ℕ). cond (y == arity) 1 0) arities (p + 1) in
      let counted = a.next_is in
      absurd (omega (arith, prefix, ap (with_arity arity) same, one, whole, counted, many, all))
]
