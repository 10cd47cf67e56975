-- Marks of the values of a list.
use Rattle.std.proofs.Common.{◌≡◌, ℕ, ◌+◌, ◌<◌, inl, inr, Bool, true, false, Option, Some, None, List, length, get_or, set, sym, ◌∙◌, ap, subst, arith, length-set, Contains}
use Rattle.std.proofs.lemmas.List.{get_or-set_same, get_or-set_other}
use Rattle.std.proofs.lemmas.Bool.{cases_eq, false≢true}
use Rattle.std.specs.Prelude.{MatchOption}
use Rattle.pm_perm.proofs.Contained.{contains_at, is_at}
use Rattle.pm_perm.specs.Permutation.{IsPermutationList}
use Rattle.pm_perm.proofs.InverseLemmas.{standing_permutes}
use Rattle.pm_map.specs.steps.Marks.{AllMarked, NoneMarked, IsLeastUnmarked, MarksValues}
use Rattle.pm_map.specs.Missing.{IsLeastMissing}

-- what follows from what a clause says of each case
pub MatchOption-weaker : {X : Type 0} (o : Option X) {P P' : Type 0} {Q Q' : X → Type 0} → MatchOption o P Q → (P → P') → ((x : X) → Q x → Q' x) → MatchOption o P' Q'
MatchOption-weaker None m at_none at_some = at_none m
MatchOption-weaker (Some x) m at_none at_some = at_some x m

-- nothing of the list is marked yet
pub MarksValues-none : (values : List ℕ) (marks : List Bool) → NoneMarked marks → MarksValues values 0 marks
MarksValues-none values marks none = record {
  marked = λ k h within. absurd (omega arith);
  stands = λ n is. absurd (false≢true (sym (none n) ∙ is));
}

-- the marks with one value more
pub MarksValues-more : (values : List ℕ) (place : ℕ) (marks : List Bool) → MarksValues values place marks → place < length values
    → get_or values place 0 < length marks → MarksValues values (place + 1) (set marks (get_or values place 0) true)
MarksValues-more values place marks m within below =
    let value : ℕ = get_or values place 0 in
    let size : length (set marks value true) ≡ length marks = length-set marks value true in
    record {
      marked = λ k h inside. elim (cases_eq (get_or values k 0) value) [
        | inl same ↦ ap (λ n. get_or (set marks value true) n false) same ∙ get_or-set_same marks value true false below
        | inr other ↦ elim (cases_eq k place) [
          | inl here ↦ absurd (other (ap (λ n. get_or values n 0) here))
          | inr before ↦ get_or-set_other marks value (get_or values k 0) true false other ∙ m.marked k (omega (arith, before)) (omega (arith, size, inside))
        ]
      ];
      stands = λ n is. elim (cases_eq n value) [
        | inl same ↦ (contains_at _ _ place within (sym same))
        | inr other ↦ m.stands n (sym (get_or-set_other marks value n true false other) ∙ is)
      ];
    }

-- a value past the marks is passed over
pub MarksValues-past : (values : List ℕ) (place : ℕ) (marks : List Bool) → MarksValues values place marks
    → (get_or values place 0 < length marks → ⊥) → MarksValues values (place + 1) marks
MarksValues-past values place marks m past = record {
  marked = λ k h inside. elim (cases_eq k place) [
    | inl here ↦ absurd (past (subst (λ n. get_or values n 0 < length marks) here inside))
    | inr before ↦ m.marked k (omega (arith, before)) inside
  ];
  stands = m.stands;
}

-- all are marked where the list is a permutation
pub permutation_from_marks : (values : List ℕ) (marks : List Bool) → length marks ≡ length values → MarksValues values (length values) marks
    → AllMarked marks → IsPermutationList values
permutation_from_marks values marks size m all = standing_permutes values (λ n h. m.stands n (all n (omega arith)))

-- the least number that isn't marked is the least that stands nowhere
pub missing_from_marks : (values : List ℕ) (marks : List Bool) (n : ℕ) → length marks ≡ length values → MarksValues values (length values) marks
    → IsLeastUnmarked marks n → IsLeastMissing values n
missing_from_marks values marks n size m least = record {
  within = omega (arith, least.within);
  breaks = λ s. nowhere_marked s;
  least = λ k h. m.stands k (least.least k h);
} where
  nowhere_marked : Contains values n → ⊥
  nowhere_marked s =
      let inside : get_or values (s.0) 0 < length marks = subst (λ x. x < length marks) (sym ((is_at _ _ s))) least.within in
      let marked : get_or marks n false ≡ true = subst (λ x. get_or marks x false ≡ true) ((is_at _ _ s)) (m.marked (s.0) (s.1) inside) in
      false≢true (sym least.breaks ∙ marked)
