-- The inverse of a list, written entry by entry.
use Rattle.std.proofs.Common.{◌≡◌, ℕ, ◌+◌, ◌<◌, inl, inr, List, length, get_or, set, slice_index, sym, ap, ◌∙◌, arith, rules, get_or-set_same, get_or-set_other}
use Rattle.std.proofs.lemmas.Bool.{cases_eq}
use Rattle.pm_perm.specs.Permutation.{IsPermutationList}
use Rattle.pm_perm.specs.Lists.{IsInverseList}
use Rattle.pm_perm.proofs.Permutations.{IsReached, reached}

-- the places of so many values are written
pub record IsPlaced (values places : List ℕ) (count : ℕ) : Type 0 where
  pub same_length : length places ≡ length values
  pub placed : (j : ℕ) → j < count → slice_index places (slice_index values j) ≡ j

pub placed-none : (values places : List ℕ) → length places ≡ length values → IsPlaced values places 0
placed-none values places same = record { same_length = same; placed = λ j h. absurd (omega (arith, h)) }

pub placed-more : (values places : List ℕ) (count : ℕ) → IsPermutationList values → count < length values → IsPlaced values places count
    → IsPlaced values (set places (slice_index values count) count) (count + 1)
placed-more values places count p h w = record {
  same_length = length_set places (slice_index values count) count ∙ w.same_length;
  placed = λ j hj. elim (cases_eq j count) [
    | inl last ↦
        ap (λ i. get_or (set places (slice_index values count) count) (slice_index values i) 0) last
        ∙ get_or-set_same places (slice_index values count) count 0 (omega (arith, p.stays count h, w.same_length)) ∙ sym last
    | inr less ↦
        let before : j < count = omega (arith, hj, less) in
        get_or-set_other places (slice_index values count) (slice_index values j) count 0
        (λ same. less (p.injective j count (omega (arith, before, h)) h same)) ∙ w.placed j before
  ];
} where
  length_set : (places : List ℕ) (i v : ℕ) → length (set places i v) ≡ length places
  length_set places i v = search rules

pub placed-inverse : (values places : List ℕ) (count : ℕ) → IsPermutationList values → count ≡ length values → IsPlaced values places count → IsInverseList values places
placed-inverse values places count p e w = record {
  same_length = w.same_length;
  undoes = λ k h. w.placed k (omega (arith, h, e));
  undone = λ k h.
      (let r : IsReached (slice_index values) (length values) k = reached (slice_index values) (length values) k p h in
      ap (λ v. slice_index values (slice_index places v)) (sym r.value) ∙ ap (slice_index values) (w.placed r.from (omega (arith, r.below, e))) ∙ r.value);
}

-- the inverse is a permutation
pub inverse-permutes : (values places : List ℕ) → IsPermutationList values → IsInverseList values places → IsPermutationList places
inverse-permutes values places p w = record {
  stays = λ k h. (let r : IsReached (slice_index values) (length values) k = reached (slice_index values) (length values) k p (omega (arith, h, w.same_length)) in
      omega (arith, w.same_length, r.below, ap (slice_index places) r.value, w.undoes r.from r.below));
  injective = λ j k hj hk e. sym (w.undone j (omega (arith, hj, w.same_length))) ∙ ap (slice_index values) e ∙ w.undone k (omega (arith, hk, w.same_length));
}
