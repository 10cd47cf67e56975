-- What the marks of a check tell: which numbers stood so far, and whether each stood once.
use Rattle.std.proofs.Common.{◌≡◌, ℕ, ◌+◌, ◌<◌, ◌⊎◌, ◌↔◌, inl, inr, Bool, true, false, ◌&&◌, List, length, get_or, set, slice_index, IsTrue, sym, ap, ◌∙◌, refl, arith, rules, get_or-set_same, get_or-set_other, Contains}
use Rattle.std.proofs.lemmas.Bool.{cases_eq}
use Rattle.pm_perm.proofs.Contained.{contains_at, is_at}
use Rattle.pm_perm.specs.Permutation.{IsPermutationList}
use Rattle.pm_perm.proofs.Permutations.{IsReached}

-- the numbers below the count are sent to different places below the size
pub record Places (count size : ℕ) (f : ℕ → ℕ) : Type 0 where
  pub stays : (k : ℕ) → k < count → f k < size
  pub injective : (j k : ℕ) → j < count → k < count → f j ≡ f k → j ≡ k

-- after so many entries
pub record IsChecked (values : List ℕ) (count : ℕ) (marks : List Bool) (all : Bool) : Type 0 where
  pub same_length : length marks ≡ length values
  pub distinct : all ≡ true → Places count (length values) (slice_index values)
  pub broken : all ≡ false → IsPermutationList values → ⊥
  pub found : (k : ℕ) → k < length values → get_or marks k false ≡ true → IsReached (slice_index values) count k
  pub marked : (j : ℕ) → j < count → slice_index values j < length values → get_or marks (slice_index values j) false ≡ true

-- whether the next entry is fresh
pub record IsFresh (values : List ℕ) (count : ℕ) (marks : List Bool) (fresh : Bool) : Type 0 where
  pub only : fresh ≡ true → (slice_index values count < length marks) × (get_or marks (slice_index values count) false ≡ false)
  pub always : slice_index values count < length marks → get_or marks (slice_index values count) false ≡ false → fresh ≡ true

true_false : (b : Bool) → b ≡ true → b ≡ false → ⊥
true_false b e e' = grind arith

cases_bool : (b : Bool) → (b ≡ true) ⊎ (b ≡ false)
cases_bool b = elim b as (λ v. (v ≡ true) ⊎ (v ≡ false)) [ true ↦ inl refl | false ↦ inr refl ]

and_true : (a b : Bool) → (a && b) ≡ true → (a ≡ true) × (b ≡ true)
and_true a b e = elim (cases_bool a) [
  | inl t ↦ (t, right a b e t)
  | inr f ↦ absurd (no a b e f)
] where
  right : (a b : Bool) → (a && b) ≡ true → a ≡ true → b ≡ true
  right a b e t = grind arith

  no : (a b : Bool) → (a && b) ≡ true → a ≡ false → ⊥
  no a b e f = grind arith

and_false : (a b : Bool) → (a && b) ≡ false → a ≡ true → b ≡ false
and_false a b e t = grind arith

pub checked-start : (values : List ℕ) (marks : List Bool) → length marks ≡ length values → ((k : ℕ) → k < length marks → get_or marks k false ≡ false) → IsChecked values 0 marks true
checked-start values marks same none = record {
  same_length = same;
  distinct = λ _. record { stays = λ k h. absurd (omega (arith, h)); injective = λ j k h. absurd (omega (arith, h)) };
  broken = λ e. absurd (true_false true refl e);
  found = λ k h e. absurd (true_false (get_or marks k false) e (none k (omega (arith, same, h))));
  marked = λ j h. absurd (omega (arith, h));
}

-- a fresh entry stands nowhere before
fresh_apart : (values : List ℕ) (count : ℕ) (marks : List Bool) (all fresh : Bool) → IsChecked values count marks all → IsFresh values count marks fresh → fresh ≡ true
    → (j : ℕ) → j < count → slice_index values j ≡ slice_index values count → ⊥
fresh_apart values count marks all fresh c f e j h same =
    let here : (slice_index values count < length marks) × (get_or marks (slice_index values count) false ≡ false) = f.only e in
    true_false (get_or marks (slice_index values count) false)
    (sym (ap (λ v. get_or marks v false) same) ∙ c.marked j h (omega (arith, same, here.0, c.same_length))) here.1

-- an entry that isn't fresh breaks the list
stale_broken : (values : List ℕ) (count : ℕ) (marks : List Bool) (all fresh : Bool) → count < length values → IsChecked values count marks all → IsFresh values count marks fresh → fresh ≡ false
    → IsPermutationList values → ⊥
stale_broken values count marks all fresh h c f e p =
    let inside : slice_index values count < length values = p.stays count h in
    elim (cases_bool (get_or marks (slice_index values count) false)) [
      | inr unmarked ↦ true_false fresh (f.always (omega (arith, inside, c.same_length)) unmarked) e
      | inl marked ↦
          let before : IsReached (slice_index values) count (slice_index values count) = c.found (slice_index values count) inside marked in
          let same : before.from ≡ count = p.injective before.from count (omega (arith, before.below, h)) h before.value in
          omega (arith, same, before.below)
    ]

pub checked-more : (values : List ℕ) (count : ℕ) (marks : List Bool) (all fresh : Bool) → count < length values → IsChecked values count marks all → IsFresh values count marks fresh
    → IsChecked values (count + 1) (set marks (slice_index values count) true) (all && fresh)
checked-more values count marks all fresh h c f = record {
  same_length = length_set marks (slice_index values count) ∙ c.same_length;
  distinct = λ e.
      (let both : (all ≡ true) × (fresh ≡ true) = and_true all fresh e in
      let before : Places count (length values) (slice_index values) = c.distinct both.0 in
      let here : (slice_index values count < length marks) × (get_or marks (slice_index values count) false ≡ false) = f.only both.1 in
      record {
        stays = λ k hk. elim (cases_eq k count) [
          | inl last ↦ omega (arith, ap (slice_index values) last, here.0, c.same_length)
          | inr less ↦ before.stays k (omega (arith, hk, less))
        ];
        injective = λ j k hj hk same. elim (cases_eq j count) [
          | inl last_j ↦ elim (cases_eq k count) [
            | inl last_k ↦ last_j ∙ sym last_k
            | inr less_k ↦ absurd (fresh_apart values count marks all fresh c f both.1 k (omega (arith, hk, less_k)) (sym same ∙ ap (slice_index values) last_j))
          ]
          | inr less_j ↦ elim (cases_eq k count) [
            | inl last_k ↦ absurd (fresh_apart values count marks all fresh c f both.1 j (omega (arith, hj, less_j)) (same ∙ ap (slice_index values) last_k))
            | inr less_k ↦ before.injective j k (omega (arith, hj, less_j)) (omega (arith, hk, less_k)) same
          ]
        ];
      });
  broken = λ e p. elim (cases_bool all) [
    | inr stale ↦ c.broken stale p
    | inl so_far ↦ stale_broken values count marks all fresh h c f (and_false all fresh e so_far) p
  ];
  found = λ k hk e. elim (cases_eq k (slice_index values count)) [
    | inl here ↦ record { from = count; below = omega arith; value = sym here }
    | inr other ↦
        let before : IsReached (slice_index values) count k = c.found k hk (sym (get_or-set_other marks (slice_index values count) k true false other) ∙ e) in
        record { from = before.from; below = omega (arith, before.below); value = before.value }
  ];
  marked = λ j hj inside. elim (cases_eq (slice_index values j) (slice_index values count)) [
    | inl same ↦ ap (λ v. get_or (set marks (slice_index values count) true) v false) same ∙ get_or-set_same marks (slice_index values count) true false (omega (arith, same, inside, c.same_length))
    | inr other ↦ get_or-set_other marks (slice_index values count) (slice_index values j) true false other ∙ c.marked j (earlier values j count hj other) inside
  ];
} where
  length_set : (marks : List Bool) (i : ℕ) → length (set marks i true) ≡ length marks
  length_set marks i = search rules

  earlier : (values : List ℕ) (j count : ℕ) → j < count + 1 → (slice_index values j ≡ slice_index values count → ⊥) → j < count
  earlier values j count h other = elim (cases_eq j count) [ inl same ↦ absurd (other (ap (slice_index values) same)) | inr less ↦ omega (arith, h, less) ]

pub checked-answer : (values : List ℕ) (count : ℕ) (marks : List Bool) (all : Bool) → count ≡ length values → IsChecked values count marks all → IsTrue all ↔ IsPermutationList values
checked-answer values count marks all e c = (λ t. whole values count marks all e c (to_true all t), λ p. elim (cases_bool all) [ inl t ↦ from_true all t | inr f ↦ absurd (c.broken f p) ]) where
  to_true : (b : Bool) → IsTrue b → b ≡ true
  to_true b t = search rules

  from_true : (b : Bool) → b ≡ true → IsTrue b
  from_true b e = search rules

  whole : (values : List ℕ) (count : ℕ) (marks : List Bool) (all : Bool) → count ≡ length values → IsChecked values count marks all → all ≡ true → IsPermutationList values
  whole values count marks all e c t =
      let p : Places count (length values) (slice_index values) = c.distinct t in
      record { stays = λ k h. p.stays k (omega (arith, h, e)); injective = λ j k hj hk. p.injective j k (omega (arith, hj, e)) (omega (arith, hk, e)) }

pub checked-standing : (values : List ℕ) (count : ℕ) (marks : List Bool) (all : Bool) → count ≡ length values → IsChecked values count marks all
    → (number : ℕ) → number < length values → (get_or marks number false ≡ true) ↔ Contains values number
checked-standing values count marks all e c number h = (
  λ m. (let r : IsReached (slice_index values) count number = c.found number h m in (contains_at _ _ r.from (omega (arith, r.below, e)) r.value)),
  λ s. back values count marks all number h e c s,
) where
  back : (values : List ℕ) (count : ℕ) (marks : List Bool) (all : Bool) (number : ℕ) → number < length values → count ≡ length values → IsChecked values count marks all → Contains values number → get_or marks number false ≡ true
  back values count marks all number h e c s =
      sym (ap (λ v. get_or marks v false) (is_at _ _ s)) ∙ c.marked s.0 (omega (arith, s.1, e)) (omega (arith, (is_at _ _ s), h))
