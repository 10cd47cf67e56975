-- A pattern's rank is its number, so ranks and patterns belong together one to one and in order.
use Rattle.std.proofs.Common.{◌≡◌, ℕ, zero, suc, ◌+◌, ◌-◌, ◌*◌, ◌≤◌, ◌<◌, ◌⊎◌, inl, inr, List, [], ◌∷◌, length, All, refl, ap, sym, ◌∙◌, arith}
use Rattle.std.proofs.lemmas.Bool.{cases_lt, cases_eq}
use Rattle.std.proofs.lemmas.List.Elements.{All-cons, All-nil}
use Rattle.pm_trees.specs.declared.letters.TheConstants.{BUD}
use Rattle.pm_trees.specs.declared.patterns.TheConstants.{SLOT}
use Rattle.pm_trees.specs.Binomial.{choose}
use Rattle.pm_trees.specs.BudPattern.{IsPattern, HasRank, PatternsAreRanked}
use Rattle.pm_brackets.proofs.Tally.{tally, tally_is, tally-nil, tally_yes, tally_no}
use Rattle.pm_trees.proofs.Ranking.{IsTwo, IsOf, word_of, number_of, number_below, word_of_is, number_of_word, word_of_number, number_rises, number_orders}

pub two_from_all : (xs : List ℕ) → All (λ x. (x ≡ BUD) ⊎ (x ≡ SLOT)) xs → IsTwo xs
two_from_all [] h = tt
two_from_all (x ∷ xs) h = (h 0 0 (omega arith), two_from_all xs (λ k d l. h (suc k) d (omega arith)))

pub all_from_two : (xs : List ℕ) → IsTwo xs → All (λ x. (x ≡ BUD) ⊎ (x ≡ SLOT)) xs
all_from_two [] h = All-nil _
all_from_two (x ∷ xs) h = All-cons (λ (x : ℕ). (x ≡ BUD) ⊎ (x ≡ SLOT)) x xs h.0 (all_from_two xs h.1)

two_counts : (xs : List ℕ) → IsTwo xs → tally BUD xs + tally SLOT xs ≡ length xs
two_counts [] h = let a = tally-nil BUD in let b = tally-nil SLOT in omega (arith, a, b)
two_counts (x ∷ xs) h =
    let r = two_counts xs h.1 in
    elim h.0 [
      | inl e ↦
          let a = tally_yes BUD x xs e in
          let b = tally_no SLOT x xs (λ f. omega arith) in
          omega (arith, r, a, b)
      | inr e ↦
          let a = tally_no BUD x xs (λ f. omega arith) in
          let b = tally_yes SLOT x xs e in
          omega (arith, r, a, b)
    ]

pub of_pattern : (half : ℕ) (w : List ℕ) → IsPattern half w → IsOf (2 * half - 1) half w
of_pattern half w p =
    let two = two_from_all w p.letters in
    let a = two_counts w two in
    let b = tally_is BUD w in
    record { two = two; long = omega (arith, p.as_long); slots = omega (arith, a, b, p.as_long, p.budded) }

pub pattern_from : (half : ℕ) (w : List ℕ) → 0 < half → IsOf (2 * half - 1) half w → IsPattern half w
pattern_from half w some h =
    let a = two_counts w h.two in
    let b = tally_is BUD w in
    record { letters = all_from_two w h.two; as_long = omega (arith, h.long); budded = omega (arith, a, b, h.long, h.slots) }

pub half_some : (half : ℕ) (w : List ℕ) → IsPattern half w → 0 < half
half_some half w p = omega (arith, p.budded)

-- a function rises below r
record Rises (g : ℕ → ℕ) (r : ℕ) : Type 0 where
  rises : (k later : ℕ) → k < later → later < r → g k < g later

climbs : (g : ℕ → ℕ) (r k : ℕ) → Rises g r → k < r → k ≤ g k
climbs g r zero h l = omega arith
climbs g r (suc k) h l =
    let a = climbs g r k h (omega arith) in
    let b = h.rises k (suc k) (omega arith) l in
    omega (arith, a, b)

-- a value that is taken, at a place that isn't below it
record TakenFrom (g : ℕ → ℕ) (r j : ℕ) : Type 0 where
  place : ℕ
  within : place < r
  value : g place ≡ j
  above : j ≤ place

taken_from : (g : ℕ → ℕ) (r m j : ℕ) → Rises g r → ((i : ℕ) → i < m → (k : ℕ) × (k < r) × (g k ≡ i)) → j < m → TakenFrom g r j
taken_from g r m zero h all l = let p = all 0 l in record { place = p.0; within = p.1; value = p.2; above = omega arith }
taken_from g r m (suc j) h all l =
    let p = taken_from g r m j h all (omega arith) in
    let q = all (suc j) l in
    elim (cases_lt p.place q.0) [
      | inl less ↦ record { place = q.0; within = q.1; value = q.2; above = omega (arith, less, p.above) }
      | inr more ↦ elim (cases_eq q.0 p.place) [
        | inl e ↦ absurd (let a = ap g e in let b = q.2 in omega (arith, a, b, p.value))
        | inr ne ↦ absurd (let a = h.rises q.0 p.place (omega (arith, more, ne)) p.within in let b = q.2 in omega (arith, a, b, p.value))
      ]
    ]

as_many : (g : ℕ → ℕ) (r m : ℕ) → Rises g r → ((k : ℕ) → k < r → g k < m) → ((i : ℕ) → i < m → (k : ℕ) × (k < r) × (g k ≡ i)) → r ≡ m
as_many g r m h below all =
    elim (cases_lt r m) [
      | inl l ↦ absurd (let p = taken_from g r m r h all l in omega (arith, p.within, p.above))
      | inr more ↦ elim (cases_lt m r) [
        | inl l ↦ absurd (let a = climbs g r m h l in let b = below m l in omega (arith, a, b))
        | inr g ↦ omega arith
      ]
    ]

pub rank_from : (half : ℕ) (w : List ℕ) (r : ℕ) → IsPattern half w → r ≡ number_of w → HasRank half w r
rank_from half w r p e =
    let n : ℕ = 2 * half - 1 in
    let some = half_some half w p in
    let h = of_pattern half w p in
    let b = number_below w n half h in
    record {
      is_pattern = p;
      earlier = word_of n half;
      patterns = λ k l. pattern_from half _ some (word_of_is n half k (omega (arith, b, e, l)));
      before = λ k l.
          let s : k < choose n half = omega (arith, b, e, l) in
          let a = number_of_word n half k s in
          number_orders (word_of n half k) w n half (word_of_is n half k s) h (omega (arith, a, e, l));
      in_order = λ k later l m.
          let s : k < choose n half = omega (arith, b, e, l, m) in
          let t : later < choose n half = omega (arith, b, e, m) in
          let a = number_of_word n half k s in
          let c = number_of_word n half later t in
          number_orders (word_of n half k) (word_of n half later) n half (word_of_is n half k s) (word_of_is n half later t) (omega (arith, a, c, l));
      all = λ other q l.
          let i = of_pattern half other q in
          let a = number_rises other w n half i h l in
          (number_of other, omega (arith, a, e), word_of_number other n half i);
    }

pub rank_is : (half : ℕ) (w : List ℕ) (r : ℕ) → HasRank half w r → r ≡ number_of w
rank_is half w r h =
    let n : ℕ = 2 * half - 1 in
    let o = of_pattern half w h.is_pattern in
    let some = half_some half w h.is_pattern in
    as_many (λ (k : ℕ). number_of (h.earlier k)) r (number_of w)
    (record {
      rises = λ k later l m.
          number_rises (h.earlier k) (h.earlier later) n half (of_pattern half _ (h.patterns k (omega arith))) (of_pattern half _ (h.patterns later m)) (h.in_order k later l m);
    })
    (λ k l. number_rises (h.earlier k) w n half (of_pattern half _ (h.patterns k l)) o (h.before k l))
    (λ i l.
    let b = number_below w n half o in
    let s : i < choose n half = omega (arith, b, l) in
    let a = number_of_word n half i s in
    let v : IsOf n half (word_of n half i) = word_of_is n half i s in
    let p = h.all (word_of n half i) (pattern_from half _ some v) (number_orders (word_of n half i) w n half v o (omega (arith, a, l))) in
    (p.0, p.1, ap number_of p.2 ∙ a))

pub patterns_ranked : PatternsAreRanked
patterns_ranked half some =
    let n : ℕ = 2 * half - 1 in
    record {
      has_pattern = λ r l. (word_of n half r, rank_from half _ r (pattern_from half _ some (word_of_is n half r l)) (sym (number_of_word n half r l)));
      has_rank = λ w p. (number_of w, rank_from half w _ p refl);
      below = λ w r h.
          let a = rank_is half w r h in
          let b = number_below w n half (of_pattern half w h.is_pattern) in
          omega (arith, a, b);
      one_pattern = λ v w r h k.
          let a = rank_is half v r h in
          let b = rank_is half w r k in
          sym (word_of_number v n half (of_pattern half v h.is_pattern)) ∙ ap (word_of n half) (sym a ∙ b) ∙ word_of_number w n half (of_pattern half w k.is_pattern);
      one_rank = λ w r s h k. rank_is half w r h ∙ sym (rank_is half w s k);
      in_order = λ v w r s h k.
          let a = rank_is half v r h in
          let b = rank_is half w s k in
          let p = of_pattern half v h.is_pattern in
          let q = of_pattern half w k.is_pattern in
          (λ l. number_orders v w n half p q (omega (arith, a, b, l)), λ l. let c = number_rises v w n half p q l in omega (arith, a, b, c));
    }
