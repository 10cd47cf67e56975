-- The pairs of a table of counts, and the profile of a tree.
use Rattle.std.proofs.Common.{◌≡◌, ◌⊎◌, Result, Ok, Err, ℕ, zero, suc, ◌≤◌, ◌<◌, inl, inr, List, [], ◌∷◌, ◌++◌, length, slice_index, refl, ap, sym, ◌∙◌, subst, arith}
use Rattle.std.proofs.lemmas.Bool.{cases_eq, cases_lt}
use Rattle.std.proofs.lemmas.List.{get_or_append_left, get_or_push, length_push, get_or_past}
use Rattle.pm_trees.specs.Pairs.{pair_at, degree_before}
use Rattle.pm_trees.specs.Degrees.{AreListed}
use Rattle.pm_trees.specs.Pairs.{IsProfile}
use Rattle.pm_trees.specs.Profile.{IsProfileAnswer, IsTableAnswer}
use Rattle.pm_trees.specs.declared.profile.Profile.{Profile}
use Rattle.pm_trees.specs.declared.profile.ProfileRefusal.{ProfileRefusal}
use Rattle.pm_trees.specs.declared.profile.ProfileRefusal.TheVariants.{Memory, Pair, TooMany}
use Rattle.pm_trees.proofs.CountedPairs.{degree_above}

-- the pairs of the numbers below i
pub record AreListedBelow (counts : List ℕ) (pairs : List (ℕ × ℕ)) (i : ℕ) : Type 0 where
  pub rising : (k : ℕ) → k < length pairs → degree_before pairs k < (pair_at pairs k).0
  pub some : (k : ℕ) → k < length pairs → 0 < (pair_at pairs k).1
  pub counted : (k : ℕ) → k < length pairs → (pair_at pairs k).1 ≡ slice_index counts (pair_at pairs k).0
  pub below : (k : ℕ) → k < length pairs → (pair_at pairs k).0 < i
  pub all : (d : ℕ) → 0 < d → d < i → 0 < slice_index counts d → (k : ℕ) × (k < length pairs) × ((pair_at pairs k).0 ≡ d)

pub listed_start : (counts : List ℕ) (pairs : List (ℕ × ℕ)) → pairs ≡ [] → AreListedBelow counts pairs 1
listed_start counts pairs e = subst (λ (ps : List (ℕ × ℕ)). AreListedBelow counts ps 1) (sym e) (record {
  rising = λ k l. absurd (omega arith);
  some = λ k l. absurd (omega arith);
  counted = λ k l. absurd (omega arith);
  below = λ k l. absurd (omega arith);
  all = λ d l m _. absurd (omega arith);
})

pub listed_none : (counts : List ℕ) (pairs : List (ℕ × ℕ)) (i j : ℕ) → slice_index counts i ≡ 0 → j ≡ suc i → AreListedBelow counts pairs i → AreListedBelow counts pairs j
listed_none counts pairs i j e f a = record {
  rising = a.rising;
  some = a.some;
  counted = a.counted;
  below = λ k l. let b = a.below k l in omega (arith, b, f);
  all = λ d l m n.
      elim (cases_eq d i) [
        | inl same ↦ absurd (let g = ap (slice_index counts) same in omega (arith, e, g, n))
        | inr ne ↦ a.all d l (omega arith) n
      ];
}

old_pair : (pairs : List (ℕ × ℕ)) (p : ℕ × ℕ) (k : ℕ) → k < length pairs → pair_at (pairs ++ p ∷ []) k ≡ pair_at pairs k
old_pair pairs p k l = get_or_append_left pairs (p ∷ []) (0, 0) k l

new_pair : (pairs : List (ℕ × ℕ)) (p : ℕ × ℕ) (k : ℕ) → length pairs ≡ k → pair_at (pairs ++ p ∷ []) k ≡ p
new_pair pairs p k e = get_or_push pairs p (0, 0) k e

old_before : (pairs : List (ℕ × ℕ)) (p : ℕ × ℕ) (k : ℕ) → k ≤ length pairs → degree_before (pairs ++ p ∷ []) k ≡ degree_before pairs k
old_before pairs p k l = ap (λ (q : ℕ × ℕ). q.0) (get_or_append_left ((0, 0) ∷ pairs) (p ∷ []) (0, 0) k (omega arith))

last_below : (pairs : List (ℕ × ℕ)) (i k : ℕ) → 0 < i → k ≤ length pairs → ((j : ℕ) → j < length pairs → (pair_at pairs j).0 < i) → degree_before pairs k < i
last_below pairs i zero l m h = l
last_below pairs i (suc k) l m h = h k (omega arith)

pub listed_push : (counts : List ℕ) (pairs more : List (ℕ × ℕ)) (i j count : ℕ) → 0 < i → count ≡ slice_index counts i → 0 < count → more ≡ pairs ++ (i, count) ∷ [] → j ≡ suc i → AreListedBelow counts pairs i → AreListedBelow counts more j
listed_push counts pairs more i j count low e some g f a =
    let n = length_push pairs (i, count) in
    let both : (k : ℕ) → k < length (pairs ++ (i, count) ∷ []) → (k < length pairs) ⊎ (length pairs ≡ k) = λ k l.
    elim (cases_lt k (length pairs)) [ inl m ↦ inl m | inr m ↦ inr (omega (arith, n)) ] in
    subst (λ (ps : List (ℕ × ℕ)). AreListedBelow counts ps j) (sym g) (record {
      rising = λ k l.
          let b = old_before pairs (i, count) k (omega (arith, n)) in
          elim (both k l) [
            | inl m ↦ (let c = ap (λ (q : ℕ × ℕ). q.0) (old_pair pairs (i, count) k m) in let d = a.rising k m in omega (arith, b, c, d))
            | inr m ↦ (let c = ap (λ (q : ℕ × ℕ). q.0) (new_pair pairs (i, count) k m) in let d = last_below pairs i k low (omega arith) a.below in omega (arith, b, c, d))
          ];
      some = λ k l.
          elim (both k l) [
            | inl m ↦ (let c = ap (λ (q : ℕ × ℕ). q.1) (old_pair pairs (i, count) k m) in let d = a.some k m in omega (arith, c, d))
            | inr m ↦ (let c = ap (λ (q : ℕ × ℕ). q.1) (new_pair pairs (i, count) k m) in omega (arith, c))
          ];
      counted = λ k l.
          elim (both k l) [
            | inl m ↦ (let c = old_pair pairs (i, count) k m in ap (λ (q : ℕ × ℕ). q.1) c ∙ a.counted k m ∙ sym (ap (λ (q : ℕ × ℕ). slice_index counts q.0) c))
            | inr m ↦ (let c = new_pair pairs (i, count) k m in ap (λ (q : ℕ × ℕ). q.1) c ∙ e ∙ sym (ap (λ (q : ℕ × ℕ). slice_index counts q.0) c))
          ];
      below = λ k l.
          elim (both k l) [
            | inl m ↦ (let c = ap (λ (q : ℕ × ℕ). q.0) (old_pair pairs (i, count) k m) in let d = a.below k m in omega (arith, c, d, f))
            | inr m ↦ (let c = ap (λ (q : ℕ × ℕ). q.0) (new_pair pairs (i, count) k m) in omega (arith, c, f))
          ];
      all = λ d l m h.
          elim (cases_eq d i) [
            | inl same ↦ (length pairs, omega (arith, n), ap (λ (q : ℕ × ℕ). q.0) (new_pair pairs (i, count) (length pairs) refl) ∙ sym same)
            | inr ne ↦
                let r = a.all d l (omega arith) h in
                (r.0, omega (arith, n, r.1), ap (λ (q : ℕ × ℕ). q.0) (old_pair pairs (i, count) r.0 r.1) ∙ r.2)
          ];
    })

pub listed_end : (counts : List ℕ) (pairs : List (ℕ × ℕ)) (i : ℕ) → length counts ≤ i → AreListedBelow counts pairs i → AreListed counts pairs
listed_end counts pairs i e a = record {
  rising = a.rising;
  some = a.some;
  counted = a.counted;
  all = λ d l h.
      elim (cases_lt d i) [
        | inl m ↦ a.all d l m h
        | inr m ↦ absurd (let g = get_or_past counts d 0 (omega arith) in omega (arith, g, h))
      ];
}

-- there are no more pairs than entries
pub listed_few : (counts : List ℕ) (pairs : List (ℕ × ℕ)) → AreListed counts pairs → length pairs ≤ length counts
listed_few counts pairs a = elim (cases_lt (length counts) (length pairs)) [
  | inl more ↦
      let high = degree_above pairs (length counts) a.rising more in
      let some = a.some (length counts) more in
      let counted = a.counted (length counts) more in
      let past = get_or_past counts (pair_at pairs (length counts)).0 0 (omega arith) in
      absurd (omega (arith, some, counted, past))
  | inr few ↦ few
]

-- the answer to the pairs of a table is that to the table
pub table_answer : (counts : List ℕ) (pairs : List (ℕ × ℕ)) (answer : Result Profile ProfileRefusal) → AreListed counts pairs → IsProfileAnswer pairs answer → IsTableAnswer counts answer
table_answer counts pairs (Ok profile) listed (same, is) = (subst (AreListed counts) (sym same) listed, subst IsProfile (sym same) is)
table_answer counts pairs (Err (Pair place)) listed first = (pairs, listed, first)
table_answer counts pairs (Err (TooMany edges)) listed many = (pairs, listed, many)
table_answer counts pairs (Err Memory) listed _ = tt

-- each table has pairs
listing_to : (counts : List ℕ) (most : ℕ) → (pairs : List (ℕ × ℕ)) × AreListedBelow counts pairs (suc most)
listing_to counts zero = ([], listed_start counts [] refl)
listing_to counts (suc most) =
    let before = listing_to counts most in
    elim (cases_eq (slice_index counts (suc most)) 0) [
      | inl none ↦ (before.0, listed_none counts before.0 (suc most) (suc (suc most)) none refl before.1)
      | inr some ↦ (
        before.0 ++ (suc most, slice_index counts (suc most)) ∷ [],
        listed_push counts before.0 (before.0 ++ (suc most, slice_index counts (suc most)) ∷ []) (suc most) (suc (suc most)) (slice_index counts (suc most)) (omega arith) refl (omega (arith, some)) refl refl before.1,
      )
    ]

pub listing_exists : (counts : List ℕ) → (pairs : List (ℕ × ℕ)) × AreListed counts pairs
listing_exists counts = let found = listing_to counts (length counts) in (found.0, listed_end counts found.0 (suc (length counts)) (omega arith) found.1)
