-- The steps of joining twins.
use Rattle.std.proofs.Common.{◌≡◌, ◌≢◌, ℕ, zero, suc, ◌+◌, ◌<◌, ◌⊎◌, inl, inr, IsTrue, List, [], ◌∷◌, length, get_or, set, refl, sym, ◌∙◌, ap, subst, arith, length-set, get_or-set_other}
use Rattle.std.specs.Prelude.{slice_index, slice_get, Option, None, Some, All}
use Rattle.std.proofs.lemmas.Bool.{cases_lt, cases_eq}
use Rattle.std.proofs.lemmas.Grind.{get_or-set_at}
use Rattle.pm_trees.specs.declared.letters.TheConstants.{LEAF, BUD}
use Rattle.pm_brackets.specs.Word.{IsBracketing}
use Rattle.pm_trees.specs.Word.{is_letter, contour}
use Rattle.pm_trees.proofs.FourLetters.{letters_at}
use Rattle.pm_trees.proofs.FourLetters.{letter_cases, a_leaf, a_bud, an_open, a_close}
use Rattle.pm_brackets.proofs.Nesting.{one_closer, one_opener}
use Rattle.pm_match.specs.Pair.{IsPair, IsFree}
use Rattle.pm_match.specs.Pairing.{Pairs, IsPairing}
use Rattle.pm_match.proofs.Partners.{third_free}
use Rattle.pm_close.specs.Closure.{AreTwins, edge_down, edge_up, pair_bud, pair_leaf, free_leaves}
use Rattle.pm_close.specs.steps.Twins.{IsTwinList}
use Rattle.pm_close.specs.steps.Joining.{IsApart, IsJoined}
use Rattle.pm_close.proofs.TwinLemmas.{HasOnePartner, within}

-- the partners of a contour whose pairs are found are single
pub one_partner : (places : List ℕ) (found : Pairs) → IsPairing places found → HasOnePartner places
one_partner places found h = record {
  close_of = one_closer places;
  open_of = λ p q r a b. one_opener places p r q a b;
  leaf_of = h.one_leaf;
  bud_of = h.one_bud;
  third = λ p q r a b c ne other. third_free places found p q r h a b c ne other;
}

-- before the first pair
pub joined_start : (places other : List ℕ) (pairs : List (ℕ × ℕ)) → length other ≡ length places → IsJoined places other pairs 0 other
joined_start places other pairs e = record {
  as_long = e;
  each = λ p l. inr ((λ j q r lt _. absurd (none j lt)), refl);
} where
  none : (j : ℕ) → j < 0 → ⊥
  none j l = omega arith

-- a value written at two places, and what stands elsewhere
pub written_twice : (xs : List ℕ) (a b x y : ℕ) → a < length xs → b < length xs → a ≢ b → slice_index (set (set xs a x) b y) a ≡ x
written_twice xs a b x y la lb ne = (rw get_or-set_other (get_or-set_at xs a a x 0 refl la))

pub written_last : (xs : List ℕ) (a b x y : ℕ) → b < length xs → slice_index (set (set xs a x) b y) b ≡ y
written_last xs a b x y lb = get_or-set_at (set xs a x) b b y 0 refl (omega (arith, length-set xs a x))

pub written_elsewhere : (xs : List ℕ) (a b x y p : ℕ) → p ≢ a → p ≢ b → slice_index (set (set xs a x) b y) p ≡ slice_index xs p
written_elsewhere xs a b x y p na nb = (rw (get_or-set_other, get_or-set_other) refl)

-- the entries of an optional pair
first_of_pair : Option (ℕ × ℕ) → ℕ
first_of_pair None = 0
first_of_pair (Some p) = p.0

second_of_pair : Option (ℕ × ℕ) → ℕ
second_of_pair None = 0
second_of_pair (Some p) = p.1

both : (a b c d : ℕ) → ◌≡◌ {A = Option (ℕ × ℕ)} (Some (a, b)) (Some (c, d)) → (a ≡ c) × (b ≡ d)
unfolding first_of_pair second_of_pair
both a b c d e = (ap first_of_pair e, ap second_of_pair e)

last : (found : Pairs) (k bud leaf : ℕ) → slice_get found.pairs k ≡ Some (bud, leaf) → (p : ℕ) → p ≢ bud → p ≢ leaf
    → (j q r : ℕ) → j ≡ k → slice_get found.pairs j ≡ Some (q, r) → (q ≢ p) × (r ≢ p)
last found k bud leaf here p not_bud not_leaf j q r at e =
    let same : slice_get found.pairs k ≡ Some (q, r) = ap (slice_get found.pairs) (sym at) ∙ e in
    let parts = both bud leaf q r (sym here ∙ same) in
    ((λ x. not_bud (sym (parts.0 ∙ x))), (λ x. not_leaf (sym (parts.1 ∙ x))))

-- one pair more
pub joined_more : (places other twins : List ℕ) (found : Pairs) (k bud leaf : ℕ) → IsPairing places found → slice_get found.pairs k ≡ Some (bud, leaf)
    → IsJoined places other found.pairs k twins → IsJoined places other found.pairs (k + 1) (set (set twins bud leaf) leaf bud)
joined_more places other twins found k bud leaf pairing here joined =
    let pair : IsPair places bud leaf = pairing.sound k bud leaf here in
    let bud_in : bud < length twins = omega (arith, within places bud BUD (omega arith) pair.bud, joined.as_long) in
    let leaf_in : leaf < length twins = omega (arith, within places leaf LEAF (omega arith) pair.leaf, joined.as_long) in
    let apart : bud ≢ leaf = differ places bud leaf pair in
    record {
      as_long = length-set (set twins bud leaf) leaf bud ∙ length-set twins bud leaf ∙ joined.as_long;
      each = λ p l. elim (cases_eq p bud) [
        | inl at_bud ↦ inl (subst (λ (q : ℕ). AreTwins places q (slice_index (set (set twins bud leaf) leaf bud) q)) (sym at_bud)
            (subst (λ (x : ℕ). AreTwins places bud x) (sym (written_twice twins bud leaf leaf bud bud_in leaf_in apart)) (pair_bud pair)))
        | inr not_bud ↦ elim (cases_eq p leaf) [
          | inl at_leaf ↦ inl (subst (λ (q : ℕ). AreTwins places q (slice_index (set (set twins bud leaf) leaf bud) q)) (sym at_leaf)
              (subst (λ (x : ℕ). AreTwins places leaf x) (sym (written_last twins bud leaf leaf bud leaf_in)) (pair_leaf pair)))
          | inr not_leaf ↦ kept places other twins found k bud leaf here p not_bud not_leaf (joined.each p l)
        ]
      ];
    } where
      differ : (places : List ℕ) (bud leaf : ℕ) → IsPair places bud leaf → bud ≢ leaf
      differ places bud leaf pair e = let same : slice_index places bud ≡ slice_index places leaf = ap (slice_index places) e in absurd (omega (arith, same, pair.bud, pair.leaf))

      kept : (places other twins : List ℕ) (found : Pairs) (k bud leaf : ℕ) → slice_get found.pairs k ≡ Some (bud, leaf) → (p : ℕ) → p ≢ bud → p ≢ leaf
          → AreTwins places p (slice_index twins p) ⊎ (IsApart found.pairs k p × (slice_index twins p ≡ slice_index other p))
          → AreTwins places p (slice_index (set (set twins bud leaf) leaf bud) p)
          ⊎ (IsApart found.pairs (k + 1) p × (slice_index (set (set twins bud leaf) leaf bud) p ≡ slice_index other p))
      kept places other twins found k bud leaf here p not_bud not_leaf before =
          let same = written_elsewhere twins bud leaf leaf bud p not_bud not_leaf in elim before [
            | inl twins_are ↦ inl (subst (λ (x : ℕ). AreTwins places p x) (sym same) twins_are)
            | inr rest ↦ inr (
              (λ j q r l e. elim (cases_lt j k) [
                | inl below ↦ rest.0 j q r below e
                | inr above ↦ last found k bud leaf here p not_bud not_leaf j q r (omega arith) e
              ]),
              same ∙ rest.1,
            )
          ]

-- an entry of a list of pairs
pub entry_is : (xs ys : List (ℕ × ℕ)) (k : ℕ) → xs ≡ ys → k < length xs → slice_get ys k ≡ Some ((get_or xs k (0, 0)).0, (get_or xs k (0, 0)).1)
entry_is xs ys k e l = subst (λ (zs : List (ℕ × ℕ)). slice_get zs k ≡ Some ((get_or xs k (0, 0)).0, (get_or xs k (0, 0)).1)) e (here xs k l) where
  here : (xs : List (ℕ × ℕ)) (k : ℕ) → k < length xs → slice_get xs k ≡ Some ((get_or xs k (0, 0)).0, (get_or xs k (0, 0)).1)
  here [] k l = absurd (omega arith)
  here (x ∷ xs) zero l = refl
  here (x ∷ xs) (suc k) l = here xs k (omega arith)

-- an entry stands within the list
some_below : (xs : List (ℕ × ℕ)) (j q r : ℕ) → slice_get xs j ≡ Some (q, r) → j < length xs
some_below [] j q r e = absurd (no_entry q r e) where
  no_entry : (q r : ℕ) → ◌≡◌ {A = Option (ℕ × ℕ)} None (Some (q, r)) → ⊥
  no_entry q r e = cc
some_below (x ∷ xs) zero q r e = omega arith
some_below (x ∷ xs) (suc j) q r e = omega (arith, some_below xs j q r e)

-- the places of a pair are places of the contour
pub pair_within : (places : List ℕ) (p q : ℕ) → IsPair places p q → (p < length places) × (q < length places)
pair_within places p q pair = (within places p BUD (omega arith) pair.bud, within places q LEAF (omega arith) pair.leaf)

-- a free leaf is a place of the contour
pub free_within : (places : List ℕ) (p : ℕ) → IsFree places p → p < length places
free_within places p free = within places p LEAF (omega arith) free.leaf

-- a place that all pairs leave alone, but for the free leaves, is a bracket
module _ (word other : List ℕ) (found : Pairs) (letters : All (λ x. IsTrue (is_letter x)) word) (bracketing : IsBracketing (contour word) other)
    (pairing : IsPairing (contour word) found) where
  paired_not : (k p q r : ℕ) → k ≡ length found.pairs → IsApart found.pairs k p → IsPair (contour word) q r → (q ≡ p) ⊎ (r ≡ p) → ⊥
  paired_not k p q r all apart pair at =
      let listed = pairing.whole q r pair in
      let parts = apart listed.0 q r (omega (arith, below listed.0 q r listed.1, all)) listed.1 in
      elim at [ inl bud ↦ parts.0 bud | inr leaf ↦ parts.1 leaf ] where
        below : (j q r : ℕ) → slice_get found.pairs j ≡ Some (q, r) → j < length found.pairs
        below j q r e = some_below found.pairs j q r e

  bracket_left : (k p : ℕ) → k ≡ length found.pairs → p < length (contour word) → p ≢ found.first_free → p ≢ found.second_free → IsApart found.pairs k p
      → AreTwins (contour word) p (slice_index other p)
  bracket_left k p all l not_first not_second apart = elim (letter_cases (slice_index (contour word) p) (letters_at word p letters l)) [
    | a_leaf e ↦ elim (pairing.each_leaf p e) [
      | inl pair ↦ absurd (paired_not k p pair.0 p all apart pair.1 (inr refl))
      | inr free ↦ elim free [ inl f ↦ absurd (not_first f) | inr s ↦ absurd (not_second s) ]
    ]
    | a_bud e ↦ let pair = pairing.each_bud p e in absurd (paired_not k p p pair.0 all apart pair.1 (inl refl))
    | an_open e ↦ edge_down (bracketing.of_open p e)
    | a_close e ↦ edge_up (bracketing.of_close p e)
  ]

  -- all pairs, and then the two free leaves
  pub joined_all : (twins : List ℕ) (k first second : ℕ) → k ≡ length found.pairs → first ≡ found.first_free → second ≡ found.second_free
      → IsJoined (contour word) other found.pairs k twins → IsTwinList (contour word) (set (set twins first second) second first)
  joined_all twins k first second all is_first is_second joined =
      let first_free : IsFree (contour word) first = subst (λ (q : ℕ). IsFree (contour word) q) (sym is_first) pairing.free.first_is in
      let second_free : IsFree (contour word) second = subst (λ (q : ℕ). IsFree (contour word) q) (sym is_second) pairing.free.second_is in
      let first_in : first < length twins = omega (arith, free_within (contour word) first first_free, joined.as_long) in
      let second_in : second < length twins = omega (arith, free_within (contour word) second second_free, joined.as_long) in
      let less : first < second = omega (arith, pairing.free.in_order, is_first, is_second) in
      let apart : first ≢ second = λ e. differ first second less e in
      record {
        as_long = length-set (set twins first second) second first ∙ length-set twins first second ∙ joined.as_long;
        each = λ p l. elim (cases_eq p first) [
          | inl at_first ↦ subst (λ (q : ℕ). AreTwins (contour word) q (slice_index (set (set twins first second) second first) q)) (sym at_first)
              (subst (λ (x : ℕ). AreTwins (contour word) first x) (sym (written_twice twins first second second first first_in second_in apart)) (free_leaves first_free second_free apart))
          | inr not_first ↦ elim (cases_eq p second) [
            | inl at_second ↦ subst (λ (q : ℕ). AreTwins (contour word) q (slice_index (set (set twins first second) second first) q)) (sym at_second)
                (subst (λ (x : ℕ). AreTwins (contour word) second x) (sym (written_last twins first second second first second_in)) (free_leaves second_free first_free (λ e. apart (sym e))))
            | inr not_second ↦ subst (λ (x : ℕ). AreTwins (contour word) p x) (sym (written_elsewhere twins first second second first p not_first not_second))
                (elsewhere twins k p all l (λ e. not_first (e ∙ sym is_first)) (λ e. not_second (e ∙ sym is_second)) (joined.each p l))
          ]
        ];
      } where
        differ : (a b : ℕ) → a < b → a ≡ b → ⊥
        differ a b l e = omega arith

        elsewhere : (twins : List ℕ) (k p : ℕ) → k ≡ length found.pairs → p < length (contour word) → p ≢ found.first_free → p ≢ found.second_free
            → AreTwins (contour word) p (slice_index twins p) ⊎ (IsApart found.pairs k p × (slice_index twins p ≡ slice_index other p)) → AreTwins (contour word) p (slice_index twins p)
        elsewhere twins k p all l not_first not_second so_far = elim so_far [
          | inl twins_are ↦ twins_are
          | inr rest ↦ subst (λ (x : ℕ). AreTwins (contour word) p x) (sym rest.1) (bracket_left k p all l not_first not_second rest.0)
        ]
