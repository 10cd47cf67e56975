-- A walk around a vertex: the darts so far, and the dart that comes next.
use Rattle.std.proofs.Common.{◌≡◌, ◌≢◌, ℕ, zero, suc, ◌+◌, ◌-◌, ◌<◌, inl, inr, Bool, true, List, [], ◌∷◌, ◌++◌, length, get_or, set, Some, refl, sym, ◌∙◌, ap, subst, arith, length-append, append_assoc, get_or-append-add, Contains}
use Rattle.std.proofs.lemmas.List.{get_or_append_left, get_or_push, length_push}
use Rattle.std.proofs.lemmas.Bool.{cases_lt}
use Rattle.std.proofs.lemmas.List.Elements.{Contains-append_cases, Contains-append_left, Contains-append_right, Contains-get_or}
use Rattle.pm_perm.proofs.Contained.{contains_at, is_at}
use Rattle.pm_perm.specs.Permutation.{IsPermutationBelow}
use Rattle.pm_map.specs.Structure.{Structure}
use Rattle.pm_map.specs.Meeting.{IsVertexFrom}
use Rattle.pm_canon.specs.MeetingOrder.{HasEachOnce}
use Rattle.pm_canon.specs.steps.Kept.{MarksDarts, IsWhole, Precedes, IsKept, AppendsVertex}
use Rattle.pm_canon.proofs.KeptLemmas.{HasEachOnce-push, MarksDarts-push}

-- a way from the start around its vertex, which hasn't come back, and leads to this dart
pub record IsWay (s : Structure) (start : ℕ) (way : List ℕ) (dart : ℕ) : Type 0 where
  pub some : 0 < length way
  pub begins : get_or way 0 0 ≡ start
  pub goes : (k : ℕ) → suc k < length way → get_or way (suc k) 0 ≡ s.next (get_or way k 0)
  pub once : (k : ℕ) → suc k < length way → get_or way (suc k) 0 ≢ start
  pub leads : s.next (get_or way (length way - 1) 0) ≡ dart

-- the state of a walk behind the darts that stood before
pub record IsWalking (s : Structure) (old : List ℕ) (start : ℕ) (marks : List Bool) (darts : List ℕ) (dart : ℕ) : Type 0 where
  pub way : List ℕ
  pub order : darts ≡ old ++ way
  pub whole : IsWhole s old
  pub is_way : IsWay s start way dart
  pub once : HasEachOnce s.darts (old ++ way)
  pub marking : MarksDarts marks (old ++ way)

pub IsWay-one : (s : Structure) (start : ℕ) → IsWay s start (start ∷ []) (s.next start)
IsWay-one s start = record {
  some = omega arith;
  begins = refl;
  goes = λ k h. absurd (omega arith);
  once = λ k h. absurd (omega arith);
  leads = refl;
}

pub IsWay-push : (s : Structure) (start : ℕ) (way : List ℕ) (dart : ℕ) → IsWay s start way dart → dart ≢ start → IsWay s start (way ++ dart ∷ []) (s.next dart)
IsWay-push s start way dart w more =
    let size : length (way ++ dart ∷ []) ≡ length way + 1 = length_push way dart in
    let some : 0 < length way = w.some in
    let left : (k : ℕ) → k < length way → get_or (way ++ dart ∷ []) k 0 ≡ get_or way k 0 = λ k h. get_or_append_left way (dart ∷ []) 0 k h in
    let right : (k : ℕ) → k ≡ length way → get_or (way ++ dart ∷ []) k 0 ≡ dart = λ k h. get_or_push way dart 0 k (sym h) in
    record {
      some = omega arith;
      begins = left 0 some ∙ w.begins;
      goes = λ k h. elim (cases_lt (suc k) (length way)) [
        | inl within ↦ left (suc k) within ∙ w.goes k within ∙ ap s.next (sym (left k (omega arith)))
        | inr last ↦
            let is_last : k ≡ length way - 1 = omega arith in
            right (suc k) (omega arith) ∙ sym w.leads ∙ ap s.next (ap (λ j. get_or way j 0) (sym is_last) ∙ sym (left k (omega arith)))
      ];
      once = λ k h e. elim (cases_lt (suc k) (length way)) [
        | inl within ↦ w.once k within (sym (left (suc k) within) ∙ e)
        | inr last ↦ more (sym (right (suc k) (omega arith)) ∙ e)
      ];
      leads = ap s.next (right (length (way ++ dart ∷ []) - 1) (omega arith));
    }

-- the dart that comes next stands nowhere yet, unless the walk is back at the start
pub IsWay-fresh : (s : Structure) (old : List ℕ) (start : ℕ) (way : List ℕ) (dart : ℕ) → IsPermutationBelow s.darts s.next → IsWhole s old
    → HasEachOnce s.darts (old ++ way) → IsWay s start way dart → dart ≢ start → Contains (old ++ way) dart → ⊥
IsWay-fresh s old start way dart perm whole once w more stands =
    let size : length (old ++ way) ≡ length old + length way = length-append old way in
    let some : 0 < length way = w.some in
    let right : (k : ℕ) → get_or (old ++ way) (length old + k) 0 ≡ get_or way k 0 = λ k. get_or-append-add old way k 0 in
    let left : (k : ℕ) → k < length old → get_or (old ++ way) k 0 ≡ get_or old k 0 = λ k h. get_or_append_left old way 0 k h in
    let last : ℕ = length way - 1 in
    let below : (k : ℕ) → k < length (old ++ way) → get_or (old ++ way) k 0 < s.darts = once.stays in
    let same_place : (j : ℕ) → j < length (old ++ way) → s.next (get_or (old ++ way) j 0) ≡ dart → j ≡ length old + last =
    λ j h e. once.injective j (length old + last) h (omega arith)
    (perm.injective (get_or (old ++ way) j 0) (get_or (old ++ way) (length old + last) 0) (below j h) (below (length old + last) (omega arith))
    (e ∙ sym w.leads ∙ ap s.next (sym (right last)))) in
    elim (Contains-append_cases old way dart stands) [
      | inl in_old ↦
          let before = whole.back dart in_old in
          let within : before.stands.0 < length old = before.stands.1 in
          let place : before.stands.0 ≡ length old + last = same_place before.stands.0 (omega arith)
          (ap s.next (left before.stands.0 within ∙ is_at _ _ before.stands) ∙ before.leads) in
          omega arith
      | inr in_way ↦ at_place in_way.0 in_way.1 (is_at _ _ in_way) same_place
    ] where
      at_place : (place : ℕ) → place < length way → get_or way place 0 ≡ dart
          → ((j : ℕ) → j < length (old ++ way) → s.next (get_or (old ++ way) j 0) ≡ dart → j ≡ length old + (length way - 1)) → ⊥
      at_place zero within here same_place = more (sym here ∙ w.begins)
      at_place (suc k) within here same_place =
          let size : length (old ++ way) ≡ length old + length way = length-append old way in
          let place : length old + k ≡ length old + (length way - 1) = same_place (length old + k) (omega arith)
          (ap s.next (get_or-append-add old way k 0) ∙ sym (w.goes k within) ∙ here) in
          omega arith

-- a walk that is back has gone around a whole vertex
IsWay-whole : (s : Structure) (old : List ℕ) (start : ℕ) (way : List ℕ) → IsWhole s old → IsWay s start way start → IsWhole s (old ++ way)
IsWay-whole s old start way whole w = record {
  onward = λ d stands. elim (Contains-append_cases old way d stands) [
    | inl in_old ↦ Contains-append_left old way (s.next d) (whole.onward d in_old)
    | inr in_way ↦ Contains-append_right old way (s.next d) (onward_way d in_way.0 in_way.1 (is_at _ _ in_way))
  ];
  back = λ d stands. elim (Contains-append_cases old way d stands) [
    | inl in_old ↦ let before = whole.back d in_old in record { before = before.before; stands = Contains-append_left old way before.before before.stands; leads = before.leads }
    | inr in_way ↦ back_way d in_way.0 in_way.1 (is_at _ _ in_way)
  ];
} where
  onward_way : (d place : ℕ) → place < length way → get_or way place 0 ≡ d → Contains way (s.next d)
  onward_way d place within here = elim (cases_lt (suc place) (length way)) [
    | inl more ↦ (contains_at _ _ (suc place) more (w.goes place more ∙ ap s.next here))
    | inr last ↦
        let some : 0 < length way = w.some in
        let is_last : length way - 1 ≡ place = omega arith in
        (contains_at _ _ 0 some (w.begins ∙ sym w.leads ∙ ap s.next (ap (λ j. get_or way j 0) is_last ∙ here)))
  ]

  back_way : (d place : ℕ) → place < length way → get_or way place 0 ≡ d → Precedes s (old ++ way) d
  back_way d zero within here =
      let some : 0 < length way = w.some in
      record {
        before = get_or way (length way - 1) 0;
        stands = Contains-append_right old way (get_or way (length way - 1) 0) (Contains-get_or way (length way - 1) 0 (omega arith));
        leads = w.leads ∙ sym w.begins ∙ here;
      }
  back_way d (suc k) within here = record {
    before = get_or way k 0;
    stands = Contains-append_right old way (get_or way k 0) (Contains-get_or way k 0 (omega arith));
    leads = sym (w.goes k within) ∙ here;
  }

pub IsWay-vertex : (s : Structure) (start : ℕ) (way : List ℕ) → IsWay s start way start → IsVertexFrom s start way
IsWay-vertex s start [] w = absurd (omega (arith, w.some))
IsWay-vertex s start (d ∷ way) w = record { begins = ap Some w.begins; goes = w.goes; ends = w.leads; once = w.once }

-- the first dart of a walk
pub IsWalking-begins : (s : Structure) (old : List ℕ) (start : ℕ) (marks : List Bool) → IsKept s marks old → start < s.darts → start < length marks
    → (Contains old start → ⊥) → IsWalking s old start (set marks start true) (old ++ start ∷ []) (s.next start)
IsWalking-begins s old start marks kept below within fresh = record {
  way = start ∷ [];
  order = refl;
  whole = kept.whole;
  is_way = IsWay-one s start;
  once = HasEachOnce-push s.darts old start kept.once below fresh;
  marking = MarksDarts-push marks old start kept.marking within;
}

-- one dart more
pub IsWalking-step : (s : Structure) (old : List ℕ) (start : ℕ) (marks : List Bool) (darts : List ℕ) (dart : ℕ) → IsPermutationBelow s.darts s.next
    → IsWalking s old start marks darts dart → dart < s.darts → dart < length marks → dart ≢ start
    → IsWalking s old start (set marks dart true) (darts ++ dart ∷ []) (s.next dart)
IsWalking-step s old start marks darts dart perm w below within more =
    let assoc : (old ++ w.way) ++ dart ∷ [] ≡ old ++ (w.way ++ dart ∷ []) = append_assoc old w.way (dart ∷ []) in
    record {
      way = w.way ++ dart ∷ [];
      order = ap (λ l. l ++ dart ∷ []) w.order ∙ assoc;
      whole = w.whole;
      is_way = IsWay-push s start w.way dart w.is_way more;
      once = subst (λ l. HasEachOnce s.darts l) assoc (HasEachOnce-push s.darts (old ++ w.way) dart w.once below (IsWay-fresh s old start w.way dart perm w.whole w.once w.is_way more));
      marking = subst (λ l. MarksDarts (set marks dart true) l) assoc (MarksDarts-push marks (old ++ w.way) dart w.marking within);
    }

-- the walk is back
pub IsWalking-kept : (s : Structure) (old : List ℕ) (start : ℕ) (marks : List Bool) (darts : List ℕ) → IsWalking s old start marks darts start → IsKept s marks darts
IsWalking-kept s old start marks darts w =
    subst (λ l. IsKept s marks l) (sym w.order) (record { once = w.once; whole = IsWay-whole s old start w.way w.whole w.is_way; marking = w.marking })

pub IsWalking-appended : (s : Structure) (old : List ℕ) (start : ℕ) (marks : List Bool) (darts : List ℕ) → IsWalking s old start marks darts start → AppendsVertex s start old darts
IsWalking-appended s old start marks darts w = record { vertex = w.way; is_vertex = IsWay-vertex s start w.way w.is_way; order = w.order }

-- a walk has no more darts than there are
pub IsWalking-once : (s : Structure) (old : List ℕ) (start : ℕ) (marks : List Bool) (darts : List ℕ) (dart : ℕ) → IsWalking s old start marks darts dart → HasEachOnce s.darts darts
IsWalking-once s old start marks darts dart w = subst (λ l. HasEachOnce s.darts l) (sym w.order) w.once

-- the dart that comes next is a dart
pub IsWay-below : (s : Structure) (old : List ℕ) (start : ℕ) (way : List ℕ) (dart : ℕ) → IsPermutationBelow s.darts s.next → HasEachOnce s.darts (old ++ way) → IsWay s start way dart → dart < s.darts
IsWay-below s old start way dart perm once w =
    let some : 0 < length way = w.some in
    let size : length (old ++ way) ≡ length old + length way = length-append old way in
    let place : ℕ = length way - 1 in
    let here : get_or (old ++ way) (length old + place) 0 < s.darts = once.stays (length old + place) (omega arith) in
    let last : get_or way place 0 < s.darts = subst (λ x. x < s.darts) (get_or-append-add old way place 0) here in
    subst (λ x. x < s.darts) w.leads (perm.stays (get_or way place 0) last)

pub IsWalking-below : (s : Structure) (old : List ℕ) (start : ℕ) (marks : List Bool) (darts : List ℕ) (dart : ℕ) → IsPermutationBelow s.darts s.next → IsWalking s old start marks darts dart → dart < s.darts
IsWalking-below s old start marks darts dart perm w = IsWay-below s old start w.way dart perm w.once w.is_way
