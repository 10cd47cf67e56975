-- The meeting list of a connected structure has every dart, each once.
use Rattle.std.proofs.Common.{◌≡◌, ℕ, zero, suc, ◌+◌, ◌-◌, ◌<◌, true, ◌==◌, List, [], ◌∷◌, ◌++◌, length, slice_index, refl, sym, ap, ◌∙◌, subst, inl, inr, append-nil, length-append, eq-eqb, eqb-true, arith, Contains}
use Rattle.std.specs.List.{list_any}
use Rattle.std.proofs.lemmas.Bool.{cases_lt, cases_order, or_cases, false≢true}
use Rattle.std.proofs.lemmas.List.{get_or_append_left, get_or-append_right}
use Rattle.std.proofs.lemmas.List.Folds.{list_any_at}
use Rattle.std.proofs.lemmas.List.Elements.{Contains-append_cases, Contains-append_left, Contains-append_right}
use Rattle.pm_perm.proofs.Contained.{contains_at, contains_first, contains_later, is_at}
use Rattle.pm_map.specs.Structure.{Structure, IsStructure, IsClosedSet, IsConnected}
use Rattle.pm_map.specs.Meeting.{IsVertexFrom, darts_of, Meets, at_root, onward, IsMeetingList, no_dart, complete}
use Rattle.pm_map.proofs.UniqueMeeting.{vertex_begins}
use Rattle.pm_map.proofs.CarriedMeeting.{AreBelow, stands_there, stands_below, darts_of-onward, vertex_below, meets_below}

-- the test whether a dart stands in the list
pub test_from_stands : (darts : List ℕ) (d : ℕ) → Contains darts d → list_any (λ e. e == d) darts ≡ true
test_from_stands darts d stands =
    list_any_at (λ e. e == d) darts stands.0 0 stands.1 (eq-eqb (slice_index darts stands.0) d (is_at _ _ stands))

pub stands_from_test : (darts : List ℕ) (d : ℕ) → list_any (λ e. e == d) darts ≡ true → Contains darts d
stands_from_test [] d test = absurd (false≢true test)
stands_from_test (x ∷ darts) d test =
    elim (or_cases (x == d) (list_any (λ e. e == d) darts) test) [
      | inl here ↦ contains_first x d darts (eqb-true x d here)
      | inr later ↦ contains_later x darts d (stands_from_test darts d later)
    ]

-- with each dart that stands in the list the next around its vertex stands in it
pub record HoldsNext (s : Structure) (darts : List ℕ) : Type 0 where
  pub next_stands : (d : ℕ) → Contains darts d → Contains darts (s.next d)

-- a vertex holds with each dart the next
pub vertex_holds_next : (s : Structure) (e : ℕ) (vertex : List ℕ) → IsVertexFrom s e vertex → HoldsNext s vertex
vertex_holds_next s e vertex is = record {
  next_stands = λ d stands.
      let within : stands.0 < length vertex = stands.1 in
      elim (cases_lt (suc stands.0) (length vertex)) [
        | inl inside ↦ (contains_at _ _ (suc stands.0) inside (is.goes stands.0 inside ∙ ap s.next (is_at _ _ stands)))
        | inr end ↦
            let last : length vertex - 1 ≡ stands.0 = omega arith in
            let around : e ≡ s.next d = sym is.ends ∙ ap (λ k. s.next (slice_index vertex k)) last ∙ ap s.next (is_at _ _ stands) in
            contains_at vertex (s.next d) 0 (omega arith) ((vertex_begins s e vertex is).1 ∙ around)
      ];
}

HoldsNext-append : (s : Structure) (xs ys : List ℕ) → HoldsNext s xs → HoldsNext s ys → HoldsNext s (xs ++ ys)
HoldsNext-append s xs ys hx hy = record {
  next_stands = λ d stands.
      elim (Contains-append_cases xs ys d stands) [
        | inl prefix ↦ Contains-append_left xs ys (s.next d) (hx.next_stands d prefix)
        | inr back ↦ Contains-append_right xs ys (s.next d) (hy.next_stands d back)
      ];
}

-- what is met holds with each dart the next
pub meets_holds_next : (s : Structure) (vertices : List (List ℕ)) → Meets s vertices → HoldsNext s (darts_of vertices)
meets_holds_next s vertices (at_root vertex is) = subst (HoldsNext s) (sym (append-nil vertex)) (vertex_holds_next s s.root vertex is)
meets_holds_next s vertices (onward before d vertex met unmet is) =
    subst (HoldsNext s) (sym (darts_of-onward before vertex))
    (HoldsNext-append s (darts_of before) vertex (meets_holds_next s before met) (vertex_holds_next s (s.twin d) vertex is))

-- the root is met
pub root_is_met : (s : Structure) (vertices : List (List ℕ)) → Meets s vertices → Contains (darts_of vertices) s.root
root_is_met s vertices (at_root vertex is) =
    subst (λ ds. Contains ds s.root) (sym (append-nil vertex)) (contains_at _ _ 0 ((vertex_begins s s.root vertex is).0) ((vertex_begins s s.root vertex is).1))
root_is_met s vertices (onward before d vertex met unmet is) =
    subst (λ ds. Contains ds s.root) (sym (darts_of-onward before vertex)) (Contains-append_left (darts_of before) vertex s.root (root_is_met s before met))

-- in a connected structure every dart is met
pub meeting_list_is_whole : (s : Structure) (vertices : List (List ℕ)) → IsConnected s → IsMeetingList s vertices → (d : ℕ) → d < s.darts → Contains (darts_of vertices) d
meeting_list_is_whole s vertices connected (no_dart none) d h = absurd (omega arith)
meeting_list_is_whole s vertices connected (complete vs some met twins) d h =
    let root : list_any (λ e. e == s.root) (darts_of vs) ≡ true = test_from_stands (darts_of vs) s.root (root_is_met s vs met) in
    let closed : IsClosedSet s (λ x. list_any (λ e. e == x) (darts_of vs)) = record {
      under_next = λ x _ test. test_from_stands (darts_of vs) (s.next x) ((meets_holds_next s vs met).next_stands x (stands_from_test (darts_of vs) x test));
      under_twin = λ x _ test. test_from_stands (darts_of vs) (s.twin x) (twins x (stands_from_test (darts_of vs) x test));
    } in
    stands_from_test (darts_of vs) d (connected (λ x. list_any (λ e. e == x) (darts_of vs)) root closed d h)

-- no dart stands twice in the list
pub record StandOnce (darts : List ℕ) : Type 0 where
  pub once : (i j : ℕ) → i < length darts → j < length darts → slice_index darts i ≡ slice_index darts j → i ≡ j

vertex_never_again : (s : Structure) (e : ℕ) (vertex : List ℕ) → IsStructure s → e < s.darts → IsVertexFrom s e vertex → (i j : ℕ) → i < j → j < length vertex → slice_index vertex i ≡ slice_index vertex j → ⊥
vertex_never_again s e vertex structure h is i zero less within same = absurd (omega arith)
vertex_never_again s e vertex structure h is zero (suc j) less within same = is.once j within (sym same ∙ (vertex_begins s e vertex is).1)
vertex_never_again s e vertex structure h is (suc i) (suc j) less within same =
    let all : AreBelow s.darts vertex = vertex_below s e vertex structure h is in
    let one : suc i < length vertex = omega arith in
    let first : i < length vertex = omega arith in
    let second : j < length vertex = omega arith in
    vertex_never_again s e vertex structure h is i j (omega arith) second
    (structure.rotation.injective (slice_index vertex i) (slice_index vertex j) (all.below i first) (all.below j second) (sym (is.goes i one) ∙ same ∙ is.goes j within))

-- a vertex has each of its darts once
pub vertex_stands_once : (s : Structure) (e : ℕ) (vertex : List ℕ) → IsStructure s → e < s.darts → IsVertexFrom s e vertex → StandOnce vertex
vertex_stands_once s e vertex structure h is = record {
  once = λ i j hi hj same.
      elim (cases_order i j) [
        | inl equal ↦ equal
        | inr differs ↦
            elim differs [
              | inl less ↦ absurd (vertex_never_again s e vertex structure h is i j less hj same)
              | inr more ↦ absurd (vertex_never_again s e vertex structure h is j i more hi (sym same))
            ]
      ];
}

walk_around : (s : Structure) (e : ℕ) (vertex darts : List ℕ) → IsVertexFrom s e vertex → HoldsNext s darts → (rest k : ℕ) → suc (k + rest) ≡ length vertex → Contains darts (slice_index vertex k) → Contains darts e
walk_around s e vertex darts is holds zero k last stands =
    let place : length vertex - 1 ≡ k = omega arith in
    subst (Contains darts) (ap (λ i. s.next (slice_index vertex i)) (sym place) ∙ is.ends) (holds.next_stands (slice_index vertex k) stands)
walk_around s e vertex darts is holds (suc rest) k last stands =
    let inside : suc k < length vertex = omega arith in
    walk_around s e vertex darts is holds rest (suc k) (omega arith) (subst (Contains darts) (sym (is.goes k inside)) (holds.next_stands (slice_index vertex k) stands))

-- a list that holds with each dart the next has all of a vertex or none of it
pub vertex_all_or_none : (s : Structure) (e : ℕ) (vertex darts : List ℕ) (d : ℕ) → IsVertexFrom s e vertex → HoldsNext s darts → Contains vertex d → Contains darts d → Contains darts e
vertex_all_or_none s e vertex darts d is holds inside stands =
    let within : inside.0 < length vertex = inside.1 in
    walk_around s e vertex darts is holds (length vertex - 1 - inside.0) inside.0 (omega arith) (subst (Contains darts) (sym (is_at _ _ inside)) stands)

StandOnce-append : (xs ys : List ℕ) → StandOnce xs → StandOnce ys → ((d : ℕ) → Contains xs d → Contains ys d → ⊥) → StandOnce (xs ++ ys)
StandOnce-append xs ys ox oy apart = record {
  once = λ i j hi hj same.
      elim (cases_lt i (length xs)) [
        | inl prefix_i ↦
            let at_i : slice_index (xs ++ ys) i ≡ slice_index xs i = get_or_append_left xs ys 0 i prefix_i in
            elim (cases_lt j (length xs)) [
              | inl prefix_j ↦ ox.once i j prefix_i prefix_j (sym at_i ∙ same ∙ get_or_append_left xs ys 0 j prefix_j)
              | inr back_j ↦
                  let within : j - length xs < length ys = omega (arith, length-append xs ys) in
                  absurd (apart (slice_index xs i) (contains_at _ _ i prefix_i refl)
                  (contains_at _ _ (j - length xs) within (sym (get_or-append_right xs ys (length xs) j 0 refl back_j) ∙ sym same ∙ at_i)))
            ]
        | inr back_i ↦
            let at_i : slice_index (xs ++ ys) i ≡ slice_index ys (i - length xs) = get_or-append_right xs ys (length xs) i 0 refl back_i in
            let within_i : i - length xs < length ys = omega (arith, length-append xs ys) in
            elim (cases_lt j (length xs)) [
              | inl prefix_j ↦
                  absurd (apart (slice_index xs j) (contains_at _ _ j prefix_j refl)
                  (contains_at _ _ (i - length xs) within_i (sym at_i ∙ same ∙ get_or_append_left xs ys 0 j prefix_j)))
              | inr back_j ↦
                  let within_j : j - length xs < length ys = omega (arith, length-append xs ys) in
                  let equal : i - length xs ≡ j - length xs =
                  oy.once (i - length xs) (j - length xs) within_i within_j (sym at_i ∙ same ∙ get_or-append_right xs ys (length xs) j 0 refl back_j) in
                  omega arith
            ]
      ];
}

-- what is met has each dart once
pub meets_once : (s : Structure) (vertices : List (List ℕ)) → IsStructure s → 0 < s.darts → Meets s vertices → StandOnce (darts_of vertices)
meets_once s vertices structure some (at_root vertex is) =
    subst StandOnce (sym (append-nil vertex)) (vertex_stands_once s s.root vertex structure (structure.root_stays some) is)
meets_once s vertices structure some (onward before d vertex met unmet is) =
    let dart : d < s.darts = stands_below s.darts (darts_of before) d (meets_below s before structure some met) (stands_there (darts_of before) unmet.place d unmet.at) in
    subst StandOnce (sym (darts_of-onward before vertex))
    (StandOnce-append (darts_of before) vertex (meets_once s before structure some met)
    (vertex_stands_once s (s.twin d) vertex structure (structure.twin_stays d dart) is)
    (λ e prefix back. unmet.unmet (vertex_all_or_none s (s.twin d) vertex (darts_of before) e is (meets_holds_next s before met) back prefix)))

-- the meeting list has each dart once
pub meeting_list_stands_once : (s : Structure) (vertices : List (List ℕ)) → IsStructure s → IsMeetingList s vertices → StandOnce (darts_of vertices)
meeting_list_stands_once s vertices structure (no_dart none) = record { once = λ i j hi hj same. absurd (omega arith) }
meeting_list_stands_once s vertices structure (complete vs some met twins) = meets_once s vs structure some met
