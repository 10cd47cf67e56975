-- The vertices met so far, with one vertex more, and at the end.
use Rattle.std.proofs.Common.{◌≡◌, ℕ, ◌+◌, ◌<◌, ◌≤◌, inl, inr, Bool, false, List, [], ◌∷◌, ◌++◌, length, get_or, replicate, Some, refl, sym, ◌∙◌, ap, subst, arith, length-append, Contains}
use Rattle.std.proofs.lemmas.List.{get_or_append_left, append-nil, get_or-replicate, get_or_past, length-replicate}
use Rattle.std.specs.List.{slice_get}
use Rattle.std.proofs.lemmas.Option.{slice_get-get_or}
use Rattle.std.proofs.lemmas.Bool.{cases_lt, cases_eq, false≢true}
use Rattle.std.proofs.lemmas.List.Elements.{Contains-append_left, Contains-append_right}
use Rattle.pm_perm.proofs.Contained.{contains_at, contains_none, is_at}
use Rattle.pm_map.specs.Structure.{Structure, IsConnected}
use Rattle.pm_map.specs.Meeting.{IsNextUnmet, at_root, onward, IsMeetingList, no_dart, complete}
use Rattle.pm_map.proofs.CarriedMeeting.{darts_of-onward}
use Rattle.pm_map.proofs.UniqueMeeting.{vertex_begins}
use Rattle.pm_map.proofs.WholeMeeting.{meeting_list_is_whole}
use Rattle.pm_canon.specs.steps.Kept.{MarksDarts, IsKept, AppendsVertex, IsMeeting}
use Rattle.pm_canon.specs.MeetingOrder.{IsMeetingOrder}

false_stays : (n d : ℕ) → get_or (replicate n false) d false ≡ false
false_stays n d = elim (cases_lt d n) [
  | inl h ↦ get_or-replicate n d false false h
  | inr h ↦ get_or_past (replicate n false) d false (omega (arith, length-replicate n false))
]

-- no dart is marked at first
pub MarksDarts-none : (n : ℕ) → MarksDarts (replicate n false) []
MarksDarts-none n = record { marked = λ d s. absurd (contains_none d s); stands = λ d is. absurd (false≢true (sym (false_stays n d) ∙ is)) }

pub IsKept-none : (s : Structure) (n : ℕ) → IsKept s (replicate n false) []
IsKept-none s n = record {
  once = record { stays = λ k h. absurd (omega arith); injective = λ j k hj hk e. absurd (omega arith) };
  whole = record { onward = λ d stands. absurd (contains_none d stands); back = λ d stands. absurd (contains_none d stands) };
  marking = MarksDarts-none n;
}

-- the vertex of the root
pub IsMeeting-root : (s : Structure) (marks : List Bool) (old darts : List ℕ) → old ≡ [] → AppendsVertex s s.root old darts → IsKept s marks darts → IsMeeting s marks darts 0
IsMeeting-root s marks old darts empty a kept = record {
  vertices = a.vertex ∷ [];
  meets = at_root a.vertex a.is_vertex;
  order = a.order ∙ ap (λ l. l ++ a.vertex) empty ∙ sym (append-nil a.vertex);
  within = omega arith;
  twins = λ k h. absurd (omega arith);
  kept = kept;
}

-- a dart whose twin stands
pub IsMeeting-stands : (s : Structure) (marks : List Bool) (darts : List ℕ) (place : ℕ) → IsMeeting s marks darts place → place < length darts
    → Contains darts (s.twin (get_or darts place 0)) → IsMeeting s marks darts (place + 1)
IsMeeting-stands s marks darts place m within stands = record {
  vertices = m.vertices;
  meets = m.meets;
  order = m.order;
  within = omega arith;
  twins = λ k h. elim (cases_eq k place) [
    | inl here ↦ subst (λ j. Contains darts (s.twin (get_or darts j 0))) (sym here) stands
    | inr other ↦ m.twins k (omega (arith, other))
  ];
  kept = m.kept;
}

-- the vertex of the twin of the first dart whose twin doesn't stand
pub IsMeeting-onward : (s : Structure) (old_marks marks : List Bool) (old darts : List ℕ) (place : ℕ) → IsMeeting s old_marks old place → place < length old
    → (Contains old (s.twin (get_or old place 0)) → ⊥) → AppendsVertex s (s.twin (get_or old place 0)) old darts → IsKept s marks darts → IsMeeting s marks darts (place + 1)
IsMeeting-onward s old_marks marks old darts place m within unmet a kept =
    let d : ℕ = get_or old place 0 in
    let size : length (old ++ a.vertex) ≡ length old + length a.vertex = length-append old a.vertex in
    let next_unmet : IsNextUnmet s old d = record { place = place; at = record { within = within; here = refl }; unmet = unmet; first = m.twins } in
    let same : (k : ℕ) → k < length old → get_or (old ++ a.vertex) k 0 ≡ get_or old k 0 = λ k h. get_or_append_left old a.vertex 0 k h in
    let begins = vertex_begins s (s.twin d) a.vertex a.is_vertex in
    let last : Contains (old ++ a.vertex) (s.twin d) = Contains-append_right old a.vertex (s.twin d) (contains_at _ _ 0 begins.0 begins.1) in
    let twins : (k : ℕ) → k < place + 1 → Contains (old ++ a.vertex) (s.twin (get_or (old ++ a.vertex) k 0)) = λ k h. elim (cases_eq k place) [
      | inl here ↦ subst (λ j. Contains (old ++ a.vertex) (s.twin j)) (sym (same k (omega arith) ∙ ap (λ j. get_or old j 0) here)) last
      | inr other ↦ subst (λ j. Contains (old ++ a.vertex) (s.twin j)) (sym (same k (omega (arith, other)))) (Contains-append_left old a.vertex (s.twin (get_or old k 0)) (m.twins k (omega (arith, other))))
    ] in
    record {
      vertices = m.vertices ++ a.vertex ∷ [];
      meets = onward m.vertices d a.vertex m.meets (subst (λ l. IsNextUnmet s l d) m.order next_unmet) a.is_vertex;
      order = a.order ∙ ap (λ l. l ++ a.vertex) m.order ∙ sym (darts_of-onward m.vertices a.vertex);
      within = omega (arith, ap length a.order);
      twins = subst (λ l. (k : ℕ) → k < place + 1 → Contains l (s.twin (get_or l k 0))) (sym a.order) twins;
      kept = kept;
    }

-- all is met
pub IsMeeting-all : (s : Structure) (marks : List Bool) (darts : List ℕ) (place : ℕ) → IsConnected s → 0 < s.darts → IsMeeting s marks darts place → length darts ≤ place → IsMeetingOrder s darts
IsMeeting-all s marks darts place connected some m ends =
    let twins : (d : ℕ) → Contains darts d → Contains darts (s.twin d) = λ d stands.
    (let within : stands.0 < length darts = stands.1 in
    subst (λ e. Contains darts (s.twin e)) (is_at _ _ stands) (m.twins stands.0 (omega arith))) in
    let is_list : IsMeetingList s m.vertices = complete m.vertices some m.meets (subst (λ l. (d : ℕ) → Contains l d → Contains l (s.twin d)) m.order twins) in
    record {
      vertices = m.vertices;
      is_list = is_list;
      order = m.order;
      once = m.kept.once;
      all = subst (λ l. (d : ℕ) → d < s.darts → Contains l d) (sym m.order) (meeting_list_is_whole s m.vertices connected is_list);
    }

-- no dart
pub IsMeetingOrder-none : (s : Structure) → s.darts ≡ 0 → IsMeetingOrder s []
IsMeetingOrder-none s none = record {
  vertices = [];
  is_list = no_dart none;
  order = refl;
  once = record { stays = λ k h. absurd (omega arith); injective = λ j k hj hk e. absurd (omega arith) };
  all = λ d h. absurd (omega arith);
}

pub unmarked_at : (marks : List Bool) (n d : ℕ) → marks ≡ replicate n false → d < n → slice_get marks d ≡ Some false
unmarked_at marks n d is below =
    slice_get-get_or marks d false (omega (arith, ap length is, length-replicate n false)) ∙ ap Some (ap (λ l. get_or l d false) is ∙ false_stays n d)
