-- A renumbering carries the meeting list of the one structure to that of the other.
use Rattle.std.proofs.Common.{◌≡◌, ℕ, zero, suc, ◌-◌, ◌<◌, List, [], ◌∷◌, ◌++◌, map, length, slice_index, Some, refl, sym, ap, ◌∙◌, subst, inl, inr, append_assoc, append-nil, length-append, arith, Contains}
use Rattle.std.proofs.lemmas.Bool.{cases_lt}
use Rattle.std.proofs.lemmas.List.{length-map, get_or-map, map-append, get_or_append_left, get_or-append_right}
use Rattle.std.proofs.lemmas.Option.{slice_get-get_or}
use Rattle.pm_perm.proofs.Contained.{contains_at, is_at}
use Rattle.pm_perm.specs.Permutation.{IsPermutationBelow}
use Rattle.pm_map.specs.Structure.{Structure, IsStructure, CarriesTo}
use Rattle.pm_map.specs.Meeting.{StandsAt, IsVertexFrom, IsNextUnmet, darts_of, Meets, at_root, onward, IsMeetingList, no_dart, complete}
use Rattle.pm_map.proofs.UniqueMeeting.{vertex_begins}

-- the darts in the list are below the bound
pub record AreBelow (bound : ℕ) (darts : List ℕ) : Type 0 where
  pub below : (k : ℕ) → k < length darts → slice_index darts k < bound

pub AreBelow-append : (bound : ℕ) (xs ys : List ℕ) → AreBelow bound xs → AreBelow bound ys → AreBelow bound (xs ++ ys)
AreBelow-append bound xs ys bx by' = record {
  below = λ k h.
      elim (cases_lt k (length xs)) [
        | inl first ↦ subst (λ x. x < bound) (sym (get_or_append_left xs ys 0 k first)) (bx.below k first)
        | inr later ↦
            let within : k - length xs < length ys = omega (arith, length-append xs ys) in
            subst (λ x. x < bound) (sym (get_or-append_right xs ys (length xs) k 0 refl later)) (by'.below (k - length xs) within)
      ];
}

-- the list contains what stands in it at a place
pub stands_there : (darts : List ℕ) (place d : ℕ) → StandsAt darts place d → Contains darts d
stands_there darts place d at = contains_at darts d place at.within at.here

-- a dart that stands in such a list is below the bound
pub stands_below : (bound : ℕ) (darts : List ℕ) (d : ℕ) → AreBelow bound darts → Contains darts d → d < bound
stands_below bound darts d all stands = subst (λ x. x < bound) (is_at _ _ stands) (all.below stands.0 stands.1)

pub darts_of-append : (vs ws : List (List ℕ)) → darts_of (vs ++ ws) ≡ darts_of vs ++ darts_of ws
darts_of-append [] ws = refl
darts_of-append (v ∷ vs) ws = ap (λ x. v ++ x) (darts_of-append vs ws) ∙ sym (append_assoc v (darts_of vs) (darts_of ws))

-- the darts after one more vertex
pub darts_of-onward : (vs : List (List ℕ)) (v : List ℕ) → darts_of (vs ++ v ∷ []) ≡ darts_of vs ++ v
darts_of-onward vs v = darts_of-append vs (v ∷ []) ∙ ap (λ x. darts_of vs ++ x) (append-nil v)

pub darts_of-map : (f : ℕ → ℕ) (vs : List (List ℕ)) → darts_of (map (map f) vs) ≡ map f (darts_of vs)
darts_of-map f [] = refl
darts_of-map f (v ∷ vs) = ap (λ x. map f v ++ x) (darts_of-map f vs) ∙ sym (map-append f v (darts_of vs))

-- of a dart of the structure the whole vertex is darts of the structure
pub vertex_below : (s : Structure) (d : ℕ) (vertex : List ℕ) → IsStructure s → d < s.darts → IsVertexFrom s d vertex → AreBelow s.darts vertex
vertex_below s d vertex structure h is = record { below = entry_below } where
  entry_below : (k : ℕ) → k < length vertex → slice_index vertex k < s.darts
  entry_below zero within = subst (λ x. x < s.darts) (sym (vertex_begins s d vertex is).1) h
  entry_below (suc k) within =
      subst (λ x. x < s.darts) (sym (is.goes k within)) (structure.rotation.stays (slice_index vertex k) (entry_below k (omega arith)))

-- what is met is darts of the structure
pub meets_below : (s : Structure) (vertices : List (List ℕ)) → IsStructure s → 0 < s.darts → Meets s vertices → AreBelow s.darts (darts_of vertices)
meets_below s vertices structure some (at_root vertex is) =
    subst (AreBelow s.darts) (sym (append-nil vertex)) (vertex_below s s.root vertex structure (structure.root_stays some) is)
meets_below s vertices structure some (onward before d vertex met unmet is) =
    let prefix : AreBelow s.darts (darts_of before) = meets_below s before structure some met in
    let dart : d < s.darts = stands_below s.darts (darts_of before) d prefix (stands_there (darts_of before) unmet.place d unmet.at) in
    let back : AreBelow s.darts vertex = vertex_below s (s.twin d) vertex structure (structure.twin_stays d dart) is in
    subst (AreBelow s.darts) (sym (darts_of-onward before vertex)) (AreBelow-append s.darts (darts_of before) vertex prefix back)

map_at : (f : ℕ → ℕ) (darts : List ℕ) (k : ℕ) → k < length darts → slice_index (map f darts) k ≡ f (slice_index darts k)
map_at f darts k within = get_or-map f darts k 0 0 within

-- what stands in a list at a place, renumbered, stands at that place in the renumbered list
pub stands_at_carried : (f : ℕ → ℕ) (darts : List ℕ) (place d : ℕ) → StandsAt darts place d → StandsAt (map f darts) place (f d)
stands_at_carried f darts place d is = record { within = omega (arith, length-map darts f); here = map_at f darts place is.within ∙ ap f is.here }

pub stands_carried : (f : ℕ → ℕ) (darts : List ℕ) (d : ℕ) → Contains darts d → Contains (map f darts) (f d)
stands_carried f darts d stands = stands_there (map f darts) stands.0 (f d) (stands_at_carried f darts stands.0 d (record { within = stands.1; here = is_at darts d stands }))

-- and nothing else does
pub stands_back : (f : ℕ → ℕ) (bound : ℕ) (darts : List ℕ) (d : ℕ) → IsPermutationBelow bound f → AreBelow bound darts → d < bound → Contains (map f darts) (f d) → Contains darts d
stands_back f bound darts d renumbers all h stands =
    let mapped : stands.0 < length (map f darts) = stands.1 in
    let within : stands.0 < length darts = omega (arith, length-map darts f) in (contains_at _ _ stands.0 within (renumbers.injective (slice_index darts stands.0) d (all.below stands.0 within) h (sym (map_at f darts stands.0 within) ∙ (is_at _ _ stands))))

-- a renumbering carries a vertex to a vertex
pub vertex_carried : (f : ℕ → ℕ) (a b : Structure) (d : ℕ) (vertex : List ℕ) → CarriesTo f a b → IsStructure a → d < a.darts → IsVertexFrom a d vertex → IsVertexFrom b (f d) (map f vertex)
vertex_carried f a b d vertex carries structure h is =
    let same : length (map f vertex) ≡ length vertex = length-map vertex f in
    let some : 0 < length vertex = (vertex_begins a d vertex is).0 in
    let all : AreBelow a.darts vertex = vertex_below a d vertex structure h is in
    let last : length vertex - 1 < length vertex = omega arith in
    record {
      begins = slice_get-get_or (map f vertex) 0 0 (omega arith) ∙ ap Some (map_at f vertex 0 some ∙ ap f (vertex_begins a d vertex is).1);
      goes = λ k within.
          let here : suc k < length vertex = omega arith in
          let before : k < length vertex = omega arith in
          map_at f vertex (suc k) here ∙ ap f (is.goes k here) ∙ carries.next (slice_index vertex k) (all.below k before) ∙ ap b.next (sym (map_at f vertex k before));
      ends =
          ap (λ n. b.next (slice_index (map f vertex) (n - 1))) same ∙ ap b.next (map_at f vertex (length vertex - 1) last)
          ∙ sym (carries.next (slice_index vertex (length vertex - 1)) (all.below (length vertex - 1) last)) ∙ ap f is.ends;
      once = λ k within again.
          let here : suc k < length vertex = omega arith in
          is.once k here (carries.renumbers.injective (slice_index vertex (suc k)) d (all.below (suc k) here) h (sym (map_at f vertex (suc k) here) ∙ again));
    }

-- and the first dart whose twin isn't met to the first dart whose twin isn't met
pub next_unmet_carried : (f : ℕ → ℕ) (a b : Structure) (darts : List ℕ) (d : ℕ) → CarriesTo f a b → IsStructure a → AreBelow a.darts darts → IsNextUnmet a darts d → IsNextUnmet b (map f darts) (f d)
next_unmet_carried f a b darts d carries structure all is =
    let h : d < a.darts = stands_below a.darts darts d all (stands_there darts is.place d is.at) in
    record {
      place = is.place;
      at = stands_at_carried f darts is.place d is.at;
      unmet = λ stands.
          is.unmet (stands_back f a.darts darts (a.twin d) carries.renumbers all (structure.twin_stays d h) (subst (Contains (map f darts)) (sym (carries.twin d h)) stands));
      first = λ k earlier.
          let place : is.place < length darts = is.at.within in
          let within : k < length darts = omega arith in
          let twins : f (a.twin (slice_index darts k)) ≡ b.twin (slice_index (map f darts) k) =
          carries.twin (slice_index darts k) (all.below k within) ∙ ap b.twin (sym (map_at f darts k within)) in
          subst (Contains (map f darts)) twins (stands_carried f darts (a.twin (slice_index darts k)) (is.first k earlier));
    }

-- what is met is carried to what is met
pub meets_carried : (f : ℕ → ℕ) (a b : Structure) (vertices : List (List ℕ)) → CarriesTo f a b → IsStructure a → 0 < a.darts → Meets a vertices → Meets b (map (map f) vertices)
meets_carried f a b vertices carries structure some (at_root vertex is) =
    at_root (map f vertex) (subst (λ r. IsVertexFrom b r (map f vertex)) (carries.root some) (vertex_carried f a b a.root vertex carries structure (structure.root_stays some) is))
meets_carried f a b vertices carries structure some (onward before d vertex met unmet is) =
    let all : AreBelow a.darts (darts_of before) = meets_below a before structure some met in
    let h : d < a.darts = stands_below a.darts (darts_of before) d all (stands_there _ unmet.place d unmet.at) in
    let next : IsNextUnmet b (darts_of (map (map f) before)) (f d) =
    subst (λ ds. IsNextUnmet b ds (f d)) (sym (darts_of-map f before)) (next_unmet_carried f a b (darts_of before) d carries structure all unmet) in
    let last : IsVertexFrom b (b.twin (f d)) (map f vertex) =
    subst (λ e. IsVertexFrom b e (map f vertex)) (carries.twin d h) (vertex_carried f a b (a.twin d) vertex carries structure (structure.twin_stays d h) is) in
    subst (Meets b) (sym (map-append (map f) before (vertex ∷ []))) (onward (map (map f) before) (f d) (map f vertex) (meets_carried f a b before carries structure some met) next last)

twins_carried : (f : ℕ → ℕ) (a b : Structure) (darts : List ℕ) → CarriesTo f a b → AreBelow a.darts darts → ((d : ℕ) → Contains darts d → Contains darts (a.twin d)) → (e : ℕ) → Contains (map f darts) e → Contains (map f darts) (b.twin e)
twins_carried f a b darts carries all twins e stands =
    let mapped : stands.0 < length (map f darts) = stands.1 in
    let within : stands.0 < length darts = omega (arith, length-map darts f) in
    let there : Contains darts (a.twin (slice_index darts stands.0)) = twins (slice_index darts stands.0) (contains_at _ _ stands.0 within refl) in
    let is : f (a.twin (slice_index darts stands.0)) ≡ b.twin e =
    carries.twin (slice_index darts stands.0) (all.below stands.0 within) ∙ ap b.twin (sym (map_at f darts stands.0 within) ∙ (is_at _ _ stands)) in
    subst (Contains (map f darts)) is (stands_carried f darts (a.twin (slice_index darts stands.0)) there)

-- a renumbering carries the meeting list to the meeting list
pub meeting_list_carried : (f : ℕ → ℕ) (a b : Structure) (vertices : List (List ℕ)) → CarriesTo f a b → IsStructure a → IsMeetingList a vertices → IsMeetingList b (map (map f) vertices)
meeting_list_carried f a b vertices carries structure (no_dart none) = no_dart (sym carries.darts ∙ none)
meeting_list_carried f a b vertices carries structure (complete vs some met twins) =
    let all : AreBelow a.darts (darts_of vs) = meets_below a vs structure some met in
    complete (map (map f) vs) (subst (λ n. 0 < n) carries.darts some) (meets_carried f a b vs carries structure some met)
    (λ e stands.
    subst (λ ds. Contains ds (b.twin e)) (sym (darts_of-map f vs))
    (twins_carried f a b (darts_of vs) carries all twins e (subst (λ ds. Contains ds e) (darts_of-map f vs) stands)))
