-- A structure has one meeting list: its vertices, each next dart and the whole list are determined.
use Rattle.std.proofs.Common.{◌≡◌, ℕ, zero, suc, ◌-◌, ◌<◌, ◌≤◌, List, [], ◌∷◌, ◌++◌, length, take, slice_index, refl, sym, ap, ◌∙◌, subst, inl, inr, ext_get_or, take_all, length-append, arith, Contains}
use Rattle.std.proofs.lemmas.Bool.{cases_order, cases_lt}
use Rattle.std.proofs.lemmas.List.{take-append-le}
use Rattle.std.proofs.lemmas.Option.{slice_get_within, get_or_from_slice_get}
use Rattle.pm_perm.proofs.Contained.{contains_at}
use Rattle.pm_map.specs.Structure.{Structure}
use Rattle.pm_map.specs.Meeting.{IsVertexFrom, IsNextUnmet, darts_of, Meets, at_root, onward, IsMeetingList, no_dart, complete}

-- a vertex has a first dart, the one that it is from
pub vertex_begins : (s : Structure) (d : ℕ) (vertex : List ℕ) → IsVertexFrom s d vertex → (0 < length vertex) × (slice_index vertex 0 ≡ d)
vertex_begins s d vertex is = (slice_get_within vertex 0 d is.begins, get_or_from_slice_get vertex 0 d 0 is.begins)

-- two vertices from the same dart agree as far as both go
pub vertices_agree : (s : Structure) (d : ℕ) (v w : List ℕ) → IsVertexFrom s d v → IsVertexFrom s d w → (k : ℕ) → k < length v → k < length w → slice_index v k ≡ slice_index w k
vertices_agree s d v w iv iw zero hv hw = (vertex_begins s d v iv).1 ∙ sym ((vertex_begins s d w iw).1)
vertices_agree s d v w iv iw (suc k) hv hw =
    iv.goes k hv ∙ ap s.next (vertices_agree s d v w iv iw k (omega arith) (omega arith)) ∙ sym (iw.goes k hw)

vertex_not_longer : (s : Structure) (d : ℕ) (v w : List ℕ) → IsVertexFrom s d v → IsVertexFrom s d w → length v < length w → ⊥
vertex_not_longer s d v w iv iw less =
    let some : 0 < length v = (vertex_begins s d v iv).0 in
    let here : suc (length v - 1) < length w = omega arith in
    let same : slice_index v (length v - 1) ≡ slice_index w (length v - 1) = vertices_agree s d v w iv iw (length v - 1) (omega arith) (omega arith) in
    iw.once (length v - 1) here (iw.goes (length v - 1) here ∙ ap s.next (sym same) ∙ iv.ends)

-- two vertices from the same dart are equal
pub vertex_is_unique : (s : Structure) (d : ℕ) (v w : List ℕ) → IsVertexFrom s d v → IsVertexFrom s d w → v ≡ w
vertex_is_unique s d v w iv iw =
    elim (cases_order (length v) (length w)) [
      | inl same ↦ ext_get_or 0 v w same (λ k h. vertices_agree s d v w iv iw k h (omega arith))
      | inr differs ↦
          elim differs [
            | inl less ↦ absurd (vertex_not_longer s d v w iv iw less)
            | inr more ↦ absurd (vertex_not_longer s d w v iw iv more)
          ]
    ]

unmet_not_later : (s : Structure) (darts : List ℕ) (d e : ℕ) → (id : IsNextUnmet s darts d) → (ie : IsNextUnmet s darts e) → id.place < ie.place → ⊥
unmet_not_later s darts d e id ie less =
    id.unmet (subst (λ x. Contains darts (s.twin x)) id.at.here (ie.first id.place less))

-- of one list, the first dart whose twin isn't in the list is one
pub next_unmet_is_unique : (s : Structure) (darts : List ℕ) (d e : ℕ) → IsNextUnmet s darts d → IsNextUnmet s darts e → d ≡ e
next_unmet_is_unique s darts d e id ie =
    elim (cases_order id.place ie.place) [
      | inl same ↦ sym id.at.here ∙ ap (slice_index darts) same ∙ ie.at.here
      | inr differs ↦
          elim differs [
            | inl less ↦ absurd (unmet_not_later s darts d e id ie less)
            | inr more ↦ absurd (unmet_not_later s darts e d ie id more)
          ]
    ]

length_onward : (vertices : List (List ℕ)) (vertex : List ℕ) → length (vertices ++ vertex ∷ []) ≡ suc (length vertices)
length_onward vertices vertex = omega (arith, length-append vertices (vertex ∷ []))

-- something is met from the start
pub meets_some : (s : Structure) (vertices : List (List ℕ)) → Meets s vertices → 0 < length vertices
meets_some s vertices (at_root vertex is) = omega arith
meets_some s vertices (onward before d vertex met unmet is) = omega (arith, length_onward before vertex)

-- as many vertices, met from the root, are the same vertices
pub meets_is_unique : (s : Structure) (v w : List (List ℕ)) → Meets s v → Meets s w → length v ≡ length w → v ≡ w
meets_is_unique s v w (at_root a ia) (at_root b ib) same = ap (λ x. x ∷ []) (vertex_is_unique s s.root a b ia ib)
meets_is_unique s v w (at_root a ia) (onward ws e b mw ue ib) same =
    absurd (omega (arith, meets_some s ws mw, length_onward ws b))
meets_is_unique s v w (onward vs d a mv ud ia) (at_root b ib) same =
    absurd (omega (arith, meets_some s vs mv, length_onward vs a))
meets_is_unique s v w (onward vs d a mv ud ia) (onward ws e b mw ue ib) same =
    let prefix : vs ≡ ws = meets_is_unique s vs ws mv mw (omega (arith, length_onward vs a, length_onward ws b)) in
    let dart : d ≡ e = next_unmet_is_unique s (darts_of ws) d e (subst (λ x. IsNextUnmet s (darts_of x) d) prefix ud) ue in
    let last : a ≡ b = vertex_is_unique s (s.twin e) a b (subst (λ x. IsVertexFrom s (s.twin x) a) dart ia) ib in
    cc

-- of what is met in fewer and in more steps, the shorter is a prefix of the longer
pub meets_is_prefix : (s : Structure) (v w : List (List ℕ)) → Meets s v → Meets s w → length v ≤ length w → v ≡ take (length v) w
meets_is_prefix s v w mv (at_root b ib) le =
    let some = meets_some s v mv in
    let whole : take (length v) (b ∷ []) ≡ b ∷ [] = take_all (length v) (b ∷ []) (omega arith) in
    meets_is_unique s v (b ∷ []) mv (at_root b ib) (omega arith) ∙ sym whole
meets_is_prefix s v w mv (onward ws e b mw ue ib) le =
    elim (cases_lt (length ws) (length v)) [
      | inl more ↦
          let total : length (ws ++ b ∷ []) ≡ suc (length ws) = length_onward ws b in
          let whole : take (length v) (ws ++ b ∷ []) ≡ ws ++ b ∷ [] = take_all (length v) (ws ++ b ∷ []) (omega arith) in
          meets_is_unique s v (ws ++ b ∷ []) mv (onward ws e b mw ue ib) (omega arith) ∙ sym whole
      | inr less ↦ meets_is_prefix s v ws mv mw less ∙ sym (take-append-le (length v) ws (b ∷ []) less)
    ]

-- with each dart that stands in the list its twin stands in it
pub record HoldsTwins (s : Structure) (darts : List ℕ) : Type 0 where
  pub twin_stands : (d : ℕ) → Contains darts d → Contains darts (s.twin d)

-- nothing is met after all is met
pub meets_no_more : (s : Structure) (v w : List (List ℕ)) → Meets s v → HoldsTwins s (darts_of v) → Meets s w → length v < length w → ⊥
meets_no_more s v w mv all (at_root b ib) less = let some = meets_some s v mv in omega arith
meets_no_more s v w mv all (onward ws e b mw ue ib) less =
    elim (cases_lt (length v) (length ws)) [
      | inl earlier ↦ meets_no_more s v ws mv all mw earlier
      | inr last ↦
          let same : v ≡ ws = meets_is_unique s v ws mv mw (omega (arith, length_onward ws b)) in
          let there : Contains (darts_of v) e = subst (λ x. Contains (darts_of x) e) (sym same) (contains_at (darts_of ws) e ue.place ue.at.within ue.at.here) in
          ue.unmet (subst (λ x. Contains (darts_of x) (s.twin e)) same (all.twin_stands e there))
    ]

-- a structure has one meeting list
pub meeting_list_is_unique : (s : Structure) (v w : List (List ℕ)) → IsMeetingList s v → IsMeetingList s w → v ≡ w
meeting_list_is_unique s v w (no_dart none) (no_dart _) = refl
meeting_list_is_unique s v w (no_dart none) (complete _ some mw _) = absurd (omega arith)
meeting_list_is_unique s v w (complete _ some mv _) (no_dart none) = absurd (omega arith)
meeting_list_is_unique s v w (complete vs some mv allv) (complete ws _ mw allw) =
    elim (cases_order (length vs) (length ws)) [
      | inl same ↦ meets_is_unique s vs ws mv mw same
      | inr differs ↦
          elim differs [
            | inl less ↦ absurd (meets_no_more s vs ws mv (record { twin_stands = allv }) mw less)
            | inr more ↦ absurd (meets_no_more s ws vs mw (record { twin_stands = allw }) mv more)
          ]
    ]
