-- The sizes of the vertices of a meeting list, and the list of the canonical map.
use Rattle.std.proofs.Common.{◌≡◌, ℕ, ◌-◌, List, [], ◌∷◌, ◌++◌, length, get_or, take, drop, map, slice_index, refl, sym, ◌∙◌, ap, subst, arith, length-append}
use Rattle.std.proofs.lemmas.List.{take_at, append_cancel_left, map-append, length-map, get_or_append_left}
use Rattle.std.specs.Prelude.{IfOk, Result, Ok, Err}
use Rattle.pm_map.specs.Structure.{Structure, CarriesTo}
use Rattle.pm_map.specs.Rotation.{RotationSystem, structure_of}
use Rattle.pm_map.specs.Meeting.{IsVertexFrom, IsMeetingList, Meets, at_root, onward, no_dart, complete, darts_of}
use Rattle.pm_map.proofs.UniqueMeeting.{vertex_begins, vertex_is_unique}
use Rattle.pm_map.proofs.CarriedMeeting.{darts_of-map, darts_of-onward, meeting_list_carried}
use Rattle.pm_canon.specs.declared.meeting.VertexList.{VertexList}
use Rattle.pm_canon.specs.MeetingOrder.{IsMeetingOrder}
use Rattle.pm_canon.specs.VertexList.{IsVertexList, IsCanonicalList}
use Rattle.pm_canon.specs.steps.Kept.{AppendsVertex}
use Rattle.pm_canon.specs.steps.Naming.{IsRenamed}
use Rattle.pm_canon.specs.steps.Sizing.{AreVertices, none, some, AreSized}
use Rattle.pm_canon.proofs.CanonLemmas.{IsNumbered, names_permute, names_carry, renamed_is_canonical}
use Rattle.pm_canon.proofs.ExistenceLemmas.{renamed_rotation, renamed_rotation-renamed}

AreVertices-push : (s : Structure) (vertices : List (List ℕ)) (d : ℕ) (vertex : List ℕ) → AreVertices s vertices → IsVertexFrom s d vertex → AreVertices s (vertices ++ vertex ∷ [])
AreVertices-push s [] d vertex none is = some d vertex [] is none
AreVertices-push s (v ∷ vertices) d vertex (some e _ _ first rest) is = some e v (vertices ++ vertex ∷ []) first (AreVertices-push s vertices d vertex rest is)

AreVertices-meets : (s : Structure) (vertices : List (List ℕ)) → Meets s vertices → AreVertices s vertices
AreVertices-meets s vertices (at_root vertex is) = some s.root vertex [] is none
AreVertices-meets s vertices (onward before d vertex met unmet is) = AreVertices-push s before (s.twin d) vertex (AreVertices-meets s before met) is

pub AreVertices-list : (s : Structure) (vertices : List (List ℕ)) → IsMeetingList s vertices → AreVertices s vertices
AreVertices-list s vertices (no_dart _) = none
AreVertices-list s vertices (complete vs _ met _) = AreVertices-meets s vs met

-- no vertex
pub sized_none : (s : Structure) (darts sizes : List ℕ) → darts ≡ [] → sizes ≡ [] → AreSized s darts sizes
sized_none s darts sizes d n = record { vertices = []; are = none; darts_are = d; sizes_are = n }

-- one vertex more
pub sized_more : (s : Structure) (start size : ℕ) (old new sizes : List ℕ) → AreSized s old sizes → AppendsVertex s start old new → size ≡ length new - length old → AreSized s new (sizes ++ size ∷ [])
sized_more s start size old new sizes z a is =
    let long : size ≡ length a.vertex = omega (arith, is, ap length a.order, length-append old a.vertex) in
    record {
      vertices = z.vertices ++ a.vertex ∷ [];
      are = AreVertices-push s z.vertices start a.vertex z.are a.is_vertex;
      darts_are = a.order ∙ ap (λ l. l ++ a.vertex) z.darts_are ∙ sym (darts_of-onward z.vertices a.vertex);
      sizes_are = ap (λ l. l ++ size ∷ []) z.sizes_are ∙ ap (λ n. map length z.vertices ++ n ∷ []) long ∙ sym (map-append length z.vertices (a.vertex ∷ []));
    }

-- vertices are told by their darts
one_cut : (s : Structure) (vs ws : List (List ℕ)) → AreVertices s vs → AreVertices s ws → darts_of vs ≡ darts_of ws → vs ≡ ws
one_cut s [] [] none none e = refl
one_cut s [] (w ∷ ws) none (some d _ _ is later) e =
    let begins = vertex_begins s d w is in absurd (let total = ap length e in omega (arith, total, begins.0, length-append w (darts_of ws)))
one_cut s (v ∷ vs) [] (some d _ _ is later) none e =
    let begins = vertex_begins s d v is in absurd (let total = ap length e in omega (arith, total, begins.0, length-append v (darts_of vs)))
one_cut s (v ∷ vs) (w ∷ ws) (some d _ _ is later) (some f _ _ is_w later_w) e =
    let begins = vertex_begins s d v is in
    let begins_w = vertex_begins s f w is_w in
    let first : d ≡ f =
    sym begins.1 ∙ sym (get_or_append_left v (darts_of vs) 0 0 begins.0) ∙ ap (λ l. get_or l 0 0) e ∙ get_or_append_left w (darts_of ws) 0 0 begins_w.0 ∙ begins_w.1 in
    let same : v ≡ w = vertex_is_unique s f v w (subst (λ x. IsVertexFrom s x v) first is) is_w in
    let rest : darts_of vs ≡ darts_of ws = append_cancel_left w (darts_of vs) (darts_of ws) (ap (λ l. l ++ darts_of vs) (sym same) ∙ e) in
    ap (λ l. l ∷ vs) same ∙ ap (λ l. w ∷ l) (one_cut s vs ws later later_w rest)

-- the sizes are those of the meeting list
pub sized_list : (s : Structure) (darts sizes : List ℕ) → IsMeetingOrder s darts → AreSized s darts sizes → IsVertexList s darts sizes
sized_list s darts sizes o z =
    let same : z.vertices ≡ o.vertices = one_cut s z.vertices o.vertices z.are (AreVertices-list s o.vertices o.is_list) (sym z.darts_are ∙ o.order) in
    record { vertices = o.vertices; is_list = o.is_list; darts_are = o.order; sizes_are = z.sizes_are ∙ ap (map length) same }

-- the list with names is that of the canonical map
pub named_list : (m : RotationSystem) (darts names sizes named : List ℕ) → IsNumbered m darts names → IsVertexList (structure_of m) darts sizes → named ≡ map (slice_index names) darts
    → IsCanonicalList m named sizes
named_list m darts names sizes named n list is =
    let sigma : List ℕ = renamed_rotation names m.sigma in
    let canonical : RotationSystem = record { sigma = sigma; root = 0 } in
    let renamed : IsRenamed names m.sigma sigma = renamed_rotation-renamed names m.sigma (names_permute m darts names n) in
    let carries : CarriesTo (slice_index names) (structure_of m) (structure_of canonical) = names_carry m darts names sigma n renamed in
    record {
      canonical = canonical;
      is_canonical = renamed_is_canonical m darts names sigma n renamed;
      list = record {
        vertices = map (map (slice_index names)) list.vertices;
        is_list = meeting_list_carried (slice_index names) (structure_of m) (structure_of canonical) list.vertices carries n.is_map.structure list.is_list;
        darts_are = is ∙ ap (map (slice_index names)) list.darts_are ∙ sym (darts_of-map (slice_index names) list.vertices);
        sizes_are = list.sizes_are ∙ same_sizes list.vertices;
      };
    } where
      same_sizes : (vertices : List (List ℕ)) → map length vertices ≡ map length (map (map (slice_index names)) vertices)
      same_sizes [] = refl
      same_sizes (v ∷ vertices) = ap (λ n. n ∷ map length vertices) (sym (length-map v (slice_index names))) ∙ ap (λ l. length (map (slice_index names) v) ∷ l) (same_sizes vertices)

-- the list of a map whose parts were read one by one
pub listed_again : (m : RotationSystem) (sigma : List ℕ) (root : ℕ) (darts sizes : List ℕ) → sigma ≡ m.sigma → root ≡ m.root
    → IsVertexList (structure_of (record { sigma = sigma; root = root })) darts sizes → IsVertexList (structure_of m) darts sizes
listed_again m sigma root darts sizes is_sigma is_root list =
    subst (λ r. IsVertexList (structure_of (record { sigma = m.sigma; root = r })) darts sizes) is_root
    (subst (λ l. IsVertexList (structure_of (record { sigma = l; root = root })) darts sizes) is_sigma list)

-- the answer of the search for the vertices
pub list_answer : {E : Type 0} (r : Result VertexList E) (m : RotationSystem) (sigma : List ℕ) (root : ℕ) → sigma ≡ m.sigma → root ≡ m.root
    → IfOk r (λ list. IsMeetingOrder (structure_of (record { sigma = sigma; root = root })) list.darts.items)
    → IfOk r (λ list. AreSized (structure_of (record { sigma = sigma; root = root })) list.darts.items list.sizes.items) → IfOk r (λ list. IsVertexList (structure_of m) list.darts.items list.sizes.items)
list_answer (Ok list) m sigma root is_sigma is_root met sized =
    listed_again m sigma root list.darts.items list.sizes.items is_sigma is_root (sized_list (structure_of (record { sigma = sigma; root = root })) list.darts.items list.sizes.items met sized)
list_answer (Err e) m sigma root is_sigma is_root met sized = tt

-- what is written through a slice of a whole list is the list
pub written_whole : (len : ℕ) (new old : List ℕ) → length new ≡ len → take len (new ++ drop (length new) old) ≡ new
written_whole len new old size = take_at new (drop (length new) old) len size
