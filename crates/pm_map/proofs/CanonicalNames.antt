-- Two canonical maps that are the same are equal: the names follow from the order in which the edges are met.
use Rattle.std.proofs.Common.{◌≡◌, ℕ, zero, suc, ◌*◌, ◌<◌, true, false, ◌||◌, ◌==◌, cond, List, [], ◌∷◌, map, length, slice_index, refl, sym, ap, ap₂, ◌∙◌, subst, ◌⊎◌, inl, inr, ext_get_or, eq-eqb, ne_eqb, arith, Contains}
use Rattle.std.specs.List.{list_any}
use Rattle.std.proofs.lemmas.Bool.{cases_Bool, cases_eq}
use Rattle.std.proofs.lemmas.List.{length-map, get_or-map}
use Rattle.pm_perm.proofs.Contained.{contains_cases, contains_first, contains_later, contains_none, is_at}
use Rattle.pm_perm.specs.Permutation.{IsPermutationBelow}
use Rattle.pm_map.specs.Structure.{Structure, IsStructure, CarriesTo, Same}
use Rattle.pm_map.specs.Meeting.{darts_of, IsMeetingList, no_dart, complete}
use Rattle.pm_map.specs.Rotation.{RotationSystem, structure_of, twin, IsRootedMap}
use Rattle.pm_map.specs.Canonical.{first_mentions_after, first_mentions, IsCanonical, IsCanonicalOf}
use Rattle.pm_map.proofs.UniqueMeeting.{meeting_list_is_unique}
use Rattle.pm_map.proofs.CarriedMeeting.{AreBelow, meets_below, darts_of-map, meeting_list_carried}
use Rattle.pm_map.proofs.WholeMeeting.{stands_from_test, meeting_list_is_whole}

-- the meeting list's darts are darts of the structure
pub meeting_list_below : (s : Structure) (vertices : List (List ℕ)) → IsStructure s → IsMeetingList s vertices → AreBelow s.darts (darts_of vertices)
meeting_list_below s vertices structure (no_dart none) = record { below = λ k h. absurd (omega arith) }
meeting_list_below s vertices structure (complete vs some met twins) = meets_below s vs structure some met

-- a dart that is met after its twin is no first mention
pub first_mentions_after-seen : (before : List ℕ) (d : ℕ) (darts : List ℕ) → list_any (λ e. e == twin d) before ≡ true → first_mentions_after before (d ∷ darts) ≡ first_mentions_after (d ∷ before) darts
first_mentions_after-seen before d darts seen = ap (λ b. cond b (first_mentions_after (d ∷ before) darts) (d ∷ first_mentions_after (d ∷ before) darts)) seen

-- and one that is met before its twin is
pub first_mentions_after-new : (before : List ℕ) (d : ℕ) (darts : List ℕ) → list_any (λ e. e == twin d) before ≡ false → first_mentions_after before (d ∷ darts) ≡ d ∷ first_mentions_after (d ∷ before) darts
first_mentions_after-new before d darts new = ap (λ b. cond b (first_mentions_after (d ∷ before) darts) (d ∷ first_mentions_after (d ∷ before) darts)) new

-- a renumbering below the bound that carries twins to twins
pub record KeepsTwins (bound : ℕ) (f : ℕ → ℕ) : Type 0 where
  pub renumbers : IsPermutationBelow bound f
  pub twin_stays : (d : ℕ) → d < bound → twin d < bound
  pub twins : (d : ℕ) → d < bound → f (twin d) ≡ twin (f d)

same_test : (bound : ℕ) (f : ℕ → ℕ) (x y : ℕ) → IsPermutationBelow bound f → x < bound → y < bound → (f x == f y) ≡ (x == y)
same_test bound f x y renumbers hx hy =
    elim (cases_eq x y) [
      | inl same ↦ eq-eqb (f x) (f y) (ap f same) ∙ sym (eq-eqb x y same)
      | inr differ ↦ ne_eqb (f x) (f y) (λ e. differ (renumbers.injective x y hx hy e)) ∙ sym (ne_eqb x y differ)
    ]

AreBelow-head : (bound x : ℕ) (xs : List ℕ) → AreBelow bound (x ∷ xs) → x < bound
AreBelow-head bound x xs all = all.below 0 (omega arith)

AreBelow-tail : (bound x : ℕ) (xs : List ℕ) → AreBelow bound (x ∷ xs) → AreBelow bound xs
AreBelow-tail bound x xs all = record { below = λ k h. all.below (suc k) (omega arith) }

AreBelow-cons : (bound x : ℕ) (xs : List ℕ) → x < bound → AreBelow bound xs → AreBelow bound (x ∷ xs)
AreBelow-cons bound x xs h all = record { below = entry_below } where
  entry_below : (k : ℕ) → k < length (x ∷ xs) → slice_index (x ∷ xs) k < bound
  entry_below zero within = h
  entry_below (suc k) within = all.below k (omega arith)

test-map : (bound : ℕ) (f : ℕ → ℕ) (y : ℕ) (xs : List ℕ) → IsPermutationBelow bound f → y < bound → AreBelow bound xs → list_any (λ e. e == f y) (map f xs) ≡ list_any (λ e. e == y) xs
test-map bound f y [] renumbers h all = refl
test-map bound f y (x ∷ xs) renumbers h all =
    ap₂ (λ p q. p || q) (same_test bound f x y renumbers (AreBelow-head bound x xs all) h) (test-map bound f y xs renumbers h (AreBelow-tail bound x xs all))

-- such a renumbering carries first mentions to first mentions
pub first_mentions_after-map : (bound : ℕ) (f : ℕ → ℕ) (before darts : List ℕ) → KeepsTwins bound f → AreBelow bound before → AreBelow bound darts → first_mentions_after (map f before) (map f darts) ≡ map f (first_mentions_after before darts)
first_mentions_after-map bound f before [] keeps hb hd = refl
first_mentions_after-map bound f before (d ∷ darts) keeps hb hd =
    let h : d < bound = AreBelow-head bound d darts hd in
    let rest : first_mentions_after (f d ∷ map f before) (map f darts) ≡ map f (first_mentions_after (d ∷ before) darts) =
    first_mentions_after-map bound f (d ∷ before) darts keeps (AreBelow-cons bound d before h hb) (AreBelow-tail bound d darts hd) in
    let test : list_any (λ e. e == twin (f d)) (map f before) ≡ list_any (λ e. e == twin d) before =
    subst (λ t. list_any (λ e. e == t) (map f before) ≡ list_any (λ e. e == twin d) before) (keeps.twins d h)
    (test-map bound f (twin d) before keeps.renumbers (keeps.twin_stays d h) hb) in
    elim (cases_Bool (list_any (λ e. e == twin d) before)) [
      | inl seen ↦
          first_mentions_after-seen (map f before) (f d) (map f darts) (test ∙ seen) ∙ rest
          ∙ sym (ap (map f) (first_mentions_after-seen before d darts seen))
      | inr new ↦
          first_mentions_after-new (map f before) (f d) (map f darts) (test ∙ new) ∙ ap (λ x. f d ∷ x) rest
          ∙ sym (ap (map f) (first_mentions_after-new before d darts new))
    ]

pub first_mentions-map : (bound : ℕ) (f : ℕ → ℕ) (darts : List ℕ) → KeepsTwins bound f → AreBelow bound darts → first_mentions (map f darts) ≡ map f (first_mentions darts)
first_mentions-map bound f darts keeps all = first_mentions_after-map bound f [] darts keeps (record { below = λ k h. absurd (omega arith) }) all

-- the dart or its twin stands in the list
abbrev pub HasEdge : List ℕ → ℕ → Type 0
HasEdge darts d = Contains darts d ⊎ Contains darts (twin d)

HasEdge-cons : (x : ℕ) (xs : List ℕ) (d : ℕ) → HasEdge xs d → HasEdge (x ∷ xs) d
HasEdge-cons x xs d has = elim has [ inl dart ↦ inl (contains_later x xs d dart) | inr other ↦ inr (contains_later x xs (twin d) other) ]

mention_here : (before : List ℕ) (x : ℕ) (darts : List ℕ) (d : ℕ) → x ≡ d → HasEdge (first_mentions_after before (x ∷ darts)) d ⊎ HasEdge before d
mention_here before x darts d is =
    elim (cases_Bool (list_any (λ e. e == twin x) before)) [
      | inl seen ↦ inr (inr (subst (λ y. Contains before (twin y)) is (stands_from_test before (twin x) seen)))
      | inr new ↦ inl (inl (subst (λ ms. Contains ms d) (sym (first_mentions_after-new before x darts new)) (contains_first x d (first_mentions_after (x ∷ before) darts) is)))
    ]

mention_of_twin : (before : List ℕ) (x : ℕ) (darts : List ℕ) (d : ℕ) → x ≡ twin d → twin (twin d) ≡ d → HasEdge (first_mentions_after before (x ∷ darts)) d ⊎ HasEdge before d
mention_of_twin before x darts d is back =
    elim (cases_Bool (list_any (λ e. e == twin x) before)) [
      | inl seen ↦ inr (inl (subst (Contains before) (ap twin is ∙ back) (stands_from_test before (twin x) seen)))
      | inr new ↦ inl (inr (subst (λ ms. Contains ms (twin d)) (sym (first_mentions_after-new before x darts new)) (contains_first x (twin d) (first_mentions_after (x ∷ before) darts) is)))
    ]

mention_later : (before : List ℕ) (x : ℕ) (darts : List ℕ) (d : ℕ) → HasEdge (first_mentions_after (x ∷ before) darts) d → HasEdge (first_mentions_after before (x ∷ darts)) d
mention_later before x darts d has =
    elim (cases_Bool (list_any (λ e. e == twin x) before)) [
      | inl seen ↦ subst (λ ms. HasEdge ms d) (sym (first_mentions_after-seen before x darts seen)) has
      | inr new ↦ subst (λ ms. HasEdge ms d) (sym (first_mentions_after-new before x darts new)) (HasEdge-cons x (first_mentions_after (x ∷ before) darts) d has)
    ]

mention_before : (before : List ℕ) (x : ℕ) (darts : List ℕ) (d : ℕ) → twin (twin d) ≡ d → HasEdge (x ∷ before) d → HasEdge (first_mentions_after before (x ∷ darts)) d ⊎ HasEdge before d
mention_before before x darts d back has =
    elim has [
      | inl dart ↦
          elim (contains_cases x before d dart) [
            | inl here ↦ mention_here before x darts d here
            | inr earlier ↦ inr (inl earlier)
          ]
      | inr other ↦
          elim (contains_cases x before (twin d) other) [
            | inl here ↦ mention_of_twin before x darts d here back
            | inr earlier ↦ inr (inr earlier)
          ]
    ]

mention_after : (before darts : List ℕ) (d : ℕ) → twin (twin d) ≡ d → Contains darts d → HasEdge (first_mentions_after before darts) d ⊎ HasEdge before d
mention_after before [] d back stands = absurd (contains_none d stands)
mention_after before (x ∷ darts) d back stands =
    elim (contains_cases x darts d stands) [
      | inl here ↦ mention_here before x darts d here
      | inr later ↦
          elim (mention_after (x ∷ before) darts d back later) [
            | inl mentioned ↦ inl (mention_later before x darts d mentioned)
            | inr earlier ↦ mention_before before x darts d back earlier
          ]
    ]

-- the edge of each dart that is met is mentioned
pub each_edge_is_mentioned : (darts : List ℕ) (d : ℕ) → twin (twin d) ≡ d → Contains darts d → HasEdge (first_mentions darts) d
each_edge_is_mentioned darts d back stands =
    elim (mention_after [] darts d back stands) [
      | inl mentioned ↦ mentioned
      | inr before ↦ elim before [ inl dart ↦ absurd (contains_none d dart) | inr other ↦ absurd (contains_none (twin d) other) ]
    ]

-- what carries one map to another keeps twins
pub carries_keeps_twins : (f : ℕ → ℕ) (m n : RotationSystem) → IsStructure (structure_of m) → CarriesTo f (structure_of m) (structure_of n) → KeepsTwins (length m.sigma) f
carries_keeps_twins f m n structure carries = record { renumbers = carries.renumbers; twin_stays = structure.twin_stays; twins = carries.twin }

-- what carries one canonical map to another leaves each first mention as it is
pub mention_is_fixed : (f : ℕ → ℕ) (m n : RotationSystem) → IsStructure (structure_of m) → CarriesTo f (structure_of m) (structure_of n) → (cm : IsCanonical m) → IsCanonical n → (d : ℕ) → Contains (first_mentions (darts_of cm.vertices)) d → f d ≡ d
mention_is_fixed f m n structure carries cm cn d stands =
    let met : cn.vertices ≡ map (map f) cm.vertices =
    meeting_list_is_unique (structure_of n) cn.vertices (map (map f) cm.vertices) cn.met (meeting_list_carried f (structure_of m) (structure_of n) cm.vertices carries structure cm.met) in
    let mentions : first_mentions (darts_of cn.vertices) ≡ map f (first_mentions (darts_of cm.vertices)) =
    ap (λ vs. first_mentions (darts_of vs)) met ∙ ap first_mentions (darts_of-map f cm.vertices)
    ∙ first_mentions-map (length m.sigma) f (darts_of cm.vertices) (carries_keeps_twins f m n structure carries) (meeting_list_below (structure_of m) cm.vertices structure cm.met) in
    let within : stands.0 < length (first_mentions (darts_of cm.vertices)) = stands.1 in
    let size : length (first_mentions (darts_of cn.vertices)) ≡ length (first_mentions (darts_of cm.vertices)) =
    ap length mentions ∙ length-map (first_mentions (darts_of cm.vertices)) f in
    let there : slice_index (first_mentions (darts_of cn.vertices)) stands.0 ≡ 2 * stands.0 = cn.named stands.0 (subst (λ k. stands.0 < k) (sym size) within) in
    let here : slice_index (first_mentions (darts_of cm.vertices)) stands.0 ≡ 2 * stands.0 = cm.named stands.0 within in
    let moved : slice_index (first_mentions (darts_of cn.vertices)) stands.0 ≡ f (slice_index (first_mentions (darts_of cm.vertices)) stands.0) =
    ap (λ ms. slice_index ms stands.0) mentions ∙ get_or-map f (first_mentions (darts_of cm.vertices)) stands.0 0 0 within in
    ap f (sym (is_at _ _ stands)) ∙ sym moved ∙ there ∙ sym here ∙ (is_at _ _ stands)

-- and so each dart
pub dart_is_fixed : (f : ℕ → ℕ) (m n : RotationSystem) → IsRootedMap m → CarriesTo f (structure_of m) (structure_of n) → IsCanonical m → IsCanonical n → (d : ℕ) → d < length m.sigma → f d ≡ d
dart_is_fixed f m n valid carries cm cn d h =
    let structure : IsStructure (structure_of m) = valid.structure in
    let back : twin (twin d) ≡ d = structure.twin_back d h in
    let stands : Contains (darts_of cm.vertices) d = meeting_list_is_whole (structure_of m) cm.vertices valid.connected cm.met d h in
    elim (each_edge_is_mentioned (darts_of cm.vertices) d back stands) [
      | inl dart ↦ mention_is_fixed f m n structure carries cm cn d dart
      | inr other ↦
          let fixed : f (twin d) ≡ twin d = mention_is_fixed f m n structure carries cm cn (twin d) other in
          let twins : twin (f d) ≡ twin d = sym (carries.twin d h) ∙ fixed in
          sym (structure.twin_back (f d) (carries.renumbers.stays d h)) ∙ ap twin twins ∙ back
    ]

-- two canonical maps that are the same are equal
pub same_canonical_maps_are_equal : (m n : RotationSystem) → IsRootedMap m → IsCanonical m → IsCanonical n → Same (structure_of m) (structure_of n) → m ≡ n
same_canonical_maps_are_equal m n valid cm cn same =
    let f : ℕ → ℕ = same.0 in
    let carries : CarriesTo f (structure_of m) (structure_of n) = same.1 in
    let structure : IsStructure (structure_of m) = valid.structure in
    let fixed : (d : ℕ) → d < length m.sigma → f d ≡ d = dart_is_fixed f m n valid carries cm cn in
    let sigma : m.sigma ≡ n.sigma = ext_get_or 0 m.sigma n.sigma carries.darts (λ d h.
    sym (fixed (slice_index m.sigma d) (structure.rotation.stays d h)) ∙ carries.next d h ∙ ap (slice_index n.sigma) (fixed d h)) in
    let root : m.root ≡ n.root = cm.root ∙ sym cn.root in
    ap₂ (λ (s : List ℕ) (r : ℕ). record { sigma = s; root = r }) sigma root

-- a renumbering that names each first mention as the canonical map does makes the canonical map
pub canonical_from_mentions : (f : ℕ → ℕ) (m n : RotationSystem) (vertices : List (List ℕ)) → IsStructure (structure_of m) → CarriesTo f (structure_of m) (structure_of n) → n.root ≡ 0 → IsMeetingList (structure_of m) vertices → ((k : ℕ) → k < length (first_mentions (darts_of vertices)) → f (slice_index (first_mentions (darts_of vertices)) k) ≡ 2 * k) → IsCanonicalOf m n
canonical_from_mentions f m n vertices structure carries root met named =
    let mentions : first_mentions (darts_of (map (map f) vertices)) ≡ map f (first_mentions (darts_of vertices)) =
    ap first_mentions (darts_of-map f vertices)
    ∙ first_mentions-map (length m.sigma) f (darts_of vertices) (carries_keeps_twins f m n structure carries) (meeting_list_below (structure_of m) vertices structure met) in
    let size : length (first_mentions (darts_of (map (map f) vertices))) ≡ length (first_mentions (darts_of vertices)) =
    ap length mentions ∙ length-map (first_mentions (darts_of vertices)) f in
    record {
      is_canonical = record {
        root = root;
        vertices = map (map f) vertices;
        met = meeting_list_carried f (structure_of m) (structure_of n) vertices carries structure met;
        named = λ k h.
            let within : k < length (first_mentions (darts_of vertices)) = subst (λ l. k < l) size h in
            ap (λ ms. slice_index ms k) mentions ∙ get_or-map f (first_mentions (darts_of vertices)) k 0 0 within ∙ named k within;
      };
      is_same = (f, carries);
    }
