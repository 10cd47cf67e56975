-- The names by first mention renumber the map, and make it canonical.
use Rattle.std.proofs.Common.{◌≡◌, ℕ, ◌+◌, ◌*◌, ◌/◌, ◌%◌, ◌<◌, ◌≤◌, inl, inr, cond, eqb, List, [], ◌∷◌, ◌++◌, map, length, get_or, slice_index, refl, sym, ◌∙◌, ap, subst, arith, length-append}
use Rattle.std.proofs.lemmas.List.{get_or_append_left, append-nil, get_or-map, length-map}
use Rattle.std.proofs.lemmas.Bool.{cases_eq, cond-true, cond-false, eq-eqb, ne_eqb}
use Rattle.pm_perm.proofs.Contained.{is_at}
use Rattle.pm_perm.specs.Permutation.{IsPermutationBelow}
use Rattle.pm_perm.proofs.Permutations.{pigeonhole}
use Rattle.pm_map.specs.Structure.{Structure, CarriesTo}
use Rattle.pm_map.specs.Rotation.{RotationSystem, structure_of, twin, IsRootedMap}
use Rattle.pm_map.specs.Canonical.{first_mentions, IsCanonicalOf}
use Rattle.pm_map.specs.Meeting.{darts_of, Meets, at_root, onward, IsMeetingList, no_dart, complete}
use Rattle.pm_map.proofs.UniqueMeeting.{vertex_begins}
use Rattle.pm_map.proofs.CarriedMeeting.{AreBelow, darts_of-onward, darts_of-map, meeting_list_carried}
use Rattle.pm_map.proofs.CarriedStructure.{rooted_carried, rooted_is_plane}
use Rattle.pm_map.proofs.CanonicalNames.{HasEdge, each_edge_is_mentioned, first_mentions-map, carries_keeps_twins}
use Rattle.pm_canon.specs.MeetingOrder.{IsMeetingOrder}
use Rattle.pm_canon.specs.steps.Naming.{NamesMentions, IsRenamed}
use Rattle.pm_canon.proofs.MentionLemmas.{twin-twin, first_mentions-stands, twin_below}

-- the list of a map's darts, with their names
pub record IsNumbered (m : RotationSystem) (darts names : List ℕ) : Type 0 where
  pub is_map : IsRootedMap m
  pub order : IsMeetingOrder (structure_of m) darts
  pub size : length names ≡ length m.sigma
  pub named : NamesMentions darts names

-- a dart is the mention of its edge, or the twin of the mention
data IsNamed (mentions names : List ℕ) (d : ℕ) : Type 0 where
  as_mention : (k : ℕ) → k < length mentions → get_or mentions k 0 ≡ d → get_or names d 0 ≡ 2 * k → IsNamed mentions names d
  as_twin : (k : ℕ) → k < length mentions → twin (get_or mentions k 0) ≡ d → get_or names d 0 ≡ 2 * k + 1 → IsNamed mentions names d

IsNamed-dart : (m : RotationSystem) (darts names : List ℕ) → IsNumbered m darts names → (d : ℕ) → d < length m.sigma → IsNamed (first_mentions darts) names d
IsNamed-dart m darts names n d h = from (each_edge_is_mentioned darts d (twin-twin d) (n.order.all d h)) where
  from : HasEdge (first_mentions darts) d → IsNamed (first_mentions darts) names d
  from (inl s) =
      let within : s.0 < length (first_mentions darts) = s.1 in
      as_mention s.0 within (is_at _ _ s) (ap (λ e. get_or names e 0) (sym (is_at _ _ s)) ∙ n.named.mention s.0 within)
  from (inr s) =
      let within : s.0 < length (first_mentions darts) = s.1 in
      let here : twin (get_or (first_mentions darts) s.0 0) ≡ d = ap twin (is_at _ _ s) ∙ twin-twin d in
      as_twin s.0 within here (ap (λ e. get_or names e 0) (sym here) ∙ n.named.other s.0 within)

-- the dart of a name
dart_named : List ℕ → ℕ → ℕ
dart_named mentions name = cond (eqb (name % 2) 0) (get_or mentions (name / 2) 0) (twin (get_or mentions (name / 2) 0))

dart_named-below : (m : RotationSystem) (darts names : List ℕ) → IsNumbered m darts names → (name : ℕ) → name < 2 * length (first_mentions darts) → dart_named (first_mentions darts) name < length m.sigma
unfolding dart_named
dart_named-below m darts names n name h =
    let place : name / 2 < length (first_mentions darts) = omega arith in
    let stands = first_mentions-stands darts (name / 2) place in
    let at : get_or darts stands.0 0 ≡ get_or (first_mentions darts) (name / 2) 0 = is_at _ _ stands in
    let below : get_or (first_mentions darts) (name / 2) 0 < length m.sigma = subst (λ e. e < length m.sigma) at (n.order.once.stays stands.0 stands.1) in
    elim (cases_eq (name % 2) 0) [
      | inl e ↦ subst (λ e. e < length m.sigma) (sym (cond-true (eqb (name % 2) 0) _ _ (eq-eqb (name % 2) 0 e))) below
      | inr e ↦ subst (λ e. e < length m.sigma) (sym (cond-false (eqb (name % 2) 0) _ _ (ne_eqb (name % 2) 0 e))) (twin_below (length m.sigma) _ n.is_map.even below)
    ]

dart_named-name : (m : RotationSystem) (darts names : List ℕ) → IsNumbered m darts names → (name : ℕ) → name < 2 * length (first_mentions darts) → get_or names (dart_named (first_mentions darts) name) 0 ≡ name
unfolding dart_named
dart_named-name m darts names n name h =
    let place : name / 2 < length (first_mentions darts) = omega arith in
    elim (cases_eq (name % 2) 0) [
      | inl e ↦ ap (λ d. get_or names d 0) (cond-true (eqb (name % 2) 0) _ _ (eq-eqb (name % 2) 0 e)) ∙ n.named.mention (name / 2) place ∙ (let whole : 2 * (name / 2) ≡ name = omega arith in whole)
      | inr e ↦ ap (λ d. get_or names d 0) (cond-false (eqb (name % 2) 0) _ _ (ne_eqb (name % 2) 0 e)) ∙ n.named.other (name / 2) place ∙ (let whole : 2 * (name / 2) + 1 ≡ name = omega (arith, e) in whole)
    ]

-- there are no more mentions than edges
mentions_fit : (m : RotationSystem) (darts names : List ℕ) → IsNumbered m darts names → 2 * length (first_mentions darts) ≤ length m.sigma
mentions_fit m darts names n =
    pigeonhole (dart_named (first_mentions darts)) (2 * length (first_mentions darts)) (length m.sigma) (dart_named-below m darts names n)
    (λ j k hj hk same. sym (dart_named-name m darts names n j hj) ∙ ap (λ d. get_or names d 0) same ∙ dart_named-name m darts names n k hk)

name_stays : (m : RotationSystem) (darts names : List ℕ) → IsNumbered m darts names → (d : ℕ) → IsNamed (first_mentions darts) names d → get_or names d 0 < length m.sigma
name_stays m darts names n d (as_mention k h here is) = omega (arith, mentions_fit m darts names n)
name_stays m darts names n d (as_twin k h here is) = omega (arith, mentions_fit m darts names n)

same_dart : (mentions names : List ℕ) (i j : ℕ) → IsNamed mentions names i → IsNamed mentions names j → get_or names i 0 ≡ get_or names j 0 → i ≡ j
same_dart mentions names i j (as_mention k h here is) (as_mention l h' here' is') same =
    let place : k ≡ l = omega arith in sym here ∙ ap (λ e. get_or mentions e 0) place ∙ here'
same_dart mentions names i j (as_mention k h here is) (as_twin l h' here' is') same = absurd (omega arith)
same_dart mentions names i j (as_twin k h here is) (as_mention l h' here' is') same = absurd (omega arith)
same_dart mentions names i j (as_twin k h here is) (as_twin l h' here' is') same =
    let place : k ≡ l = omega arith in sym here ∙ ap (λ e. twin (get_or mentions e 0)) place ∙ here'

-- the names are a renumbering
pub names_permute : (m : RotationSystem) (darts names : List ℕ) → IsNumbered m darts names → IsPermutationBelow (length m.sigma) (slice_index names)
names_permute m darts names n = record {
  stays = λ d h. name_stays m darts names n d (IsNamed-dart m darts names n d h);
  injective = λ i j hi hj same. same_dart (first_mentions darts) names i j (IsNamed-dart m darts names n i hi) (IsNamed-dart m darts names n j hj) same;
}

twin_name : (m : RotationSystem) (darts names : List ℕ) → IsNumbered m darts names → (d : ℕ) → IsNamed (first_mentions darts) names d → get_or names (twin d) 0 ≡ twin (get_or names d 0)
twin_name m darts names n d (as_mention k h here is) =
    let other : get_or names (twin d) 0 ≡ 2 * k + 1 = ap (λ e. get_or names (twin e) 0) (sym here) ∙ n.named.other k h in
    omega arith
twin_name m darts names n d (as_twin k h here is) =
    let back : twin d ≡ get_or (first_mentions darts) k 0 = ap twin (sym here) ∙ twin-twin (get_or (first_mentions darts) k 0) in
    let mention : get_or names (twin d) 0 ≡ 2 * k = ap (λ e. get_or names e 0) back ∙ n.named.mention k h in
    omega arith

-- the root is met first
meets_first : (s : Structure) (vertices : List (List ℕ)) → Meets s vertices → (0 < length (darts_of vertices)) × (get_or (darts_of vertices) 0 0 ≡ s.root)
meets_first s vertices (at_root vertex is) =
    let begins = vertex_begins s s.root vertex is in
    (subst (λ l. 0 < length l) (sym (append-nil vertex)) begins.0, ap (λ l. get_or l 0 0) (append-nil vertex) ∙ begins.1)
meets_first s vertices (onward before d vertex met unmet is) =
    let first = meets_first s before met in
    let some : 0 < length (darts_of before) = first.0 in
    let order : darts_of (before ++ vertex ∷ []) ≡ darts_of before ++ vertex = darts_of-onward before vertex in
    (omega (arith, ap length order, length-append (darts_of before) vertex), ap (λ l. get_or l 0 0) order ∙ get_or_append_left (darts_of before) vertex 0 0 some ∙ first.1)

list_first : (s : Structure) (vertices : List (List ℕ)) → 0 < s.darts → IsMeetingList s vertices → (0 < length (darts_of vertices)) × (get_or (darts_of vertices) 0 0 ≡ s.root)
list_first s vertices some (no_dart none) = absurd (omega arith)
list_first s vertices some (complete vs _ met twins) = meets_first s vs met

mention_first : (darts : List ℕ) → 0 < length darts → (0 < length (first_mentions darts)) × (get_or (first_mentions darts) 0 0 ≡ get_or darts 0 0)
mention_first [] h = absurd (omega arith)
mention_first (d ∷ darts) h = (omega arith, refl)

name_root : (m : RotationSystem) (darts names : List ℕ) → IsNumbered m darts names → 0 < length m.sigma → get_or names m.root 0 ≡ 0
name_root m darts names n some =
    let list = list_first (structure_of m) n.order.vertices some n.order.is_list in
    let first : (0 < length darts) × (get_or darts 0 0 ≡ m.root) = subst (λ l. (0 < length l) × (get_or l 0 0 ≡ m.root)) (sym n.order.order) list in
    let mention = mention_first darts first.0 in
    ap (λ e. get_or names e 0) (sym first.1 ∙ sym mention.1) ∙ n.named.mention 0 mention.0

-- the names carry the map to the renamed one
pub names_carry : (m : RotationSystem) (darts names sigma : List ℕ) → IsNumbered m darts names → IsRenamed names m.sigma sigma → CarriesTo (slice_index names) (structure_of m) (structure_of (record { sigma = sigma; root = 0 }))
names_carry m darts names sigma n renamed = record {
  darts = sym renamed.size;
  renumbers = names_permute m darts names n;
  next = λ d h. sym (renamed.carried d h);
  twin = λ d h. twin_name m darts names n d (IsNamed-dart m darts names n d h);
  root = λ some. name_root m darts names n some;
}

pub renamed_is_map : (m : RotationSystem) (darts names sigma : List ℕ) → IsNumbered m darts names → IsRenamed names m.sigma sigma → IsRootedMap (record { sigma = sigma; root = 0 })
renamed_is_map m darts names sigma n renamed =
    rooted_carried (slice_index names) (structure_of m) (record { sigma = sigma; root = 0 }) (rooted_is_plane m n.is_map) n.is_map.even n.is_map.few (names_carry m darts names sigma n renamed) (λ _. refl)

pub renamed_is_canonical : (m : RotationSystem) (darts names sigma : List ℕ) → IsNumbered m darts names → IsRenamed names m.sigma sigma → IsCanonicalOf m (record { sigma = sigma; root = 0 })
renamed_is_canonical m darts names sigma n renamed =
    let carries = names_carry m darts names sigma n renamed in
    let new : RotationSystem = record { sigma = sigma; root = 0 } in
    let below : AreBelow (length m.sigma) darts = record { below = n.order.once.stays } in
    let mentions : first_mentions (map (slice_index names) darts) ≡ map (slice_index names) (first_mentions darts) =
    first_mentions-map (length m.sigma) (slice_index names) darts (carries_keeps_twins (slice_index names) m new n.is_map.structure carries) below in
    let order : darts_of (map (map (slice_index names)) n.order.vertices) ≡ map (slice_index names) darts =
    darts_of-map (slice_index names) n.order.vertices ∙ ap (map (slice_index names)) (sym n.order.order) in
    let all : first_mentions (darts_of (map (map (slice_index names)) n.order.vertices)) ≡ map (slice_index names) (first_mentions darts) = ap first_mentions order ∙ mentions in
    let named : (k : ℕ) → k < length (map (slice_index names) (first_mentions darts)) → get_or (map (slice_index names) (first_mentions darts)) k 0 ≡ 2 * k = λ k h.
    (let within : k < length (first_mentions darts) = omega (arith, length-map (first_mentions darts) (slice_index names)) in
    get_or-map (slice_index names) (first_mentions darts) k 0 0 within ∙ n.named.mention k within) in
    record {
      is_canonical = record {
        root = refl;
        vertices = map (map (slice_index names)) n.order.vertices;
        met = meeting_list_carried (slice_index names) (structure_of m) (structure_of new) n.order.vertices carries n.is_map.structure n.order.is_list;
        named = subst (λ l. (k : ℕ) → k < length l → get_or l k 0 ≡ 2 * k) (sym all) named;
      };
      is_same = (slice_index names, carries);
    }

-- the numbering of a map whose parts were read one by one
pub IsNumbered-from : (m : RotationSystem) (sigma : List ℕ) (root : ℕ) (listed darts kept names : List ℕ) → IsRootedMap m → sigma ≡ m.sigma → root ≡ m.root
    → IsMeetingOrder (structure_of (record { sigma = sigma; root = root })) listed → darts ≡ listed
    → length kept ≡ length sigma → NamesMentions darts kept → names ≡ kept → IsNumbered m darts names
IsNumbered-from m sigma root listed darts kept names is_map is_sigma is_root order is_darts size named is_names = record {
  is_map = is_map;
  order = subst (λ l. IsMeetingOrder (structure_of m) l) (sym is_darts)
      (subst (λ r. IsMeetingOrder (structure_of (record { sigma = m.sigma; root = r })) listed) is_root
      (subst (λ l. IsMeetingOrder (structure_of (record { sigma = l; root = root })) listed) is_sigma order));
  size = ap length is_names ∙ size ∙ ap length is_sigma;
  named = subst (λ l. NamesMentions darts l) (sym is_names) named;
}
