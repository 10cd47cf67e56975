-- A rooted map has a meeting list and a canonical map: the steps of the walk, of the meeting and of the naming, made until
-- nothing is left to do.
use Rattle.std.proofs.Common.{◌≡◌, ℕ, zero, suc, ◌+◌, ◌%◌, ◌<◌, ◌≤◌, inl, inr, Bool, true, false, List, [], ◌∷◌, ◌++◌, map, length, get_or, set, take, replicate, slice_index, refl, sym, ◌∙◌, ap, subst, arith, length-set, Contains}
use Rattle.std.specs.List.{range_with_len}
use Rattle.std.proofs.Math.Seq.{take-suc}
use Rattle.std.proofs.lemmas.List.{length_push, length-replicate, take_all}
use Rattle.std.proofs.lemmas.List.FromFn.{get_or-map-range_with_len, length-map-range_with_len}
use Rattle.std.proofs.lemmas.Bool.{cases_lt, cases_eq, cases_Bool, false≢true}
use Rattle.pm_perm.proofs.Contained.{contains_none}
use Rattle.pm_perm.specs.Permutation.{IsPermutationBelow}
use Rattle.pm_perm.proofs.InverseLemmas.{place_of, place_of-of_value}
use Rattle.pm_map.specs.Structure.{Structure, IsStructure, IsConnected, Same}
use Rattle.pm_map.specs.Rotation.{RotationSystem, structure_of, twin}
use Rattle.pm_map.proofs.CarriedStructure.{rooted_carried}
use Rattle.pm_map.proofs.SameMaps.{same_transitive}
use Rattle.pm_map.proofs.StructureRotations.{each_structure_is_a_rotation}
use Rattle.pm_map.proofs.TwinLemmas.{even_darts}
use Rattle.pm_canon.specs.MeetingOrder.{HasEachOnce, IsMeetingOrder}
use Rattle.pm_canon.specs.steps.Kept.{IsKept, AppendsVertex, IsMeeting}
use Rattle.pm_canon.specs.steps.Naming.{IsNaming, IsRenamed}
use Rattle.pm_canon.specs.Laws.{EachMapHasCanonical, EachStructureHasCanonical, EachMapHasMeetingList}
use Rattle.pm_canon.proofs.KeptLemmas.{HasEachOnce-length, HasEachOnce-fresh}
use Rattle.pm_canon.proofs.WalkLemmas.{IsWalking, IsWalking-begins, IsWalking-step, IsWalking-below, IsWalking-once, IsWalking-kept, IsWalking-appended}
use Rattle.pm_canon.proofs.MeetingLemmas.{MarksDarts-none, IsKept-none, IsMeeting-root, IsMeeting-stands, IsMeeting-onward, IsMeeting-all, IsMeetingOrder-none}
use Rattle.pm_canon.proofs.MentionLemmas.{twin_below}
use Rattle.pm_canon.proofs.NamingLemmas.{IsNaming-none, IsNaming-seen, IsNaming-new}
use Rattle.pm_canon.proofs.CanonLemmas.{IsNumbered, names_permute, renamed_is_canonical}

-- the list with the vertex of this dart behind it, and its marks
record HasVertex (s : Structure) (start : ℕ) (old : List ℕ) : Type 0 where
  marks : List Bool
  darts : List ℕ
  size : length marks ≡ s.darts
  appended : AppendsVertex s start old darts
  kept : IsKept s marks darts

-- a walk comes back, since it has no more darts than there are
walk_ends : (s : Structure) (old : List ℕ) (start : ℕ) → IsPermutationBelow s.darts s.next
    → (left : ℕ) (marks : List Bool) (darts : List ℕ) (dart : ℕ) → s.darts < length darts + left → length marks ≡ s.darts
    → IsWalking s old start marks darts dart → HasVertex s start old
walk_ends s old start turns zero marks darts dart more size w =
    let few : length darts ≤ s.darts = HasEachOnce-length s.darts darts (IsWalking-once s old start marks darts dart w) in
    absurd (omega arith)
walk_ends s old start turns (suc left) marks darts dart more size w =
    let below : dart < s.darts = IsWalking-below s old start marks darts dart turns w in
    elim (cases_eq dart start) [
      | inl back ↦
          let ended : IsWalking s old start marks darts start = subst (IsWalking s old start marks darts) back w in
          record {
            marks = marks;
            darts = darts;
            size = size;
            appended = IsWalking-appended s old start marks darts ended;
            kept = IsWalking-kept s old start marks darts ended;
          }
      | inr further ↦
          walk_ends s old start turns left (set marks dart true) (darts ++ dart ∷ []) (s.next dart) (omega (arith, length_push darts dart))
          (length-set marks dart true ∙ size) (IsWalking-step s old start marks darts dart turns w below (omega arith) further)
    ]

-- the vertex of a dart that doesn't stand in the list
vertex_exists : (s : Structure) (marks : List Bool) (old : List ℕ) (start : ℕ) → IsPermutationBelow s.darts s.next → length marks ≡ s.darts
    → IsKept s marks old → start < s.darts → (Contains old start → ⊥) → HasVertex s start old
vertex_exists s marks old start turns size kept below fresh =
    walk_ends s old start turns s.darts (set marks start true) (old ++ start ∷ []) (s.next start) (omega (arith, length_push old start))
    (length-set marks start true ∙ size) (IsWalking-begins s old start marks kept below (omega arith) fresh)

-- some list of darts is in the order of the meeting list
abbrev HasMeetingOrder : Structure → Type 0
HasMeetingOrder s = (darts : List ℕ) × IsMeetingOrder s darts

-- all is met, since a list of darts has no more places than there are darts
meeting_ends : (s : Structure) → IsStructure s → IsConnected s → 0 < s.darts → (left : ℕ) (marks : List Bool) (darts : List ℕ) (place : ℕ)
    → s.darts < place + left → length marks ≡ s.darts → IsMeeting s marks darts place → HasMeetingOrder s
meeting_ends s structure connected some zero marks darts place more size m =
    let few : length darts ≤ s.darts = HasEachOnce-length s.darts darts m.kept.once in
    let within : place ≤ length darts = m.within in
    absurd (omega arith)
meeting_ends s structure connected some (suc left) marks darts place more size m =
    elim (cases_lt place (length darts)) [
      | inr ends ↦ (darts, IsMeeting-all s marks darts place connected some m ends)
      | inl within ↦
          let other : ℕ = s.twin (get_or darts place 0) in
          let below : other < s.darts = structure.twin_stays (get_or darts place 0) (m.kept.once.stays place within) in
          elim (cases_Bool (get_or marks other false)) [
            | inl marked ↦
                meeting_ends s structure connected some left marks darts (place + 1) (omega arith) size
                (IsMeeting-stands s marks darts place m within (m.kept.marking.stands other marked))
            | inr unmarked ↦
                let fresh : Contains darts other → ⊥ = λ stands. false≢true (sym unmarked ∙ m.kept.marking.marked other stands) in
                let v : HasVertex s other darts = vertex_exists s marks darts other structure.rotation size m.kept below fresh in
                meeting_ends s structure connected some left v.marks v.darts (place + 1) (omega arith) v.size
                (IsMeeting-onward s marks v.marks darts v.darts place m within fresh v.appended v.kept)
          ]
    ]

-- a connected structure has a meeting list
meeting_order_exists : (s : Structure) → IsStructure s → IsConnected s → HasMeetingOrder s
meeting_order_exists s structure connected =
    elim (cases_lt 0 s.darts) [
      | inl some ↦
          let v : HasVertex s s.root [] =
          vertex_exists s (replicate s.darts false) [] s.root structure.rotation (length-replicate s.darts false) (IsKept-none s s.darts)
          (structure.root_stays some) (contains_none s.root) in
          meeting_ends s structure connected some (suc s.darts) v.marks v.darts 0 (omega arith) v.size
          (IsMeeting-root s v.marks [] v.darts refl v.appended v.kept)
      | inr none ↦ ([], IsMeetingOrder-none s (omega arith))
    ]

-- a rooted map has a meeting list
pub meeting_list_exists : EachMapHasMeetingList
meeting_list_exists map valid =
    let met : HasMeetingOrder (structure_of map) = meeting_order_exists (structure_of map) valid.structure valid.connected in
    (met.1.vertices, met.1.is_list)

-- names for the darts so far
record HasNaming (bound : ℕ) (darts : List ℕ) : Type 0 where
  seen : List Bool
  names : List ℕ
  name : ℕ
  seen_size : length seen ≡ bound
  names_size : length names ≡ bound
  naming : IsNaming darts seen names name

-- names with one dart more
naming_step : (bound : ℕ) (darts : List ℕ) (d : ℕ) → bound % 2 ≡ 0 → d < bound → (Contains darts d → ⊥)
    → HasNaming bound darts → HasNaming bound (darts ++ d ∷ [])
naming_step bound darts d even below fresh n =
    let seen_size : length n.seen ≡ bound = n.seen_size in
    let names_size : length n.names ≡ bound = n.names_size in
    let other : twin d < bound = twin_below bound d even below in
    elim (cases_Bool (get_or n.seen (twin d) false)) [
      | inl seen ↦ record {
        seen = set n.seen d true;
        names = n.names;
        name = n.name;
        seen_size = length-set n.seen d true ∙ n.seen_size;
        names_size = n.names_size;
        naming = IsNaming-seen darts n.seen n.names n.name d n.naming (omega arith) (n.naming.marking.stands (twin d) seen);
      }
      | inr unseen ↦ record {
        seen = set n.seen d true;
        names = set (set n.names d n.name) (twin d) (n.name + 1);
        name = n.name + 2;
        seen_size = length-set n.seen d true ∙ n.seen_size;
        names_size = length-set (set n.names d n.name) (twin d) (n.name + 1) ∙ length-set n.names d n.name ∙ n.names_size;
        naming = IsNaming-new darts n.seen n.names n.name d n.naming (omega arith) (omega arith) (omega arith) fresh
            (λ stands. false≢true (sym unseen ∙ n.naming.marking.marked (twin d) stands));
      }
    ]

-- names for the first darts of a list, and for all
naming_to : (bound : ℕ) (darts : List ℕ) → bound % 2 ≡ 0 → HasEachOnce bound darts → (place : ℕ) → place ≤ length darts → HasNaming bound (take place darts)
naming_to bound darts even once zero h = record {
  seen = replicate bound false;
  names = replicate bound 0;
  name = 0;
  seen_size = length-replicate bound false;
  names_size = length-replicate bound 0;
  naming = IsNaming-none (replicate bound false) (replicate bound 0) (MarksDarts-none bound);
}
naming_to bound darts even once (suc place) h =
    subst (HasNaming bound) (sym (take-suc darts place 0 h))
    (naming_step bound (take place darts) (get_or darts place 0) even (once.stays place h) (HasEachOnce-fresh bound darts place once h)
    (naming_to bound darts even once place (omega arith)))

naming_exists : (bound : ℕ) (darts : List ℕ) → bound % 2 ≡ 0 → HasEachOnce bound darts → HasNaming bound darts
naming_exists bound darts even once =
    subst (HasNaming bound) (take_all (length darts) darts (omega arith)) (naming_to bound darts even once (length darts) (omega arith))

-- the name of the dart behind the one of this name
abbrev pub next_name : (names sigma : List ℕ) → ℕ → ℕ
next_name names sigma name = get_or names (get_or sigma (place_of (slice_index names) (length sigma) name) 0) 0

-- the rotation in which each dart goes by its name
abbrev pub renamed_rotation : (names sigma : List ℕ) → List ℕ
renamed_rotation names sigma = map (next_name names sigma) (range_with_len 0 (length sigma))

pub renamed_rotation-renamed : (names sigma : List ℕ) → IsPermutationBelow (length sigma) (slice_index names) → IsRenamed names sigma (renamed_rotation names sigma)
renamed_rotation-renamed names sigma permutes = record {
  size = length-map-range_with_len (next_name names sigma) 0 (length sigma);
  carried = λ d h.
      let name : ℕ = get_or names d 0 in
      get_or-map-range_with_len (next_name names sigma) 0 (length sigma) name name 0 (permutes.stays d h) (omega arith)
      ∙ ap (λ e. get_or names (get_or sigma e 0) 0) (place_of-of_value (slice_index names) (length sigma) d permutes h);
}

-- a rooted map has a canonical map
pub canonical_map_exists : EachMapHasCanonical
canonical_map_exists map valid =
    let met : HasMeetingOrder (structure_of map) = meeting_order_exists (structure_of map) valid.structure valid.connected in
    let n : HasNaming (length map.sigma) met.0 = naming_exists (length map.sigma) met.0 valid.even met.1.once in
    let numbered : IsNumbered map met.0 n.names = record { is_map = valid; order = met.1; size = n.names_size; named = n.naming.named } in
    let sigma : List ℕ = renamed_rotation n.names map.sigma in (
      record { sigma = sigma; root = 0 },
      renamed_is_canonical map met.0 n.names sigma numbered (renamed_rotation-renamed n.names map.sigma (names_permute map met.0 n.names numbered)),
    )

-- a plane structure is the same as a rooted map, and so has its canonical map
pub canonical_form_exists : EachStructureHasCanonical
canonical_form_exists s small =
    let numbered = each_structure_is_a_rotation s small.plane.structure in
    let map : RotationSystem = numbered.0 in
    let same : Same s (structure_of map) = numbered.2 in
    let even : s.darts % 2 ≡ 0 = subst (λ n. n % 2 ≡ 0) (sym same.1.darts) (even_darts map numbered.1) in
    let found = canonical_map_exists map (rooted_carried same.0 s map small.plane even small.few same.1 numbered.1.no_root) in
    (found.0, record { is_canonical = found.1.is_canonical; is_same = same_transitive s (structure_of map) (structure_of found.0) same found.1.is_same })
