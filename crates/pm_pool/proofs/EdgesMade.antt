-- An edge that is made of two stems of a plane region, or cut.
use Rattle.std.proofs.Common.{◌≡◌, ◌≢◌, ℕ, zero, suc, ◌<◌, Bool, false, true, IsTrue, inl, inr, List, length, get_or, sym, ap, subst, ◌∙◌, arith}
use Rattle.std.proofs.lemmas.Bool.{cases_eq}
use Rattle.pm_perm.specs.Count.{count_below}
use Rattle.pm_perm.specs.Cycles.{IsInCycle, repeated}
use Rattle.pm_perm.specs.PartMap.{IsJoined, IsPartClosed, IsPartMap, PartMap, part_face}
use Rattle.pm_perm.proofs.CycleLists.{cycle-left}
use Rattle.pm_perm.proofs.Merged.{exchange-back, exchange-permutes}
use Rattle.pm_perm.proofs.PartMaps.{cut-law, cut-merges_faces, join-law, join-splits_face, joined-exchange, other-faces_stay, part_face-permutes}
use Rattle.pm_perm.proofs.Repeats.{repeated-inside}
use Rattle.pm_perm.proofs.SameCycle.{in_cycle-back, in_cycle-through}
use Rattle.pm_pool.specs.Plane.{IsEdgeCut, IsEdgeJoined, IsPlaneRegion, face_rule, part_of}
use Rattle.pm_pool.specs.Region.{IsLive, IsPaired, IsRegion, Region, live_darts, room}
use Rattle.pm_pool.proofs.LoneDarts.{holds_at}
use Rattle.pm_pool.proofs.Planes.{euler-all, euler-live, region-part}
use Rattle.pm_pool.proofs.Regions.{live-within}
use Rattle.pm_pool.proofs.Twins.{paired-joined}

-- what is closed in the joined part map is closed in the parted one
pub joined-closed : (m m' : PartMap) (x y : ℕ) (holds : ℕ → Bool) → IsJoined m m' x y → IsPartClosed m' holds → IsPartClosed m holds
joined-closed m m' x y holds j closed = record {
  under_next = λ d h here. holds_at holds (m'.next d) (m.next d) (j.same_next d h) (closed.under_next d (omega (arith, h, j.same_darts)) here);
  under_twin = λ d h here. elim (cases_eq d x) [
    | inl e ↦ holds_at holds d (m.twin d) (e ∙ sym j.first_stem ∙ ap m.twin (sym e)) here
    | inr nx ↦ elim (cases_eq d y) [
      | inl e ↦ holds_at holds d (m.twin d) (e ∙ sym j.second_stem ∙ ap m.twin (sym e)) here
      | inr ny ↦ holds_at holds (m'.twin d) (m.twin d) (j.same_twin d h nx ny) (closed.under_twin d (omega (arith, h, j.same_darts)) here)
    ]
  ];
}

-- a closed set holds with a dart its face
closed-face : (m : PartMap) (holds : ℕ → Bool) → IsPartMap m → IsPartClosed m holds → (a b : ℕ) → a < m.darts → IsInCycle (part_face m) a b → IsTrue (holds a) → IsTrue (holds b)
closed-face m holds p closed a b h met here = holds_at holds (repeated (part_face m) met.steps a) b met.leads (along met.steps) where
  along : (steps : ℕ) → IsTrue (holds (repeated (part_face m) steps a))
  along zero = here
  along (suc steps) =
      let inside : repeated (part_face m) steps a < m.darts = repeated-inside (part_face m) m.darts (part_face-permutes m p) steps a h in
      closed.under_next (m.twin (repeated (part_face m) steps a)) (p.twins.stays (repeated (part_face m) steps a) inside)
      (closed.under_twin (repeated (part_face m) steps a) inside (along steps))

-- what is closed in the parted one, where x and y are in one face, is closed in the joined one
parted-closed : (m m' : PartMap) (x y : ℕ) (holds : ℕ → Bool) → IsPartMap m → IsJoined m m' x y → IsInCycle (part_face m) x y → IsPartClosed m holds → IsPartClosed m' holds
parted-closed m m' x y holds p j one closed = record {
  under_next = λ d h here.
      (let lt : d < m.darts = omega (arith, h, j.same_darts) in holds_at holds (m.next d) (m'.next d) (sym (j.same_next d lt)) (closed.under_next d lt here));
  under_twin = λ d h here. elim (cases_eq d x) [
    | inl e ↦ holds_at holds y (m'.twin d) (sym (ap m'.twin e ∙ j.first_twin)) (closed-face m holds p closed x y j.first one (holds_at holds d x e here))
    | inr nx ↦ elim (cases_eq d y) [
      | inl e ↦ holds_at holds x (m'.twin d) (sym (ap m'.twin e ∙ j.second_twin))
          (closed-face m holds p closed y x j.second (in_cycle-back m.darts (part_face m) (part_face-permutes m p) x y j.first one) (holds_at holds d y e here))
      | inr ny ↦
          let lt : d < m.darts = omega (arith, h, j.same_darts) in
          holds_at holds (m.twin d) (m'.twin d) (sym (j.same_twin d lt nx ny)) (closed.under_twin d lt here)
    ]
  ];
}

live-kept : (live live' : List Bool) → live' ≡ live → (d : ℕ) → get_or live' d false ≡ true → get_or live d false ≡ true
live-kept live live' same d h = ap (λ (l : List Bool). get_or l d false) (sym same) ∙ h

pub darts-kept : (r r' : Region) → r'.live ≡ r.live → live_darts r' ≡ live_darts r
darts-kept r r' same = ap (λ (l : List Bool). count_below (λ d. get_or l d false) (length l)) same

-- two stems of one face of a plane region that are made twins
pub edge-joined : (r r' : Region) (x y : ℕ) → IsPlaneRegion r → IsRegion r' → IsLive r x → IsLive r y → x ≢ y → IsInCycle (face_rule r) x y → IsPaired r r' x y
    → IsEdgeJoined r r' x y
edge-joined r r' x y p valid first second differ met made =
    let j = paired-joined r r' x y (live-within r x first) (live-within r y second) differ made in
    let part = region-part r p.region in
    let kept = join-law (part_of r) (part_of r') x y part j met in
    let all = euler-all r p.region p.euler in
    let some = p.some_live in
    let darts = darts-kept r r' made.same_live in
    let size : room r' ≡ room r = ap length made.same_live in
    record {
      plane = record {
        region = valid;
        some_live = omega (arith, darts, some);
        connected = λ holds closed from e live live' here. p.connected holds (joined-closed (part_of r) (part_of r') x y holds j closed) from e
            (live-kept r.live r'.live made.same_live from live) (live-kept r.live r'.live made.same_live e live') here;
        euler = euler-live r' valid (omega (arith, all, kept.counts.vertices, kept.counts.edges, kept.counts.faces, darts, size));
      };
      paired = made;
      apart = kept.two_faces;
      faces = λ before after face. join-splits_face (part_of r) (part_of r') x y before after part j face;
      other_faces = λ e face live apart. other-faces_stay (part_of r) (part_of r') x y e face part j (live-within r e live) apart
          (λ to_y. apart (in_cycle-through (face_rule r) e y x to_y (in_cycle-back (room r) (face_rule r) (part_face-permutes (part_of r) part) x y (live-within r x first) met)));
    }

-- an edge of a plane region, whose darts are in two faces, that is made two stems
pub edge-cut : (r r' : Region) (x y : ℕ) → IsPlaneRegion r → IsRegion r' → IsLive r x → IsLive r y → (IsInCycle (face_rule r) x y → ⊥) → IsPaired r' r x y
    → IsEdgeCut r r' x y
edge-cut r r' x y p valid first second apart made =
    let size : room r ≡ room r' = ap length made.same_live in
    let hx : x < room r' = subst (λ n. x < n) size (live-within r x first) in
    let hy : y < room r' = subst (λ n. y < n) size (live-within r y second) in
    let differ : x ≢ y = λ same. apart (record { steps = 0; leads = same }) in
    let j = paired-joined r' r x y hx hy differ made in
    let part = region-part r p.region in
    let part' = region-part r' valid in
    let kept = cut-law (part_of r') (part_of r) x y part j apart in
    let all = euler-all r p.region p.euler in
    let some = p.some_live in
    let darts = darts-kept r' r made.same_live in
    let x' = joined-exchange (part_of r') (part_of r) x y part' j in
    let rule = exchange-permutes (room r') (face_rule r') (face_rule r) x y (part_face-permutes (part_of r') part') hx hy x' in
    record {
      plane = record {
        region = valid;
        some_live = omega (arith, darts, some);
        connected = λ holds closed from e live live' here. p.connected holds (parted-closed (part_of r') (part_of r) x y holds part' j kept.one_face closed) from e
            (live-kept r.live r'.live (sym made.same_live) from live) (live-kept r.live r'.live (sym made.same_live) e live') here;
        euler = euler-live r' valid (omega (arith, all, kept.counts.vertices, kept.counts.edges, kept.counts.faces, darts, size));
      };
      parted = made;
      one_face = kept.one_face;
      face = λ before after of_x of_y. cut-merges_faces (part_of r') (part_of r) x y before after part j apart of_x of_y;
      other_faces = λ e face live not_x not_y. cycle-left (room r') (face_rule r) (face_rule r') x y e face rule hx hy (subst (λ n. e < n) size (live-within r e live))
          (exchange-back (room r') (face_rule r') (face_rule r) x y x') not_x not_y;
    }
