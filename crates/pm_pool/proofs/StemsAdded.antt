-- A stem that comes into a vertex of a plane region, or goes out of it.
use Rattle.std.proofs.Common.{◌≡◌, ◌≢◌, ℕ, suc, ◌+◌, ◌<◌, Bool, true, false, cond, eqb, ltb, IsTrue, inl, inr, List, ◌∷◌, length, set, slice_index, sym, ap, subst, ◌∙◌, arith, eq-eqb, ne_eqb, length-set, get_or, get_or-set_same, get_or-set_other}
use Rattle.std.proofs.lemmas.Bool.{cases_eq, cond-true, cond-false, false≢true}
use Rattle.pm_perm.specs.Cycles.{cycles}
use Rattle.pm_perm.specs.Count.{count_below}
use Rattle.pm_perm.specs.Exchange.{IsExchangeBelow}
use Rattle.pm_perm.specs.Pairs.{pairs}
use Rattle.pm_perm.specs.PartMap.{IsPartClosed, part_edges, part_faces, part_vertices}
use Rattle.pm_perm.specs.Permutation.{IsPermutationBelow}
use Rattle.pm_perm.proofs.Counts.{count_below-same, some_pass}
use Rattle.pm_perm.proofs.CycleLists.{cycle-left}
use Rattle.pm_perm.proofs.Exchanged.{count_below-changed}
use Rattle.pm_perm.proofs.Merged.{exchange-back, exchange-permutes}
use Rattle.pm_perm.proofs.PartMaps.{part_face-permutes}
use Rattle.pm_pool.specs.Plane.{AreLiveConnected, IsFaceFrom, IsPlaneRegion, IsStemAdded, IsStemDropped, face_rule, live_edges, live_faces, live_vertices, part_of}
use Rattle.pm_pool.specs.Region.{IsAlone, IsInserted, IsLive, IsRegion, IsRemoved, IsTaken, Region, is_live, live_darts, room, with_live}
use Rattle.pm_pool.proofs.LoneDarts.{holds_at, lone-apart, lone-fewer, lone-joins, lone-leaves, product-exchange}
use Rattle.pm_pool.proofs.Planes.{dead-face, euler-all, euler-live, region-part}
use Rattle.pm_pool.proofs.Regions.{live-next, live-prev, live-twin, live-within, region-marked}

-- a dart d of r' stands directly after `at` as a stem, and isn't live in r; all else is the same
record IsAdded (r r' : Region) (at d : ℕ) : Type 0 where
  before : IsRegion r
  after : IsRegion r'
  same_room : room r' ≡ room r
  within : d < room r
  dead : is_live r d ≡ false
  live : is_live r' d ≡ true
  others : (e : ℕ) → e ≢ d → is_live r' e ≡ is_live r e
  at_live : IsLive r at
  same_twin : (e : ℕ) → slice_index r'.twin e ≡ slice_index r.twin e
  after_at : slice_index r'.next at ≡ d
  after_new : slice_index r'.next d ≡ slice_index r.next at
  elsewhere : (e : ℕ) → e < room r → e ≢ at → e ≢ d → slice_index r'.next e ≡ slice_index r.next e

-- a live dart is another one
not_added : (r r' : Region) (at d e : ℕ) → IsAdded r r' at d → IsLive r e → e ≢ d
not_added r r' at d e w live same = false≢true (sym w.dead ∙ sym (ap (is_live r) same) ∙ live)

added-alone : (r r' : Region) (at d : ℕ) → IsAdded r r' at d → IsAlone r d
added-alone r r' at d w = w.before.dead_alone d w.within w.dead

added-next : (r r' : Region) (at d : ℕ) → IsAdded r r' at d → IsExchangeBelow (room r) (slice_index r.next) (slice_index r'.next) at d
added-next r r' at d w = record { at_first = w.after_at ∙ sym (added-alone r r' at d w).next; at_second = w.after_new; elsewhere = w.elsewhere }

added-faces : (r r' : Region) (at d : ℕ) → IsAdded r r' at d → IsExchangeBelow (room r) (face_rule r) (face_rule r') (slice_index r.twin at) d
added-faces r r' at d w =
    product-exchange (room r) (slice_index r.next) (slice_index r'.next) (slice_index r.twin) (slice_index r'.twin) at d w.before.twins w.same_twin
    (live-within r at w.at_live) (added-alone r r' at d w).twin (added-next r r' at d w)

-- vertices, edges, faces and live darts
record AddedCounts (r r' : Region) : Type 0 where
  vertices : part_vertices (part_of r') + 1 ≡ part_vertices (part_of r)
  edges : part_edges (part_of r') ≡ part_edges (part_of r)
  faces : part_faces (part_of r') + 1 ≡ part_faces (part_of r)
  darts : live_darts r' ≡ live_darts r + 1

added-counts : (r r' : Region) (at d : ℕ) → IsAdded r r' at d → AddedCounts r r'
added-counts r r' at d w =
    let corner = live-twin r at w.before w.at_live in
    let fewer_vertices = lone-fewer (room r) (slice_index r.next) (slice_index r'.next) at d (region-part r w.before).rotation (live-within r at w.at_live) w.within
    (not_added r r' at d at w w.at_live) (added-alone r r' at d w).next (added-next r r' at d w) in
    let fewer_faces = lone-fewer (room r) (face_rule r) (face_rule r') (slice_index r.twin at) d (part_face-permutes (part_of r) (region-part r w.before))
    (live-within r (slice_index r.twin at) corner) w.within (not_added r r' at d (slice_index r.twin at) w corner) (dead-face r d w.before w.within w.dead) (added-faces r r' at d w) in
    let vertices : part_vertices (part_of r') ≡ cycles (room r) (slice_index r'.next) = ap (λ n. cycles n (slice_index r'.next)) w.same_room in
    let faces : part_faces (part_of r') ≡ cycles (room r) (face_rule r') = ap (λ n. cycles n (face_rule r')) w.same_room in
    let changed = count_below-changed (is_live r') (is_live r) d (room r) w.within (λ k h other. w.others k other) in
    let darts : live_darts r' ≡ count_below (is_live r') (room r) = ap (count_below (is_live r')) w.same_room in
    let was : cond {A = ℕ} (is_live r d) 1 0 ≡ 0 = ap (λ (b : Bool). cond {A = ℕ} b 1 0) w.dead in
    let is : cond {A = ℕ} (is_live r' d) 1 0 ≡ 1 = ap (λ (b : Bool). cond {A = ℕ} b 1 0) w.live in
    record {
      vertices = omega (arith, vertices, fewer_vertices);
      edges = ap (λ n. pairs n (slice_index r'.twin)) w.same_room
          ∙ count_below-same (λ k. ltb (slice_index r'.twin k) k) (λ k. ltb (slice_index r.twin k) k) (room r) (λ k h. ap (λ e. ltb e k) (w.same_twin k));
      faces = omega (arith, faces, fewer_faces);
      darts = omega (arith, changed, darts, was, is);
    }

added-euler : (r r' : Region) (at d : ℕ) → IsAdded r r' at d → live_vertices r + live_faces r ≡ live_edges r + 2 → live_vertices r' + live_faces r' ≡ live_edges r' + 2
added-euler r r' at d w e =
    let c = added-counts r r' at d w in
    let all = euler-all r w.before e in
    euler-live r' w.after (omega (arith, all, c.vertices, c.edges, c.faces, c.darts, w.same_room))

dropped-euler : (r r' : Region) (at d : ℕ) → IsAdded r r' at d → live_vertices r' + live_faces r' ≡ live_edges r' + 2 → live_vertices r + live_faces r ≡ live_edges r + 2
dropped-euler r r' at d w e =
    let c = added-counts r r' at d w in
    let all = euler-all r' w.after e in
    euler-live r w.before (omega (arith, all, c.vertices, c.edges, c.faces, c.darts, w.same_room))

-- what is closed with the new dart is closed without it
added-closed : (r r' : Region) (at d : ℕ) (holds : ℕ → Bool) → IsAdded r r' at d → IsPartClosed (part_of r') holds → IsPartClosed (part_of r) holds
added-closed r r' at d holds w closed = record {
  under_next = λ k h here. elim (cases_eq k d) [
    | inl new ↦ holds_at holds k (slice_index r.next k) (new ∙ sym (added-alone r r' at d w).next ∙ ap (slice_index r.next) (sym new)) here
    | inr old ↦ elim (cases_eq k at) [
      | inl first ↦
          let held : IsTrue (holds (slice_index r'.next k)) = closed.under_next k (omega (arith, h, w.same_room)) here in
          let new : slice_index r'.next k ≡ d = ap (slice_index r'.next) first ∙ w.after_at in
          holds_at holds (slice_index r'.next d) (slice_index r.next k) (w.after_new ∙ ap (slice_index r.next) (sym first))
          (closed.under_next d (omega (arith, w.within, w.same_room)) (holds_at holds (slice_index r'.next k) d new held))
      | inr other ↦ holds_at holds (slice_index r'.next k) (slice_index r.next k) (w.elsewhere k h other old) (closed.under_next k (omega (arith, h, w.same_room)) here)
    ]
  ];
  under_twin = λ k h here. holds_at holds (slice_index r'.twin k) (slice_index r.twin k) (w.same_twin k) (closed.under_twin k (omega (arith, h, w.same_room)) here);
}

added-connected : (r r' : Region) (at d : ℕ) → IsAdded r r' at d → AreLiveConnected r → AreLiveConnected r'
added-connected r r' at d w all holds closed from e first second here =
    let before = added-closed r r' at d holds w closed in
    let h : at < room r = live-within r at w.at_live in
    let held : IsTrue (holds at) = elim (cases_eq from d) [
      | inl new ↦ all holds before (slice_index r.next at) at (live-next r at w.before w.at_live) w.at_live
          (holds_at holds (slice_index r'.next d) (slice_index r.next at) w.after_new (closed.under_next d (omega (arith, w.within, w.same_room)) (holds_at holds from d new here)))
      | inr old ↦ all holds before from at (sym (w.others from old) ∙ first) w.at_live here
    ] in
    elim (cases_eq e d) [
      | inl new ↦ holds_at holds (slice_index r'.next at) e (w.after_at ∙ sym new) (closed.under_next at (omega (arith, h, w.same_room)) held)
      | inr old ↦ all holds before at e w.at_live (sym (w.others e old) ∙ second) held
    ]

-- a test at d that of a, and elsewhere the same
moved : (ℕ → Bool) → ℕ → ℕ → ℕ → Bool
moved holds d a k = cond (eqb k d) (holds a) (holds k)

moved-there : (holds : ℕ → Bool) (d a k : ℕ) → k ≡ d → moved holds d a k ≡ holds a
unfolding moved
moved-there holds d a k e = cond-true (eqb k d) (holds a) (holds k) (eq-eqb k d e)

moved-other : (holds : ℕ → Bool) (d a k : ℕ) → k ≢ d → moved holds d a k ≡ holds k
unfolding moved
moved-other holds d a k n = cond-false (eqb k d) (holds a) (holds k) (ne_eqb k d n)

-- what is closed without the new dart is closed with it, where it counts as the dart after it
dropped-closed : (r r' : Region) (at d : ℕ) (holds : ℕ → Bool) → IsAdded r r' at d → IsPartClosed (part_of r) holds
    → IsPartClosed (part_of r') (moved holds d (slice_index r.next at))
dropped-closed r r' at d holds w closed =
    let a = slice_index r.next at in
    let not_next : a ≢ d = not_added r r' at d a w (live-next r at w.before w.at_live) in
    let alone = added-alone r r' at d w in
    let rotation = (region-part r w.before).rotation in
    record {
      under_next = λ k h here. elim (cases_eq k d) [
        | inl new ↦ ap (moved holds d a) (ap (slice_index r'.next) new ∙ w.after_new) ∙ moved-other holds d a a not_next ∙ sym (moved-there holds d a k new) ∙ here
        | inr old ↦ elim (cases_eq k at) [
          | inl first ↦ moved-there holds d a (slice_index r'.next k) (ap (slice_index r'.next) first ∙ w.after_at)
              ∙ holds_at holds (slice_index r.next k) a (ap (slice_index r.next) first) (closed.under_next k (omega (arith, h, w.same_room)) (sym (moved-other holds d a k old) ∙ here))
          | inr other ↦
              let lt : k < room r = omega (arith, h, w.same_room) in
              let is : slice_index r'.next k ≡ slice_index r.next k = w.elsewhere k lt other old in
              moved-other holds d a (slice_index r'.next k) (λ e. old (rotation.injective k d lt w.within (sym is ∙ e ∙ sym alone.next)))
              ∙ ap holds is ∙ closed.under_next k lt (sym (moved-other holds d a k old) ∙ here)
        ]
      ];
      under_twin = λ k h here. elim (cases_eq k d) [
        | inl new ↦ ap (moved holds d a) (w.same_twin k ∙ ap (slice_index r.twin) new ∙ alone.twin ∙ sym new) ∙ here
        | inr old ↦
            let lt : k < room r = omega (arith, h, w.same_room) in
            let is : slice_index r'.twin k ≡ slice_index r.twin k = w.same_twin k in
            moved-other holds d a (slice_index r'.twin k) (λ e. old (sym (w.before.twins.twice k lt) ∙ ap (slice_index r.twin) (sym is ∙ e) ∙ alone.twin))
            ∙ ap holds is ∙ closed.under_twin k lt (sym (moved-other holds d a k old) ∙ here)
      ];
    }

dropped-connected : (r r' : Region) (at d : ℕ) → IsAdded r r' at d → AreLiveConnected r' → AreLiveConnected r
dropped-connected r r' at d w all holds closed from e first second here =
    let a = slice_index r.next at in
    let old : (k : ℕ) → IsLive r k → k ≢ d = λ k live. not_added r r' at d k w live in
    sym (moved-other holds d a e (old e second))
    ∙ all (moved holds d a) (dropped-closed r r' at d holds w closed) from e (w.others from (old from first) ∙ first) (w.others e (old e second) ∙ second)
    (moved-other holds d a from (old from first) ∙ here)

is-added : (r r1 r' : Region) (at d : ℕ) → IsRegion r → IsTaken r r1 d → IsInserted r1 r' at d → IsLive r at → IsAdded r r' at d
is-added r r1 r' at d w taken put at_live =
    let lives : r'.live ≡ set r.live d true = put.same_live ∙ ap (λ (x : Region). x.live) taken.is_now in
    let nexts : r1.next ≡ r.next = ap (λ (x : Region). x.next) taken.is_now in
    record {
      before = w;
      after = put.valid;
      same_room = ap length lives ∙ length-set r.live d true;
      within = taken.within;
      dead = taken.was_dead;
      live = ap (λ (l : List Bool). get_or l d false) lives ∙ get_or-set_same r.live d true false taken.within;
      others = λ e other. ap (λ (l : List Bool). get_or l e false) lives ∙ get_or-set_other r.live d e true false other;
      at_live = at_live;
      same_twin = λ e. ap (λ (l : List ℕ). slice_index l e) (put.same_twin ∙ ap (λ (x : Region). x.twin) taken.is_now);
      after_at = put.after_at;
      after_new = put.after_new ∙ ap (λ (l : List ℕ). slice_index l at) nexts;
      elsewhere = λ e h other neither. put.elsewhere e (omega (arith, h, taken.same_room)) other neither ∙ ap (λ (l : List ℕ). slice_index l e) nexts;
    }

-- a dart that was taken and put into a vertex of a plane region
pub stem-added : (r r1 r' : Region) (at d : ℕ) → IsPlaneRegion r → IsTaken r r1 d → IsInserted r1 r' at d → IsLive r at → IsStemAdded r r' at d
stem-added r r1 r' at d p taken put at_live =
    let w = is-added r r1 r' at d p.region taken put at_live in
    let c = added-counts r r' at d w in
    let rule = part_face-permutes (part_of r) (region-part r p.region) in
    let corner = live-twin r at p.region at_live in
    let inside = live-within r (slice_index r.twin at) corner in
    let fixed = dead-face r d p.region taken.within taken.was_dead in
    record {
      plane = record {
        region = put.valid;
        some_live = (let e = c.darts in omega (arith, e));
        connected = added-connected r r' at d w p.connected;
        euler = added-euler r r' at d w p.euler;
      };
      within = taken.within;
      was_dead = taken.was_dead;
      now_live = put.same_live ∙ ap (λ (x : Region). x.live) taken.is_now;
      same_twin = put.same_twin ∙ ap (λ (x : Region). x.twin) taken.is_now;
      stem = w.same_twin d ∙ (added-alone r r' at d w).twin;
      after_at = w.after_at;
      after_new = w.after_new;
      elsewhere = w.elsewhere;
      face = λ rest face. lone-joins (room r) (face_rule r) (face_rule r') (slice_index r.twin at) d rest rule inside w.within
          (not_added r r' at d (slice_index r.twin at) w corner) fixed (added-faces r r' at d w) face;
      other_faces = λ e face live apart. cycle-left (room r) (face_rule r) (face_rule r') (slice_index r.twin at) d e face rule inside w.within (live-within r e live)
          (added-faces r r' at d w) apart (lone-apart (room r) (face_rule r) e d rule (live-within r e live) (not_added r r' at d e w live) fixed);
    }

-- a stem that isn't alone in its vertex isn't the dart before it
not_before : (r : Region) (d : ℕ) → IsRegion r → d < room r → slice_index r.next d ≢ d → slice_index r.prev d ≢ d
not_before r d w h some e = some (ap (slice_index r.next) (sym e) ∙ w.inverse.undone d (omega (arith, h, w.next_length)))

was-added : (r r1 : Region) (d : ℕ) → IsRegion r → IsLive r d → slice_index r.next d ≢ d → IsRemoved r r1 d → IsAdded (with_live r1 d false) r (slice_index r.prev d) d
was-added r r1 d w live some out =
    let h : d < room r = live-within r d live in
    let other : slice_index r.prev d ≢ d = not_before r d w h some in
    let room_kept : room r1 ≡ room r = ap length out.same_live in
    let size : length (set r1.live d false) ≡ length r1.live = length-set r1.live d false in
    let kept : (e : ℕ) → e ≢ d → is_live r e ≡ is_live (with_live r1 d false) e =
    λ e apart. sym (get_or-set_other r1.live d e false false apart ∙ ap (λ (l : List Bool). get_or l e false) out.same_live) in
    record {
      before = region-marked r1 d false out.valid (omega (arith, h, room_kept)) out.alone;
      after = w;
      same_room = sym (size ∙ room_kept);
      within = omega (arith, h, room_kept, size);
      dead = get_or-set_same r1.live d false false (omega (arith, h, room_kept));
      live = live;
      others = kept;
      at_live = sym (kept (slice_index r.prev d) other) ∙ live-prev r d w live;
      same_twin = λ e. ap (λ (l : List ℕ). slice_index l e) (sym out.same_twin);
      after_at = w.inverse.undone d (omega (arith, h, w.next_length));
      after_new = sym (out.closed other);
      elsewhere = λ e lt before apart. sym (out.elsewhere e (omega (arith, lt, size, room_kept)) apart before);
    }

-- a stem that is closed out of a vertex of a plane region and isn't live any more
pub stem-dropped : (r r1 : Region) (d : ℕ) → IsPlaneRegion r → IsLive r d → slice_index r.next d ≢ d → IsRemoved r r1 d → IsStemDropped r (with_live r1 d false) d
stem-dropped r r1 d p live some out =
    let r' : Region = with_live r1 d false in
    let at = slice_index r.prev d in
    let w : IsAdded r' r at d = was-added r r1 d p.region live some out in
    let corner = live-twin r' at w.before w.at_live in
    let inside = live-within r' (slice_index r'.twin at) corner in
    let x : IsExchangeBelow (room r') (face_rule r') (face_rule r) (slice_index r'.twin at) d = added-faces r' r at d w in
    let rule : IsPermutationBelow (room r') (face_rule r) = exchange-permutes (room r') (face_rule r') (face_rule r) (slice_index r'.twin at) d
    (part_face-permutes (part_of r') (region-part r' w.before)) inside w.within x in
    let back = exchange-back (room r') (face_rule r') (face_rule r) (slice_index r'.twin at) d x in
    let into : face_rule r (slice_index r'.twin at) ≡ d = x.at_first ∙ dead-face r' d w.before w.within w.dead in
    record {
      plane = record {
        region = w.before;
        some_live = some_pass (is_live r') at (room r') (live-within r' at w.at_live) w.at_live;
        connected = dropped-connected r' r at d w p.connected;
        euler = dropped-euler r' r at d w p.euler;
      };
      live_no_more = ap (λ (l : List Bool). set l d false) out.same_live;
      same_twin = out.same_twin;
      closed = sym w.after_new;
      elsewhere = out.elsewhere;
      face = λ rest face. subst (λ k. IsFaceFrom r' k (k ∷ rest)) (sym (w.same_twin at)) (lone-leaves (room r') (face_rule r) (face_rule r') (slice_index r'.twin at) d rest rule inside back
          (subst (λ k. IsFaceFrom r k (k ∷ d ∷ rest)) (w.same_twin at) face));
      other_faces = λ e face one apart. cycle-left (room r') (face_rule r) (face_rule r') (slice_index r'.twin at) d e face rule inside w.within
          (let lt = live-within r e one in omega (arith, lt, w.same_room)) back
          (λ met. apart (record { steps = suc met.steps; leads = ap (face_rule r) met.leads ∙ into })) apart;
    }
