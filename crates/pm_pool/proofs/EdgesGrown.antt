-- An edge that grows out of a stem of a plane region.
use Rattle.std.proofs.Common.{◌≡◌, ◌≢◌, ℕ, ◌<◌, Bool, false, true, IsTrue, inl, inr, List, length, get_or, slice_index, sym, ap, subst, ◌∙◌, arith, length-set, get_or-set_other}
use Rattle.std.proofs.lemmas.Bool.{cases_eq, false≢true}
use Rattle.pm_perm.specs.Cycles.{cycles}
use Rattle.pm_perm.specs.Exchange.{IsExchangeBelow}
use Rattle.pm_perm.specs.Pairs.{pairs}
use Rattle.pm_perm.specs.PartMap.{IsPartClosed, part_edges, part_faces, part_vertices}
use Rattle.pm_perm.proofs.CycleLists.{cycle-left}
use Rattle.pm_perm.proofs.PairCounts.{pairs-one_more}
use Rattle.pm_perm.proofs.PartMaps.{joined-exchange, part_face-permutes}
use Rattle.pm_pool.specs.Plane.{IsEdgeGrown, IsPlaneRegion, face_rule, part_of}
use Rattle.pm_pool.specs.Region.{IsLive, IsPaired, IsRegion, IsTaken, Region, is_live, room, with_live}
use Rattle.pm_pool.proofs.EdgesMade.{darts-kept, joined-closed}
use Rattle.pm_pool.proofs.LoneDarts.{holds_at, lone-apart, lone-fewer, lone-joins}
use Rattle.pm_pool.proofs.Planes.{dead-face, euler-all, euler-live, region-part}
use Rattle.pm_pool.proofs.Regions.{live-within}
use Rattle.pm_pool.proofs.Twins.{paired-joined}

-- a dart is taken and made the twin of a stem
pub edge-grown : (r r' : Region) (x y : ℕ) → IsPlaneRegion r → IsTaken r (with_live r y true) y → IsRegion r' → IsLive r x → IsPaired (with_live r y true) r' x y → IsEdgeGrown r r' x y
edge-grown r r' x y p taken valid first made =
    let r1 = with_live r y true in
    let size : room r1 ≡ room r = length-set r.live y true in
    let size' : room r' ≡ room r1 = ap length made.same_live in
    let differ : x ≢ y = λ same. false≢true (sym taken.was_dead ∙ sym (ap (is_live r) same) ∙ first) in
    let hx = live-within r x first in
    let hx1 : x < room r1 = omega (arith, hx, size) in
    let hy1 : y < room r1 = omega (arith, taken.within, size) in
    let j = paired-joined r1 r' x y hx1 hy1 differ made in
    let part = region-part r1 taken.valid in
    let part0 = region-part r p.region in
    let rule = part_face-permutes (part_of r) part0 in
    let fixed = dead-face r y p.region taken.within taken.was_dead in
    let x1 = joined-exchange (part_of r1) (part_of r') x y part j in
    let swap : IsExchangeBelow (room r) (face_rule r) (face_rule r') x y = record { at_first = x1.at_first; at_second = x1.at_second; elsewhere = λ k h n o. x1.elsewhere k (omega (arith, h, size)) n o } in
    let fewer = lone-fewer (room r) (face_rule r) (face_rule r') x y rule hx taken.within differ fixed swap in
    let faces : part_faces (part_of r') ≡ cycles (room r) (face_rule r') = ap (λ n. cycles n (face_rule r')) (size' ∙ size) in
    let vertices : part_vertices (part_of r') ≡ part_vertices (part_of r) = ap (λ (l : List ℕ). cycles (room r') (slice_index l)) made.same_next ∙ ap (λ n. cycles n (slice_index r.next)) (size' ∙ size) in
    let more = pairs-one_more (room r1) (slice_index r.twin) (slice_index r'.twin) x y differ (record {
      first = hx1;
      second = hy1;
      first_alone = made.first_stem;
      second_alone = made.second_stem;
      first_partner = made.first_twin;
      second_partner = made.second_twin;
      elsewhere = made.elsewhere;
    }) in
    let edges : part_edges (part_of r') ≡ pairs (room r1) (slice_index r'.twin) = ap (λ n. pairs n (slice_index r'.twin)) size' in
    let edges0 : pairs (room r1) (slice_index r.twin) ≡ part_edges (part_of r) = ap (λ n. pairs n (slice_index r.twin)) size in
    let darts = darts-kept r1 r' made.same_live in
    let one = taken.one_more in
    let all = euler-all r p.region p.euler in
    let was : (e : ℕ) → e ≢ y → IsLive r' e → IsLive r e = λ e other live. sym (get_or-set_other r.live y e true false other) ∙ ap (λ (l : List Bool). get_or l e false) (sym made.same_live) ∙ live in
    record {
      plane = record {
        region = valid;
        some_live = omega (arith, darts, one);
        connected = λ holds closed from e live live' here.
            (let before1 = joined-closed (part_of r1) (part_of r') x y holds j closed in
            let before : IsPartClosed (part_of r) holds = record { under_next = λ k h held. before1.under_next k (omega (arith, h, size)) held; under_twin = λ k h held. before1.under_twin k (omega (arith, h, size)) held } in
            let held : IsTrue (holds x) = elim (cases_eq from y) [
              | inl new ↦ holds_at holds (slice_index r'.twin y) x made.second_twin (closed.under_twin y (omega (arith, hy1, size')) (holds_at holds from y new here))
              | inr old ↦ p.connected holds before from x (was from old live) first here
            ] in
            elim (cases_eq e y) [
              | inl new ↦ holds_at holds (slice_index r'.twin x) e (made.first_twin ∙ sym new) (closed.under_twin x (omega (arith, hx1, size')) held)
              | inr old ↦ p.connected holds before x e first (was e old live') held
            ]);
        euler = euler-live r' valid (omega (arith, all, vertices, faces, fewer, edges, more, edges0, darts, one, size, size'));
      };
      within = taken.within;
      was_dead = taken.was_dead;
      now_live = made.same_live;
      same_next = made.same_next;
      new_vertex = ap (λ (l : List ℕ). slice_index l y) made.same_next ∙ taken.alone.next;
      first_twin = made.first_twin;
      second_twin = made.second_twin;
      elsewhere = λ e h other neither. made.elsewhere e (omega (arith, h, size)) other neither;
      face = λ rest face. lone-joins (room r) (face_rule r) (face_rule r') x y rest rule hx taken.within differ fixed swap face;
      other_faces = λ e face live apart. cycle-left (room r) (face_rule r) (face_rule r') x y e face rule hx taken.within (live-within r e live) swap apart
          (lone-apart (room r) (face_rule r) e y rule (live-within r e live) (λ same. false≢true (sym taken.was_dead ∙ sym (ap (is_live r) same) ∙ live)) fixed);
    }

pub edge-grown_at : (r r1 r' : Region) (x y : ℕ) → IsPlaneRegion r → IsTaken r r1 y → IsRegion r' → IsLive r x → IsPaired r1 r' x y → IsEdgeGrown r r' x y
edge-grown_at r r1 r' x y p taken valid first made =
    edge-grown r r' x y p (subst (λ o. IsTaken r o y) taken.is_now taken) valid first (subst (λ o. IsPaired o r' x y) taken.is_now made)
