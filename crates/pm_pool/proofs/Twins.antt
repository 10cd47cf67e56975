-- Two stems of a region that are made twins, and an edge that is made two stems.
use Rattle.std.proofs.Common.{◌≡◌, ◌≢◌, ℕ, ◌<◌, false, List, length, get_or, set, slice_index, refl, sym, ap, subst, ◌∙◌, arith, length-set, get_or-set_same, get_or-set_other}
use Rattle.std.proofs.lemmas.Bool.{false≢true}
use Rattle.std.proofs.lemmas.List.{get_or_default}
use Rattle.pm_perm.specs.Pairs.{IsInvolutionBelow}
use Rattle.pm_perm.specs.PartMap.{IsJoined}
use Rattle.pm_perm.proofs.PartMaps.{joined-part_map, parted-part_map}
use Rattle.pm_pool.specs.Plane.{part_of}
use Rattle.pm_pool.specs.Region.{IsAlone, IsLive, IsPaired, Region, is_live, room}
use Rattle.pm_pool.specs.steps.Free.{IsStore}
use Rattle.pm_pool.proofs.Planes.{region-part}
use Rattle.pm_pool.proofs.Regions.{live-twin, live-within}

-- the region with these twins
abbrev pub retwinned : Region → List ℕ → Region
retwinned r twin = record { live = r.live; next = r.next; prev = r.prev; twin = twin }

-- the part maps of a region with two stems and of that with their edge
pub paired-joined : (r r' : Region) (x y : ℕ) → x < room r → y < room r → x ≢ y → IsPaired r r' x y → IsJoined (part_of r) (part_of r') x y
paired-joined r r' x y hx hy differ w = record {
  same_darts = sym (ap length w.same_live);
  first = hx;
  second = hy;
  differ = differ;
  first_stem = w.first_stem;
  second_stem = w.second_stem;
  first_twin = w.first_twin;
  second_twin = w.second_twin;
  same_next = λ d h. ap (λ (l : List ℕ). slice_index l d) w.same_next;
  same_twin = w.elsewhere;
}

-- twins that leave the darts alone that aren't live make a region
store-retwinned : (r : Region) (twin free : List ℕ) (spare : ℕ) → IsStore r free spare → length twin ≡ length r.twin → IsInvolutionBelow (room r) (slice_index twin)
    → ((d : ℕ) → d < room r → is_live r d ≡ false → slice_index twin d ≡ slice_index r.twin d) → IsStore (retwinned r twin) free spare
store-retwinned r twin free spare w same twins dead_twin = record {
  region = record {
    few = w.region.few;
    next_length = w.region.next_length;
    twin_length = same ∙ w.region.twin_length;
    rotation = w.region.rotation;
    inverse = w.region.inverse;
    twins = twins;
    dead_alone = λ d h dead. (let alone : IsAlone r d = w.region.dead_alone d h dead in record { next = alone.next; prev = alone.prev; twin = dead_twin d h dead ∙ alone.twin });
  };
  free = record { as_long = w.free.as_long; counted = w.free.counted; within = w.free.within; dead = w.free.dead; once = w.free.once };
}

-- a dart that isn't live is another one
not_dead : (r : Region) (k d : ℕ) → IsLive r k → is_live r d ≡ false → d ≢ k
not_dead r k d live dead e = false≢true (sym dead ∙ ap (is_live r) e ∙ live)

-- the twins as they are written
twins-paired : (r : Region) (x y : ℕ) → x < length r.twin → y < length r.twin → x ≢ y → slice_index r.twin x ≡ x → slice_index r.twin y ≡ y
    → IsPaired r (retwinned r (set (set r.twin x y) y x)) x y
twins-paired r x y hx hy differ stem stem' = record {
  same_live = refl;
  same_next = refl;
  same_prev = refl;
  first_stem = stem;
  second_stem = stem';
  first_twin = get_or-set_other (set r.twin x y) y x x 0 differ ∙ get_or-set_same r.twin x y 0 hx;
  second_twin = get_or-set_same (set r.twin x y) y x 0 (let e = length-set r.twin x y in omega (arith, e, hy));
  elsewhere = λ e h other neither. get_or-set_other (set r.twin x y) y e x 0 neither ∙ get_or-set_other r.twin x e y 0 other;
}

twins-parted : (r : Region) (x y : ℕ) → x < length r.twin → y < length r.twin → x ≢ y → slice_index r.twin x ≡ y → slice_index r.twin y ≡ x
    → IsPaired (retwinned r (set (set r.twin x x) y y)) r x y
twins-parted r x y hx hy differ twin twin' = record {
  same_live = refl;
  same_next = refl;
  same_prev = refl;
  first_stem = get_or-set_other (set r.twin x x) y x y 0 differ ∙ get_or-set_same r.twin x x 0 hx;
  second_stem = get_or-set_same (set r.twin x x) y y 0 (let e = length-set r.twin x x in omega (arith, e, hy));
  first_twin = twin;
  second_twin = twin';
  elsewhere = λ e h other neither. sym (get_or-set_other (set r.twin x x) y e y 0 neither ∙ get_or-set_other r.twin x e x 0 other);
}

-- two live stems of a pool are made twins
pub pool-paired : (r now : Region) (free : List ℕ) (spare x y : ℕ) → r ≡ now → IsStore r free spare → IsLive now x → IsLive now y → x ≢ y
    → slice_index now.twin x ≡ x → slice_index now.twin y ≡ y
    → IsPaired now (retwinned r (set (set r.twin x y) y x)) x y × IsStore (retwinned r (set (set r.twin x y) y x)) free spare
pool-paired r now free spare x y e w live live' differ stem stem' =
    let first : IsLive r x = subst (λ o. IsLive o x) (sym e) live in
    let second : IsLive r y = subst (λ o. IsLive o y) (sym e) live' in
    let hx = live-within r x first in
    let hy = live-within r y second in
    let made = twins-paired r x y (omega (arith, hx, w.region.twin_length)) (omega (arith, hy, w.region.twin_length)) differ
    (subst (λ (o : Region). slice_index o.twin x ≡ x) (sym e) stem) (subst (λ (o : Region). slice_index o.twin y ≡ y) (sym e) stem') in
    let twins = (joined-part_map (part_of r) (part_of (retwinned r (set (set r.twin x y) y x))) x y (region-part r w.region) (paired-joined r (retwinned r (set (set r.twin x y) y x)) x y hx hy differ made)).1 in (
      subst (λ o. IsPaired o (retwinned r (set (set r.twin x y) y x)) x y) e made,
      store-retwinned r (set (set r.twin x y) y x) free spare w (length-set (set r.twin x y) y x ∙ length-set r.twin x y) twins
          (λ d h dead. made.elsewhere d h (not_dead r x d first dead) (not_dead r y d second dead)),
    )

-- a live dart of a pool and its other twin are made stems
pub pool-parted : (r now : Region) (free : List ℕ) (spare x y : ℕ) → r ≡ now → IsStore r free spare → IsLive now x → slice_index now.twin x ≢ x → y ≡ get_or r.twin x y
    → IsPaired (retwinned r (set (set r.twin x x) y y)) now x (slice_index now.twin x) × IsStore (retwinned r (set (set r.twin x x) y y)) free spare × (y < room r)
pool-parted r now free spare x y e w live differs read =
    let first : IsLive r x = subst (λ o. IsLive o x) (sym e) live in
    let hx = live-within r x first in
    let is : slice_index r.twin x ≡ y = sym (read ∙ get_or_default r.twin x y 0 (omega (arith, hx, w.region.twin_length))) in
    let second : IsLive r y = subst (IsLive r) is (live-twin r x w.region first) in
    let hy = live-within r y second in
    let differ : x ≢ y = λ same. subst (λ (o : Region). slice_index o.twin x ≢ x) (sym e) differs (is ∙ sym same) in
    let made = twins-parted r x y (omega (arith, hx, w.region.twin_length)) (omega (arith, hy, w.region.twin_length)) differ is
    (ap (slice_index r.twin) (sym is) ∙ w.region.twins.twice x hx) in
    let parted = retwinned r (set (set r.twin x x) y y) in
    let twins = (parted-part_map (part_of parted) (part_of r) x y (region-part r w.region) (paired-joined parted r x y hx hy differ made)).twins in (
      subst (λ o. IsPaired parted o x (slice_index o.twin x)) e (subst (IsPaired parted r x) (sym is) made),
      store-retwinned r (set (set r.twin x x) y y) free spare w (length-set (set r.twin x x) y y ∙ length-set r.twin x x) twins
          (λ d h dead. sym (made.elsewhere d h (not_dead r x d first dead) (not_dead r y d second dead))),
      hy,
    )
