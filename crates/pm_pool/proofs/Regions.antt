-- What the calls of a pool make of its region and of the darts that it has to give.
use Rattle.std.proofs.Common.{◌≡◌, ◌≢◌, ℕ, ◌+◌, ◌-◌, ◌<◌, ◌^◌, ◌++◌, take, drop, replicate, Bool, true, false, cond, inl, inr, List, length, get_or, set, slice_index, refl, sym, ap, subst, ◌∙◌, arith, length-set, get_or-set_same, get_or-set_other}
use Rattle.std.proofs.lemmas.Bool.{cases_eq, cases_Bool, cases_lt, false≢true}
use Rattle.std.proofs.lemmas.List.{get_or_default, get_or_past, get_or-replicate, length-replicate}
use Rattle.std.proofs.Math.Seq.{take-append_seam}
use Rattle.pm_perm.specs.Count.{count_below}
use Rattle.pm_perm.specs.Exchange.{IsExchangeBelow}
use Rattle.pm_perm.specs.Lists.{IsInverseList}
use Rattle.pm_perm.specs.Permutation.{IsPermutationList}
use Rattle.pm_perm.proofs.Counts.{count_below-none, some_pass}
use Rattle.pm_perm.proofs.Exchanged.{count_below-changed}
use Rattle.pm_perm.proofs.PlacesWritten.{inverse-permutes}
use Rattle.pm_pool.specs.Region.{IsAlone, IsCleared, IsInserted, IsLive, IsRegion, IsRemoved, IsTaken, Region, is_live, live_darts, room, with_live}
use Rattle.pm_pool.specs.steps.Free.{IsFree, IsStore}
use Rattle.pm_pool.specs.steps.Links.{AreNumbers, IsRelinked}

-- a live dart is below the room
pub live-within : (r : Region) (d : ℕ) → IsLive r d → d < room r
live-within r d live = within r.live d live where
  within : (live : List Bool) (d : ℕ) → get_or live d false ≡ true → d < length live
  within live d h = grind (arith, get_or_past live d false)

-- where each dart that isn't live is its own image, a live dart's image is live
live-image : (r : Region) (d e : ℕ) → IsLive r d → (is_live r e ≡ false → e ≡ d) → IsLive r e
live-image r d e live same = elim (cases_Bool (is_live r e)) [ inl is_so ↦ is_so | inr isnt ↦ ap (is_live r) (same isnt) ∙ live ]

-- a live dart leads to live darts
pub live-next : (r : Region) (d : ℕ) → IsRegion r → IsLive r d → IsLive r (slice_index r.next d)
live-next r d w live =
    let h : d < room r = live-within r d live in
    let h' : d < length r.next = omega (arith, h, w.next_length) in
    let stays = w.rotation.stays d h' in
    live-image r d (slice_index r.next d) live (λ dead. sym (w.dead_alone (slice_index r.next d) (omega (arith, stays, w.next_length)) dead).prev ∙ w.inverse.undoes d h')

pub live-prev : (r : Region) (d : ℕ) → IsRegion r → IsLive r d → IsLive r (slice_index r.prev d)
live-prev r d w live =
    let h : d < room r = live-within r d live in
    let h' : d < length r.next = omega (arith, h, w.next_length) in
    let back = inverse-permutes r.next r.prev w.rotation w.inverse in
    let stays = back.stays d (omega (arith, h', w.inverse.same_length)) in
    live-image r d (slice_index r.prev d) live
    (λ dead. sym (w.dead_alone (slice_index r.prev d) (omega (arith, stays, w.inverse.same_length, w.next_length)) dead).next ∙ w.inverse.undone d h')

pub live-twin : (r : Region) (d : ℕ) → IsRegion r → IsLive r d → IsLive r (slice_index r.twin d)
live-twin r d w live =
    let h : d < room r = live-within r d live in
    live-image r d (slice_index r.twin d) live (λ dead. sym (w.dead_alone (slice_index r.twin d) (w.twins.stays d h) dead).twin ∙ w.twins.twice d h)

-- what is read there, whatever a read past the end would give
read-live : (now : Region) (links : List ℕ) (d result : ℕ) → length links ≡ room now → IsLive now d → result ≡ get_or links d result
    → IsLive now (slice_index links d) → IsLive now result
read-live now links d result same live read image =
    let h = live-within now d live in
    subst (IsLive now) (sym (read ∙ get_or_default links d result 0 (omega (arith, h, same)))) image

pub next-live : (r now : Region) (d result : ℕ) → r ≡ now → IsRegion r → IsLive now d → result ≡ get_or r.next d result → IsLive now result
next-live r now d result e v live read =
    let w : IsRegion now = subst IsRegion e v in
    read-live now now.next d result w.next_length live (subst (λ (x : Region). result ≡ get_or x.next d result) e read) (live-next now d w live)

pub prev-live : (r now : Region) (d result : ℕ) → r ≡ now → IsRegion r → IsLive now d → result ≡ get_or r.prev d result → IsLive now result
prev-live r now d result e v live read =
    let w : IsRegion now = subst IsRegion e v in
    read-live now now.prev d result (w.inverse.same_length ∙ w.next_length) live (subst (λ (x : Region). result ≡ get_or x.prev d result) e read) (live-prev now d w live)

pub twin-live : (r now : Region) (d result : ℕ) → r ≡ now → IsRegion r → IsLive now d → result ≡ get_or r.twin d result → IsLive now result
twin-live r now d result e v live read =
    let w : IsRegion now = subst IsRegion e v in
    read-live now now.twin d result w.twin_length live (subst (λ (x : Region). result ≡ get_or x.twin d result) e read) (live-twin now d w live)

-- the number of live darts, where one of them may change
count-marked : (r : Region) (d : ℕ) (live : Bool) → d < room r → live_darts (with_live r d live) + cond (is_live r d) 1 0 ≡ live_darts r + cond live 1 0
count-marked r d live h =
    let changed = count_below-changed (is_live (with_live r d live)) (is_live r) d (room r) h (λ k lt other. get_or-set_other r.live d k live false other) in
    let same : length (set r.live d live) ≡ room r = length-set r.live d live in
    let counted : live_darts (with_live r d live) ≡ count_below (is_live (with_live r d live)) (room r) = ap (count_below (is_live (with_live r d live))) same in
    let here : cond {A = ℕ} (is_live (with_live r d live) d) 1 0 ≡ cond {A = ℕ} live 1 0 = ap (λ (b : Bool). cond {A = ℕ} b 1 0) (get_or-set_same r.live d live false h) in
    omega (arith, changed, counted, here)

-- a dart alone, and whether another one is live
alone-marked : (r : Region) (d e : ℕ) (live : Bool) → IsAlone r e → IsAlone (with_live r d live) e
alone-marked r d e live a = record { next = a.next; prev = a.prev; twin = a.twin }

pub region-marked : (r : Region) (d : ℕ) (live : Bool) → IsRegion r → d < room r → IsAlone r d → IsRegion (with_live r d live)
region-marked r d live w h alone =
    let same : length (set r.live d live) ≡ length r.live = length-set r.live d live in
    record {
      few = subst (λ n. n < 2 ^ 32) (sym same) w.few;
      next_length = w.next_length ∙ sym same;
      twin_length = w.twin_length ∙ sym same;
      rotation = w.rotation;
      inverse = w.inverse;
      twins = record {
        stays = λ k lt. (let s = w.twins.stays k (omega (arith, lt, same)) in omega (arith, s, same));
        twice = λ k lt. w.twins.twice k (omega (arith, lt, same));
      };
      dead_alone = λ k lt dead. elim (cases_eq k d) [
        | inl here ↦ alone-marked r d k live (subst (IsAlone r) (sym here) alone)
        | inr other ↦ alone-marked r d k live (w.dead_alone k (omega (arith, lt, same)) (sym (get_or-set_other r.live d k live false other) ∙ dead))
      ];
    }

-- the last spare dart is taken
pub store-taken : (r : Region) (free : List ℕ) (spare last d : ℕ) → IsStore r free spare → last + 1 ≡ spare → slice_index free last ≡ d
    → IsTaken r (with_live r d true) d × IsStore (with_live r d true) free last
store-taken r free spare last d w one is_last =
    let within : d < room r = subst (λ e. e < room r) is_last (w.free.within last (omega (arith, one))) in
    let dead : is_live r d ≡ false = subst (λ e. is_live r e ≡ false) is_last (w.free.dead last (omega (arith, one))) in
    let alone : IsAlone r d = w.region.dead_alone d within dead in
    let same : length (set r.live d true) ≡ length r.live = length-set r.live d true in
    let count = count-marked r d true within in
    let before : cond {A = ℕ} (is_live r d) 1 0 ≡ 0 = ap (λ (b : Bool). cond {A = ℕ} b 1 0) dead in (
      record { valid = region-marked r d true w.region within alone; within = within; was_dead = dead; is_now = refl; same_room = same; one_more = omega (arith, count, before); alone = alone-marked r d d true alone },
      record {
        region = region-marked r d true w.region within alone;
        free = record {
          as_long = w.free.as_long ∙ sym same;
          counted = omega (arith, count, before, same, w.free.counted, one);
          within = λ k lt. (let s = w.free.within k (omega (arith, lt, one)) in omega (arith, s, same));
          dead = λ k lt.
              get_or-set_other r.live d (slice_index free k) true false (λ e. differs k lt (w.free.once k last (omega (arith, lt, one)) (omega (arith, one)) (e ∙ sym is_last)))
              ∙ w.free.dead k (omega (arith, lt, one));
          once = λ j k hj hk e. w.free.once j k (omega (arith, hj, one)) (omega (arith, hk, one)) e;
        };
      },
    ) where
      differs : (k : ℕ) → k < last → k ≡ last → ⊥
      differs k lt e = omega (arith, lt, e)

-- not all darts are spare, where one is live
pub spare-below : (r : Region) (free : List ℕ) (spare d : ℕ) → IsStore r free spare → IsLive r d → spare < room r
spare-below r free spare d w live =
    let some = some_pass (is_live r) d (room r) (live-within r d live) live in
    omega (arith, some, w.free.counted)

-- a live dart is given back
pub store-given : (r : Region) (free : List ℕ) (spare d : ℕ) → IsStore r free spare → IsLive r d → IsAlone r d → IsStore (with_live r d false) (set free spare d) (spare + 1)
store-given r free spare d w live alone =
    let within : d < room r = live-within r d live in
    let same : length (set r.live d false) ≡ length r.live = length-set r.live d false in
    let count = count-marked r d false within in
    let before : cond {A = ℕ} (is_live r d) 1 0 ≡ 1 = ap (λ (b : Bool). cond {A = ℕ} b 1 0) live in
    let below : spare < room r = spare-below r free spare d w live in
    let written : slice_index (set free spare d) spare ≡ d = get_or-set_same free spare d 0 (omega (arith, below, w.free.as_long)) in
    record {
      region = region-marked r d false w.region within alone;
      free = record {
        as_long = length-set free spare d ∙ w.free.as_long ∙ sym same;
        counted = omega (arith, count, before, same, w.free.counted);
        within = λ k lt. elim (cases_eq k spare) [
          | inl here ↦ (let e : slice_index (set free spare d) k ≡ d = ap (slice_index (set free spare d)) here ∙ written in omega (arith, e, within, same))
          | inr other ↦
              let e : slice_index (set free spare d) k ≡ slice_index free k = get_or-set_other free spare k d 0 other in
              let s = w.free.within k (earlier k lt other) in
              omega (arith, e, s, same)
        ];
        dead = λ k lt. elim (cases_eq k spare) [
          | inl here ↦ ap (is_live (with_live r d false)) (ap (slice_index (set free spare d)) here ∙ written) ∙ get_or-set_same r.live d false false within
          | inr other ↦
              ap (is_live (with_live r d false)) (get_or-set_other free spare k d 0 other)
              ∙ get_or-set_other r.live d (slice_index free k) false false (not_given k (earlier k lt other)) ∙ w.free.dead k (earlier k lt other)
        ];
        once = λ j k hj hk e. elim (cases_eq j spare) [
          | inl first ↦ elim (cases_eq k spare) [
            | inl second ↦ first ∙ sym second
            | inr other ↦ absurd (not_given k (earlier k hk other)
                (sym (get_or-set_other free spare k d 0 other) ∙ sym e ∙ ap (slice_index (set free spare d)) first ∙ written))
          ]
          | inr other ↦ elim (cases_eq k spare) [
            | inl second ↦ absurd (not_given j (earlier j hj other)
                (sym (get_or-set_other free spare j d 0 other) ∙ e ∙ ap (slice_index (set free spare d)) second ∙ written))
            | inr neither ↦
                w.free.once j k (earlier j hj other) (earlier k hk neither) (sym (get_or-set_other free spare j d 0 other) ∙ e ∙ get_or-set_other free spare k d 0 neither)
          ]
        ];
      };
    } where
      earlier : (k : ℕ) → k < spare + 1 → (k ≡ spare → ⊥) → k < spare
      earlier k lt ne = omega (arith, lt, ne)

      not_given : (k : ℕ) → k < spare → slice_index free k ≡ d → ⊥
      not_given k lt e = false≢true (sym (ap (is_live r) (sym e) ∙ w.free.dead k lt) ∙ live)

-- the region with these links
abbrev pub relinked : Region → List ℕ → List ℕ → Region
relinked r next prev = record { live = r.live; next = next; prev = prev; twin = r.twin }

pub region-relinked : (r : Region) (next prev : List ℕ) (a b : ℕ) → IsRegion r → IsLive r a → IsLive r b → length next ≡ length r.next
    → IsExchangeBelow (length r.next) (slice_index r.next) (slice_index next) a b → IsPermutationList next → IsInverseList next prev → IsRegion (relinked r next prev)
region-relinked r next prev a b w first second same x p q = record {
  few = w.few;
  next_length = same ∙ w.next_length;
  twin_length = w.twin_length;
  rotation = p;
  inverse = q;
  twins = w.twins;
  dead_alone = λ d h dead.
      (let alone : IsAlone r d = w.dead_alone d h dead in
      let there : d < length r.next = omega (arith, h, w.next_length) in
      let stays : slice_index next d ≡ d = x.elsewhere d there (not_dead a d first dead) (not_dead b d second dead) ∙ alone.next in
      record { next = stays; prev = ap (slice_index prev) (sym stays) ∙ q.undoes d (omega (arith, there, same)); twin = alone.twin });
} where
  not_dead : (k d : ℕ) → IsLive r k → is_live r d ≡ false → d ≢ k
  not_dead k d live dead e = false≢true (sym dead ∙ ap (is_live r) e ∙ live)

-- links change nothing of what can be given
pub store-relinked : (r : Region) (next prev free : List ℕ) (spare : ℕ) → IsRegion (relinked r next prev) → IsFree r free spare → IsStore (relinked r next prev) free spare
store-relinked r next prev free spare w f =
    record { region = w; free = record { as_long = f.as_long; counted = f.counted; within = f.within; dead = f.dead; once = f.once } }

-- a dart that was alone has come in after `at`
pub region-inserted : (r : Region) (next prev : List ℕ) (at d : ℕ) → IsRegion (relinked r next prev) → IsAlone r d
    → IsExchangeBelow (length r.next) (slice_index r.next) (slice_index next) at d → length r.next ≡ room r → IsInserted r (relinked r next prev) at d
region-inserted r next prev at d w alone x same = record {
  valid = w;
  same_live = refl;
  same_twin = refl;
  after_at = x.at_first ∙ alone.next;
  after_new = x.at_second;
  elsewhere = λ e h. x.elsewhere e (omega (arith, h, same));
}

-- a stem has gone out of its vertex
pub region-removed : (r : Region) (next prev : List ℕ) (d : ℕ) → IsRegion r → IsRegion (relinked r next prev) → d < room r → slice_index r.twin d ≡ d
    → IsExchangeBelow (length r.next) (slice_index r.next) (slice_index next) (slice_index r.prev d) d → IsRemoved r (relinked r next prev) d
region-removed r next prev d w w' h stem x =
    let there : d < length r.next = omega (arith, h, w.next_length) in
    let stays : slice_index next d ≡ d = x.at_second ∙ w.inverse.undone d there in
    record {
      valid = w';
      same_live = refl;
      same_twin = refl;
      alone = record { next = stays; prev = ap (slice_index prev) (sym stays) ∙ w'.inverse.undoes d (omega (arith, h, w'.next_length)); twin = stem };
      closed = λ _. x.at_first;
      elsewhere = λ e lt other before. x.elsewhere e (omega (arith, lt, w.next_length)) before other;
    }

-- no dart is live, and each stands alone
pub store-cleared : (live : List Bool) (next prev twin free : List ℕ) (size : ℕ) → length live ≡ size → size < 2 ^ 32
    → ((d : ℕ) → get_or live d false ≡ false) → AreNumbers next size → AreNumbers prev size → AreNumbers twin size → AreNumbers free size
    → IsStore (record { live = live; next = next; prev = prev; twin = twin }) free size
    × IsCleared (record { live = live; next = next; prev = prev; twin = twin }) size
store-cleared live next prev twin free size as_many few none n p t f =
    let valid : IsRegion (record { live = live; next = next; prev = prev; twin = twin }) = record {
      few = subst (λ k. k < 2 ^ 32) (sym as_many) few;
      next_length = n.as_long ∙ sym as_many;
      twin_length = t.as_long ∙ sym as_many;
      rotation = record {
        stays = λ k h. (let e = n.each k (omega (arith, h, n.as_long)) in omega (arith, e, h));
        injective = λ j k hj hk e. sym (n.each j (omega (arith, hj, n.as_long))) ∙ e ∙ n.each k (omega (arith, hk, n.as_long));
      };
      inverse = record {
        same_length = p.as_long ∙ sym n.as_long;
        undoes = λ k h. ap (slice_index prev) (n.each k (omega (arith, h, n.as_long))) ∙ p.each k (omega (arith, h, n.as_long));
        undone = λ k h. ap (slice_index next) (p.each k (omega (arith, h, n.as_long))) ∙ n.each k (omega (arith, h, n.as_long));
      };
      twins = record {
        stays = λ k h. (let e = t.each k (omega (arith, h, as_many)) in omega (arith, e, h));
        twice = λ k h. ap (slice_index twin) (t.each k (omega (arith, h, as_many))) ∙ t.each k (omega (arith, h, as_many));
      };
      dead_alone = λ d h dead. record { next = n.each d (omega (arith, h, as_many)); prev = p.each d (omega (arith, h, as_many)); twin = t.each d (omega (arith, h, as_many)) };
    } in
    let count = count_below-none (λ d. get_or live d false) (length live) (λ k lt. none k) in (
      record {
        region = valid;
        free = record {
          as_long = f.as_long ∙ sym as_many;
          counted = omega (arith, count, as_many);
          within = λ k h. (let e = f.each k h in omega (arith, e, h, as_many));
          dead = λ k h. none (slice_index free k);
          once = λ j k hj hk e. sym (f.each j hj) ∙ e ∙ f.each k hk;
        };
      },
      record { valid = valid; as_many = as_many; none_live = none },
    )

-- what a call on the slice of a vector leaves in the vector
pub refilled : (size : ℕ) (old new : List ℕ) → size ≡ length old → length new ≡ length old → take size (new ++ drop (length new) old) ≡ new
refilled size old new e f = ap (λ n. take n (new ++ drop (length new) old)) (e ∙ sym f) ∙ take-append_seam new (drop (length new) old)

-- the same of the two vectors
pub relinked-vectors : (n p : ℕ) (old old' next prev items : List ℕ) (a b : ℕ) → IsRelinked old next prev a b → old ≡ old' → n ≡ length old' → p ≡ length items
    → length prev ≡ length items → IsRelinked old' (take n (next ++ drop (length next) old')) (take p (prev ++ drop (length prev) items)) a b
relinked-vectors n p old old' next prev items a b x e f g same =
    let next_is = refilled n old' next f (x.same_length ∙ ap length e) in
    let prev_is = refilled p items prev g same in
    subst (λ xs. IsRelinked old' xs (take p (prev ++ drop (length prev) items)) a b) (sym next_is)
    (subst (λ xs. IsRelinked old' next xs a b) (sym prev_is) (subst (λ o. IsRelinked o next prev a b) e x))

pub store-linked : (r : Region) (free : List ℕ) (spare : ℕ) (next prev : List ℕ) (a b : ℕ) → IsStore r free spare → IsLive r a → IsLive r b → IsRelinked r.next next prev a b
    → IsStore (relinked r next prev) free spare
store-linked r free spare next prev a b w first second x =
    store-relinked r next prev free spare (region-relinked r next prev a b w.region first second x.same_length x.exchanged x.still x.inverse) w.free

pub linked-inserted : (r now : Region) (next prev : List ℕ) (at d : ℕ) → r ≡ now → IsRegion r → IsLive r at → IsLive r d → IsAlone r d → IsRelinked r.next next prev at d
    → IsInserted now (relinked r next prev) at d
linked-inserted r now next prev at d e w first second alone x =
    subst (λ old. IsInserted old (relinked r next prev) at d) e
    (region-inserted r next prev at d (region-relinked r next prev at d w first second x.same_length x.exchanged x.still x.inverse) alone x.exchanged w.next_length)

pub linked-removed : (r now : Region) (next prev : List ℕ) (before d : ℕ) → r ≡ now → IsRegion r → IsLive r before → IsLive r d → before ≡ get_or r.prev d before
    → slice_index r.twin d ≡ d → IsRelinked r.next next prev before d → IsRemoved now (relinked r next prev) d
linked-removed r now next prev before d e w first second read stem x =
    let h = live-within r d second in
    let is : before ≡ slice_index r.prev d = read ∙ get_or_default r.prev d before 0 (omega (arith, h, w.inverse.same_length, w.next_length)) in
    subst (λ old. IsRemoved old (relinked r next prev) d) e
    (region-removed r next prev d w (region-relinked r next prev before d w first second x.same_length x.exchanged x.still x.inverse) h stem
    (subst (λ p. IsExchangeBelow (length r.next) (slice_index r.next) (slice_index next) p d) is x.exchanged))

pub pool-taken : (r now : Region) (free : List ℕ) (spare d : ℕ) → r ≡ now → IsStore r free spare → live_darts now < room now → d ≡ get_or free (spare - 1) d
    → IsTaken now (with_live r d true) d × IsStore (with_live r d true) free (spare - 1)
pool-taken r now free spare d e w some read =
    let some' : live_darts r < room r = subst (λ (x : Region). live_darts x < room x) (sym e) some in
    let one : (spare - 1) + 1 ≡ spare = omega (arith, some', w.free.counted) in
    let is : slice_index free (spare - 1) ≡ d = sym (read ∙ get_or_default free (spare - 1) d 0 (omega (arith, one, w.free.counted, w.free.as_long))) in
    let taken = store-taken r free spare (spare - 1) d w one is in
    (subst (λ old. IsTaken old (with_live r d true) d) e taken.0, taken.1)

-- a list of falses has no live dart
pub none-live : (live : List Bool) (size : ℕ) → live ≡ replicate size false → (d : ℕ) → get_or live d false ≡ false
none-live live size e d = ap (λ xs. get_or xs d false) e ∙ elim (cases_lt d size) [
  | inl within ↦ get_or-replicate size d false false within
  | inr past ↦ get_or_past (replicate size false) d false (let l : length (replicate size false) ≡ size = length-replicate size false in omega (arith, l, past))
]

pub numbers-refilled : (size count : ℕ) (old now new : List ℕ) → size ≡ length old → now ≡ old → length old ≡ count → AreNumbers new (length now) → AreNumbers (take size (new ++ drop (length new) old)) count
numbers-refilled size count old now new e f g n =
    let same : length now ≡ length old = ap length f in
    subst (λ xs. AreNumbers xs count) (sym (refilled size old new e (n.as_long ∙ same))) (subst (AreNumbers new) (same ∙ g) n)

pub cleared-now : (cleared r now : Region) → r ≡ now → IsCleared cleared (room r) → IsCleared cleared (room now)
cleared-now cleared r now e w = subst (λ (x : Region). IsCleared cleared (room x)) e w
