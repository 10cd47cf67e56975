-- Walks along a permutation up to an end, and the face that a walk gives.
use Rattle.std.proofs.Common.{◌≡◌, ◌≢◌, ℕ, zero, suc, ◌-◌, ◌<◌, ◌%◌, inl, inr, true, false, cond, nat_eq, List, [], ◌∷◌, length, get_or, Some, None, refl, sym, ◌∙◌, ap, subst, arith}
use Rattle.std.proofs.lemmas.Bool.{cases_eq}
use Rattle.std.proofs.lemmas.Option.{slice_get-get_or}
use Rattle.pm_perm.specs.Permutation.{IsPermutationBelow}
use Rattle.pm_perm.specs.Cycles.{repeated}
use Rattle.pm_perm.proofs.Repeats.{repeated-first, HasPeriod, period}
use Rattle.pm_map.specs.declared.degrees.Around.TheVariants.{Face}
use Rattle.pm_map.specs.steps.Sizes.{step_around}
use Rattle.pm_map.specs.FaceWalk.{until, LeadsBack, darts_left, IsFaceWalk}
use Rattle.pm_map.specs.Structure.{Structure}
use Rattle.pm_map.specs.Meeting.{IsVertexFrom}

-- where the next one is the end, the way is at its last
until-last : (f : ℕ → ℕ) (end most d : ℕ) → f d ≡ end → until f end (suc most) d ≡ d ∷ []
until-last f end most d e = ap (λ b. d ∷ cond b [] (until f end most (f d))) (test (f d) end e) where
  test : (x y : ℕ) → x ≡ y → nat_eq x y ≡ true
  test x y e = grind arith

until-more : (f : ℕ → ℕ) (end most d : ℕ) → f d ≢ end → until f end (suc most) d ≡ d ∷ until f end most (f d)
until-more f end most d more = ap (λ b. d ∷ cond b [] (until f end most (f d))) (test (f d) end more) where
  test : (x y : ℕ) → x ≢ y → nat_eq x y ≡ false
  test x y e = grind arith

-- after a step that isn't the last one there is a shorter way
LeadsBack-step : (f : ℕ → ℕ) (end most d : ℕ) → f d ≢ end → LeadsBack f end (suc most) d → LeadsBack f end most (f d)
LeadsBack-step f end most d more w = elim (cases_eq w.fewer 0) [
  | inl none ↦ absurd (more (ap (λ k. repeated f (suc k) d) (sym none) ∙ w.leads))
  | inr some ↦
      let one : suc (w.fewer - 1) ≡ w.fewer = omega (arith, some) in
      record {
        fewer = w.fewer - 1;
        few = omega (arith, some, w.few);
        leads = repeated-first f (suc (w.fewer - 1)) d ∙ ap (λ k. repeated f (suc k) d) one ∙ w.leads;
      }
]

LeadsBack-some : (f : ℕ → ℕ) (end d : ℕ) → LeadsBack f end 0 d → ⊥
LeadsBack-some f end d w = omega (arith, w.few)

LeadsBack-wider : (f : ℕ → ℕ) (end most d : ℕ) → LeadsBack f end most d → LeadsBack f end (suc most) d
LeadsBack-wider f end most d w = record { fewer = w.fewer; few = omega (arith, w.few); leads = w.leads }

-- enough is enough: one more makes no difference
until-enough : (f : ℕ → ℕ) (end most d : ℕ) → LeadsBack f end most d → until f end most d ≡ until f end (suc most) d
until-enough f end zero d w = absurd (LeadsBack-some f end d w)
until-enough f end (suc most) d w = elim (cases_eq (f d) end) [
  | inl last ↦ until-last f end most d last ∙ sym (until-last f end (suc most) d last)
  | inr more ↦
      until-more f end most d more ∙ ap (λ xs. d ∷ xs) (until-enough f end most (f d) (LeadsBack-step f end most d more w))
      ∙ sym (until-more f end (suc most) d more)
]

-- the first dart of what is left, and what is left then
pub until-head : (f : ℕ → ℕ) (end most d : ℕ) → LeadsBack f end most d → f d ≢ end → until f end most d ≡ d ∷ until f end most (f d)
until-head f end zero d w more = absurd (LeadsBack-some f end d w)
until-head f end (suc most) d w more =
    until-more f end most d more ∙ ap (λ xs. d ∷ xs) (until-enough f end most (f d) (LeadsBack-step f end most d more w))

pub until-only : (f : ℕ → ℕ) (end most d : ℕ) → LeadsBack f end most d → f d ≡ end → until f end most d ≡ d ∷ []
until-only f end zero d w last = absurd (LeadsBack-some f end d w)
until-only f end (suc most) d w last = until-last f end most d last

pub LeadsBack-next : (f : ℕ → ℕ) (end most d : ℕ) → f d ≢ end → LeadsBack f end most d → LeadsBack f end most (f d)
LeadsBack-next f end zero d more w = absurd (LeadsBack-some f end d w)
LeadsBack-next f end (suc most) d more w = LeadsBack-wider f end most (f d) (LeadsBack-step f end most d more w)

-- a number leads back to itself
pub LeadsBack-round : (n : ℕ) (f : ℕ → ℕ) (d : ℕ) → IsPermutationBelow n f → d < n → LeadsBack f d n d
LeadsBack-round n f d p h = let round : HasPeriod f n d = period f n d p h in record { fewer = round.fewer; few = round.within; leads = round.returns }

-- a way along f from d to its end: each number is followed by the next, the last leads to the end, and no number after the
-- first is the end
record IsWayTo (f : ℕ → ℕ) (end d : ℕ) (way : List ℕ) : Type 0 where
  pub some : 0 < length way
  pub begins : get_or way 0 0 ≡ d
  pub goes : (k : ℕ) → suc k < length way → get_or way (suc k) 0 ≡ f (get_or way k 0)
  pub ends : f (get_or way (length way - 1) 0) ≡ end
  pub once : (k : ℕ) → suc k < length way → get_or way (suc k) 0 ≢ end

IsWayTo-only : (f : ℕ → ℕ) (end d : ℕ) → f d ≡ end → IsWayTo f end d (d ∷ [])
IsWayTo-only f end d last = record {
  some = omega arith;
  begins = refl;
  goes = λ k h. absurd (omega (arith, h));
  ends = last;
  once = λ k h. absurd (omega (arith, h));
}

IsWayTo-goes : (f : ℕ → ℕ) (end d : ℕ) (way : List ℕ) → IsWayTo f end (f d) way → (k : ℕ) → suc k < length (d ∷ way) → get_or (d ∷ way) (suc k) 0 ≡ f (get_or (d ∷ way) k 0)
IsWayTo-goes f end d way w zero h = w.begins
IsWayTo-goes f end d way w (suc k) h = w.goes k (omega (arith, h))

IsWayTo-once : (f : ℕ → ℕ) (end d : ℕ) (way : List ℕ) → IsWayTo f end (f d) way → f d ≢ end → (k : ℕ) → suc k < length (d ∷ way) → get_or (d ∷ way) (suc k) 0 ≢ end
IsWayTo-once f end d way w more zero h = λ e. more (sym w.begins ∙ e)
IsWayTo-once f end d way w more (suc k) h = w.once k (omega (arith, h))

IsWayTo-more : (f : ℕ → ℕ) (end d : ℕ) (way : List ℕ) → IsWayTo f end (f d) way → f d ≢ end → IsWayTo f end d (d ∷ way)
IsWayTo-more f end d way w more = record {
  some = omega arith;
  begins = refl;
  goes = IsWayTo-goes f end d way w;
  ends = ap (λ k. f (get_or (d ∷ way) k 0)) (let last : length (d ∷ way) - 1 ≡ suc (length way - 1) = omega (arith, w.some) in last) ∙ w.ends;
  once = IsWayTo-once f end d way w more;
}

until-way : (f : ℕ → ℕ) (end most d : ℕ) → LeadsBack f end most d → IsWayTo f end d (until f end most d)
until-way f end zero d w = absurd (LeadsBack-some f end d w)
until-way f end (suc most) d w = elim (cases_eq (f d) end) [
  | inl last ↦ subst (IsWayTo f end d) (sym (until-last f end most d last)) (IsWayTo-only f end d last)
  | inr more ↦
      subst (IsWayTo f end d) (sym (until-more f end most d more))
      (IsWayTo-more f end d (until f end most (f d)) (until-way f end most (f d) (LeadsBack-step f end most d more w)) more)
]

-- from a number back to itself the way is its vertex
pub until-vertex : (s : Structure) (d : ℕ) → IsPermutationBelow s.darts s.next → d < s.darts → IsVertexFrom s d (until s.next d s.darts d)
until-vertex s d p h =
    let w : IsWayTo s.next d d (until s.next d s.darts d) = until-way s.next d s.darts d (LeadsBack-round s.darts s.next d p h) in
    record { begins = slice_get-get_or (until s.next d s.darts d) 0 0 w.some ∙ ap Some w.begins; goes = w.goes; ends = w.ends; once = w.once }

-- a step of a walk
some_is : (d e : ℕ) → Some d ≡ Some e → d ≡ e
some_is d e same = cc

pub IsFaceWalk-last : (sigma : List ℕ) (first d : ℕ) → IsFaceWalk sigma first (Some d) → IsFaceWalk sigma first None
IsFaceWalk-last sigma first d w = record { even = w.even; permutes = w.permutes; within = λ e is. cc; back = λ e is. cc }

pub IsFaceWalk-more : (sigma : List ℕ) (first d : ℕ) → IsFaceWalk sigma first (Some d) → step_around sigma Face d ≢ first → IsFaceWalk sigma first (Some (step_around sigma Face d))
IsFaceWalk-more sigma first d w more =
    let f : ℕ → ℕ = step_around sigma Face in
    record {
      even = w.even;
      permutes = w.permutes;
      within = λ e is. subst (λ x. x < length sigma) (some_is (f d) e is) (w.permutes.stays d (w.within d refl));
      back = λ e is. subst (LeadsBack f first (length sigma)) (some_is (f d) e is) (LeadsBack-next f first (length sigma) d more (w.back d refl));
    }

pub darts_left-last : (sigma : List ℕ) (first d : ℕ) → IsFaceWalk sigma first (Some d) → step_around sigma Face d ≡ first → darts_left sigma first (Some d) ≡ d ∷ []
darts_left-last sigma first d w last = until-only (step_around sigma Face) first (length sigma) d (w.back d refl) last

pub darts_left-more : (sigma : List ℕ) (first d : ℕ) → IsFaceWalk sigma first (Some d) → step_around sigma Face d ≢ first
    → darts_left sigma first (Some d) ≡ d ∷ darts_left sigma first (Some (step_around sigma Face d))
darts_left-more sigma first d w more = until-head (step_around sigma Face) first (length sigma) d (w.back d refl) more

-- a walk begins at its first dart
pub IsFaceWalk-begins : (sigma : List ℕ) (d : ℕ) → length sigma % 2 ≡ 0 → IsPermutationBelow (length sigma) (step_around sigma Face) → d < length sigma → IsFaceWalk sigma d (Some d)
IsFaceWalk-begins sigma d even p h =
    let f : ℕ → ℕ = step_around sigma Face in
    record {
      even = even;
      permutes = p;
      within = λ e is. subst (λ x. x < length sigma) (some_is d e is) h;
      back = λ e is. subst (LeadsBack f d (length sigma)) (some_is d e is) (LeadsBack-round (length sigma) f d p h);
    }
