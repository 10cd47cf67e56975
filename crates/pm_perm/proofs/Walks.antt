-- A walk around a cycle that marks what it meets.
use Rattle.std.proofs.Common.{◌≡◌, ℕ, zero, suc, ◌+◌, ◌<◌, ◌≤◌, ◌⊎◌, inl, inr, Bool, true, false, not, ◌&&◌, cond, eqb, List, length, get_or, set, slice_index, sym, ap, ◌∙◌, refl, lt-ltb, le-ltb, arith, get_or-set_same, get_or-set_other}
use Rattle.std.proofs.lemmas.Bool.{cases_eq, cases_lt, ltb-false, ltb-true}
use Rattle.pm_perm.specs.Count.{count_below}
use Rattle.pm_perm.specs.Permutation.{IsPermutationBelow, IsPermutationList}
use Rattle.pm_perm.specs.Cycles.{repeated, leader, cycles, IsInCycle}
use Rattle.pm_perm.specs.steps.Leading.{IsMarkedBelow}
use Rattle.pm_perm.proofs.Counts.{count_below-same, count_below-without, count_below-bound}
use Rattle.pm_perm.proofs.Repeats.{repeated-inside}
use Rattle.pm_perm.proofs.LeaderMaps.{IsLeaderMap, leader-map, leader_map-twice}
use Rattle.pm_perm.proofs.SameCycle.{leader-in_cycle}

-- the walk from a start stands at a number of its cycle; what is marked of the cycle leads on to what is marked, or to
-- that number
pub record IsWalking (n : ℕ) (f : ℕ → ℕ) (start at : ℕ) (marked : ℕ → Bool) : Type 0 where
  pub permutes : IsPermutationBelow n f
  pub begins : start < n
  pub within : at < n
  pub around : leader n f at ≡ start
  pub earlier : (k : ℕ) → k < n → leader n f k < start → marked k ≡ true
  pub later : (k : ℕ) → k < n → start < leader n f k → marked k ≡ false
  pub leads : (k : ℕ) → k < n → leader n f k ≡ start → marked k ≡ true → (marked (f k) ≡ true) ⊎ (f k ≡ at)
  pub begun : (marked start ≡ true) ⊎ (start ≡ at)

-- a number that isn't marked yet is the leader of its cycle
pub unmarked_leads : (n : ℕ) (f : ℕ → ℕ) (start : ℕ) (marked : ℕ → Bool) → IsPermutationBelow n f → start < n → IsMarkedBelow n f start marked → marked start ≡ false → leader n f start ≡ start
unmarked_leads n f start marked p h m e =
    let led : IsLeaderMap n f (leader n f) = leader-map n f p in
    let low : leader n f start ≤ start = led.least start h in
    let high : start ≤ leader n f start = ltb-false (leader n f start) start (sym (m.marks start h) ∙ e) in
    omega (arith, low, high)

pub walking-start : (n : ℕ) (f : ℕ → ℕ) (start : ℕ) (marked : ℕ → Bool) → IsPermutationBelow n f → start < n → IsMarkedBelow n f start marked → marked start ≡ false → IsWalking n f start start marked
walking-start n f start marked p h m e = record {
  permutes = p;
  begins = h;
  within = h;
  around = unmarked_leads n f start marked p h m e;
  earlier = λ k hk less. m.marks k hk ∙ lt-ltb (leader n f k) start less;
  later = λ k hk more. m.marks k hk ∙ le-ltb (leader n f k) start (omega (arith, more));
  leads = λ k hk is_start is_marked. absurd (unmarked_here n f start marked m k hk is_start is_marked);
  begun = inr refl;
} where
  true_false : (b : Bool) → b ≡ true → b ≡ false → ⊥
  true_false b e e' = grind arith

  unmarked_here : (n : ℕ) (f : ℕ → ℕ) (start : ℕ) (marked : ℕ → Bool) → IsMarkedBelow n f start marked → (k : ℕ) → k < n → leader n f k ≡ start → marked k ≡ true → ⊥
  unmarked_here n f start marked m k hk is_start is_marked =
      true_false (marked k) is_marked (m.marks k hk ∙ le-ltb (leader n f k) start (omega (arith, is_start)))

-- one step: the number is marked, and the walk goes on
pub walking-step : (n : ℕ) (f : ℕ → ℕ) (start at : ℕ) (marked marked' : ℕ → Bool) → IsWalking n f start at marked
    → marked' at ≡ true → ((k : ℕ) → (k ≡ at → ⊥) → marked' k ≡ marked k) → IsWalking n f start (f at) marked'
walking-step n f start at marked marked' w here other =
    let p : IsPermutationBelow n f = w.permutes in
    let led : IsLeaderMap n f (leader n f) = leader-map n f p in
    record {
      permutes = p;
      begins = w.begins;
      within = p.stays at w.within;
      around = led.along at w.within ∙ w.around;
      earlier = λ k hk less. elim (cases_eq k at) [ inl e ↦ ap marked' e ∙ here | inr ne ↦ other k ne ∙ w.earlier k hk less ];
      later = λ k hk more. other k (λ e. omega (arith, ap (leader n f) e, w.around, more)) ∙ w.later k hk more;
      leads = λ k hk is_start is_marked. elim (cases_eq k at) [
        | inl e ↦ inr (ap f e)
        | inr ne ↦ elim (cases_eq (f k) at) [
          | inl e ↦ inl (ap marked' e ∙ here)
          | inr ne' ↦ elim (w.leads k hk is_start (sym (other k ne) ∙ is_marked)) [
            | inl marked_next ↦ inl (other (f k) ne' ∙ marked_next)
            | inr e ↦ absurd (ne' e)
          ]
        ]
      ];
      begun = inl (elim (cases_eq start at) [
        | inl e ↦ ap marked' e ∙ here
        | inr ne ↦ elim w.begun [ inl e ↦ other start ne ∙ e | inr e ↦ absurd (ne e) ]
      ]);
    }

led_along : (n : ℕ) (f : ℕ → ℕ) (start : ℕ) → IsPermutationBelow n f → start < n → (steps : ℕ) → leader n f (repeated f steps start) ≡ leader n f start
led_along n f start p h zero = refl
led_along n f start p h (suc steps) =
    let led : IsLeaderMap n f (leader n f) = leader-map n f p in
    led.along (repeated f steps start) (repeated-inside f n p steps start h) ∙ led_along n f start p h steps

-- where the walk meets a marked number, its cycle is marked
pub walking-around : (n : ℕ) (f : ℕ → ℕ) (start at : ℕ) (marked : ℕ → Bool) → IsWalking n f start at marked → marked at ≡ true → (k : ℕ) → k < n → leader n f k ≡ start → marked k ≡ true
walking-around n f start at marked w here k hk e =
    let p : IsPermutationBelow n f = w.permutes in
    let led : IsLeaderMap n f (leader n f) = leader-map n f p in
    let own : leader n f start ≡ start = ap (leader n f) (sym w.around) ∙ leader_map-twice n f (leader n f) led at w.within ∙ w.around in
    let cycle : IsInCycle f start k = leader-in_cycle n f p start k w.begins hk (own ∙ sym e) in
    ap marked (sym cycle.leads) ∙ along n f start at marked w here own cycle.steps where
      along : (n : ℕ) (f : ℕ → ℕ) (start at : ℕ) (marked : ℕ → Bool) → IsWalking n f start at marked → marked at ≡ true → leader n f start ≡ start → (steps : ℕ) → marked (repeated f steps start) ≡ true
      along n f start at marked w here own zero = elim w.begun [ inl e ↦ e | inr e ↦ ap marked e ∙ here ]
      along n f start at marked w here own (suc steps) =
          let inside : repeated f steps start < n = repeated-inside f n w.permutes steps start w.begins in
          elim (w.leads (repeated f steps start) inside (led_along n f start w.permutes w.begins steps ∙ own) (along n f start at marked w here own steps)) [
            | inl e ↦ e
            | inr e ↦ ap marked e ∙ here
          ]

pub walking-end : (n : ℕ) (f : ℕ → ℕ) (start at : ℕ) (marked : ℕ → Bool) → IsWalking n f start at marked → marked at ≡ true → IsMarkedBelow n f (start + 1) marked
walking-end n f start at marked w here = record {
  marks = λ k hk. elim (cases_lt (leader n f k) start) [
    | inl less ↦ w.earlier k hk less ∙ sym (lt-ltb (leader n f k) (start + 1) (omega (arith, less)))
    | inr more ↦ elim (cases_eq (leader n f k) start) [
      | inl same ↦ walking-around n f start at marked w here k hk same ∙ sym (lt-ltb (leader n f k) (start + 1) (omega (arith, same)))
      | inr differ ↦ w.later k hk (omega (arith, more, differ)) ∙ sym (le-ltb (leader n f k) (start + 1) (omega (arith, more, differ)))
    ]
  ];
}

-- a number that is marked already is no leader
pub marked_follows : (n : ℕ) (f : ℕ → ℕ) (start : ℕ) (marked : ℕ → Bool) → start < n → IsMarkedBelow n f start marked → marked start ≡ true → leader n f start < start
marked_follows n f start marked h m e = ltb-true (leader n f start) start (sym (m.marks start h) ∙ e)

pub marked-skip : (n : ℕ) (f : ℕ → ℕ) (start : ℕ) (marked : ℕ → Bool) → IsPermutationBelow n f → start < n → IsMarkedBelow n f start marked → marked start ≡ true → IsMarkedBelow n f (start + 1) marked
marked-skip n f start marked p h m e =
    let led : IsLeaderMap n f (leader n f) = leader-map n f p in
    let below : leader n f start < start = marked_follows n f start marked h m e in
    record {
      marks = λ k hk. elim (cases_lt (leader n f k) start) [
        | inl less ↦ m.marks k hk ∙ lt-ltb (leader n f k) start less ∙ sym (lt-ltb (leader n f k) (start + 1) (omega (arith, less)))
        | inr more ↦
            let differ : leader n f k ≡ start → ⊥ = λ same. omega (arith, same, ap (leader n f) same, leader_map-twice n f (leader n f) led k hk, below) in
            m.marks k hk ∙ le-ltb (leader n f k) start more ∙ sym (le-ltb (leader n f k) (start + 1) (omega (arith, more, differ)))
      ];
    }

-- nothing is marked before the first number
pub marked-none : (n : ℕ) (f : ℕ → ℕ) (marked : ℕ → Bool) → ((k : ℕ) → k < n → marked k ≡ false) → IsMarkedBelow n f 0 marked
marked-none n f marked none = record { marks = λ k hk. none k hk ∙ sym (le-ltb (leader n f k) 0 (omega arith)) }

-- the leaders below the bound
pub leaders-more : (n : ℕ) (f : ℕ → ℕ) (start : ℕ) → leader n f start ≡ start → count_below (λ d. eqb (leader n f d) d) (start + 1) ≡ count_below (λ d. eqb (leader n f d) d) start + 1
leaders-more n f start e = let next : start + 1 ≡ suc start = omega arith in ap (count_below (λ d. eqb (leader n f d) d)) next ∙ counted n f start e where
  counted : (n : ℕ) (f : ℕ → ℕ) (start : ℕ) → leader n f start ≡ start → count_below (λ d. eqb (leader n f d) d) (suc start) ≡ count_below (λ d. eqb (leader n f d) d) start + 1
  counted n f start e = grind arith

pub leaders-skip : (n : ℕ) (f : ℕ → ℕ) (start : ℕ) → leader n f start < start → count_below (λ d. eqb (leader n f d) d) (start + 1) ≡ count_below (λ d. eqb (leader n f d) d) start
leaders-skip n f start e = let next : start + 1 ≡ suc start = omega arith in ap (count_below (λ d. eqb (leader n f d) d)) next ∙ counted n f start e where
  counted : (n : ℕ) (f : ℕ → ℕ) (start : ℕ) → leader n f start < start → count_below (λ d. eqb (leader n f d) d) (suc start) ≡ count_below (λ d. eqb (leader n f d) d) start
  counted n f start e = grind arith

-- a test that one number ceases to pass counts less
pub count_below-falls : (P Q : ℕ → Bool) (a n : ℕ) → a < n → P a ≡ true → Q a ≡ false → ((k : ℕ) → (k ≡ a → ⊥) → Q k ≡ P k) → count_below Q n < count_below P n
count_below-falls P Q a n h before after other =
    let without : count_below P n ≡ count_below (λ k. P k && not (eqb k a)) n + cond (P a) 1 0 = count_below-without P a n h in
    let same : count_below Q n ≡ count_below (λ k. P k && not (eqb k a)) n = count_below-same Q (λ k. P k && not (eqb k a)) n (λ k _. elim (cases_eq k a) [
      | inl e ↦ at_number P Q a k e after
      | inr ne ↦ at_other P Q a k ne (other k ne)
    ]) in
    falls (count_below P n) (count_below Q n) (count_below (λ k. P k && not (eqb k a)) n) (P a) before without same where
      at_number : (P Q : ℕ → Bool) (a k : ℕ) → k ≡ a → Q a ≡ false → Q k ≡ (P k && not (eqb k a))
      at_number P Q a k e after = grind arith

      at_other : (P Q : ℕ → Bool) (a k : ℕ) → (k ≡ a → ⊥) → Q k ≡ P k → Q k ≡ (P k && not (eqb k a))
      at_other P Q a k ne e = grind arith

      falls : (p q w : ℕ) (b : Bool) → b ≡ true → p ≡ w + cond b 1 0 → q ≡ w → q < p
      falls p q w b e e' e'' = grind arith

-- the same over a list of marks
pub walking-more : (values : List ℕ) (start at : ℕ) (marks : List Bool) → length marks ≡ length values
    → IsWalking (length values) (slice_index values) start at (λ k. get_or marks k false)
    → IsWalking (length values) (slice_index values) start (slice_index values at) (λ k. get_or (set marks at true) k false)
walking-more values start at marks same w =
    walking-step (length values) (slice_index values) start at (λ k. get_or marks k false) (λ k. get_or (set marks at true) k false) w
    (get_or-set_same marks at true false (omega (arith, same, w.within)))
    (λ k ne. get_or-set_other marks at k true false ne)

pub unmarked-falls : (marks : List Bool) (at n : ℕ) → at < n → at < length marks → get_or marks at false ≡ false
    → count_below (λ k. not (get_or (set marks at true) k false)) n < count_below (λ k. not (get_or marks k false)) n
unmarked-falls marks at n h h' e =
    count_below-falls (λ k. not (get_or marks k false)) (λ k. not (get_or (set marks at true) k false)) at n h (ap not e)
    (ap not (get_or-set_same marks at true false h')) (λ k ne. ap not (get_or-set_other marks at k true false ne))

-- the cycles with leaders below the start are marked, and counted
pub record IsCounting (values : List ℕ) (start : ℕ) (marks : List Bool) (count : ℕ) : Type 0 where
  pub marked : IsMarkedBelow (length values) (slice_index values) start (λ k. get_or marks k false)
  pub counted : count ≡ count_below (λ d. eqb (leader (length values) (slice_index values) d) d) start

pub counting-none : (values : List ℕ) (marks : List Bool) → ((k : ℕ) → k < length values → get_or marks k false ≡ false) → IsCounting values 0 marks 0
counting-none values marks none = record { marked = marked-none (length values) (slice_index values) (λ k. get_or marks k false) none; counted = refl }

pub counting-more : (values : List ℕ) (start : ℕ) (marks marks' : List Bool) (count : ℕ) → IsPermutationList values → start < length values → IsCounting values start marks count
    → get_or marks start false ≡ false → IsMarkedBelow (length values) (slice_index values) (start + 1) (λ k. get_or marks' k false) → IsCounting values (start + 1) marks' (count + 1)
counting-more values start marks marks' count p h c e m = record {
  marked = m;
  counted = omega (
    arith,
    c.counted,
    leaders-more (length values) (slice_index values) start
        (unmarked_leads (length values) (slice_index values) start (λ k. get_or marks k false) p h c.marked e),
  );
}

pub counting-skip : (values : List ℕ) (start : ℕ) (marks : List Bool) (count : ℕ) → IsPermutationList values → start < length values → IsCounting values start marks count
    → get_or marks start false ≡ true → IsCounting values (start + 1) marks count
counting-skip values start marks count p h c e = record {
  marked = marked-skip (length values) (slice_index values) start (λ k. get_or marks k false) p h c.marked e;
  counted = c.counted ∙ sym (leaders-skip (length values) (slice_index values) start (marked_follows (length values) (slice_index values) start (λ k. get_or marks k false) h c.marked e));
}

pub counting-bound : (values : List ℕ) (start : ℕ) (marks : List Bool) (count : ℕ) → IsCounting values start marks count → count ≤ start
counting-bound values start marks count c = omega (arith, c.counted, count_below-bound (λ d. eqb (leader (length values) (slice_index values) d) d) start)

pub counting-all : (values : List ℕ) (start : ℕ) (marks : List Bool) (count : ℕ) → start ≡ length values → IsCounting values start marks count → count ≡ cycles (length values) (slice_index values)
counting-all values start marks count e c = c.counted ∙ ap (count_below (λ d. eqb (leader (length values) (slice_index values) d) d)) e
