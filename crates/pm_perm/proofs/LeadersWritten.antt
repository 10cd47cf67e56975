-- Leaders written cycle by cycle, where an entry that isn't written is the length.
use Rattle.std.proofs.Common.{◌≡◌, ℕ, ◌+◌, ◌<◌, inl, inr, Bool, true, false, not, eqb, List, length, set, slice_index, sym, ap, ◌∙◌, lt-ltb, le-ltb, eq-eqb, ne_eqb, arith, rules, get_or-set_same, get_or-set_other}
use Rattle.std.proofs.lemmas.Bool.{cases_eq, cases_lt}
use Rattle.pm_perm.specs.Count.{count_below}
use Rattle.pm_perm.specs.Permutation.{IsPermutationList}
use Rattle.pm_perm.specs.Cycles.{leader}
use Rattle.pm_perm.specs.Lists.{IsLeaderList}
use Rattle.pm_perm.specs.steps.Leading.{IsLedBelow, IsMarkedBelow}
use Rattle.pm_perm.proofs.LeaderMaps.{IsLeaderMap, leader-map, leader-is_least}
use Rattle.pm_perm.proofs.Walks.{IsWalking, walking-start, walking-step, walking-end, marked-skip, count_below-falls}

-- whether entry k is written
pub written : List ℕ → ℕ → ℕ → Bool
written leaders size k = not (eqb (slice_index leaders k) size)

pub written-true : (leaders : List ℕ) (size k : ℕ) → (slice_index leaders k ≡ size → ⊥) → written leaders size k ≡ true
unfolding written
written-true leaders size k ne = ap not (ne_eqb (slice_index leaders k) size ne)

pub written-false : (leaders : List ℕ) (size k : ℕ) → slice_index leaders k ≡ size → written leaders size k ≡ false
unfolding written
written-false leaders size k e = ap not (eq-eqb (slice_index leaders k) size e)

true_false : (b : Bool) → b ≡ true → b ≡ false → ⊥
true_false b e e' = grind arith

-- a walk that writes leaders
pub record IsLeading (values leaders : List ℕ) (start at : ℕ) : Type 0 where
  pub same_length : length leaders ≡ length values
  pub walking : IsWalking (length values) (slice_index values) start at (written leaders (length values))
  pub right : (k : ℕ) → k < length values → (slice_index leaders k ≡ length values → ⊥) → slice_index leaders k ≡ leader (length values) (slice_index values) k

led_marked : (values leaders : List ℕ) (bound : ℕ) → IsPermutationList values → IsLedBelow values bound leaders → IsMarkedBelow (length values) (slice_index values) bound (written leaders (length values))
led_marked values leaders bound p l = record {
  marks = λ k h. elim (cases_lt (leader (length values) (slice_index values) k) bound) [
    | inl less ↦
        let m : IsLeaderMap (length values) (slice_index values) (leader (length values) (slice_index values)) = leader-map (length values) (slice_index values) p in
        written-true leaders (length values) k (λ e. omega (arith, e, l.leads k h less, m.least k h, h))
        ∙ sym (lt-ltb (leader (length values) (slice_index values) k) bound less)
    | inr more ↦ written-false leaders (length values) k (l.open_later k h more) ∙ sym (le-ltb (leader (length values) (slice_index values) k) bound more)
  ];
}

led_right : (values leaders : List ℕ) (bound : ℕ) → IsLedBelow values bound leaders → (k : ℕ) → k < length values → (slice_index leaders k ≡ length values → ⊥) → slice_index leaders k ≡ leader (length values) (slice_index values) k
led_right values leaders bound l k h ne = elim (cases_lt (leader (length values) (slice_index values) k) bound) [
  | inl less ↦ l.leads k h less
  | inr more ↦ absurd (ne (l.open_later k h more))
]

marked_led : (values leaders : List ℕ) (bound : ℕ) → IsMarkedBelow (length values) (slice_index values) bound (written leaders (length values))
    → ((k : ℕ) → k < length values → (slice_index leaders k ≡ length values → ⊥) → slice_index leaders k ≡ leader (length values) (slice_index values) k) → IsLedBelow values bound leaders
marked_led values leaders bound m right = record {
  leads = λ k h less. right k h (λ e. true_false (written leaders (length values) k) (m.marks k h ∙ lt-ltb (leader (length values) (slice_index values) k) bound less) (written-false leaders (length values) k e));
  open_later = λ k h more. elim (cases_eq (slice_index leaders k) (length values)) [
    | inl e ↦ e
    | inr ne ↦ absurd (true_false (written leaders (length values) k) (written-true leaders (length values) k ne) (m.marks k h ∙ le-ltb (leader (length values) (slice_index values) k) bound more))
  ];
}

pub leading-start : (values leaders : List ℕ) (start : ℕ) → IsPermutationList values → length leaders ≡ length values → start < length values → IsLedBelow values start leaders → slice_index leaders start ≡ length values
    → IsLeading values leaders start start
leading-start values leaders start p same h l e = record {
  same_length = same;
  walking = walking-start (length values) (slice_index values) start (written leaders (length values)) p h (led_marked values leaders start p l) (written-false leaders (length values) start e);
  right = led_right values leaders start l;
}

pub leading-more : (values leaders : List ℕ) (start at : ℕ) → IsLeading values leaders start at → IsLeading values (set leaders at start) start (slice_index values at)
leading-more values leaders start at w =
    let walk : IsWalking (length values) (slice_index values) start at (written leaders (length values)) = w.walking in
    let here : slice_index (set leaders at start) at ≡ start = get_or-set_same leaders at start 0 (omega (arith, w.same_length, walk.within)) in
    record {
      same_length = length_set leaders at start ∙ w.same_length;
      walking = walking-step (length values) (slice_index values) start at (written leaders (length values)) (written (set leaders at start) (length values)) walk
          (written-true (set leaders at start) (length values) at (λ e. omega (arith, e, here, walk.begins)))
          (λ k ne. written_same leaders (length values) at start k ne);
      right = λ k h ne. elim (cases_eq k at) [
        | inl e ↦ ap (slice_index (set leaders at start)) e ∙ here ∙ sym walk.around ∙ ap (leader (length values) (slice_index values)) (sym e)
        | inr other ↦
            let same : slice_index (set leaders at start) k ≡ slice_index leaders k = get_or-set_other leaders at k start 0 other in
            same ∙ w.right k h (λ e. ne (same ∙ e))
      ];
    } where
      length_set : (leaders : List ℕ) (i v : ℕ) → length (set leaders i v) ≡ length leaders
      length_set leaders i v = search rules

      written_same : (leaders : List ℕ) (size at start k : ℕ) → (k ≡ at → ⊥) → written (set leaders at start) size k ≡ written leaders size k
      written_same leaders size at start k ne =
          let same : slice_index (set leaders at start) k ≡ slice_index leaders k = get_or-set_other leaders at k start 0 ne in
          elim (cases_eq (slice_index leaders k) size) [
            | inl e ↦ written-false (set leaders at start) size k (same ∙ e) ∙ sym (written-false leaders size k e)
            | inr other ↦ written-true (set leaders at start) size k (λ e. other (sym same ∙ e)) ∙ sym (written-true leaders size k other)
          ]

-- the entries that aren't written yet
pub unwritten : List ℕ → ℕ → ℕ
unwritten leaders size = count_below (λ k. not (written leaders size k)) size

pub unwritten-falls : (values leaders : List ℕ) (start at : ℕ) → IsLeading values leaders start at → slice_index leaders at ≡ length values
    → unwritten (set leaders at start) (length values) < unwritten leaders (length values)
unfolding unwritten
unwritten-falls values leaders start at w e =
    let walk : IsWalking (length values) (slice_index values) start at (written leaders (length values)) = w.walking in
    let here : slice_index (set leaders at start) at ≡ start = get_or-set_same leaders at start 0 (omega (arith, w.same_length, walk.within)) in
    count_below-falls (λ k. not (written leaders (length values) k)) (λ k. not (written (set leaders at start) (length values) k)) at (length values) walk.within
    (ap not (written-false leaders (length values) at e))
    (ap not (written-true (set leaders at start) (length values) at (λ e'. omega (arith, e', here, walk.begins))))
    (λ k ne. ap not (same_written leaders (length values) at start k ne)) where
      same_written : (leaders : List ℕ) (size at start k : ℕ) → (k ≡ at → ⊥) → written (set leaders at start) size k ≡ written leaders size k
      same_written leaders size at start k ne =
          let same : slice_index (set leaders at start) k ≡ slice_index leaders k = get_or-set_other leaders at k start 0 ne in
          elim (cases_eq (slice_index leaders k) size) [
            | inl e ↦ written-false (set leaders at start) size k (same ∙ e) ∙ sym (written-false leaders size k e)
            | inr other ↦ written-true (set leaders at start) size k (λ e. other (sym same ∙ e)) ∙ sym (written-true leaders size k other)
          ]

pub leading-end : (values leaders : List ℕ) (start at : ℕ) → IsLeading values leaders start at → (slice_index leaders at ≡ length values → ⊥) → IsLedBelow values (start + 1) leaders
leading-end values leaders start at w ne =
    marked_led values leaders (start + 1)
    (walking-end (length values) (slice_index values) start at (written leaders (length values)) w.walking (written-true leaders (length values) at ne)) w.right

pub led-skip : (values leaders : List ℕ) (start : ℕ) → IsPermutationList values → start < length values → IsLedBelow values start leaders → (slice_index leaders start ≡ length values → ⊥) → IsLedBelow values (start + 1) leaders
led-skip values leaders start p h l ne =
    marked_led values leaders (start + 1)
    (marked-skip (length values) (slice_index values) start (written leaders (length values)) p h (led_marked values leaders start p l) (written-true leaders (length values) start ne))
    (led_right values leaders start l)

pub led-none : (values leaders : List ℕ) → ((k : ℕ) → k < length values → slice_index leaders k ≡ length values) → IsLedBelow values 0 leaders
led-none values leaders none = record { leads = λ k h less. absurd (omega (arith, less)); open_later = λ k h _. none k h }

pub led-all : (values leaders : List ℕ) (bound : ℕ) → IsPermutationList values → length leaders ≡ length values → bound ≡ length values → IsLedBelow values bound leaders → IsLeaderList values leaders
led-all values leaders bound p same e l =
    let m : IsLeaderMap (length values) (slice_index values) (leader (length values) (slice_index values)) = leader-map (length values) (slice_index values) p in
    let leads : (k : ℕ) → k < length values → slice_index leaders k ≡ leader (length values) (slice_index values) k = λ k h. l.leads k h (omega (arith, m.least k h, h, e)) in
    record {
      same_length = same;
      leads = leads;
      least = λ k h.
          (let least = leader-is_least (length values) (slice_index values) p k h in
          let here : slice_index leaders k ≡ leader (length values) (slice_index values) k = leads k h in
          record {
            met = record { steps = least.met.steps; leads = least.met.leads ∙ sym here };
            least = λ e' c. omega (arith, here, least.least e' c);
          });
    }
