-- Darts that are linked one behind another: the next of each dart that is done, but for the one that was linked last.
use Rattle.std.proofs.Common.{◌≡◌, ◌≢◌, ℕ, ◌+◌, ◌<◌, ◌⊎◌, inl, inr, List, [], ◌∷◌, ◌++◌, length, set, slice_index, ap, ◌∙◌, sym, subst, arith, get_or-set_other, length-append, length-set}
use Rattle.std.proofs.lemmas.Bool.{cases_eq}
use Rattle.std.proofs.lemmas.Grind.{get_or-set_at}
use Rattle.std.proofs.lemmas.List.{get_or_append_left}
use Rattle.pm_triclose.specs.Closure.{Dart}
use Rattle.pm_triclose.specs.WholeClosure.{FollowsWhole, IsWholeDart}
use Rattle.pm_triclose.proofs.DartNumbers.{IsDrawn, number_of, numbers_differ}

-- a list with two numbers more
pub two_longer : (xs : List ℕ) → length (xs ++ 0 ∷ 0 ∷ []) ≡ length xs + 2
two_longer xs = length-append xs (0 ∷ 0 ∷ [])

-- `last` is the number of a dart, and what may follow that dart is known
pub record AreLinked (places : List ℕ) (t : ℕ → ℕ) (IsDone IsNext : Dart → Type 0) (sigma : List ℕ) (last : ℕ) : Type 0 where
  pub name : Dart
  pub named : IsWholeDart places name
  pub is : last ≡ number_of places t name
  pub within : last < length sigma
  pub ahead : (y : Dart) → FollowsWhole places name y → IsNext y
  pub others : (x y : Dart) → IsDone x → IsWholeDart places x → number_of places t x ≢ last → FollowsWhole places x y → slice_index sigma (number_of places t x) ≡ number_of places t y

module _ (places : List ℕ) (t : ℕ → ℕ) (d : IsDrawn places t) (IsDone IsNext : Dart → Type 0) (sigma : List ℕ) (last : ℕ) (h : AreLinked places t IsDone IsNext sigma last) where
  -- the last one linked too
  pub all_linked : (after : List ℕ) (dart : ℕ) (m : Dart) → after ≡ set sigma last dart → dart ≡ number_of places t m → ((y : Dart) → IsNext y → y ≡ m)
      → (x y : Dart) → IsDone x → IsWholeDart places x → FollowsWhole places x y → slice_index after (number_of places t x) ≡ number_of places t y
  all_linked after dart m written e only x y done named f =
      ap (λ (xs : List ℕ). slice_index xs (number_of places t x)) written ∙ elim (cases_eq (number_of places t x) last) [
        | inl here ↦
            let same = numbers_differ places t d x h.name named h.named (here ∙ h.is) in
            let next = only y (h.ahead y (subst (λ (z : Dart). FollowsWhole places z y) same f)) in
            get_or-set_at sigma last (number_of places t x) dart 0 here h.within ∙ e ∙ ap (number_of places t) (sym next)
        | inr ne ↦ get_or-set_other sigma last (number_of places t x) dart 0 ne ∙ h.others x y done named ne f
      ]

  -- and another one put behind it
  pub linked : (IsDoneNow IsNextNow : Dart → Type 0) (after : List ℕ) (dart now : ℕ) (m name : Dart) → after ≡ set sigma last dart → dart ≡ number_of places t m → ((y : Dart) → IsNext y → y ≡ m)
      → IsWholeDart places name → now ≡ number_of places t name → now < length sigma → ((y : Dart) → FollowsWhole places name y → IsNextNow y)
      → ((x : Dart) → IsDoneNow x → IsWholeDart places x → (x ≡ name) ⊎ IsDone x) → AreLinked places t IsDoneNow IsNextNow after now
  linked IsDoneNow IsNextNow after dart now m name written e only named is within ahead old = record {
    name = name;
    named = named;
    is = is;
    within = omega (arith, within, ap length written, length-set sigma last dart);
    ahead = ahead;
    others = λ x y done n ne f. elim (old x done n) [
      | inl same ↦ absurd (ne (ap (number_of places t) same ∙ sym is))
      | inr before ↦ all_linked after dart m written e only x y before n f
    ];
  }

  -- the same under other names of what is done and what comes next
  pub relinked : (IsDoneNow IsNextNow : Dart → Type 0) → ((x : Dart) → IsDoneNow x → IsDone x) → ((y : Dart) → IsNext y → IsNextNow y) → AreLinked places t IsDoneNow IsNextNow sigma last
  relinked IsDoneNow IsNextNow old next = record {
    name = h.name;
    named = h.named;
    is = h.is;
    within = h.within;
    ahead = λ y f. next y (h.ahead y f);
    others = λ x y done n ne f. h.others x y (old x done) n ne f;
  }

  -- with two darts more, which aren't linked yet
  pub longer : (wide : List ℕ) → wide ≡ sigma ++ 0 ∷ 0 ∷ [] → ((x : Dart) → IsDone x → IsWholeDart places x → number_of places t x < length sigma) → AreLinked places t IsDone IsNext wide last
  longer wide e low = record {
    name = h.name;
    named = h.named;
    is = h.is;
    within = let l = h.within in omega (arith, l, ap length e, two_longer sigma);
    ahead = h.ahead;
    others = λ x y done n ne f.
        ap (λ (xs : List ℕ). slice_index xs (number_of places t x)) e ∙ get_or_append_left sigma (0 ∷ 0 ∷ []) 0 (number_of places t x) (low x done n) ∙ h.others x y done n ne f;
  }
