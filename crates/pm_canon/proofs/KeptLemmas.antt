-- Lists in which each dart stands once, and marks, with one dart more.
use Rattle.std.proofs.Common.{◌≡◌, ℕ, ◌+◌, ◌<◌, ◌≤◌, inl, inr, Bool, true, false, List, [], ◌∷◌, ◌++◌, length, get_or, set, take, Some, sym, ◌∙◌, ap, subst, arith, Contains}
use Rattle.std.proofs.lemmas.List.{get_or_append_left, get_or_push, get_or-set_same, get_or-set_other, length_push, length-take-le, get_or-take}
use Rattle.std.specs.List.{slice_get}
use Rattle.std.proofs.lemmas.Option.{get_or_from_slice_get}
use Rattle.std.proofs.lemmas.Bool.{cases_lt, cases_eq, false≢true}
use Rattle.std.proofs.lemmas.List.Elements.{Contains-append_left, Contains-push, Contains-push_cases}
use Rattle.pm_perm.proofs.Contained.{contains_at, is_at}
use Rattle.pm_perm.proofs.Permutations.{pigeonhole}
use Rattle.pm_canon.specs.MeetingOrder.{HasEachOnce}
use Rattle.pm_canon.specs.steps.Kept.{MarksDarts}

-- darts below a bound, each once, are no more than the bound
pub HasEachOnce-length : (bound : ℕ) (darts : List ℕ) → HasEachOnce bound darts → length darts ≤ bound
HasEachOnce-length bound darts once =
    pigeonhole (λ k. get_or darts k 0) (length darts) bound once.stays once.injective

pub HasEachOnce-push : (bound : ℕ) (darts : List ℕ) (d : ℕ) → HasEachOnce bound darts → d < bound → (Contains darts d → ⊥)
    → HasEachOnce bound (darts ++ d ∷ [])
HasEachOnce-push bound darts d once below fresh =
    let size : length (darts ++ d ∷ []) ≡ length darts + 1 = length_push darts d in
    record {
      stays = λ k h. elim (cases_lt k (length darts)) [
        | inl within ↦ omega (arith, get_or_append_left darts (d ∷ []) 0 k within, once.stays k within)
        | inr past ↦ omega (arith, get_or_push darts d 0 k (omega arith))
      ];
      injective = λ j k hj hk same. elim (cases_lt j (length darts)) [
        | inl within_j ↦ elim (cases_lt k (length darts)) [
          | inl within_k ↦ once.injective j k within_j within_k (sym (get_or_append_left darts (d ∷ []) 0 j within_j) ∙ same ∙ get_or_append_left darts (d ∷ []) 0 k within_k)
          | inr past_k ↦ absurd (fresh (contains_at _ _ j within_j (sym (get_or_append_left darts (d ∷ []) 0 j within_j) ∙ same ∙ get_or_push darts d 0 k (omega arith))))
        ]
        | inr past_j ↦ elim (cases_lt k (length darts)) [
          | inl within_k ↦ absurd (fresh (contains_at _ _ k within_k (sym (get_or_append_left darts (d ∷ []) 0 k within_k) ∙ sym same ∙ get_or_push darts d 0 j (omega arith))))
          | inr past_k ↦ omega arith
        ]
      ];
    }

pub MarksDarts-push : (marks : List Bool) (darts : List ℕ) (d : ℕ) → MarksDarts marks darts → d < length marks
    → MarksDarts (set marks d true) (darts ++ d ∷ [])
MarksDarts-push marks darts d m within =
    record {
      marked = λ e s. elim (cases_eq e d) [
        | inl same ↦ ap (λ k. get_or (set marks d true) k false) same ∙ get_or-set_same marks d true false within
        | inr other ↦ elim (Contains-push_cases darts d e s) [
          | inl before ↦ get_or-set_other marks d e true false other ∙ m.marked e before
          | inr last ↦ absurd (other (sym last))
        ]
      ];
      stands = λ e is. elim (cases_eq e d) [
        | inl same ↦ subst (λ k. Contains (darts ++ d ∷ []) k) (sym same) (Contains-push darts d)
        | inr other ↦ Contains-append_left darts (d ∷ []) e (m.stands e (sym (get_or-set_other marks d e true false other) ∙ is))
      ];
    }

-- a dart that isn't marked doesn't stand in the list
pub MarksDarts-unmarked : (marks : List Bool) (darts : List ℕ) (d : ℕ) → MarksDarts marks darts → slice_get marks d ≡ Some false → Contains darts d → ⊥
MarksDarts-unmarked marks darts d m unmarked s = false≢true (sym (get_or_from_slice_get marks d false false unmarked) ∙ m.marked d s)

-- a dart doesn't stand before its place
pub HasEachOnce-fresh : (bound : ℕ) (darts : List ℕ) (place : ℕ) → HasEachOnce bound darts → place < length darts → Contains (take place darts) (get_or darts place 0) → ⊥
HasEachOnce-fresh bound darts place once within s =
    let before : s.0 < length (take place darts) = s.1 in
    let size : length (take place darts) ≡ place = length-take-le place darts (omega arith) in
    let same : s.0 ≡ place = once.injective s.0 place (omega arith) within (sym (get_or-take place darts s.0 0 (omega arith)) ∙ (is_at _ _ s)) in
    omega arith
