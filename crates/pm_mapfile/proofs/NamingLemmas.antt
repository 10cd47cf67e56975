-- A map whose darts are named anew.
use Rattle.std.proofs.Common.{◌≡◌, ℕ, ◌+◌, ◌<◌, List, [], ◌∷◌, ◌++◌, length, get_or, inl, inr, sym, ◌∙◌, ap, subst, arith, length-append}
use Rattle.std.proofs.lemmas.Bool.{cases_lt}
use Rattle.std.proofs.lemmas.List.{get_or_append_left}
use Rattle.std.proofs.Math.Seq.{get_or-append_seam}
use Rattle.pm_perm.specs.Permutation.{IsPermutationList}
use Rattle.pm_perm.specs.Lists.{IsInverseList}
use Rattle.pm_mapfile.specs.TwinNames.{IsNamedAnew}

-- the darts named so far
pub record AreNamed (names places sigma renamed : List ℕ) (count : ℕ) : Type 0 where
  pub size : length renamed ≡ count
  pub each : (d : ℕ) → d < count → get_or renamed d 0 ≡ get_or places (get_or sigma (get_or names d 0) 0) 0

pub naming_begins : (names places sigma renamed : List ℕ) → renamed ≡ [] → AreNamed names places sigma renamed 0
naming_begins names places sigma renamed none = record { size = ap length none; each = λ d h. absurd (omega arith) }

-- one more dart
pub naming_more : (names places sigma renamed new : List ℕ) (count last : ℕ) → AreNamed names places sigma renamed count → new ≡ renamed ++ last ∷ []
    → last ≡ get_or places (get_or sigma (get_or names count 0) 0) 0 → AreNamed names places sigma new (count + 1)
naming_more names places sigma renamed new count last so_far grown is = record {
  size = ap length grown ∙ length-append renamed (last ∷ []) ∙ ap (λ n. n + 1) so_far.size;
  each = λ d h.
      elim (cases_lt d count) [
        | inl before ↦ ap (λ l. get_or l d 0) grown ∙ get_or_append_left renamed (last ∷ []) 0 d (let size = so_far.size in omega (arith, size, before)) ∙ so_far.each d before
        | inr past ↦
            let here : d ≡ count = omega (arith, h, past) in
            subst (λ n. get_or new n 0 ≡ get_or places (get_or sigma (get_or names n 0) 0) 0) (sym here)
            (ap (λ l. get_or l count 0) grown ∙ ap (λ n. get_or (renamed ++ last ∷ []) n 0) (sym so_far.size) ∙ get_or-append_seam renamed last [] 0 ∙ is)
      ];
}

-- all darts are named
pub all_named : (names places sigma renamed : List ℕ) (root named : ℕ) → length sigma ≡ length names → IsPermutationList names → ((d : ℕ) → d < length sigma → get_or sigma d 0 < length sigma)
    → (0 < length sigma → root < length sigma) → IsInverseList names places → IsPermutationList places → AreNamed names places sigma renamed (length names)
    → (0 < length sigma → named ≡ get_or places root 0) → (length sigma ≡ 0 → named ≡ 0)
    → IsNamedAnew names (record { sigma = sigma; root = root }) (record { sigma = renamed; root = named })
all_named names places sigma renamed root named size permutes below is_root inverse still so_far is_named no_root =
    let long : length renamed ≡ length names = so_far.size in
    let as_long : length places ≡ length names = inverse.same_length in
    let goes : (d : ℕ) → d < length renamed → get_or sigma (get_or names d 0) 0 < length names = λ d h.
    let there : get_or names d 0 < length names = permutes.stays d (omega (arith, h, long)) in
    let next = below (get_or names d 0) (omega (arith, there, size)) in omega (arith, next, size) in
    record {
      size = long ∙ sym size;
      below = λ d h.
          let kept = still.stays (get_or sigma (get_or names d 0) 0) (let g = goes d h in omega (arith, g, as_long)) in
          let is = so_far.each d (omega (arith, h, long)) in omega (arith, kept, is, as_long, long);
      next = λ d h. ap (λ n. get_or names n 0) (so_far.each d (omega (arith, h, long))) ∙ inverse.undone (get_or sigma (get_or names d 0) 0) (goes d h);
      root_below = λ some.
          let is = is_named (omega (arith, some, long, size)) in
          let r = is_root (omega (arith, some, long, size)) in
          let kept = still.stays root (omega (arith, r, as_long, size)) in omega (arith, kept, is, as_long, long);
      root = λ some.
          let is = is_named (omega (arith, some, long, size)) in
          let r = is_root (omega (arith, some, long, size)) in
          ap (λ n. get_or names n 0) is ∙ inverse.undone root (omega (arith, r, size));
      no_root = λ none. no_root (omega (arith, none, long, size));
    }
