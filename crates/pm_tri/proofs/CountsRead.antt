-- The counts of a word's letters as they are read backwards, one after another.
use Rattle.std.proofs.Common.{◌≡◌, ℕ, suc, ◌+◌, ◌-◌, ◌<◌, inl, inr, List, [], ◌∷◌, ◌++◌, length, slice_index, get_or, refl, ap, ◌∙◌, sym, arith, length-append, ℤ, pos, negsuc, Bool, true, false, cond, eqb}
use mir.Val.{to_z, of_z}
use mir.Syntax.{w32}
use Rattle.std.proofs.lemmas.Bool.{cases_lt}
use Rattle.std.proofs.lemmas.List.{get_or_append_left, get_or_push}
use Rattle.pm_tri.specs.declared.letters.TheConstants.{STEM}
use Rattle.pm_tri.specs.steps.ReadBack.{IsReadBack, count_of}

-- the counts of the letters from the i-th on, counted from 0
pub record IsReadFrom (word : List ℕ) (i : ℕ) (counts : List ℤ) : Type 0 where
  pub read : length counts + i ≡ length word
  pub each : (k : ℕ) → k < length counts → get_or counts k (pos 0) ≡ count_of (slice_index word (length word - suc k))

pub read_none : (word : List ℕ) (i : ℕ) (counts : List ℤ) → counts ≡ [] → i ≡ length word → IsReadFrom word i counts
read_none word i counts e f =
    let none : length counts ≡ 0 = ap length e in
    record { read = omega arith; each = λ k l. absurd (omega arith) }

pub read_more : (word : List ℕ) (i j : ℕ) (counts more : List ℤ) (count : ℤ) → i ≡ suc j → count ≡ count_of (slice_index word j) → more ≡ counts ++ count ∷ [] → IsReadFrom word i counts → IsReadFrom word j more
read_more word i j counts more count e c m h =
    let long = ap length m ∙ length-append counts (count ∷ []) in
    let read = h.read in
    record {
      read = omega (arith, long);
      each = λ k l. elim (cases_lt k (length counts)) [
        | inl old ↦ ap (λ (xs : List ℤ). get_or xs k (pos 0)) m ∙ get_or_append_left counts (count ∷ []) (pos 0) k old ∙ h.each k old
        | inr late ↦
            let last : k ≡ length counts = omega (arith, long) in
            let at : j ≡ length word - suc k = omega arith in
            ap (λ (xs : List ℤ). get_or xs k (pos 0)) m ∙ get_or_push counts count (pos 0) k (sym last) ∙ c ∙ ap (λ (n : ℕ). count_of (slice_index word n)) at
      ];
    }

-- and then the plant
pub read_all : (word : List ℕ) (i : ℕ) (counts more : List ℤ) (count : ℤ) → i ≡ 0 → count ≡ count_of STEM → more ≡ counts ++ count ∷ [] → IsReadFrom word i counts → IsReadBack (STEM ∷ word) more
read_all word i counts more count e c m h =
    let long = ap length m ∙ length-append counts (count ∷ []) in
    let read = h.read in
    record {
      as_long = omega (arith, long);
      each = λ k l. elim (cases_lt k (length counts)) [
        | inl old ↦
            let at : suc (length word - suc k) ≡ suc (length word) - suc k = omega arith in
            ap (λ (xs : List ℤ). get_or xs k (pos 0)) m ∙ get_or_append_left counts (count ∷ []) (pos 0) k old ∙ h.each k old ∙ ap (λ (n : ℕ). count_of (slice_index (STEM ∷ word) n)) at
        | inr late ↦
            let last : k ≡ length counts = omega arith in
            let at : 0 ≡ suc (length word) - suc k = omega arith in
            ap (λ (xs : List ℤ). get_or xs k (pos 0)) m ∙ get_or_push counts count (pos 0) k (sym last) ∙ c ∙ ap (λ (n : ℕ). count_of (slice_index (STEM ∷ word) n)) at
      ];
    }

-- a count is kept as it is by 32 bits
kept_by : (b : Bool) → to_z w32 (of_z w32 (cond b (negsuc 0) (pos 1))) ≡ cond b (negsuc 0) (pos 1)
kept_by true = refl
kept_by false = refl

pub count_kept : (x : ℕ) (count : ℤ) → count ≡ count_of x → to_z w32 (of_z w32 count) ≡ count_of x
count_kept x count e = ap (λ (c : ℤ). to_z w32 (of_z w32 c)) e ∙ kept_by (eqb x STEM)
