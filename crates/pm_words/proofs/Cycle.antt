-- The cycle lemma: the prefixes of a word one after another, as far as its end.
use Rattle.std.proofs.Common.{◌≡◌, ℕ, zero, suc, ◌+◌, ◌<◌, ◌≤◌, List, [], ◌∷◌, ◌++◌, length, refl, subst, arith, true, false, inl, inr, pos, ◌+ℤ◌, ◌≤ℤ◌, ℤ}
use Rattle.std.specs.Prelude.{◌<ℤ◌, Bool, ◌⊎◌}
use lib.Signed.{lt_z}
use Rattle.pm_words.specs.Laws.{CycleLemma}
use Rattle.pm_words.specs.Word.{IsWord, IsLowest}
use Rattle.pm_words.proofs.Heights.{height, IsLowestTo, IsLowestTo-none, IsLowestTo-lower, IsLowestTo-same, IsLowestTo-all, lowest_bound, filled, less_from_test, not_less_from_test}
use Rattle.pm_words.proofs.Records.{HasRecords, HasRecords-none, HasRecords-push, HasRecords-high, HasRecords-same, HasRecords-starts}

-- of two numbers the first is less, or it isn't
decided : (first second : ℤ) (test : Bool) → lt_z first second ≡ test → (first <ℤ second) ⊎ (second ≤ℤ first)
decided first second true is = inl (less_from_test first second is)
decided first second false is = inr (not_less_from_test first second is)

cases_less : (first second : ℤ) → (first <ℤ second) ⊎ (second ≤ℤ first)
cases_less first second = decided first second (lt_z first second) refl

-- the lowest height of the first prefixes
lowest_to : (word : List ℤ) → 0 < length word → (prefix : ℕ) → prefix ≤ length word → (lowest : ℤ) × IsLowestTo word prefix lowest
lowest_to word some zero within = (pos 0, IsLowestTo-none word some)
lowest_to word some (suc prefix) within =
    let before : (lowest : ℤ) × IsLowestTo word prefix lowest = lowest_to word some prefix (omega arith) in
    let more : prefix + 1 ≡ suc prefix = omega arith in
    subst (λ (n : ℕ). (lowest : ℤ) × IsLowestTo word n lowest) more
    (elim (cases_less (height word prefix) before.0) [
      | inl lower ↦ (height word prefix, IsLowestTo-lower word prefix before.0 (height word prefix) before.1 refl (omega arith) lower)
      | inr higher ↦ (before.0, IsLowestTo-same word prefix before.0 (height word prefix) before.1 refl higher)
    ])

-- the records of the first prefixes, with the least height that they reach
record HaveRecords (word : List ℤ) (bound : ℤ) (prefix : ℕ) : Type 0 where
  least : ℤ
  starts : List ℕ
  has : HasRecords word bound prefix least starts

-- each prefix has its records
records_to : (word : List ℤ) (bound : ℤ) → IsWord word → bound ≤ℤ pos 1 → (prefix : ℕ) → prefix ≤ length word → HaveRecords word bound prefix
records_to word bound is_word low zero within = record { least = pos 1; starts = []; has = HasRecords-none word bound [] low refl }
records_to word bound is_word low (suc prefix) within =
    let before : HaveRecords word bound prefix = records_to word bound is_word low prefix (omega arith) in
    let sum : ℤ = height word prefix in
    let more : prefix + 1 ≡ suc prefix = omega arith in
    subst (HaveRecords word bound) more
    (elim (cases_less sum before.least) [
      | inl lower ↦ elim (cases_less sum bound) [
        | inl under ↦ record {
          least = sum;
          starts = before.starts ++ prefix ∷ [];
          has = HasRecords-push word bound prefix before.least sum before.starts before.has refl is_word (omega arith) lower under;
        }
        | inr over ↦ record {
          least = sum;
          starts = before.starts;
          has = HasRecords-high word bound prefix before.least sum before.starts before.has refl is_word (omega arith) lower over;
        }
      ]
      | inr higher ↦ record {
        least = before.least;
        starts = before.starts;
        has = HasRecords-same word bound prefix before.least sum before.starts before.has refl higher;
      }
    ])

-- a word that sums to -goal has goal good starts: the records below the goal above its lowest height
pub good_starts_exist : CycleLemma
good_starts_exist goal word positive is_word sum =
    let some : 0 < length word = filled word goal positive sum in
    let lowest : (lowest : ℤ) × IsLowestTo word (length word) lowest = lowest_to word some (length word) (omega arith) in
    let is_lowest : IsLowest word lowest.0 = IsLowestTo-all word (length word) lowest.0 refl lowest.1 in
    let bound : ℤ = lowest.0 +ℤ pos goal in
    let all : HaveRecords word bound (length word) = records_to word bound is_word (lowest_bound word goal lowest.0 is_word sum is_lowest) (length word) (omega arith) in
    (all.starts, HasRecords-starts word goal (length word) lowest.0 bound all.least all.starts positive sum some refl is_lowest refl all.has)
