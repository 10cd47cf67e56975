-- How many entries of a list are below a number.
use Rattle.std.proofs.Common.{◌≡◌, ◌≢◌, ℕ, zero, suc, ◌+◌, ◌<◌, ◌≤◌, List, [], ◌∷◌, ◌++◌, length, get_or, refl, ap, ◌∙◌, zero-add, arith, inl, inr}
use Rattle.std.specs.Prelude.{nat_lt, Bool, true, false, count_by}
use Rattle.std.proofs.Math.Bool.{cond}
use Rattle.std.proofs.lemmas.Bool.{lt-ltb, le-ltb, cases_lt, cases_eq}
use Rattle.std.proofs.lemmas.List.Sums.{count_by-le-length, sum_by-append, sum_by-cons}
use Rattle.pm_lehmer.specs.Lehmer.{count_below}

pub count_below-nil : (number : ℕ) → count_below number [] ≡ 0
unfolding count_below
count_below-nil number = refl

one_more : (number : ℕ) → 1 + number ≡ suc number
one_more number = omega arith

count_by-cons_yes : (test : ℕ → Bool) (entry : ℕ) (later : List ℕ) → test entry ≡ true → count_by test (entry ∷ later) ≡ suc (count_by test later)
count_by-cons_yes test entry later passes =
    sum_by-cons (λ x. cond (test x) 1 0) entry later ∙ ap (λ b. cond b 1 0 + count_by test later) passes ∙ one_more (count_by test later)

count_by-cons_no : (test : ℕ → Bool) (entry : ℕ) (later : List ℕ) → test entry ≡ false → count_by test (entry ∷ later) ≡ count_by test later
count_by-cons_no test entry later fails =
    sum_by-cons (λ x. cond (test x) 1 0) entry later ∙ ap (λ b. cond b 1 0 + count_by test later) fails ∙ zero-add (count_by test later)

pub count_below-smaller : (number entry : ℕ) (later : List ℕ) → entry < number → count_below number (entry ∷ later) ≡ suc (count_below number later)
unfolding count_below
count_below-smaller number entry later less = count_by-cons_yes (λ x. nat_lt x number) entry later (lt-ltb entry number less)

pub count_below-other : (number entry : ℕ) (later : List ℕ) → number ≤ entry → count_below number (entry ∷ later) ≡ count_below number later
unfolding count_below
count_below-other number entry later more = count_by-cons_no (λ x. nat_lt x number) entry later (le-ltb entry number more)

pub count_below-le-length : (number : ℕ) (entries : List ℕ) → count_below number entries ≤ length entries
unfolding count_below
count_below-le-length number entries = count_by-le-length _ entries

pub count_below-append : (number : ℕ) (prefix back : List ℕ) → count_below number (prefix ++ back) ≡ count_below number prefix + count_below number back
unfolding count_below
count_below-append number prefix back = sum_by-append _ prefix back

-- a greater number has as many or more entries below it
pub count_below-mono : (small great : ℕ) (entries : List ℕ) → small ≤ great → count_below small entries ≤ count_below great entries
count_below-mono small great [] le = omega (arith, count_below-nil small, count_below-nil great)
count_below-mono small great (entry ∷ later) le =
    elim (cases_lt entry small) [
      | inl is_less ↦ omega (arith, count_below-smaller small entry later is_less, count_below-smaller great entry later (omega arith), count_below-mono small great later le)
      | inr not_less ↦ elim (cases_lt entry great) [
        | inl is_less ↦ omega (arith, count_below-other small entry later not_less, count_below-smaller great entry later is_less, count_below-mono small great later le)
        | inr no_less ↦ omega (arith, count_below-other small entry later not_less, count_below-other great entry later no_less, count_below-mono small great later le)
      ]
    ]

-- a number that stands in the list is counted below its successor
pub count_below-stands : (number place : ℕ) (entries : List ℕ) → place < length entries → get_or entries place 0 ≡ number → count_below number entries + 1 ≤ count_below (suc number) entries
count_below-stands number place [] inside is = absurd (omega arith)
count_below-stands number zero (entry ∷ later) inside is =
    omega (arith, is, count_below-other number entry later (omega (arith, is)), count_below-smaller (suc number) entry later (omega (arith, is)), count_below-mono number (suc number) later (omega arith))
count_below-stands number (suc place) (entry ∷ later) inside is =
    elim (cases_lt entry number) [
      | inl is_less ↦ omega (arith, count_below-smaller number entry later is_less, count_below-smaller (suc number) entry later (omega arith), count_below-stands number place later (omega arith) is)
      | inr not_less ↦ elim (cases_lt entry (suc number)) [
        | inl is_less ↦ omega (arith, count_below-other number entry later not_less, count_below-smaller (suc number) entry later is_less, count_below-stands number place later (omega arith) is)
        | inr no_less ↦ omega (arith, count_below-other number entry later not_less, count_below-other (suc number) entry later no_less, count_below-stands number place later (omega arith) is)
      ]
    ]

-- a number that stands twice is counted twice
pub count_below-twice : (number first second : ℕ) (entries : List ℕ) → first < second → second < length entries → get_or entries first 0 ≡ number → get_or entries second 0 ≡ number → count_below number entries + 2 ≤ count_below (suc number) entries
count_below-twice number first second [] before inside is_first is_second = absurd (omega arith)
count_below-twice number zero zero (entry ∷ later) before inside is_first is_second = absurd (omega arith)
count_below-twice number zero (suc second) (entry ∷ later) before inside is_first is_second =
    omega (arith, is_first, count_below-other number entry later (omega (arith, is_first)), count_below-smaller (suc number) entry later (omega (arith, is_first)), count_below-stands number second later (omega arith) is_second)
count_below-twice number (suc first) zero (entry ∷ later) before inside is_first is_second = absurd (omega arith)
count_below-twice number (suc first) (suc second) (entry ∷ later) before inside is_first is_second =
    elim (cases_lt entry number) [
      | inl is_less ↦ omega (arith, count_below-smaller number entry later is_less, count_below-smaller (suc number) entry later (omega arith), count_below-twice number first second later (omega arith) (omega arith) is_first is_second)
      | inr not_less ↦ elim (cases_lt entry (suc number)) [
        | inl is_less ↦ omega (arith, count_below-other number entry later not_less, count_below-smaller (suc number) entry later is_less, count_below-twice number first second later (omega arith) (omega arith) is_first is_second)
        | inr no_less ↦ omega (arith, count_below-other number entry later not_less, count_below-other (suc number) entry later no_less, count_below-twice number first second later (omega arith) (omega arith) is_first is_second)
      ]
    ]

-- a number that stands nowhere is not counted below its successor
pub count_below-absent : (number : ℕ) (entries : List ℕ) → ((place : ℕ) → place < length entries → get_or entries place 0 ≢ number) → count_below (suc number) entries ≡ count_below number entries
count_below-absent number [] absent = omega (arith, count_below-nil number, count_below-nil (suc number))
count_below-absent number (entry ∷ later) absent =
    let rest : count_below (suc number) later ≡ count_below number later = count_below-absent number later (λ place inside. absent (suc place) (omega arith)) in
    let other : entry ≢ number = absent 0 (omega arith) in
    elim (cases_lt entry number) [
      | inl is_less ↦ omega (arith, rest, count_below-smaller number entry later is_less, count_below-smaller (suc number) entry later (omega arith))
      | inr not_less ↦ omega (arith, rest, other, count_below-other number entry later not_less, count_below-other (suc number) entry later (omega (arith, other)))
    ]

-- different places hold different numbers
pub record HasDifferentEntries (entries : List ℕ) : Type 0 where
  pub injective : (first second : ℕ) → first < length entries → second < length entries → get_or entries first 0 ≡ get_or entries second 0 → first ≡ second

-- of different entries at most one is added from a number to the next
pub count_below-step : (number : ℕ) (entries : List ℕ) → HasDifferentEntries entries → count_below (suc number) entries ≤ suc (count_below number entries)
count_below-step number [] different = omega (arith, count_below-nil number, count_below-nil (suc number))
count_below-step number (entry ∷ later) different =
    let tail : HasDifferentEntries later = record { injective = λ first second in_first in_second same. omega (arith, different.injective (suc first) (suc second) (omega arith) (omega arith) same) } in
    elim (cases_eq entry number) [
      | inl is ↦ omega (
        arith,
        is,
        count_below-other number entry later (omega (arith, is)),
        count_below-smaller (suc number) entry later (omega (arith, is)),
        count_below-absent number later (λ place inside same. absurd (omega (arith, different.injective 0 (suc place) (omega arith) (omega arith) (omega (arith, is, same))))),
      )
      | inr other ↦ elim (cases_lt entry number) [
        | inl is_less ↦ omega (arith, count_below-smaller number entry later is_less, count_below-smaller (suc number) entry later (omega arith), count_below-step number later tail)
        | inr not_less ↦ omega (arith, other, count_below-other number entry later not_less, count_below-other (suc number) entry later (omega (arith, other)), count_below-step number later tail)
      ]
    ]
