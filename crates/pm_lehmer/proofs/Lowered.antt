-- A list whose numbers are all lowered by the same amount has the same code.
use Rattle.std.proofs.Common.{◌≡◌, ℕ, suc, ◌-◌, ◌<◌, ◌≤◌, List, [], ◌∷◌, length, map, get_or, drop, subst, refl, ap, sym, ◌∙◌, arith, inl, inr}
use Rattle.std.proofs.lemmas.Bool.{cases_lt}
use Rattle.std.proofs.lemmas.List.{get_or-map, length-map}
use Rattle.pm_lehmer.specs.Lehmer.{count_below, code_of}
use Rattle.pm_lehmer.proofs.Ranked.{IsCodedFrom}
use Rattle.pm_lehmer.proofs.CountBelow.{count_below-nil, count_below-smaller, count_below-other}

-- the numbers less the least
pub lowered : ℕ → List ℕ → List ℕ
lowered least numbers = map (λ number. number - least) numbers

-- no number is below the least
abbrev pub AreFrom : ℕ → List ℕ → Type 0
AreFrom least numbers = (place : ℕ) → place < length numbers → least ≤ get_or numbers place 0

pub length-lowered : (least : ℕ) (numbers : List ℕ) → length (lowered least numbers) ≡ length numbers
unfolding lowered
length-lowered least numbers = length-map numbers _

pub get_or-lowered : (least : ℕ) (numbers : List ℕ) (place : ℕ) → place < length numbers → get_or (lowered least numbers) place 0 ≡ get_or numbers place 0 - least
unfolding lowered
get_or-lowered least numbers place inside = get_or-map _ numbers place 0 0 inside

lowered-nil : (least : ℕ) → lowered least [] ≡ []
unfolding lowered
lowered-nil least = refl

lowered-cons : (least number : ℕ) (later : List ℕ) → lowered least (number ∷ later) ≡ (number - least) ∷ lowered least later
unfolding lowered
lowered-cons least number later = refl

count_below-lowered : (least number : ℕ) (later : List ℕ) → least ≤ number → AreFrom least later → count_below (number - least) (lowered least later) ≡ count_below number later
count_below-lowered least number [] low from = ap (count_below (number - least)) (lowered-nil least) ∙ count_below-nil (number - least) ∙ sym (count_below-nil number)
count_below-lowered least number (entry ∷ later) low from =
    let first : least ≤ entry = from 0 (omega arith) in
    let cons = ap (count_below (number - least)) (lowered-cons least entry later) in
    let rest = count_below-lowered least number later low (λ place inside. from (suc place) (omega arith)) in
    elim (cases_lt entry number) [
      | inl less ↦ omega (arith, cons, rest, count_below-smaller number entry later less, count_below-smaller (number - least) (entry - least) (lowered least later) (omega arith))
      | inr more ↦ omega (arith, cons, rest, count_below-other number entry later more, count_below-other (number - least) (entry - least) (lowered least later) (omega arith))
    ]

pub code_of-lowered : (least : ℕ) (numbers : List ℕ) → AreFrom least numbers → code_of (lowered least numbers) ≡ code_of numbers
code_of-lowered least [] from = ap code_of (lowered-nil least)
code_of-lowered least (number ∷ later) from =
    ap code_of (lowered-cons least number later)
    ∙ ap (λ n. n ∷ code_of (lowered least later)) (count_below-lowered least number later (from 0 (omega arith)) (λ place inside. from (suc place) (omega arith)))
    ∙ ap (λ c. count_below number later ∷ c) (code_of-lowered least later (λ place inside. from (suc place) (omega arith)))

-- the code of all of the lowered numbers is that of the numbers
pub coded_whole : (Holds : (ℕ → ℕ) → Type 0) (least : ℕ) (numbers code : List ℕ) (place : ℕ) → place ≡ 0 → AreFrom least numbers → IsCodedFrom Holds (lowered least numbers) code place → code ≡ code_of numbers
coded_whole Holds least numbers code place first from coded =
    let all = subst (λ (p : ℕ). drop p code ≡ code_of (drop p (lowered least numbers))) first coded.coded in
    all ∙ code_of-lowered least numbers from
