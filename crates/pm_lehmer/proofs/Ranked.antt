-- Counts of ranks: the rank of an entry is how many entries are smaller than it.
use Rattle.std.proofs.Common.{◌≡◌, ℕ, zero, suc, ◌+◌, ◌<◌, ◌≤◌, List, [], ◌∷◌, ◌++◌, length, get_or, take, drop, refl, ap, sym, ◌∙◌, arith, inl, inr}
use Rattle.std.proofs.Math.ListN.{set}
use Rattle.std.proofs.lemmas.Bool.{cases_lt}
use Rattle.std.proofs.lemmas.List.{drop_more, drop_all, drop-set, get_or-map, length-drop, length-map, map-append, take_more, take_more_set}
use Rattle.std.proofs.lemmas.List.Elements.{All-from_get_or}
use Rattle.std.specs.List.{All}
use Rattle.std.specs.List.Sorted.{IsPermutation}
use Rattle.std.proofs.lemmas.List.Sorted.{sum_by-IsPermutation}
use Rattle.pm_lehmer.specs.Lehmer.{count_below, ranks_among, code_of}
use Rattle.pm_lehmer.specs.steps.Counted.{start_of, IsCounted, IsMore}
use Rattle.pm_lehmer.proofs.CountBelow.{count_below-nil, count_below-smaller, count_below-other, count_below-le-length, count_below-mono, count_below-stands}
use Rattle.pm_lehmer.proofs.Arranged.{count_below-zero}

-- where all numbers that pass come first, so many are below
pub count_below-split : (number split : ℕ) (entries : List ℕ) → split ≤ length entries
    → ((place : ℕ) → place < split → get_or entries place 0 < number)
    → ((place : ℕ) → split ≤ place → place < length entries → number ≤ get_or entries place 0)
    → count_below number entries ≡ split
count_below-split number split [] within before from = omega (arith, count_below-nil number)
count_below-split number zero (entry ∷ later) within before from =
    count_below-other number entry later (from 0 (omega arith) (omega arith))
    ∙ count_below-split number 0 later (omega arith) (λ place less. absurd (omega arith)) (λ place past inside. from (suc place) (omega arith) (omega arith))
count_below-split number (suc split) (entry ∷ later) within before from =
    count_below-smaller number entry later (before 0 (omega arith))
    ∙ ap suc (count_below-split number split later (omega arith) (λ place less. before (suc place) (omega arith)) (λ place past inside. from (suc place) (omega arith) (omega arith)))

ranks_among-cons : (entries : List ℕ) (entry : ℕ) (later : List ℕ) → ranks_among entries (entry ∷ later) ≡ count_below entry entries ∷ ranks_among entries later
unfolding ranks_among
ranks_among-cons entries entry later = refl

ranks_among-nil : (entries : List ℕ) → ranks_among entries [] ≡ []
unfolding ranks_among
ranks_among-nil entries = refl

length-ranks_among : (entries later : List ℕ) → length (ranks_among entries later) ≡ length later
unfolding ranks_among
length-ranks_among entries later = length-map later _

get_or-ranks_among : (entries later : List ℕ) (place : ℕ) → place < length later → get_or (ranks_among entries later) place 0 ≡ count_below (get_or later place 0) entries
unfolding ranks_among
get_or-ranks_among entries later place inside = get_or-map _ later place 0 0 inside

ranks_among-append : (entries prefix back : List ℕ) → ranks_among entries (prefix ++ back) ≡ ranks_among entries prefix ++ ranks_among entries back
unfolding ranks_among
ranks_among-append entries prefix back = map-append _ prefix back

-- an entry is smaller exactly where its rank is
count_below-ranks : (entries : List ℕ) (number : ℕ) (later : List ℕ)
    → ((place : ℕ) → place < length later → count_below (get_or later place 0) entries + 1 ≤ count_below (suc (get_or later place 0)) entries)
    → count_below (count_below number entries) (ranks_among entries later) ≡ count_below number later
count_below-ranks entries number [] stands = rw ranks_among-nil (count_below-nil (count_below number entries) ∙ sym (count_below-nil number))
count_below-ranks entries number (entry ∷ later) stands =
    let rest = count_below-ranks entries number later (λ place inside. stands (suc place) (omega arith)) in
    let cons = ap (count_below (count_below number entries)) (ranks_among-cons entries entry later) in
    elim (cases_lt entry number) [
      | inl less ↦ omega (
        arith,
        cons,
        rest,
        count_below-smaller number entry later less,
        count_below-smaller (count_below number entries) (count_below entry entries) (ranks_among entries later) (omega (arith, stands 0 (omega arith), count_below-mono (suc entry) number entries (omega arith))),
      )
      | inr other ↦ omega (
        arith,
        cons,
        rest,
        count_below-other number entry later other,
        count_below-other (count_below number entries) (count_below entry entries) (ranks_among entries later) (count_below-mono number entry entries other),
      )
    ]

code_of-ranks_among : (entries later : List ℕ)
    → ((place : ℕ) → place < length later → count_below (get_or later place 0) entries + 1 ≤ count_below (suc (get_or later place 0)) entries)
    → code_of (ranks_among entries later) ≡ code_of later
code_of-ranks_among entries [] stands = ap code_of (ranks_among-nil entries)
code_of-ranks_among entries (entry ∷ later) stands =
    ap code_of (ranks_among-cons entries entry later)
    ∙ ap (λ n. n ∷ code_of (ranks_among entries later)) (count_below-ranks entries entry later (λ place inside. stands (suc place) (omega arith)))
    ∙ ap (λ c. count_below entry later ∷ c) (code_of-ranks_among entries later (λ place inside. stands (suc place) (omega arith)))

-- the ranks of the entries have the same code as the entries
pub code_of-ranks : (entries : List ℕ) → code_of (ranks_among entries entries) ≡ code_of entries
code_of-ranks entries = code_of-ranks_among entries entries (λ place inside. count_below-stands (get_or entries place 0) place entries inside refl)

pub length-ranks : (entries : List ℕ) → length (ranks_among entries entries) ≡ length entries
length-ranks entries = length-ranks_among entries entries

-- each rank is below the number of entries
pub ranks_are_small : (entries : List ℕ) → All (λ rank. rank < length (ranks_among entries entries)) (ranks_among entries entries)
ranks_are_small entries = All-from_get_or (λ rank. rank < length (ranks_among entries entries)) (ranks_among entries entries) 0 (λ place inside.
    let placed : place < length entries = omega (arith, length-ranks entries) in
    omega (
      arith,
      length-ranks entries,
      get_or-ranks_among entries entries place placed,
      count_below-stands (get_or entries place 0) place entries placed refl,
      count_below-le-length (suc (get_or entries place 0)) entries,
    ))

-- a rank fits where the number of entries does
pub rank_fits : (entry rank : ℕ) (entries : List ℕ) → length entries < 4294967296 → rank ≡ count_below entry entries → rank < 4294967296
rank_fits entry rank entries few is = omega (arith, count_below-le-length entry entries)

-- no rank is written
pub ranks_among-none : (entries : List ℕ) → [] ≡ ranks_among entries []
ranks_among-none entries = sym (ranks_among-nil entries)

-- one rank more is written
pub ranks_among-more : (entries ranks : List ℕ) (place rank : ℕ) → take place ranks ≡ ranks_among entries (take place entries)
    → place < length entries → length ranks ≡ length entries → rank ≡ count_below (get_or entries place 0) entries
    → take (place + 1) (set ranks place rank) ≡ ranks_among entries (take (place + 1) entries)
ranks_among-more entries ranks place rank written inside same_length is =
    let one : ranks_among entries (get_or entries place 0 ∷ []) ≡ rank ∷ [] =
    ranks_among-cons entries (get_or entries place 0) [] ∙ ap (λ r. r ∷ ranks_among entries []) (sym is) ∙ ap (λ rest. rank ∷ rest) (ranks_among-nil entries) in
    take_more_set ranks place rank (omega arith)
    ∙ ap (λ prefix. prefix ++ rank ∷ []) written
    ∙ ap (λ back. ranks_among entries (take place entries) ++ back) (sym one)
    ∙ sym (ranks_among-append entries (take place entries) (get_or entries place 0 ∷ []))
    ∙ sym (ap (ranks_among entries) (take_more entries place 0 inside))

-- how many of the numbers from the place on are below this one
abbrev pub later_below : List ℕ → ℕ → ℕ → ℕ
later_below numbers place number = count_below number (drop place numbers)

-- the code of the numbers from the place on is written, and these numbers are held
pub record IsCodedFrom (Holds : (ℕ → ℕ) → Type 0) (numbers code : List ℕ) (place : ℕ) : Type 0 where
  pub held : Holds (later_below numbers place)
  pub coded : drop place code ≡ code_of (drop place numbers)

pub IsCodedFrom-none : (Holds : (ℕ → ℕ) → Type 0) (numbers code : List ℕ) (place : ℕ) → place ≡ length numbers → length code ≡ length numbers → ((below : ℕ → ℕ) → ((number : ℕ) → below number ≡ 0) → Holds below) → IsCodedFrom Holds numbers code place
IsCodedFrom-none Holds numbers code place is same_length empty =
    let none : drop place numbers ≡ [] = drop_all place numbers (omega arith) in
    let no_code : drop place code ≡ [] = drop_all place code (omega arith) in
    record {
      held = empty (later_below numbers place) (λ number. ap (count_below number) none ∙ count_below-nil number);
      coded = no_code ∙ sym (ap code_of none);
    }

pub counted-none : (counts : List ℕ) (below : ℕ → ℕ) → ((place : ℕ) → place < length counts → get_or counts place 0 ≡ 0) → ((number : ℕ) → below number ≡ 0) → IsCounted counts below
counted-none counts below zeros none = record { at_middle = λ number positive inside. omega (arith, zeros number inside, none number, none (start_of (length counts) number)) }

-- no count is greater than how many numbers there are
pub counts_have_room : (counts : List ℕ) (below : ℕ → ℕ) (many : ℕ) → IsCounted counts below → ((number : ℕ) → below number < many) → many < 4294967296
    → (number : ℕ) → 0 < number → number < length counts → get_or counts number 0 + 1 < 4294967296
counts_have_room counts below many counted less few number positive inside = omega (arith, counted.at_middle number positive inside, less number)

pub later_below-less : (numbers : List ℕ) (place number : ℕ) → place < length numbers → later_below numbers (place + 1) number < length numbers
later_below-less numbers place number inside = omega (arith, count_below-le-length number (drop (place + 1) numbers), length-drop (place + 1) numbers)

pub IsCodedFrom-step : (Before After : (ℕ → ℕ) → Type 0) (numbers code : List ℕ) (place smaller : ℕ) → IsCodedFrom Before numbers code (place + 1) → place < length numbers → length code ≡ length numbers
    → ((below : ℕ → ℕ) → Before below → smaller + below 0 ≡ below (get_or numbers place 0))
    → ((below more : ℕ → ℕ) → Before below → IsMore (get_or numbers place 0) 1 below more → After more)
    → IsCodedFrom After numbers (set code place smaller) place
IsCodedFrom-step Before After numbers code place smaller coded_from inside same_length sums held =
    let cons : drop place numbers ≡ get_or numbers place 0 ∷ drop (place + 1) numbers = drop_more numbers place 0 inside in
    let one : IsMore (get_or numbers place 0) 1 (later_below numbers (place + 1)) (later_below numbers place) = record {
      same = λ number low. ap (count_below number) cons ∙ count_below-other number (get_or numbers place 0) (drop (place + 1) numbers) low;
      raised = λ number high. omega (arith, ap (count_below number) cons, count_below-smaller number (get_or numbers place 0) (drop (place + 1) numbers) high);
    } in
    let smaller_is : smaller ≡ count_below (get_or numbers place 0) (drop (place + 1) numbers) =
    omega (arith, sums (later_below numbers (place + 1)) coded_from.held, count_below-zero (drop (place + 1) numbers)) in
    record {
      held = held (later_below numbers (place + 1)) (later_below numbers place) coded_from.held one;
      coded = drop-set code place smaller (omega arith) ∙ ap (λ n. n ∷ drop (place + 1) code) smaller_is
          ∙ ap (λ c. count_below (get_or numbers place 0) (drop (place + 1) numbers) ∷ c) coded_from.coded ∙ sym (ap code_of cons);
    }

-- another order counts alike
pub count_below-IsPermutation : (number : ℕ) (first second : List ℕ) → IsPermutation first second → count_below number second ≡ count_below number first
unfolding count_below
count_below-IsPermutation number first second moved = sum_by-IsPermutation _ first second moved
