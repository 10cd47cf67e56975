-- The patterns of a node of degree 4: its one bud is at the entry of the rank.
use Rattle.std.proofs.Common.{◌≡◌, ◌≢◌, ℕ, zero, suc, ◌-◌, ◌*◌, ◌<◌, ◌==◌, if◌then◌else◌, Bool, List, [], ◌∷◌, refl, sym, ◌∙◌, ap, subst, arith}
use Rattle.std.specs.Prelude.{slice_index}
use Rattle.pm_trees.specs.declared.letters.TheConstants.{BUD}
use Rattle.pm_trees.specs.declared.patterns.TheConstants.{SLOT}
use Rattle.pm_trees.specs.Binomial.{choose}
use Rattle.pm_trees.specs.BudPattern.{IsPattern, HasRank}
use Rattle.pm_trees.proofs.Ranking.{word_of, number_of, number_below, word_of_is, word_of_number, number_of_word, quartic_words}
use Rattle.pm_trees.proofs.Ranked.{of_pattern, pattern_from, rank_from}

pub quartic_count : choose (2 * 2 - 1) 2 ≡ 3
unfolding choose
quartic_count = refl

-- an entry that is a bud or not
abbrev pub entry_of : Bool → ℕ
entry_of bud = if bud then BUD else SLOT

-- the pattern of a rank
abbrev pub one_bud : ℕ → List ℕ
one_bud rank = entry_of (rank == 0) ∷ entry_of (rank == 1) ∷ entry_of (rank == 2) ∷ []

word_is : (rank : ℕ) → rank < 3 → word_of 3 2 rank ≡ one_bud rank
word_is zero l = quartic_words.0
word_is (suc zero) l = quartic_words.1
word_is (suc (suc zero)) l = quartic_words.2
word_is (suc (suc (suc rank))) l = absurd (omega arith)

pub one_bud_ranks : (rank : ℕ) → rank < 3 → HasRank 2 (one_bud rank) rank
one_bud_ranks rank l =
    let few : rank < choose (2 * 2 - 1) 2 = omega (arith, quartic_count) in
    subst (λ (word : List ℕ). HasRank 2 word rank) (word_is rank l)
    (rank_from 2 (word_of 3 2 rank) rank (pattern_from 2 (word_of 3 2 rank) (omega arith) (word_of_is 3 2 rank few)) (sym (number_of_word 3 2 rank few)))

-- each pattern of three letters is one of these
record IsOneBud (word : List ℕ) (rank : ℕ) : Type 0 where
  few : rank < 3
  is : word ≡ one_bud rank
  ranked : HasRank 2 word rank

one_of_three : (word : List ℕ) → IsPattern 2 word → IsOneBud word (number_of word)
one_of_three word p =
    let o = of_pattern 2 word p in
    let few : number_of word < 3 = omega (arith, number_below word (2 * 2 - 1) 2 o, quartic_count) in
    record {
      few = few;
      is = sym (word_of_number word (2 * 2 - 1) 2 o) ∙ word_is (number_of word) few;
      ranked = rank_from 2 word (number_of word) p refl;
    }

first_of : (word : List ℕ) (rank : ℕ) → IsOneBud word rank → slice_index word 0 ≡ BUD → HasRank 2 word 0
first_of word zero h e = h.ranked
first_of word (suc zero) h e = absurd (let is = ap (λ (xs : List ℕ). slice_index xs 0) h.is in omega arith)
first_of word (suc (suc zero)) h e = absurd (let is = ap (λ (xs : List ℕ). slice_index xs 0) h.is in omega arith)
first_of word (suc (suc (suc rank))) h e = absurd (let few = h.few in omega arith)

second_of : (word : List ℕ) (rank : ℕ) → IsOneBud word rank → slice_index word 0 ≢ BUD → slice_index word 1 ≡ BUD → HasRank 2 word 1
second_of word zero h ne e = absurd (ne (ap (λ (xs : List ℕ). slice_index xs 0) h.is))
second_of word (suc zero) h ne e = h.ranked
second_of word (suc (suc zero)) h ne e = absurd (let is = ap (λ (xs : List ℕ). slice_index xs 1) h.is in omega arith)
second_of word (suc (suc (suc rank))) h ne e = absurd (let few = h.few in omega arith)

third_of : (word : List ℕ) (rank : ℕ) → IsOneBud word rank → slice_index word 0 ≢ BUD → slice_index word 1 ≢ BUD → HasRank 2 word 2
third_of word zero h ne n = absurd (ne (ap (λ (xs : List ℕ). slice_index xs 0) h.is))
third_of word (suc zero) h ne n = absurd (n (ap (λ (xs : List ℕ). slice_index xs 1) h.is))
third_of word (suc (suc zero)) h ne n = h.ranked
third_of word (suc (suc (suc rank))) h ne n = absurd (let few = h.few in omega arith)

pub bud_first : (word : List ℕ) → IsPattern 2 word → slice_index word 0 ≡ BUD → HasRank 2 word 0
bud_first word p e = first_of word (number_of word) (one_of_three word p) e

pub bud_second : (word : List ℕ) → IsPattern 2 word → slice_index word 0 ≢ BUD → slice_index word 1 ≡ BUD → HasRank 2 word 1
bud_second word p ne e = second_of word (number_of word) (one_of_three word p) ne e

pub bud_third : (word : List ℕ) → IsPattern 2 word → slice_index word 0 ≢ BUD → slice_index word 1 ≢ BUD → HasRank 2 word 2
bud_third word p ne n = third_of word (number_of word) (one_of_three word p) ne n
