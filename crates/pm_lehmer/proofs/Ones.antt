-- The ones of a word, and what a word that has one more or one fewer has below each bit.
use Rattle.std.proofs.Common.{◌≡◌, ◌≢◌, ℕ, zero, suc, ◌+◌, ◌-◌, ◌*◌, ◌/◌, ◌%◌, ◌^◌, ◌<◌, ◌≤◌, min, count_ones, bit_and, bit_or, refl, ap, sym, ◌∙◌, arith, inl, inr}
use Rattle.std.specs.Int.{bit_at, w64}
use Rattle.std.specs.Int.Count.{ones_step}
use Rattle.std.proofs.lemmas.Bool.{ltb-true, ltb-false, cases_lt, cases_eq}
use Rattle.std.proofs.lemmas.Nat.{mod-pow-add, mod_below, ones_cat, ones_le_self, one_shl, pow_pos}
use Rattle.std.proofs.lemmas.Nat.Bits.{bit_at-zero, bit_at-lt, bit_at_ones, bit_at_ones_above, bit_at_set_same, bit_at_set_other, bit_at_clear_same, bit_at_clear_other}
use Rattle.std.specs.Prelude.{Bool, true, false, cond, nat_lt}
use Rattle.std.specs.Int.{IsPowerOfTwo}
use Rattle.pm_lehmer.specs.steps.Held.{ones_below, IsBitOfRank}

ones_below-is : (word bit : ℕ) → ones_below word bit ≡ count_ones (word % 2 ^ bit)
unfolding ones_below
ones_below-is word bit = refl

no_ones : count_ones 0 ≡ 0
no_ones = omega (arith, ones_le_self 0)

ones_of_digit : (digit : ℕ) → digit < 2 → count_ones digit ≡ digit
ones_of_digit digit less =
    let none : digit / 2 ≡ 0 = omega arith in
    omega (arith, ones_step digit, ap count_ones none, no_ones)

pub ones_below-none : (word : ℕ) → ones_below word 0 ≡ 0
ones_below-none word =
    let none : word % 2 ^ 0 ≡ 0 = omega arith in
    ones_below-is word 0 ∙ ap count_ones none ∙ no_ones

-- the bit is added to the ones below it
pub ones_below-next : (word bit : ℕ) → ones_below word (suc bit) ≡ ones_below word bit + bit_at word bit
ones_below-next word bit =
    let one : 1 + bit ≡ suc bit = omega arith in
    let low : word % 2 ^ bit < 2 ^ bit = mod_below word (2 ^ bit) (pow_pos bit) in
    let parts : word % 2 ^ suc bit ≡ bit_at word bit * 2 ^ bit + word % 2 ^ bit = ap (λ (b : ℕ). word % 2 ^ b) (sym one) ∙ mod-pow-add word 1 bit in
    let count : ones_below word (suc bit) ≡ count_ones (bit_at word bit) + count_ones (word % 2 ^ bit) =
    ones_below-is word (suc bit) ∙ ap count_ones parts ∙ ones_cat bit (bit_at word bit) (word % 2 ^ bit) low in
    omega (arith, count, ones_of_digit (bit_at word bit) (bit_at-lt word bit), ones_below-is word bit)

-- a word that fits has all its ones below its last bit
pub ones_below-whole : (word : ℕ) → word < 18446744073709551616 → ones_below word 64 ≡ count_ones word
ones_below-whole word fits =
    let same : word % 18446744073709551616 ≡ word = omega arith in
    ones_below-is word 64 ∙ ap count_ones same

-- the ones below a bit, and those from there on
ones_below-add : (word low width : ℕ) → ones_below word (low + width) ≡ ones_below word low + ones_below (word / 2 ^ low) width
ones_below-add word low width =
    let turned : width + low ≡ low + width = omega arith in
    let under : word % 2 ^ low < 2 ^ low = mod_below word (2 ^ low) (pow_pos low) in
    let parts : word % 2 ^ (low + width) ≡ (word / 2 ^ low % 2 ^ width) * 2 ^ low + word % 2 ^ low = ap (λ (b : ℕ). word % 2 ^ b) (sym turned) ∙ mod-pow-add word width low in
    let count = ones_below-is word (low + width) ∙ ap count_ones parts ∙ ones_cat low (word / 2 ^ low % 2 ^ width) (word % 2 ^ low) under in
    omega (arith, count, ones_below-is word low, ones_below-is (word / 2 ^ low) width)

-- no bit is one, so none is counted
ones_below-zeros : (word bit : ℕ) → ((other : ℕ) → other < bit → bit_at word other ≡ 0) → ones_below word bit ≡ 0
ones_below-zeros word zero zeros = ones_below-none word
ones_below-zeros word (suc bit) zeros = omega (arith, ones_below-next word bit, zeros bit (omega arith), ones_below-zeros word bit (λ other less. zeros other (omega arith)))

pub ones_below-zero : (bit : ℕ) → ones_below 0 bit ≡ 0
ones_below-zero bit = ones_below-zeros 0 bit (λ other less. bit_at-zero other)

-- the word of the first ones has as many below each bit as the bit says
pub ones_below-first : (many bit : ℕ) → ones_below (2 ^ many - 1) bit ≡ min bit many
ones_below-first many zero = omega (arith, ones_below-none (2 ^ many - 1))
ones_below-first many (suc bit) = elim (cases_lt bit many) [
  | inl less ↦ omega (arith, ones_below-next (2 ^ many - 1) bit, ones_below-first many bit, bit_at_ones many bit less)
  | inr more ↦ omega (arith, ones_below-next (2 ^ many - 1) bit, ones_below-first many bit, bit_at_ones_above many bit more)
]

-- the second word has one bit more
pub record IsBitMore (bit fewer more : ℕ) : Type 0 where
  pub unset : bit_at fewer bit ≡ 0
  pub one : bit_at more bit ≡ 1
  pub others : (other : ℕ) → other < 64 → other ≢ bit → bit_at more other ≡ bit_at fewer other

pub ones_below-same : (bit fewer more other : ℕ) → IsBitMore bit fewer more → bit < 64 → other ≤ bit → ones_below more other ≡ ones_below fewer other
ones_below-same bit fewer more zero is inside low = ones_below-none more ∙ sym (ones_below-none fewer)
ones_below-same bit fewer more (suc other) is inside low =
    omega (arith, ones_below-next more other, ones_below-next fewer other, is.others other (omega arith) (λ same. omega arith), ones_below-same bit fewer more other is inside (omega arith))

pub ones_below-raised : (bit fewer more other : ℕ) → IsBitMore bit fewer more → bit < other → other ≤ 64 → ones_below more other ≡ ones_below fewer other + 1
ones_below-raised bit fewer more zero is high within = absurd (omega arith)
ones_below-raised bit fewer more (suc other) is high within = elim (cases_eq other bit) [
  | inl here ↦ omega (arith, ones_below-next more other, ones_below-next fewer other, ap (bit_at more) here, ap (bit_at fewer) here, is.one, is.unset, ones_below-same bit fewer more other is (omega arith) (omega arith))
  | inr apart ↦ omega (arith, ones_below-next more other, ones_below-next fewer other, is.others other (omega arith) apart, ones_below-raised bit fewer more other is (omega (arith, apart)) (omega arith))
]

-- a bit is set
pub set_bit : (word bit : ℕ) → bit < 64 → bit_at word bit ≡ 0 → IsBitMore bit word (bit_or word (1 * 2 ^ bit % 18446744073709551616))
set_bit word bit inside unset = record { unset = unset; one = bit_at_set_same w64 word bit inside; others = λ other within apart. bit_at_set_other w64 word bit inside other apart }

-- a bit is cleared
pub clear_bit : (word bit : ℕ) → bit < 64 → bit_at word bit ≡ 1 → IsBitMore bit (bit_and word (18446744073709551615 - 1 * 2 ^ bit % 18446744073709551616)) word
clear_bit word bit inside one = record { unset = bit_at_clear_same w64 word bit inside; one = one; others = λ other within apart. sym (bit_at_clear_other w64 word bit inside other within apart) }

-- the code's mask is a power of two
pub ones_below-masked : (word bit : ℕ) → bit < 64 → count_ones (word % (1 * 2 ^ bit % 18446744073709551616)) ≡ ones_below word bit
ones_below-masked word bit inside = ap (λ (m : ℕ). count_ones (word % m)) (one_shl bit 64 inside) ∙ sym (ones_below-is word bit)

-- the bit of the rank is among so many from the low one on
pub record IsAmong (word rank low width left : ℕ) : Type 0 where
  pub within : low + width ≤ 64
  pub sum : ones_below word low + left ≡ rank
  pub upper : rank < ones_below word (low + width)
  pub power : IsPowerOfTwo width

pub IsAmong-whole : (word rank : ℕ) → word < 18446744073709551616 → rank < count_ones word → IsAmong word rank 0 64 rank
IsAmong-whole word rank fits less = record {
  within = omega arith;
  sum = omega (arith, ones_below-none word);
  upper = omega (arith, ones_below-whole word fits);
  power = (6, refl);
}

pub IsAmong-step : (word rank low half left : ℕ) (first : Bool) → IsAmong word rank low (2 * half) left → IsPowerOfTwo half → first ≡ nat_lt left (ones_below (word / 2 ^ low) half)
    → IsAmong word rank (low + (half - cond first half 0)) half (left + cond first (ones_below (word / 2 ^ low) half) 0 - ones_below (word / 2 ^ low) half)
IsAmong-step word rank low half left true among power is =
    let less = ltb-true left (ones_below (word / 2 ^ low) half) (sym is) in
    let start : low + (half - half) ≡ low = omega arith in
    let same : left + ones_below (word / 2 ^ low) half - ones_below (word / 2 ^ low) half ≡ left = omega arith in
    rw (start, same) (record { within = omega (arith, among.within); sum = among.sum; upper = omega (arith, less, among.sum, ones_below-add word low half); power = power })
IsAmong-step word rank low half left false among power is =
    let reached = ltb-false left (ones_below (word / 2 ^ low) half) (sym is) in
    let start : low + (half - 0) ≡ low + half = omega arith in
    let same : left + 0 ≡ left = omega arith in
    let end : low + half + half ≡ low + 2 * half = omega arith in
    rw (start, same) (record {
      within = omega (arith, among.within);
      sum = omega (arith, reached, among.sum, ones_below-add word low half);
      upper = rw end among.upper;
      power = power;
    })

-- alone it is the bit
pub IsAmong-rank : (word rank low width left : ℕ) → IsAmong word rank low width left → width ≤ 1 → IsBitOfRank word rank low
IsAmong-rank word rank low width left among narrow =
    let alone : width ≡ 1 = omega (arith, narrow, among.power.1, pow_pos among.power.0) in
    let next : low + width ≡ suc low = omega arith in
    let upper = among.upper in
    let sum = among.sum in
    let digit = bit_at-lt word low in
    let at = ap (ones_below word) next ∙ ones_below-next word low in
    record { inside = omega (arith, among.within); one = omega (arith, at, upper, sum, digit); ranked = omega (arith, at, upper, sum, digit) }
