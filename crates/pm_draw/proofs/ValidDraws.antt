-- The lists that are drawn are valid for their bounds.
use Rattle.std.proofs.Common.{◌≡◌, ℕ, zero, suc, ◌+◌, ◌-◌, ◌*◌, ◌/◌, ◌%◌, ◌^◌, ◌<◌, ◌≤◌, Bool, true, false, if◌then◌else◌, nat_le, nat_lt, List, [], ◌∷◌, length, refl, ap, arith}
use Rattle.std.specs.Prelude.{slice_index}
use Rattle.std.specs.Int.{w64, rotate_right}
use Rattle.std.proofs.Math.Nat.{div-le_self, lt_of_le_of_lt}
use Rattle.std.proofs.lemmas.Nat.{or_lt, xor_lt, mul-le}
use Rattle.std.proofs.lemmas.Bool.Decides.{nat_tests}
use Rattle.std.proofs.lemmas.List.Elements.{All-head, All-tail}
use Rattle.rand_core.specs.Stream.{Call, u64_call, Stream, after, next_u64}
use Rattle.rand_core.specs.Steps.{stream_of, state_after, steps_u64_low}
use Rattle.rand_pcg.specs.Lcg.{Lcg, next}
use Rattle.rand_pcg.specs.Pcg.{multiplier_128, output_xsl_rr, pcg64}
use Rattle.rand.specs.Uniform.{canon}
use Rattle.rand.proofs.UniformLemmas.{carry_room, if_below}
use Rattle.pm_lists.specs.ListLine.{AreWords}
use Rattle.pm_lists.specs.Valid.{AreBounds, IsValidList}
use Rattle.pm_draw.specs.Drawn.{words_of, below, drawn}

-- each answer of the stream to `next_u64`, after any calls, is a number of 64 bits
pub record GivesWords (stream : Stream) : Type 0 where
  pub fit : (calls : List Call) → stream.u64_after calls < 2 ^ 64

-- the same holds of what is left after a call
after_call : (call : Call) (stream : Stream) → GivesWords stream → GivesWords (after call stream)
after_call call stream gives = record { fit = λ calls. gives.fit (call ∷ calls) }

-- a word of 64 bits stays one where it is rotated
rotated_fits : (n by : ℕ) → n < 2 ^ 64 → rotate_right w64 n by < 2 ^ 64
rotated_fits n by l =
    or_lt 64 (n / 2 ^ (by % 64)) (n * 2 ^ ((64 - by % 64) % 64) % 2 ^ 64) (lt_of_le_of_lt (div-le_self n (2 ^ (by % 64))) l) (omega arith)

output_fits : (state : ℕ) → state < 2 ^ 128 → output_xsl_rr state < 2 ^ 64
output_fits state l = rotated_fits _ (state / 2 ^ 122) (xor_lt 64 (state / 2 ^ 64) (state % 2 ^ 64) (omega arith) (omega arith))

-- the generators give words of 64 bits
pub generator_gives_words : (generator : Lcg) → GivesWords (words_of generator)
unfolding stream_of
generator_gives_words generator =
    record { fit = λ calls. output_fits (next 128 multiplier_128 (state_after (steps_u64_low pcg64) calls generator)).state (omega arith) }

-- the high part of a product with a word is below the other factor
high_below : (word bound : ℕ) → word < 2 ^ 64 → 1 ≤ bound → word * bound / 2 ^ 64 < bound
high_below word bound fits some =
    let most : (word + 1) * bound ≤ 2 ^ 64 * bound = mul-le (word + 1) bound (2 ^ 64) bound (omega arith) (omega arith) in
    omega arith

-- one of two numbers and streams
one_of : (test : Bool) (bound first second : ℕ) (left rest : Stream) → (test ≡ true → first < bound) → second < bound → GivesWords left → GivesWords rest
    → (let drew : ℕ × Stream = if test then (first, left) else (second, rest) in (drew.0 < bound) × GivesWords drew.1)
one_of true bound first second left rest a b x y = (a refl, x)
one_of false bound first second left rest a b x y = (b, y)

-- what is drawn below a bound is below it
below_its_bound : (bound : ℕ) (stream : Stream) → 1 ≤ bound → bound < 2 ^ 64 → GivesWords stream → ((below bound stream).0 < bound) × GivesWords (below bound stream).1
unfolding canon next_u64
below_its_bound bound stream some few gives =
    let word = stream.u64_after [] in
    let fits : word < 2 ^ 64 = gives.fit [] in
    let high = word * bound / 2 ^ 64 in
    let low = word * bound % 2 ^ 64 in
    let least : high < bound = high_below word bound fits some in
    let rest = after u64_call stream in
    let again = rest.u64_after [] in
    let one_more = λ (carried : nat_lt (2 ^ 64 - bound) low ≡ true).
    let carry : 2 ^ 64 - bound < low = grind (arith, nat_tests) in
    let product : high * 2 ^ 64 + low ≡ word * bound = omega arith in
    carry_room (2 ^ 64) bound word high low fits product carry (omega arith) in
    one_of (nat_lt (2 ^ 64 - bound) low) bound (if nat_le (2 ^ 64) (low + again * bound / 2 ^ 64) then high + 1 else high) high (after u64_call rest) rest
    (λ carried. if_below (nat_le (2 ^ 64) (low + again * bound / 2 ^ 64)) _ (high + 1) high bound refl (one_more carried) least) least
    (after_call u64_call rest (after_call u64_call stream gives)) (after_call u64_call stream gives)

-- a list is drawn that is valid for its bounds, from each stream of words
pub drawn_is_valid : (bounds : List ℕ) (stream : Stream) → AreBounds bounds → AreWords bounds → GivesWords stream
    → IsValidList (drawn bounds stream).0 bounds × GivesWords (drawn bounds stream).1
unfolding drawn
drawn_is_valid [] stream some fit gives = (record { as_long = refl; below = λ place l. absurd (omega arith) }, gives)
drawn_is_valid (bound ∷ bounds) stream some fit gives =
    let first = below_its_bound bound stream (All-head (λ b. 1 ≤ b) bound bounds some.each) (All-head (λ b. b < 2 ^ 64) bound bounds fit.each) gives in
    let others = drawn_is_valid bounds (below bound stream).1 (record { each = All-tail (λ b. 1 ≤ b) bound bounds some.each })
    (record { each = All-tail (λ b. b < 2 ^ 64) bound bounds fit.each }) first.1 in
    (record { as_long = ap suc others.0.as_long; below = valid first.0 others.0 }, others.1) where
      valid : {value bound : ℕ} {values bounds : List ℕ} → value < bound → IsValidList values bounds
          → (place : ℕ) → place < length (value ∷ values) → slice_index (value ∷ values) place < slice_index (bound ∷ bounds) place
      valid first others zero l = first
      valid first others (suc place) l = others.below place (omega arith)
