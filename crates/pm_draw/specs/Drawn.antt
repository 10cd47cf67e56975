-- The generator of a seed, and the lists that are drawn from a stream of words.
use Rattle.std.specs.Prelude.{ℕ, ◌^◌, List, [], ◌∷◌}
use Rattle.rand_core.specs.Stream.{Stream, next_u64}
use Rattle.rand_core.specs.Steps.{stream_of, steps_u64_low}
use Rattle.rand_pcg.specs.Lcg.{Lcg, started, increment_of}
use Rattle.rand_pcg.specs.Pcg.{multiplier_128, pcg64}
use Rattle.rand.specs.Uniform.{canon}

-- the generator that `Pcg64::new` gives for the seed as its state, and the stream 0
abbrev pub generator_of : ℕ → Lcg
generator_of seed = started 128 multiplier_128 seed (increment_of 128 0)

-- what a generator `Pcg64` answers from now on
abbrev pub words_of : Lcg → Stream
words_of generator = stream_of (steps_u64_low pcg64) generator

-- what `random_range` gives for the numbers of 64 bits below the bound, and the stream that is left
abbrev pub below : ℕ → Stream → ℕ × Stream
below bound stream = canon (2 ^ 64) next_u64 bound stream

-- for each bound in order a number below it, each from the stream that the one before left, and the stream that is left
unfoldable pub drawn : List ℕ → Stream → List ℕ × Stream
drawn [] stream = ([], stream)
drawn (bound ∷ bounds) stream =
    let first = below bound stream in
    let others = drawn bounds first.1 in
    (first.0 ∷ others.0, others.1)
