-- What is drawn for the first bounds, and for one more.
use Rattle.std.proofs.Common.{◌≡◌, ℕ, zero, suc, ◌+◌, ◌^◌, ◌<◌, ◌≤◌, ◌⊎◌, pos, ◌+ℤ◌, List, [], ◌∷◌, ◌++◌, length, take, inl, inr, refl, sym, ap, ◌∙◌, add-one, arith}
use Rattle.std.specs.Prelude.{slice_index, slice_set}
use Rattle.std.proofs.Math.Seq.{take-length}
use Rattle.std.proofs.lemmas.Bool.{cases_lt}
use Rattle.std.proofs.lemmas.Int.{ints}
use Rattle.std.proofs.lemmas.List.{take_more_set, get_or-set_same, get_or-set_other}
use Rattle.rand_core.specs.Stream.{Stream, next_u64}
use Rattle.rand.specs.Uniform.{canon, DrawsBetween}
use Rattle.pm_lists.specs.Valid.{IsValidList}
use Rattle.pm_draw.specs.Drawn.{below, drawn}

-- the first entries are those drawn for the first bounds, below them, and this stream is left
pub record AreDrawn (bounds : List ℕ) (count : ℕ) (old : Stream) (entries : List ℕ) (left : Stream) : Type 0 where
  pub prefix : take count entries ≡ (drawn (take count bounds) old).0
  pub rest : left ≡ (drawn (take count bounds) old).1
  pub valid : (place : ℕ) → place < count → slice_index entries place < slice_index bounds place

-- nothing is drawn yet
pub none_drawn : (bounds entries : List ℕ) (old : Stream) → AreDrawn bounds 0 old entries old
unfolding drawn
none_drawn bounds entries old = record { prefix = refl; rest = refl; valid = λ place l. absurd (omega arith) }

-- what is drawn for one more bound
one_more : (bounds : List ℕ) (count : ℕ) (old : Stream) → count < length bounds
    → (let sofar = drawn (take count bounds) old in let next = below (slice_index bounds count) sofar.1 in
    drawn (take (suc count) bounds) old ≡ (sofar.0 ++ next.0 ∷ [], next.1))
unfolding drawn
one_more [] count old l = absurd (omega arith)
one_more (bound ∷ bounds) zero old l = refl
one_more (bound ∷ bounds) (suc count) old l =
    ap (λ (d : List ℕ × Stream). ((below bound old).0 ∷ d.0, d.1)) (one_more bounds count (below bound old).1 (omega arith))

-- the range from 0 to a bound is as wide as the bound, and not the whole type, so the value is drawn as below the bound
pub of_range : (standard : Stream → ℕ → Stream → Type 0) (bound value : ℕ) (old left : Stream) → bound < 2 ^ 64
    → DrawsBetween pos (2 ^ 64) standard (canon (2 ^ 64) next_u64) (pos 0) (pos bound) old value left
    → (value ≡ (below bound old).0) × (left ≡ (below bound old).1)
of_range standard bound value old left few d =
    of_width (bound + 0) bound value old left (omega arith) few d.value d.rest where
      same_number : {m n : ℕ} → pos m ≡ pos 0 +ℤ pos n → m ≡ n
      same_number e = omega (arith, ints)

      of_width : (width bound value : ℕ) (old left : Stream) → width ≡ bound → bound < 2 ^ 64
          → (¬ (width ≡ 2 ^ 64) → pos value ≡ pos 0 +ℤ pos (canon (2 ^ 64) next_u64 width old).0) → (¬ (width ≡ 2 ^ 64) → left ≡ (canon (2 ^ 64) next_u64 width old).1)
          → (value ≡ (below bound old).0) × (left ≡ (below bound old).1)
      of_width width bound value old left same few number rest =
          let part : ¬ (width ≡ 2 ^ 64) = λ e. omega arith in
          (same_number (number part) ∙ ap (λ (w : ℕ). (canon (2 ^ 64) next_u64 w old).0) same, rest part ∙ ap (λ (w : ℕ). (canon (2 ^ 64) next_u64 w old).1) same)

-- one more entry
pub one_more_drawn : (bounds entries : List ℕ) (count value : ℕ) (old mid left : Stream) → count < length bounds → count < length entries → AreDrawn bounds count old entries mid
    → value ≡ (below (slice_index bounds count) mid).0 → left ≡ (below (slice_index bounds count) mid).1 → value < slice_index bounds count
    → AreDrawn bounds (count + 1) old (slice_set entries count value) left
one_more_drawn bounds entries count value old mid left l room sofar is rest less =
    let more = ap (λ (n : ℕ). drawn (take n bounds) old) (add-one count) ∙ one_more bounds count old l in
    let next = ap (below (slice_index bounds count)) sofar.rest in
    record {
      prefix = take_more_set entries count value room ∙ ap (λ (es : List ℕ). es ++ value ∷ []) sofar.prefix
          ∙ ap (λ (v : ℕ). (drawn (take count bounds) old).0 ++ v ∷ []) (is ∙ ap (λ (d : ℕ × Stream). d.0) next) ∙ sym (ap (λ (d : List ℕ × Stream). d.0) more);
      rest = rest ∙ ap (λ (d : ℕ × Stream). d.1) next ∙ sym (ap (λ (d : List ℕ × Stream). d.1) more);
      valid = λ place p. valid place p (cases_lt place count);
    } where
      valid : (place : ℕ) → place < count + 1 → (place < count) ⊎ (count ≤ place) → slice_index (slice_set entries count value) place < slice_index bounds place
      valid place p (inl earlier) = grind (arith, sofar.valid place earlier, get_or-set_other entries count place value 0)
      valid place p (inr now) = grind (arith, get_or-set_same entries count value 0 room)

-- all are drawn
pub all_drawn : (bounds entries : List ℕ) (old left : Stream) (count : ℕ) → AreDrawn bounds count old entries left → count ≡ length bounds → length entries ≡ length bounds
    → (entries ≡ (drawn bounds old).0) × ((left ≡ (drawn bounds old).1) × IsValidList entries bounds)
all_drawn bounds entries old left count all same long =
    let bounds_whole : take count bounds ≡ bounds = ap (λ (k : ℕ). take k bounds) same ∙ take-length bounds in
    let entries_whole : take count entries ≡ entries = ap (λ (k : ℕ). take k entries) (same ∙ sym long) ∙ take-length entries in (
      sym entries_whole ∙ all.prefix ∙ ap (λ (bs : List ℕ). (drawn bs old).0) bounds_whole,
      (
        all.rest ∙ ap (λ (bs : List ℕ). (drawn bs old).1) bounds_whole,
        record { as_long = long; below = λ place l. all.valid place (omega arith) },
      ),
    )
