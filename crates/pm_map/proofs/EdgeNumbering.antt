-- The steps of numbering the edges of places in twos.
use Rattle.std.proofs.Common.{◌≡◌, ℕ, ◌+◌, ◌*◌, ◌<◌, ◌≤◌, inl, inr, ltb, List, [], ◌∷◌, ◌++◌, length, get_or, refl, sym, ◌∙◌, ap, arith, length-append}
use Rattle.std.specs.Prelude.{slice_index}
use Rattle.std.proofs.lemmas.Bool.{cases_lt, lt-ltb, le-ltb}
use Rattle.std.proofs.lemmas.List.{get_or_append_left}
use Rattle.std.proofs.Math.Seq.{get_or-append_seam}
use Rattle.std.proofs.lemmas.Grind.{get_or_default_zero}
use Rattle.pm_perm.proofs.Counts.{count_below-bound}
use Rattle.pm_map.specs.EdgeNumbers.{edges_before, dart_of}
use Rattle.pm_map.specs.EdgeNumbers.{IsTwinning}
use Rattle.pm_map.proofs.NumberedEdges.{firsts_is, dart_of-first, dart_of-second}

-- the places below this one have their darts
pub record IsNumbered (twins darts : List ℕ) (edges place : ℕ) : Type 0 where
  pub as_long : length darts ≡ place
  pub counted : edges ≡ edges_before (slice_index twins) place
  pub each : (p : ℕ) → p < place → slice_index darts p ≡ dart_of (slice_index twins) p

-- before the first place
pub numbered_start : (twins : List ℕ) → IsNumbered twins [] 0 0
numbered_start twins = record { as_long = refl; counted = refl; each = λ p l. absurd (none p l) } where
  none : (p : ℕ) → p < 0 → ⊥
  none p l = omega arith

-- no more edges than places
pub numbered_few : (twins darts : List ℕ) (edges place : ℕ) → IsNumbered twins darts edges place → edges ≤ place
numbered_few twins darts edges place h = omega (arith, h.counted, count_below-bound (λ k. ltb k (slice_index twins k)) place)

-- one dart more
more : (twins darts : List ℕ) (edges place dart after : ℕ) → IsNumbered twins darts edges place → dart ≡ dart_of (slice_index twins) place
    → after ≡ edges_before (slice_index twins) (place + 1) → IsNumbered twins (darts ++ dart ∷ []) after (place + 1)
more twins darts edges place dart after h e counted = record {
  as_long = long darts dart place h.as_long;
  counted = counted;
  each = λ p l. entry twins darts edges place dart h e p l;
} where
  long : (darts : List ℕ) (dart place : ℕ) → length darts ≡ place → length (darts ++ dart ∷ []) ≡ place + 1
  long darts dart place e = omega (arith, length-append darts (dart ∷ []))

  entry : (twins darts : List ℕ) (edges place dart : ℕ) → IsNumbered twins darts edges place → dart ≡ dart_of (slice_index twins) place
      → (p : ℕ) → p < place + 1 → slice_index (darts ++ dart ∷ []) p ≡ dart_of (slice_index twins) p
  entry twins darts edges place dart h e p l = elim (cases_lt p place) [
    | inl below ↦ get_or_append_left darts (dart ∷ []) 0 p (omega (arith, h.as_long)) ∙ h.each p below
    | inr above ↦ let last : p ≡ length darts = omega (arith, h.as_long) in let here : place ≡ p = omega arith in
        ap (λ (k : ℕ). get_or (darts ++ dart ∷ []) k 0) last ∙ get_or-append_seam darts dart [] 0 ∙ e ∙ ap (dart_of (slice_index twins)) here
  ]

-- the first place of an edge
pub numbered_first : (twins darts : List ℕ) (edges place : ℕ) → IsNumbered twins darts edges place → place < slice_index twins place
    → IsNumbered twins (darts ++ (2 * edges) ∷ []) (edges + 1) (place + 1)
numbered_first twins darts edges place h l =
    let t = slice_index twins in
    more twins darts edges place (2 * edges) (edges + 1) h
    (ap (λ (k : ℕ). 2 * k) (h.counted ∙ sym (firsts_is t place)) ∙ sym (dart_of-first t place l)) (omega (arith, counted_more t place l, h.counted)) where
      counted_more : (t : ℕ → ℕ) (place : ℕ) → place < t place → edges_before t (place + 1) ≡ edges_before t place + 1
      counted_more t place l = let e = lt-ltb place (t place) l in grind arith

-- the second place of an edge, where `first` is the dart of the first
pub numbered_second : (n : ℕ) (twins darts : List ℕ) (edges place first : ℕ) → IsTwinning n (slice_index twins) → place < n → IsNumbered twins darts edges place
    → slice_index twins place ≤ place → first ≡ get_or darts (slice_index twins place) first → IsNumbered twins (darts ++ (first + 1) ∷ []) edges (place + 1)
numbered_second n twins darts edges place first tw l h le read =
    let t = slice_index twins in
    let ne = tw.other place l in
    let less : t place < place = omega (arith, le, ne) in
    let before : t place < t (t place) = omega (arith, tw.back place l) in
    let value : first ≡ slice_index darts (t place) = read ∙ get_or_default_zero darts (t place) first (omega (arith, h.as_long)) in
    more twins darts edges place (first + 1) edges h
    (omega (arith, value, h.each (t place) less, dart_of-first t (t place) before, dart_of-second t place less))
    (omega (arith, counted_same t place less, h.counted)) where
      counted_same : (t : ℕ → ℕ) (place : ℕ) → t place < place → edges_before t (place + 1) ≡ edges_before t place
      counted_same t place l = let e = le-ltb place (t place) (omega arith) in grind arith
